-- What the adoption of a database tells of it.
use Rattle.std.specs.Prelude.{◌≡◌, ◌≢◌, ◌⊎◌, ◌↔◌, ◌&&◌, ℕ, ℤ, pos, Option, None, Some, Bool, true, Result, Ok, Err, List, [], ◌∷◌, ◌++◌, length, map, filter, IsPermutation, IsSorted, IsTrue}
use Rattle.std.specs.declared.cmp.Ordering.{Ordering}
use Rattle.std.specs.declared.cmp.Ordering.TheVariants.{Less}
use Rattle.std.specs.Ordering.{is_eq, on, then_cmp}
use Rattle.std.specs.List.{AllByRecursion}
use Rattle.sqlite_value.specs.Order.{Row, column, value_cmp}
use Rattle.sqlite_value.specs.declared.value.Value.TheVariants.{Int, Text}
use Rattle.sqlite_trees.specs.declared.store.Store.{Ghosts}
use Rattle.sqlite_resolve.specs.declared.error.CompileError.{CompileError}
use Rattle.sqlite.specs.Effect.{Database}
use Rattle.sqlite.specs.Held.{Held, state}
use Rattle.sqlite.specs.declared.error.Error.{Error}
use Rattle.sqlite.specs.declared.error.Error.TheVariants.{SqliteFailure}
use Rattle.sqlite.specs.declared.error.ErrorCode.TheVariants.{OutOfMemory}
use Rattle.sqlite.specs.Command.{Command}
use Rattle.sqlite.specs.Command.TheVariants.{Select}
use Rattle.sqlite.specs.Schema.{Schema}
use Rattle.sqlite.specs.State.{State, Shown}
use Rattle.sqlite_resolve.specs.declared.compiled.Compiled.{Compiled}
use Rattle.xq_atoms.specs.Address.{IsAddress}
use Rattle.xq_atoms.specs.declared.refusals.Want.TheVariants.{Memory}
use Rattle.xq_trees.specs.Tree.{Tree, IsDocument}
use Rattle.xq_trees.specs.Rows.{placed, placed_rows}
use Rattle.xq_tables.specs.declared.findings.FoundDocument.{FoundDocument}
use Rattle.xq_tables.specs.declared.judgements.Findings.{Findings}
use Rattle.xq_tables.specs.declared.judgements.RowRange.{RowRange}
use Rattle.xq_tables.specs.declared.faults.OpenFault.{OpenFault}
use Rattle.xq_tables.specs.declared.faults.OpenFault.TheVariants.{Want, NotAStore}
use Rattle.xq_tables.specs.Documents.{AreApart, HaveInts, HasAddress, rows_at, IsIntact}
use Rattle.xq_tables.specs.Found.{IsFoundAt, found_address}
use Rattle.xq_tables.specs.Nodes.{cells}
use Rattle.xq_tables.specs.private.Columns.{node_of}
use Rattle.xq_tables.specs.private.Streams.{BeginsWith, GivesRows}
use Rattle.sqlite.specs.Collation.TheVariants.{Binary}
use Rattle.sqlite_sql.specs.Ops.{binary, is_true}
use Rattle.sqlite_sql.specs.declared.ops.BinaryOp.TheVariants.{Compare}
use Rattle.sqlite_sql.specs.declared.ops.CompareOp.TheVariants.{Eq, Gt, Lt}
use Rattle.xq_tables.specs.Labels.{label_rows, most_label, node2_rows, shown_rows, HasLabel, IsStoreSchema}
use Rattle.xq_tables.specs.Tables.{layout_rows, IsOldSchema}

-- a row that cannot be read for another cause than memory is no node's
abbrev pub row_fault : Error → OpenFault
row_fault (SqliteFailure OutOfMemory) = Want Memory
row_fault error = NotAStore

-- # The rows that are read: the columns pre, size, level, kind, name, value and address

abbrev pub addressed_node : Row → Row
addressed_node r = column r 2 ∷ column r 3 ∷ column r 4 ∷ column r 5 ∷ column r 6 ∷ column r 7
    ∷ column r 1 ∷ []

-- the row is one of the address
abbrev pub is_under : List ℕ → Row → Bool
is_under address r = is_eq (value_cmp (column r 6) (Text address))

-- its address is a good one
abbrev pub HasOwner : Row → Type 0
HasOwner r = (address : List ℕ) × IsAddress address × (column r 6 ≡ Text address)

-- by address, and then by number
abbrev pub by_place : Row → Row → Ordering
by_place = then_cmp (on (λ r. column r 6) value_cmp) (on (λ r. column r 0) value_cmp)

-- these are the nodes of a document, in document order
abbrev pub IsRun : List Row → Type 0
IsRun nodes = (t : Tree) × IsDocument t × (nodes ≡ map cells (placed_rows t))

-- the nodes of an address
abbrev pub nodes_under : List ℕ → List Row → List Row
nodes_under address rows = map node_of (filter (is_under address) rows)

-- the rows of each address are those of one document, in document order, or there are none
pub record AreDocumentRuns (rows : List Row) : Type 0 where
  pub owned : AllByRecursion HasOwner rows
  pub whole : (address : List ℕ) → (nodes_under address rows ≡ [])
      ⊎ IsRun (nodes_under address rows)

-- # The documents that are found

-- the row is the first of a document
abbrev pub is_root : Row → Bool
is_root r = is_eq (value_cmp (column r 0) (Int (pos 0)))

-- the nodes are those of a document, whose rows are kept, or none of them
pub record IsFoundOf (nodes : List Row) (d : FoundDocument) : Type 0 where
  pub tree : Tree
  pub is_document : IsDocument tree
  pub same : nodes ≡ map cells (placed_rows tree)
  pub kept : IsFoundAt tree d

-- the documents that rows are of, in the order of their first rows
pub record AreFoundIn (rows : List Row) (found : List FoundDocument) : Type 0 where
  pub listed : map (λ r. column r 6) (filter is_root rows) ≡ map (λ d. Text (found_address d)) found
  pub each : AllByRecursion (λ d. IsFoundOf (nodes_under (found_address d) rows) d) found

-- # Rows that are judged as they are read

-- no address is on both sides
abbrev pub IsCut : List Row → List Row → Type 0
IsCut past rest = (b : List ℕ) → (filter (is_under b) past ≡ []) ⊎ (filter (is_under b) rest ≡ [])

-- the rows before the rest were judged, and these documents found
pub record AreJudged (all rest : List Row) (found : List FoundDocument) : Type 0 where
  pub past : List Row
  pub is : past ++ rest ≡ all
  pub told : IsSorted by_place all → AreDocumentRuns past × IsCut past rest × AreFoundIn past found

-- of the rows that were given those in hand are of one address, and those before them were judged,
-- whatever rows follow
pub record HasJudged (given : List Row) (it : Findings) : Type 0 where
  pub here : List Row
  pub under : AllByRecursion (λ r. is_under it.run.address.items r ≡ true) here
  pub read : map cells (map placed it.run.nodes.items) ≡ map node_of here
  pub judged : (tail : List Row) → AreJudged (given ++ tail) (here ++ tail) it.documents.items

-- no row is in hand, or they are those of a document under a good address
abbrev pub IsWhole : RowRange → Type 0
IsWhole run = (run.nodes.items ≡ [])
    ⊎ (IsAddress run.address.items × IsRun (map cells (map placed run.nodes.items)))

-- one document more, where it is there
abbrev pub with_found : List FoundDocument → Option FoundDocument → List FoundDocument
with_found found None = found
with_found found (Some d) = found ++ d ∷ []

-- no row is in hand, or this is the document that they are of, under its good address
abbrev pub IsFound : RowRange → Option FoundDocument → Type 0
IsFound run None = run.nodes.items ≡ []
IsFound run (Some d) = (found_address d ≡ run.address.items) × IsAddress run.address.items
    × IsFoundOf (map cells (map placed run.nodes.items)) d

-- the documents with that of the rows in hand, if there are any
abbrev pub Closes : Findings → List FoundDocument → Type 0
Closes it documents = (found : Option FoundDocument) × IsFound it.run found
    × (documents ≡ with_found it.documents.items found)

-- whatever rows follow, they are not those of documents
abbrev pub AreNoDocuments : List Row → Type 0
AreNoDocuments rows = (tail : List Row) → IsSorted by_place (rows ++ tail)
    → ¬ AreDocumentRuns (rows ++ tail)

-- the rows that an answer gave so far are not those of documents, whatever follows, or all are not
abbrev pub ShowsNoDocuments : {S : Type 0} → Ghosts S → Held S → Held S → Type 0
ShowsNoDocuments g old new = BeginsWith g old new AreNoDocuments
    ⊎ GivesRows g old new (λ given. IsSorted by_place given → ¬ AreDocumentRuns given)

-- # The steps of an adoption

-- there is a table `layout`, with others of a store or of edition 1
abbrev pub HasLayout : Schema → Type 0
HasLayout schema = IsStoreSchema schema ⊎ IsOldSchema schema

-- there is one edition, and it is this
abbrev pub IsEdition : Database → ℤ → Type 0
IsEdition db edition = map (λ r. column r 1) (layout_rows db) ≡ Int edition ∷ []

-- the number is above the last one
abbrev pub IsPast : Option ℤ → ℤ → Type 0
IsPast None n = Unit {0}
IsPast (Some m) n = value_cmp (Int m) (Int n) ≡ Less

-- the nodes are the rows of the table, by address and number
pub record AreNodes (table rows : List Row) : Type 0 where
  pub same : IsPermutation (map addressed_node table) rows
  pub sorted : IsSorted by_place rows

-- so many integers were read, each another one
abbrev pub ShowsIds : {S : Type 0} → Ghosts S → List ℕ → Held S → ℕ → Type 0
ShowsIds {S} g text old count = (new : Held S) × (rows : List Row)
    × Shown text [] (state g old) (state g new) rows × AreApart rows × HaveInts rows
    × (count ≡ length rows)

-- so many rows were read, and they are those of documents, which are these
abbrev pub ShowsDocuments : {S : Type 0} → Ghosts S → List ℕ → Held S → List FoundDocument → ℕ
    → Type 0
ShowsDocuments {S} g text old found count = (new : Held S) × (rows : List Row)
    × Shown text [] (state g old) (state g new) rows
    × (IsSorted by_place rows → AreDocumentRuns rows × AreFoundIn rows found)
    × (count ≡ length rows)

-- the rows are not those of documents
abbrev pub ShowsOthers : {S : Type 0} → Ghosts S → List ℕ → Held S → Type 0
ShowsOthers {S} g text old = (new : Held S) × (rows : List Row)
    × Shown text [] (state g old) (state g new) rows
    × (IsSorted by_place rows → ¬ AreDocumentRuns rows)

-- some row was read, or none
abbrev pub ShowsSome : List ℕ → State → State → Bool → Type 0
ShowsSome text old new some = (rows : List Row) × Shown text [] old new rows
    × (IsTrue some ↔ (rows ≢ []))

-- the text is a SELECT without WITH
abbrev pub IsBare : Command → Type 0
IsBare (Select query names) = query.lets ≡ []
IsBare command = ⊥

abbrev pub IsSelect : Result Compiled CompileError → Type 0
IsSelect (Ok c) = IsBare c.command
IsSelect (Err e) = ⊥

-- rows of nodes are those of documents under good addresses
pub record HoldRuns (table : List Row) : Type 0 where
  pub named : AllByRecursion HasAddress table
  pub whole : (address : List ℕ) → (rows_at address table ≡ []) ⊎ IsIntact (rows_at address table)

-- Of the labels one has number 0 and the empty name, and each number is one that a label may have,
-- or this is not so.
abbrev pub has_zero : Row → Bool
has_zero l = is_true (binary (Compare Eq Binary) (column l 0) (Int (pos 0)))
    && is_true (binary (Compare Eq Binary) (column l 2) (Text []))

abbrev pub is_low : Row → Bool
is_low l = is_true (binary (Compare Lt Binary) (column l 0) (Int (pos 0)))

abbrev pub is_high : Row → Bool
is_high l = is_true (binary (Compare Gt Binary) (column l 0) (Int (pos most_label)))

abbrev pub AreBounded : Bool → List Row → Type 0
AreBounded are labels = IsTrue are ↔ ((filter has_zero labels ≢ [])
    × (filter is_low labels ≡ []) × (filter is_high labels ≡ []))

-- each node has a label, and they are those of documents
pub record HoldLabelled (db : Database) : Type 0 where
  pub held : AllByRecursion (HasLabel (label_rows db)) (node2_rows db)
  pub apart : AreApart (node2_rows db)
  pub ints : HaveInts (node2_rows db)
  pub runs : HoldRuns (shown_rows db)
