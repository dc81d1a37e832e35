-- What each statement of the store does to the tables, or gives of them.
use Rattle.std.specs.Prelude.{◌≡◌, ◌≢◌, ◌+◌, ◌++◌, ◌&&◌, not, ℕ, pos, Bool, true, List, [], ◌∷◌, map, filter, length, Option, Some, None, IsPermutation, ◌⊎◌, IfSome, String, string_bytes}
use Rattle.std.specs.declared.alloc.Global.{Global}
use Rattle.std.specs.Ordering.{is_ge, is_lt}
use Rattle.std.specs.List.{AllByRecursion}
use Rattle.sqlite_value.specs.Order.{Row, column, value_cmp}
use Rattle.sqlite_value.specs.declared.value.Value.TheVariants.{Int, Null, Text}
use Rattle.sqlite_catalog.specs.Change.{KeepsRows}
use Rattle.sqlite_rules.specs.Edit.{next_rowid}
use Rattle.sqlite.specs.Effect.{Database}
use Rattle.sqlite.specs.State.{State, Shows}
use Rattle.xq_atoms.specs.Address.{IsAddress}
use Rattle.xq_trees.specs.Rows.{Row as Node}
use Rattle.xq_tables.specs.Documents.{is_at, node_columns, rows_at, HasAddress, IsSound}
use Rattle.xq_tables.specs.Nodes.{cells}
use Rattle.xq_tables.specs.private.Schemas.{base_of, label_tree, labels_of, layout_schema, schema_of, Made}
use Rattle.xq_tables.specs.Labels.{label_rows, node2_rows, shown_rows, IsNumberOf, IsStoreSchema}
use Rattle.xq_tables.specs.Tables.{layout_rows, no_schema, node_rows}
use Rattle.xq_tables.specs.Reads.{IsPicked}
use Rattle.xq_tables.specs.Writes.{Deletes, is_from, RunsFrom, AreThere, AreFrom, PutsOver}

-- # Labels

-- labels keep their numbers
abbrev pub KeepsLabels : Database → Database → Type 0
KeepsLabels old new = (n : ℕ) (name : List ℕ) → IsNumberOf (label_rows old) n name
    → IsNumberOf (label_rows new) n name

-- a name has a number, of a label that was there or that comes after the last, and nothing else is
-- changed
pub record HasNumbered (name : List ℕ) (n : ℕ) (old new : Database) : Type 0 where
  pub sound : IsSound new
  pub schema : new.schema ≡ old.schema
  pub layout : layout_rows new ≡ layout_rows old
  pub beside : node_rows new ≡ node_rows old
  pub rows : shown_rows new ≡ shown_rows old
  pub keeps : KeepsLabels old new
  pub number : IsNumberOf (label_rows new) n name
  pub after : (label_rows new ≡ label_rows old) ⊎ (pos n ≡ next_rowid (label_rows old))

-- the same inside a transaction
pub record Numbers (name : List ℕ) (n : ℕ) (old new : State) : Type 0 where
  pub mode : old.in_transaction ≡ true → new.in_transaction ≡ true
  pub did : IsSound old.now → HasNumbered name n old.now new.now

-- a name was looked for, and nothing is changed
pub record Seeks (name : List ℕ) (number : Option ℕ) (old new : State) : Type 0 where
  pub mode : new.in_transaction ≡ old.in_transaction
  pub same : new.now ≡ old.now
  pub found : IfSome number (λ n. IsSound old.now → IsNumberOf (label_rows old.now) n name)

-- the number in the one column of the first row, or no row
abbrev pub IsFirstNumber : Option ℕ → List Row → Type 0
IsFirstNumber None rows = rows ≡ []
IsFirstNumber (Some n) [] = ⊥
IsFirstNumber (Some n) (row ∷ rows) = column row 0 ≡ Int (pos n)

-- names with the numbers of their labels
abbrev pub AreNumbers : List Row → List (String Global × ℕ) → Type 0
AreNumbers labels = AllByRecursion (λ e. IsNumberOf labels e.1 (string_bytes e.0))

-- a name has a number, and it may be among those in hand from now on
pub record NumbersInHand (name : List ℕ) (n : ℕ) (before after : List (String Global × ℕ))
    (old new : State) : Type 0 where
  pub mode : old.in_transaction ≡ true → new.in_transaction ≡ true
  pub did : IsSound old.now → AreNumbers (label_rows old.now) before
      → HasNumbered name n old.now new.now × AreNumbers (label_rows new.now) after

-- # Rows

-- the row is one of the address, and its number lies from low up to, and without, high
abbrev pub is_part : List ℕ → ℕ → ℕ → Row → Bool
is_part address low high row = is_at address row
    && (is_ge (value_cmp (column row 2) (Int (pos low)))
    && is_lt (value_cmp (column row 2) (Int (pos high))))

-- an address has some rows more, and nothing else is changed
pub record HasAdded (address : List ℕ) (added : List Row) (old new : Database) : Type 0 where
  pub sound : IsSound new
  pub schema : new.schema ≡ old.schema
  pub layout : layout_rows new ≡ layout_rows old
  pub beside : node_rows new ≡ node_rows old
  pub keeps : KeepsLabels old new
  pub named : IsAddress address → AllByRecursion HasAddress (shown_rows old)
      → AllByRecursion HasAddress (shown_rows new)
  pub own : IsPermutation (rows_at address (shown_rows old) ++ added)
      (rows_at address (shown_rows new))
  pub others : (b : List ℕ) → b ≢ address
      → rows_at b (shown_rows new) ≡ rows_at b (shown_rows old)

-- DELETE inside a transaction
pub record Drops (gone : Row → Bool) (old new : State) (count : ℕ) : Type 0 where
  pub inside : Shows old new new.now old.committed true
  pub did : Deletes gone old.now new.now count

-- a node is inserted with the number of a label, inside a transaction
pub record Adds (address : List ℕ) (node : ℕ × Node) (label : ℕ) (old new : State) : Type 0 where
  pub mode : old.in_transaction ≡ true → new.in_transaction ≡ true
  pub did : IsSound old.now → IsNumberOf (label_rows old.now) label node.1.label.name
      → HasAdded address (cells node ∷ []) old.now new.now

-- nodes are inserted, with the names in hand
pub record AddsNamed (address : List ℕ) (added : List Row)
    (before after : List (String Global × ℕ)) (old new : State) : Type 0 where
  pub mode : old.in_transaction ≡ true → new.in_transaction ≡ true
  pub did : IsSound old.now → AreNumbers (label_rows old.now) before
      → HasAdded address added old.now new.now × AreNumbers (label_rows new.now) after

-- # Rows that give way to others

-- or one from low up to, and without, high
abbrev pub is_between : ℕ → ℕ → Row → Bool
is_between low high row = is_from low row && is_lt (value_cmp (column row 0) (Int (pos high)))

-- of the rows of an address, those with numbers from low up to, and without, high have given way to
-- these, and nothing else is changed
pub record HasRenewed (address : List ℕ) (low high : ℕ) (rows : List Row)
    (old new : Database) : Type 0 where
  pub sound : IsSound new
  pub layout : layout_rows new ≡ layout_rows old
  pub keeps : KeepsLabels old new
  pub named : IsAddress address → AllByRecursion HasAddress (shown_rows old)
      → AllByRecursion HasAddress (shown_rows new)
  pub own : IsPermutation
      (filter (λ row. not (is_between low high row)) (rows_at address (shown_rows old)) ++ rows)
      (rows_at address (shown_rows new))
  pub others : (b : List ℕ) → b ≢ address
      → rows_at b (shown_rows new) ≡ rows_at b (shown_rows old)

-- the row of an address with a number, or there is none
abbrev pub LiesAs : List ℕ → ℕ → Option Row → Database → Type 0
LiesAs address pre None db =
    filter (is_between pre (pre + 1)) (rows_at address (shown_rows db)) ≡ []
LiesAs address pre (Some row) db = (node : ℕ × Node) × (node.0 ≡ pre) × (row ≡ cells node)
    × (filter (is_between pre (pre + 1)) (rows_at address (shown_rows db)) ≡ row ∷ [])

-- an UPDATE of the row of a node to those of another, with the number of a label
abbrev pub Updates : List ℕ → ℕ × Node → ℕ → Database → Database → Type 0
Updates address node label old new = IsSound old
    → IsNumberOf (label_rows old) label node.1.label.name
    → (row : Row) → LiesAs address node.0 (Some row) old
    → HasRenewed address node.0 (node.0 + 1) (cells node ∷ []) old new

-- a node has come to stand under its number, with the names in hand, where this row was there
abbrev pub RenewsRow : List ℕ → ℕ × Node → Option Row → List (String Global × ℕ)
    → List (String Global × ℕ) → Database → Database → Type 0
RenewsRow address node there before after old new = IsSound old
    → AreNumbers (label_rows old) before → LiesAs address node.0 there old
    → HasRenewed address node.0 (node.0 + 1) (cells node ∷ []) old new
    × AreNumbers (label_rows new) after

-- the same where some row was there
abbrev pub UpdatesNamed : List ℕ → ℕ × Node → List (String Global × ℕ)
    → List (String Global × ℕ) → Database → Database → Type 0
UpdatesNamed address node before after old new = (row : Row)
    → RenewsRow address node (Some row) before after old new

-- nodes have come to stand under their numbers, with the names in hand, where those others were
-- there
abbrev pub RenewsRows : List ℕ → List (ℕ × Node) → List (ℕ × Node)
    → List (String Global × ℕ) → List (String Global × ℕ) → Database → Database → Type 0
RenewsRows address there rows before after old new = (low : ℕ) → AreFrom low rows
    → IsSound old → AreNumbers (label_rows old) before
    → AreThere address low (length rows) there old
    → HasRenewed address low (low + length rows) (map cells rows) old new
    × AreNumbers (label_rows new) after

-- these have come to stand under the numbers from low up to, and without, high, with the names in
-- hand, where the rows from low on were numbered without a gap, and so many have given way
abbrev pub RenewsPart : List ℕ → ℕ → ℕ → List Row → List (String Global × ℕ)
    → List (String Global × ℕ) → Database → Database → ℕ → Type 0
RenewsPart address low high rows before after old new count = IsSound old
    → AreNumbers (label_rows old) before → (nodes : List Node) → RunsFrom address low nodes old
    → HasRenewed address low high rows old new × AreNumbers (label_rows new) after
    × (count ≡ length (filter (is_between low high) (rows_at address (shown_rows old))))

-- the same inside a transaction
pub record Replaces (address : List ℕ) (kept : List (ℕ × Node)) (rows : List Row)
    (old new : State) (replaced : Bool) : Type 0 where
  pub inside : new.in_transaction ≡ true
  pub did : PutsOver address kept rows old.now new.now replaced

-- the rows of an address with numbers from low up to, and without, high were read inside a
-- transaction, and nothing is changed
pub record ReadsPart (address : List ℕ) (low high : ℕ) (old new : State)
    (rows : List Row) : Type 0 where
  pub same : new.now ≡ old.now
  pub are : IsStoreSchema old.now.schema
      → IsPicked (is_part address low high) node_columns (shown_rows old.now) rows

-- # The making of the tables

-- `layout` in a database without a table
abbrev pub MakesLayout : Database → Database → Type 0
MakesLayout old new = old.schema ≡ no_schema → (new.schema ≡ layout_schema) × (new.trees 0 ≡ [])

-- `label` beside what was there
abbrev pub MakesLabel : Database → Database → Type 0
MakesLabel old new = (made : Made) → old.schema ≡ base_of made → (new.schema ≡ labels_of made)
    × KeepsRows (base_of made).tables old.trees new.trees × (new.trees (label_tree made) ≡ [])

-- `node2` beside these
abbrev pub MakesNodes : Database → Database → Type 0
MakesNodes old new = (made : Made) → old.schema ≡ labels_of made → (new.schema ≡ schema_of made)
    × KeepsRows (labels_of made).tables old.trees new.trees × (node2_rows new ≡ [])

-- the label of the empty name
abbrev pub zero_label : Row
zero_label = Int (pos 0) ∷ Null ∷ Text [] ∷ []

abbrev pub WritesZero : Database → Database → Type 0
WritesZero old new = (made : Made) → old.schema ≡ schema_of made
    → old.trees (label_tree made) ≡ [] → (new.schema ≡ schema_of made)
    × KeepsRows (base_of made).tables old.trees new.trees
    × (label_rows new ≡ zero_label ∷ []) × (node2_rows new ≡ node2_rows old)

-- all three
pub record HasLabels (made : Made) (old new : Database) : Type 0 where
  pub schema : new.schema ≡ schema_of made
  pub base : KeepsRows (base_of made).tables old.trees new.trees
  pub labels : label_rows new ≡ zero_label ∷ []
  pub nodes : node2_rows new ≡ []

abbrev pub MakesLabels : Database → Database → Type 0
MakesLabels old new = (made : Made) → old.schema ≡ base_of made → HasLabels made old new

-- the edition is written into an empty `layout`, and nothing else is changed
pub record HasEdition (old new : Database) : Type 0 where
  pub schema : new.schema ≡ old.schema
  pub layout : layout_rows new ≡ (Int (pos 1) ∷ Int (pos 2) ∷ []) ∷ []
  pub labels : label_rows new ≡ label_rows old
  pub nodes : node2_rows new ≡ node2_rows old
  pub beside : node_rows new ≡ node_rows old

abbrev pub WritesEdition : Database → Database → Type 0
WritesEdition old new = IsStoreSchema old.schema → layout_rows old ≡ [] → HasEdition old new
