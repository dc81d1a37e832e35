-- What files hold that were opened or begun, and that one list of objects is that of one map.
use Rattle.std.proofs.Common.{◌≡◌, ◌⊎◌, ℕ, ◌+◌, ◌<◌, ◌≤◌, List, [], ◌∷◌, Bool, true, false, inl, inr, refl, sym, ap, ap₂, ◌∙◌, arith, filter, IsTrue, Result, Ok, Err, IfOk}
use Rattle.std.specs.List.{AllZip}
use Rattle.sqlite_pool.specs.Stored.{reserved, used_size}
use Rattle.sqlite_pool.proofs.ProbeLemmas.{not_blank}
use Rattle.sqlite_trees.specs.Objects.{catalog_tree}
use Rattle.sqlite_trees.specs.Tree.{Trees}
use Rattle.sqlite_value.specs.Order.{Row}
use Rattle.sqlite_catalog.specs.Listing.{IsSound, IsTableRow, is_table_row}
use Rattle.sqlite.specs.Table.{Table}
use Rattle.sqlite.specs.Schema.{Schema}
use Rattle.sqlite.specs.Effect.{Database, IsDatabase}
use Rattle.sqlite.specs.Files.{AreFoundIn, HoldsDatabase, IsEmpty}
use Rattle.sqlite.specs.Recovery.{Image}
use Rattle.sqlite.specs.State.{State, IsLive, Opens}
use Rattle.xq_tables.specs.Documents.{IsOldStore, IsStore, Map, documents_in, documents_of}
use Rattle.xq_tables.specs.Labels.{label_rows, shown_rows}
use Rattle.xq_tables.specs.Tables.{node_rows, no_schema}
use Rattle.xq_databases.specs.Opened.{HasMap, IsFoundIn, IsUnmade}

some_bytes : (has_sums : Bool) → 0 < used_size 1024 has_sums
some_bytes true = omega arith
some_bytes false = omega arith

-- files in which no database was made hold none
pub holds_none : (has_sums : Bool) (image : Image) → IsUnmade has_sums image → (trees : Trees) → HoldsDatabase image trees → ⊥
holds_none has_sums image unmade trees held =
    let large : 504 ≤ held.0 = (let few : reserved held.0 ≤ 8 = grind arith in omega (arith, held.1.0)) in
    not_blank held.0 image held.2.pages held.2.found large held.2.ours.file.sound (used_size 1024 has_sums) (some_bytes has_sums) unmade

-- the database that was made in them
pub made_there : (has_sums : Bool) (image : Image) (db : Database) → IsUnmade has_sums image → IsDatabase db → IsEmpty db.trees → IsFoundIn has_sums image db
made_there has_sums image db unmade sound none = record { holds = λ trees held. absurd (holds_none has_sums image unmade trees held); reads = inr (unmade, none); sound = sound }

-- the database that the engine found
pub found_there : (has_sums : Bool) (image : Image) (s : State) → Opens s → IsLive s → ((trees : Trees) → HoldsDatabase image trees → s.committed.trees ≡ trees)
    → AreFoundIn image s.committed.trees → IsFoundIn has_sums image s.now
found_there has_sums image s opens live holds reads =
    let same : s.now ≡ s.committed = opens.clean in
    record { holds = λ trees held. ap (λ (d : Database). d.trees) same ∙ holds trees held; reads = inl (rw same reads); sound = (live opens.is_open).0 }

-- what two facts of an answer come to
pub both_ok : {A E : Type 0} (r : Result A E) (P Q R : A → Type 0) → ((x : A) → P x → Q x → R x) → IfOk r P → IfOk r Q → IfOk r R
both_ok (Ok x) P Q R joined p q = joined x p q
both_ok (Err e) P Q R joined p q = tt

-- a row of the list of objects is that of one table
one_table : (row : Row) (a b : Table) → IsTableRow row a → IsTableRow row b → a ≡ b
one_table row a b p q =
    let sql : p.sql ≡ q.sql = cc (sym p.sql_is ∙ q.sql_is) in
    let made : p.defined.0 ≡ q.defined.0 = cc (p.defined.1, q.defined.1, sql) in
    let next : a.tree + 1 ≡ b.tree + 1 = cc (sym p.described.id ∙ q.described.id) in
    let tree : a.tree ≡ b.tree = omega (arith, next) in
    p.defined.2 ∙ ap₂ (λ (t : Table) (n : ℕ). record t { tree = n }) made tree ∙ sym q.defined.2

same_tables : (rows : List Row) (xs ys : List Table) → AllZip IsTableRow rows xs → AllZip IsTableRow rows ys → xs ≡ ys
same_tables [] [] [] p q = refl
same_tables [] [] (y ∷ ys) p q = absurd q
same_tables [] (x ∷ xs) ys p q = absurd p
same_tables (r ∷ rows) [] ys p q = absurd p
same_tables (r ∷ rows) (x ∷ xs) [] p q = absurd q
same_tables (r ∷ rows) (x ∷ xs) (y ∷ ys) p q = ap₂ (λ (t : Table) (ts : List Table). t ∷ ts) (one_table r x y p.0 q.0) (same_tables rows xs ys p.1 q.1)

-- the tables and their rows tell which rows of nodes they stand for
rows_of : List Table → Trees → List Row
unfolding shown_rows label_rows node_rows
rows_of tables trees = shown_rows (record { schema = record { tables = tables; indexes = []; views = [] }; trees = trees })

same_rows : (a b : Database) → a.schema.tables ≡ b.schema.tables → a.trees ≡ b.trees → shown_rows a ≡ shown_rows b
unfolding shown_rows label_rows node_rows
same_rows a b tables trees = ap₂ (λ (ts : List Table) (t : Trees). shown_rows (record { schema = record { tables = ts; indexes = []; views = [] }; trees = t })) tables trees

-- Two databases with the same rows list the same tables: where one is a store, the other has its map.
pub same_map : (db now : Database) → db.trees ≡ now.trees → IsDatabase db → IsDatabase now → IsStore now → (found : Map) → HasMap db found → found ≡ documents_of now
same_map db now trees sound stands store found has =
    let listed : db.schema.tables ≡ now.schema.tables = same_tables (filter is_table_row (now.trees catalog_tree)) _ _ (rw trees at sound.lists.listed.tables) stands.lists.listed.tables in
    elim has [
      | inl blank ↦ absurd (elim store.sound.schema [
        | inl new ↦ cc (sym (ap (λ (s : Schema). s.tables) blank.0) ∙ listed ∙ ap (λ (s : Schema). s.tables) new)
        | inr carried ↦ elim carried [
          | inl one ↦ cc (sym (ap (λ (s : Schema). s.tables) blank.0) ∙ listed ∙ ap (λ (s : Schema). s.tables) one)
          | inr other ↦ cc (sym (ap (λ (s : Schema). s.tables) blank.0) ∙ listed ∙ ap (λ (s : Schema). s.tables) other)
        ]
      ])
      | inr held ↦ held.1 ∙ ap documents_in (same_rows db now listed trees)
    ]
