-- What an opening finds of the documents in the tables.
use Rattle.std.specs.Prelude.{◌≡◌, ◌⊎◌, ℕ, List, [], map, string_bytes}
use Rattle.std.specs.FinMap.{keys}
use Rattle.std.specs.List.{AllByRecursion}
use Rattle.sqlite.specs.Effect.{Database}
use Rattle.xq_trees.specs.Rows.{rows}
use Rattle.xq_trees.specs.Tree.{Tree}
use Rattle.xq_tables.specs.declared.findings.FoundDocument.{FoundDocument}
use Rattle.xq_tables.specs.Documents.{documents_of, tree_at}
use Rattle.xq_tables.specs.Labels.{shown_rows}

-- the address of a document that was found
abbrev pub found_address : FoundDocument → List ℕ
found_address d = string_bytes d.address

-- all rows of the tree are kept, or none
abbrev pub IsFoundAt : Tree → FoundDocument → Type 0
IsFoundAt t d = (d.rows.rows ≡ []) ⊎ (d.rows.rows ≡ rows t)

-- these are the documents that the tables stand for, in the order of their addresses, and of each
-- all rows are kept, or none
pub record AreFound (db : Database) (found : List FoundDocument) : Type 0 where
  pub listed : map found_address found ≡ keys (documents_of db)
  pub kept : AllByRecursion (λ d. IsFoundAt (tree_at (shown_rows db) (found_address d)) d) found
