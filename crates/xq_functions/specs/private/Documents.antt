-- What the number of a document's tree stands for.
use Rattle.std.specs.Prelude.{ℕ, List, [], ◌∷◌, Result, Ok, Err}
use Rattle.xq_atoms.specs.declared.refusals.Code.{Code}
use Rattle.xq_atoms.specs.Judged.{Judged}
use Rattle.xq_meaning.specs.Items.{Item, Node, root_of}

abbrev pub document_at : Result ℕ Code → Judged (List Item)
document_at (Ok n) = Ok (Node (root_of n) ∷ [])
document_at (Err code) = Err code
