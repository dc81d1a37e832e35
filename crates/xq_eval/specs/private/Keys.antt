-- The keys of an order by clause (XQuery 3.1, 3.12.8).
use Rattle.std.specs.Prelude.{List}
use Rattle.xq_atoms.specs.Atom.{Atomic}
use Rattle.xq_expressions.specs.declared.operators.OrderModifier.{OrderModifier}
use Rattle.xq_meaning.specs.Doing.{Doing, for_each}
use Rattle.xq_meaning.specs.Forms as Forms
use Rattle.xq_meaning.specs.PlanMeaning.{Frame, Meaning}

-- those of one tuple, in its frame
abbrev pub keys_at : List (Meaning × OrderModifier) → Frame → Doing (List (List Atomic))
keys_at specs frame = for_each (λ (part, modifier). Forms.atoms_of part frame) specs
