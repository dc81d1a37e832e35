-- What is left to do of a walk over a list, from what it has so far.
use Rattle.std.specs.Prelude.{◌≡◌, List, [], ◌++◌, map, Bool, Ok}
use Rattle.xq_atoms.specs.declared.comparisons.CompOp.{CompOp}
use Rattle.xq_atoms.specs.Compare.{Key, key, key_cmp, holds}
use Rattle.xq_trees.specs.Items.{ItemView, Value}
use Rattle.xq_atoms.specs.Judged.{Judged, ◌>>=◌}
use Rattle.xq_atoms.specs.Text.{Text}
use Rattle.xq_atoms.specs.Atom.{Atomic}
use Rattle.xq_meaning.specs.Items.{Item}
use Rattle.xq_meaning.specs.Texts.{joined}
use Rattle.xq_meaning.specs.Arguments.{atomic, text, each}
use Rattle.xq_meaning.specs.Functions.{piece, comparable, best, distinct_values}

-- the texts of more lists after a text
abbrev pub concatenating : Text → List (List Atomic) → Judged (List Item)
concatenating done lists = do pieces ← each piece lists; Ok (text (done ++ joined [] pieces))

-- the best of a value and of more, which are judged beside the first
abbrev pub choosing : (Atomic → Atomic → Bool) → Atomic → Atomic → List Atomic → Judged (List Item)
choosing better first so_far as' =
    do values ← each (comparable first) as'; Ok (atomic (best better so_far as'))

-- a value that stands before another one, in the order that the comparison asks for
abbrev pub is_better : CompOp → Atomic → Atomic → Bool
is_better op a b = holds op (key_cmp (key a) (key b))

-- the keys that were seen, each once, and the values that they stand for
pub record Distinct (done : List Atomic) (seen : List Key)
    (values : List ItemView) : Type 0 where
  pub keys : seen ≡ map key (distinct_values done)
  pub items : values ≡ map Value (distinct_values done)
