-- An element whose content is one atomic value.
use Rattle.std.specs.Prelude.{◌≡◌, List, [], ◌∷◌, false}
use Rattle.xq_atoms.specs.Atom.{Atomic}
use Rattle.xq_atoms.specs.Cast.{text_of}
use Rattle.xq_atoms.specs.Text.{Text, is_empty}
use Rattle.xq_trees.specs.Forest.{end, node}
use Rattle.xq_trees.specs.Items.{ItemView, Value}
use Rattle.xq_trees.specs.Tree.{Tree}
use Rattle.xq_trees.specs.declared.Kind.TheVariants as kind
use Rattle.xq_meaning.specs.Content.{label, text_label}

-- the items are one atomic value with this text, which is not empty
pub record IsLoneText (xs : List ItemView) (t : Text) : Type 0 where
  pub value : Atomic
  pub is : xs ≡ Value value ∷ []
  pub text : t ≡ text_of value
  pub full : is_empty t ≡ false

-- an element with a text below it
abbrev pub around : Text → Text → Tree
around name value =
    record { root = label kind.Element name []; below = node (text_label value) end end }
