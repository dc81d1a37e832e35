-- What a call answers with: atoms and items, seen as the definitions see them.
use Rattle.std.specs.Prelude.{◌≡◌, List, map, Option, Some, None, Result, Ok, Err}
use Rattle.std.specs.Global.{Vec}
use Rattle.xq_atoms.specs.declared.refusals.Fault.{Fault}
use Rattle.xq_atoms.specs.declared.atoms.Atom.{Atom}
use Rattle.xq_atoms.specs.Atom.{Atomic, atomic_of}
use Rattle.xq_atoms.specs.Answers.{Gives, IsRefusalOr}
use Rattle.xq_atoms.specs.Judged.{Judged}
use Rattle.xq_trees.specs.declared.items.Item.{Item as CodeItem}
use Rattle.xq_trees.specs.Items.{item_view, item_views}
use Rattle.xq_trees.specs.Tree.{Tree}
use Rattle.xq_meaning.specs.Arguments.{atomic}
use Rattle.xq_meaning.specs.Items.{Item}
use Rattle.xq_meaning.specs.Readings.{items_at}

-- the atomic values that code holds
abbrev pub atomics : List Atom → List Atomic
atomics atoms = map atomic_of atoms

-- the items that code holds, over these trees
abbrev pub items_of : List Tree → Vec CodeItem → List Item
items_of trees items = items_at trees (item_views items)

-- items that are no nodes: the same over all trees
abbrev pub GivesItems : Judged (List Item) → Result (Vec CodeItem) Fault → Type 0
GivesItems judged result = (trees : List Tree) → Gives (items_of trees) judged result

-- items that are lent
abbrev pub lent_items : List Tree → List CodeItem → List Item
lent_items trees items = items_at trees (map item_view items)

-- what is judged is this one atom, or this refusal; where no atom is told, nothing is said
abbrev pub TellsAtom : Judged (List Item) → Result (Option Atom) Fault → Type 0
TellsAtom judged (Ok (Some atom)) = judged ≡ Ok (atomic (atomic_of atom))
TellsAtom judged (Ok None) = Unit {0}
TellsAtom judged (Err fault) = IsRefusalOr (λ want. Unit {0}) judged fault
