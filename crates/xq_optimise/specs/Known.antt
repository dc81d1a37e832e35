-- What is known of the values of the slots that are open (XQuery 3.1, 2.2.3.1: static typing).
use Rattle.std.specs.Prelude.{◌≡◌, List, [], ◌∷◌, map}
use Rattle.std.specs.List.{AllByRecursion}
use Rattle.xq_atoms.specs.Atom.{Atomic, String, Untyped, Integer, Decimal, Boolean}
use Rattle.xq_meaning.specs.Items.{Place, Item, Node, Atom}
use Rattle.xq_meaning.specs.PlanMeaning.{Slots}
use Rattle.xq_optimise.specs.declared.held.Held.{Held}
use Rattle.xq_optimise.specs.declared.held.Held.TheVariants as has

-- a string or an untyped value
abbrev pub IsText : Atomic → Type 0
IsText (Integer n) = ⊥
IsText (Decimal m) = ⊥
IsText (String t) = Unit {0}
IsText (Boolean b) = ⊥
IsText (Untyped t) = Unit {0}

-- an item that is one
abbrev pub IsTextItem : Item → Type 0
IsTextItem (Node p) = ⊥
IsTextItem (Atom a) = IsText a

-- all items are nodes
abbrev pub AreNodes : List Item → Type 0
AreNodes xs = (places : List Place) × (xs ≡ map Node places)

-- there is at most one item
abbrev pub AreFew : List Item → Type 0
AreFew [] = Unit {0}
AreFew (x ∷ []) = Unit {0}
AreFew (x ∷ y ∷ xs) = ⊥

-- the value is as described
abbrev pub Holds : Held → List Item → Type 0
Holds has.Nodes xs = AreNodes xs
Holds has.Node xs = AreNodes xs × AreFew xs
Holds has.Texts xs = AllByRecursion IsTextItem xs
Holds has.Text xs = AllByRecursion IsTextItem xs × AreFew xs
Holds has.Item xs = AreFew xs
Holds has.Anything xs = Unit {0}

-- so many slots are open, each with a value as described
abbrev pub Fits : List Held → Slots → Type 0
Fits [] [] = Unit {0}
Fits (held ∷ known) (xs ∷ slots) = Holds held xs × Fits known slots
Fits known slots = ⊥
