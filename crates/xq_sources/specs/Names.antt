-- The elements of a tree by their names, and the places of them that are kept.
use Rattle.std.specs.Prelude.{ℕ, ◌≡◌, ◌&&◌, List, map, filter, Bool, true, false, IfSome, String}
use Rattle.std.specs.Global.{Global, Vec}
use Rattle.std.specs.HashMap.{HashMap, get_by_text}
use Rattle.xq_atoms.specs.Text.{Text, text_eq}
use Rattle.xq_trees.specs.Rows.{Row}
use Rattle.xq_trees.specs.declared.Kind.{Kind}
use Rattle.xq_trees.specs.declared.Kind.TheVariants.{Element}

abbrev pub is_element : Kind → Bool
is_element Element = true
is_element kind = false

-- a row with its place is that of an element with this name
abbrev pub is_named : Text → ℕ × Row → Bool
is_named name p = is_element p.1.label.kind && text_eq name p.1.label.name

-- the places of the elements with this name, among rows with their places
abbrev pub named : List (ℕ × Row) → Text → List ℕ
named rows name = map (λ p. p.0) (filter (is_named name) rows)

-- of each name for which places are kept, these are all
abbrev pub AreNames : {S : Type 0} → List (ℕ × Row) → HashMap (String Global) (Vec ℕ) S → Type 0
AreNames rows names = (name : Text)
    → IfSome (get_by_text names name) (λ places. places.items ≡ named rows name)
