-- Content of elements and documents on leaves, where a node at the top has the level 0.
use Rattle.std.specs.Prelude.{◌+◌, List, [], ◌∷◌, ◌++◌, Bool, true, false, not, ◌&&◌, ◌||◌, ◌==◌, nat_lt, if◌then◌else◌, Option, Some, None, codes, ◌≡◌}
use Rattle.std.specs.List.{list_all}
use Rattle.xq_atoms.specs.Text.{Text, is_empty}
use Rattle.xq_atoms.specs.Cast.{text_of}
use Rattle.xq_trees.specs.Forest.{Forest, end, node, join}
use Rattle.xq_trees.specs.Tree.{Label, Tree}
use Rattle.xq_meaning.specs.Content.{is_text, text_label, copied}
use Rattle.xq_meaning.specs.Items.{Item, Node, Atom, tree_below}
use Rattle.xq_build.specs.private.Leaves.{Leaf, leaves}

-- # Items as nodes: a run of atomic values that is not closed yet is known by its text

abbrev pub open_text : Option Text → Forest Label
open_text None = end
open_text (Some t) = node (text_label t) end end

abbrev pub longer : Option Text → Text → Text
longer None t = t
longer (Some run) t = run ++ (codes " " ++ t)

abbrev pub flattened_with : List Tree → Option Text → List Item → Forest Label
flattened_with trees run [] = open_text run
flattened_with trees run (Atom a ∷ xs) = flattened_with trees (Some (longer run (text_of a))) xs
flattened_with trees run (Node p ∷ xs) =
    join (open_text run) (join (copied (tree_below trees p)) (flattened_with trees None xs))

-- a text at the top has nothing below it
abbrev pub Childless : Forest Label → Type 0
Childless end = Unit {0}
Childless (node a below beside) = (is_text a.kind ≡ true → below ≡ end) × Childless beside

-- # Texts

abbrev pub is_top_text : Leaf → Bool
is_top_text p = p.0 == 0 && is_text p.1.kind

-- two texts as one
abbrev pub glued : Leaf → Leaf → Leaf
glued p q = (0, text_label (p.1.value ++ q.1.value))

abbrev pub put : Leaf → List Leaf → List Leaf
put p [] = p ∷ []
put p (q ∷ qs) = if is_top_text p && is_top_text q then glued p q ∷ qs else p ∷ q ∷ qs

abbrev pub merged_leaves : List Leaf → List Leaf
merged_leaves [] = []
merged_leaves (p ∷ ps) = put p (merged_leaves ps)

-- no text stands beside the first leaf, where that is one
abbrev pub may_stand_first : Leaf → List Leaf → Bool
may_stand_first p [] = true
may_stand_first p (q ∷ qs) = not (is_top_text p && is_top_text q)

abbrev pub AreApart : List Leaf → Type 0
AreApart [] = Unit {0}
AreApart (p ∷ ps) = (may_stand_first p ps ≡ true) × AreApart ps

abbrev pub is_kept : Leaf → Bool
is_kept p = not (is_top_text p && is_empty p.1.value)

-- the last leaf is that of a text at the top
abbrev pub ends_with_text : List Leaf → Bool
ends_with_text [] = false
ends_with_text (p ∷ []) = is_top_text p
ends_with_text (p ∷ q ∷ qs) = ends_with_text (q ∷ qs)

-- the last leaf has no name
abbrev pub HasNamelessEnd : List Leaf → Type 0
HasNamelessEnd [] = Unit {0}
HasNamelessEnd (p ∷ []) = p.1.name ≡ []
HasNamelessEnd (p ∷ q ∷ qs) = HasNamelessEnd (q ∷ qs)

-- a text at the top that is empty, or stands after another one
abbrev pub is_loose : Bool → Leaf → Bool
is_loose is_after p = is_top_text p && (is_after || is_empty p.1.value)

-- there is none, where a text at the top stands before these leaves or not
abbrev pub are_settled : Bool → List Leaf → Bool
are_settled is_after [] = true
are_settled is_after (p ∷ ps) = not (is_loose is_after p) && are_settled (is_top_text p) ps

-- # Levels

abbrev pub raised : Leaf → Leaf
raised p = (p.0 + 1, p.1)

abbrev pub are_low : List Leaf → Bool
are_low ps = list_all (λ p. nat_lt p.0 100) ps

-- # Taking items one after another

-- leaves so far, and the text of a run that is open, with more items after them
abbrev pub so_far : List Tree → List Leaf → Option Text → List Item → List Leaf
so_far trees ps run xs = ps ++ leaves (flattened_with trees run xs)
