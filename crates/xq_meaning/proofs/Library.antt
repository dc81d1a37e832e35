-- Documents for worked rows, and what a query is answered over them.
use Prim.Native.String.{String}
use Rattle.std.specs.Prelude.{List, [], ◌∷◌, None, Ok, Err, codes}
use Rattle.xq_trees.specs.declared.Kind.TheVariants as kind
use Rattle.xq_atoms.specs.Judged.{Judged}
use Rattle.xq_atoms.specs.Text.{Text}
use Rattle.xq_trees.specs.Forest.{Forest, end, node, join}
use Rattle.xq_trees.specs.Tree.{Label, Tree}
use Rattle.xq_meaning.specs.Content.{label}
use Rattle.xq_meaning.specs.Items.{Item}
use Rattle.xq_meaning.specs.Print.{print_items, within_reply}
use Rattle.xq_meaning.specs.Doing.{Outcome}
use Rattle.xq_meaning.specs.Meaning.{Meaning, first_frame}
use Rattle.xq_meaning.specs.PlanMeaning
use Rattle.xq_meaning.specs.Same.{frame_of}

abbrev pub Nodes : Type 0
Nodes = Forest Label

abbrev pub all : List Nodes → Nodes
all [] = end
all (f ∷ fs) = join f (all fs)

abbrev pub el : String → List Nodes → Nodes
el s parts = node (label kind.Element (codes s) []) (all parts) end

abbrev pub att : String → String → Nodes
att s value = node (label kind.Attribute (codes s) (codes value)) end end

abbrev pub tex : String → Nodes
tex value = node (label kind.Text [] (codes value)) end end

abbrev pub note : String → Nodes
note value = node (label kind.Comment [] (codes value)) end end

abbrev pub ins : String → String → Nodes
ins s value = node (label kind.ProcessingInstruction (codes s) (codes value)) end end

abbrev pub tree : List Nodes → Tree
tree parts = record { root = label kind.Document [] []; below = all parts }

abbrev pub book : String → String → Nodes
book id title = el "book" (att "id" id ∷ tex title ∷ [])

-- document {element lib {
--   element book {attribute id {"1"}, text {"A"}}, element book {attribute id {"2"}, text {"B"}}}}
abbrev pub library : Tree
library = tree (el "lib" (book "1" "A" ∷ book "2" "B" ∷ []) ∷ [])

-- the text of the reply, or the code
abbrev pub answered : Outcome (List Item) → Judged Text
answered (Ok xs, trees) = within_reply (print_items trees xs)
answered (Err code, trees) = Err code

-- over the library at the address b
abbrev pub answer : Meaning → Judged Text
answer m = answered (m (first_frame (codes "b" ∷ [])) (library ∷ []))

-- over an empty document at the address a, and the library at the address b
abbrev pub answer_of_two : Meaning → Judged Text
answer_of_two m =
    answered (m (first_frame (codes "a" ∷ codes "b" ∷ [])) (tree [] ∷ library ∷ []))

-- of a plan, over the library
abbrev pub plan_answer : PlanMeaning.Meaning → Judged Text
plan_answer m = answered (m (frame_of [] None (codes "b" ∷ [])) (library ∷ []))
