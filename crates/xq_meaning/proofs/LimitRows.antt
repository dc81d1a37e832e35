-- Rows of limits, and of the trees that are left beside a value and beside a code.
use Rattle.std.proofs.Common.{zero, suc}
use Rattle.std.specs.Prelude.{◌≡◌, refl, ℕ, List, [], ◌∷◌, length, Bool, true, false, nat_le, Ok, Err, codes}
use Rattle.std.specs.Str.{chars}
use Rattle.xq_atoms.specs.Characters.{is_name_start, is_name_char}
use Rattle.xq_atoms.specs.declared.refusals.Code.TheVariants.{FOAR0001, ProfLevel, ProfNodes, ProfReply}
use Rattle.xq_atoms.specs.Judged.{Judged}
use Rattle.xq_atoms.specs.Text.{Text}
use Rattle.xq_trees.specs.Forest.{count}
use Rattle.xq_trees.specs.Tree.{Tree, nodes}
use Rattle.xq_meaning.specs.Items.{Item, Node, root_of}
use Rattle.xq_meaning.specs.Print.{within_reply}
use Rattle.xq_meaning.specs.Content.{is_within_height, within_limits}
use Rattle.xq_meaning.specs.Doing.{Outcome}
use Rattle.xq_meaning.specs.Meaning.{Meaning, first_frame}
use Rattle.xq_meaning.proofs.Writing.{num, none, seq, product, div_by, element}
use Rattle.xq_meaning.proofs.Library.{library, answer}

abbrev outcome : Meaning → Outcome (List Item)
outcome m = m (first_frame (codes "b" ∷ [])) (library ∷ [])

-- # A constructor's tree stands at the end of the others

abbrev is_answered : Judged Text → Bool
is_answered (Ok t) = true
is_answered (Err code) = false

-- element a {}: the root of the tree with number 1
new_tree : (outcome (element "a" none)).0 ≡ Ok (Node (root_of 1) ∷ [])
unfolding chars is_name_start is_name_char
new_tree = refl

two_trees : length (outcome (element "a" none)).1 ≡ 2
unfolding chars is_name_start is_name_char
two_trees = refl

-- (element a {}, 1 div 0): the tree stays where a code is the answer
tree_beside_a_code : length (outcome (seq (element "a" none ∷ product (num 1) (div_by (num 0) ∷
    []) ∷ []))).1 ≡ 2
unfolding chars is_name_start is_name_char
tree_beside_a_code = refl

code_beside_a_tree : (outcome (seq (element "a" none ∷ product (num 1) (div_by (num 0) ∷ []) ∷
    []))).0 ≡ Err FOAR0001
unfolding chars is_name_start is_name_char
code_beside_a_tree = refl

-- # Levels: 101 elements, one in another, are answered, and 102 are not

abbrev nested : ℕ → Meaning
nested zero = none
nested (suc n) = element "a" (nested n)

level_100 : is_answered (answer (nested 101)) ≡ true
unfolding chars is_name_start is_name_char
level_100 = refl

level_101 : answer (nested 102) ≡ Err ProfLevel
unfolding chars is_name_start is_name_char
level_101 = refl

-- # Limits over a million, of any tree and any text; MillionRows has queries that pass them

pub nodes_over_a_million : (t : Tree) → is_within_height 101 (nodes t) ≡ true →
    nat_le (count (nodes t)) 1000000 ≡ false → within_limits t ≡ Err ProfNodes
nodes_over_a_million t low many = rw (low, many)

a_million_nodes : (t : Tree) → is_within_height 101 (nodes t) ≡ true →
    nat_le (count (nodes t)) 1000000 ≡ true → within_limits t ≡ Ok t
a_million_nodes t low few = rw (low, few)

long_reply : (t : Text) → nat_le (length t) 16777216 ≡ false → within_reply t ≡ Err ProfReply
long_reply t long = rw (long)
