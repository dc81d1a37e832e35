-- Results of atoms alone are values over any trees.
use Rattle.std.proofs.Common.{◌≡◌, ℕ, zero, suc, ℤ, pos, ◌+ℤ◌, nat_le, List, [], ◌∷◌, Ok, Err, Result, Bool, true, false, sym, ◌∙◌, ap, subst}
use Rattle.std.specs.Global.{Vec}
use Rattle.std.specs.List.{AllByRecursion}
use Rattle.xq_atoms.specs.Atom.{Atomic}
use Rattle.xq_atoms.specs.Compare.{compare_value}
use Rattle.xq_atoms.specs.Judged.{Judged, ◌>>=◌}
use Rattle.xq_atoms.specs.declared.refusals.Fault.{Fault}
use Rattle.xq_atoms.specs.declared.refusals.Fault.TheVariants.{Code as OfCode, Want as OfWant}
use Rattle.xq_expressions.specs.declared.operators.Sign.{Sign}
use Rattle.xq_expressions.specs.declared.operators.ComparisonOperator.TheVariants as comparing
use Rattle.xq_trees.specs.declared.items.Item.{Item as Held}
use Rattle.xq_trees.specs.Items.{ItemView, Place as NodeAt, Value, item_views}
use Rattle.xq_trees.specs.Tree.{Tree}
use Rattle.xq_meaning.specs.declared.operators.Operator.{Operator}
use Rattle.xq_meaning.specs.declared.operators.Operator.TheVariants as operator
use Rattle.xq_meaning.specs.Arguments.{atomic, boolean, as_items, as_boolean, single}
use Rattle.xq_meaning.specs.Functions.{piece}
use Rattle.xq_meaning.specs.Items.{Item, Node, Atom, atomized}
use Rattle.xq_meaning.specs.Operators.{of_both, number_operand, sum_of, product_of, with_signs, signed, integers_from, integers_within, how_many, integers, one_bound, related_by, some_pair, operated}
use Rattle.xq_meaning.specs.Readings.{items_at, AreIn}
use Rattle.xq_atoms.specs.Answers.{Gives}
use Rattle.xq_functions.specs.Answers as Answers
use Rattle.xq_functions.specs.Kinds.{is_on_atoms}
use Rattle.xq_operators.specs.Views.{GivesSequence}

abbrev pub IsAtom : Item → Type 0
IsAtom (Node p) = ⊥
IsAtom (Atom a) = Unit {0}

abbrev pub OnlyAtoms : Judged (List Item) → Type 0
OnlyAtoms (Ok xs) = AllByRecursion IsAtom xs
OnlyAtoms (Err code) = Unit {0}

in_of_atoms : (trees others : List Tree) (xs : List ItemView) → AllByRecursion IsAtom (items_at trees xs) → AreIn others xs
in_of_atoms trees others [] h = tt
in_of_atoms trees others (NodeAt n ∷ xs) h = absurd h.0
in_of_atoms trees others (Value a ∷ xs) h = (tt, in_of_atoms trees others xs h.1)

-- what a judgement on atoms alone answers, beside trees that stay as they are
pub plain_gives : (judgement : Judged (List Item)) (old new : List Tree) (r : Result (Vec Held) Fault) → OnlyAtoms judgement → new ≡ old → Gives (Answers.items_of old) judgement r → GivesSequence (judgement, old) new r
plain_gives judgement old new (Ok items) only same h =
    let value : judgement ≡ Ok (items_at new (item_views items)) = h ∙ ap (λ f. Ok (items_at f (item_views items))) (sym same) in
    let stays : old ≡ new = sym same in
    (in_of_atoms old new (item_views items) (subst OnlyAtoms h only), λ i. (value i, stays i))
plain_gives judgement old new (Err (OfCode code)) only same h = h
plain_gives judgement old new (Err (OfWant want)) only same h = tt

pub then_atoms : {A : Type 0} (r : Judged A) (next : A → Judged (List Item)) → ((a : A) → OnlyAtoms (next a)) → OnlyAtoms (r >>= next)
then_atoms (Ok a) next h = h a
then_atoms (Err code) next h = tt

pub both_atoms : {A B : Type 0} (judge : List A → Judged B) (result : B → B → Judged (List Item)) (xs ys : List A) → ((a b : B) → OnlyAtoms (result a b)) → OnlyAtoms (of_both judge result xs ys)
both_atoms judge result [] ys h = tt
both_atoms judge result (x ∷ xs) [] h = tt
both_atoms judge result (x ∷ xs) (y ∷ ys) h = then_atoms (judge (x ∷ xs)) (λ a. judge (y ∷ ys) >>= (λ b. result a b)) (λ a. then_atoms (judge (y ∷ ys)) (λ b. result a b) (λ b. h a b))

pub as_items_atoms : (r : Judged Atomic) → OnlyAtoms (as_items r)
as_items_atoms r = then_atoms r (λ a. Ok (atomic a)) (λ a. (tt, tt))

pub as_boolean_atoms : (r : Judged Bool) → OnlyAtoms (as_boolean r)
as_boolean_atoms r = then_atoms r (λ b. Ok (boolean b)) (λ b. (tt, tt))

integers_from_atoms : (m : ℤ) (n : ℕ) → AllByRecursion IsAtom (integers_from m n)
integers_from_atoms m zero = tt
integers_from_atoms m (suc n) = (tt, integers_from_atoms (m +ℤ pos 1) n)

integers_within_atoms : (few : Bool) (m : ℤ) (n : ℕ) → OnlyAtoms (integers_within few m n)
integers_within_atoms true m n = integers_from_atoms m n
integers_within_atoms false m n = tt

pub signed_atoms : (signs : List Sign) (as' : List Atomic) → OnlyAtoms (signed signs as')
signed_atoms signs [] = tt
signed_atoms signs (a ∷ as') = then_atoms (number_operand (a ∷ as')) (λ b. as_items (with_signs signs b)) (λ b. as_items_atoms (with_signs signs b))

pub operated_atoms : (op : Operator) (trees : List Tree) (xs ys : List Item) → is_on_atoms op ≡ true → OnlyAtoms (operated op trees xs ys)
operated_atoms (operator.Sum s) trees xs ys h = both_atoms number_operand (λ a b. as_items (sum_of s a b)) (atomized trees xs) (atomized trees ys) (λ a b. as_items_atoms (sum_of s a b))
operated_atoms (operator.Product p) trees xs ys h = both_atoms number_operand (λ a b. as_items (product_of p a b)) (atomized trees xs) (atomized trees ys) (λ a b. as_items_atoms (product_of p a b))
operated_atoms operator.Range trees xs ys h = both_atoms one_bound integers (atomized trees xs) (atomized trees ys) (λ m n. integers_within_atoms (nat_le (how_many m n) 1000000) m (how_many m n))
operated_atoms operator.Concat trees xs ys h = then_atoms (piece (atomized trees xs)) _ (λ s. then_atoms (piece (atomized trees ys)) _ (λ t. (tt, tt)))
operated_atoms (operator.Comparison (comparing.Value op)) trees xs ys h = both_atoms single (λ a b. as_boolean (compare_value (related_by op) a b)) (atomized trees xs) (atomized trees ys) (λ a b. as_boolean_atoms (compare_value (related_by op) a b))
operated_atoms (operator.Comparison (comparing.General op)) trees xs ys h = as_boolean_atoms (some_pair (related_by op) (atomized trees xs) (atomized trees ys))
operated_atoms (operator.Comparison (comparing.Node op)) trees xs ys h = absurd (let e : false ≡ true = h in cc)
operated_atoms operator.Union trees xs ys h = absurd (let e : false ≡ true = h in cc)
operated_atoms (operator.SetOperation op) trees xs ys h = absurd (let e : false ≡ true = h in cc)
