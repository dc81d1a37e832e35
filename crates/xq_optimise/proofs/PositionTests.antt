-- Comparisons of `position()` with a number, in one form.
use Rattle.std.proofs.Common.{◌≡◌, ℕ, List, [], ◌∷◌, Bool, true, false, Ok, refl, sym, ap, ◌∙◌, subst, inl, inr}
use Rattle.std.specs.Prelude.{ℤ, pos, Option, Some, None, ◌<ℤ◌}
use Rattle.std.specs.declared.cmp.Ordering.{Ordering}
use Rattle.std.specs.declared.cmp.Ordering.TheVariants.{Less, Equal, Greater}
use Rattle.std.specs.Ordering.{MatchOrdering, int_cmp}
use Rattle.std.specs.Cmp.{int_ranks, int_cmp_is}
use Rattle.xq_atoms.specs.Atom.{Integer}
use Rattle.xq_atoms.specs.Compare.{key, key_cmp, holds}
use Rattle.xq_atoms.specs.Decimal.{in_millionths}
use Rattle.xq_atoms.specs.Judged.{Judged, ◌>>=◌}
use Rattle.xq_atoms.specs.Text.{Text}
use Rattle.xq_expressions.specs.declared.operators.Relation.{Relation}
use Rattle.xq_expressions.specs.declared.operators.Relation.TheVariants as relation
use Rattle.xq_expressions.specs.declared.operators.ComparisonOperator.TheVariants as comparing
use Rattle.xq_expressions.specs.declared.signatures.Function.TheVariants as function
use Rattle.xq_trees.specs.Tree.{Tree}
use Rattle.xq_meaning.specs.declared.operators.Operator.{Operator}
use Rattle.xq_meaning.specs.declared.operators.Operator.TheVariants as operator
use Rattle.xq_meaning.specs.declared.plans.Plan.{Plan}
use Rattle.xq_meaning.specs.declared.plans.Plan.TheVariants as plan
use Rattle.xq_meaning.specs.Arguments.{atomic, whole, boolean, as_boolean}
use Rattle.xq_meaning.specs.Doing.{Doing, go_on, give, on_trees, in_turn}
use Rattle.xq_meaning.specs.Forms
use Rattle.xq_meaning.specs.Functions.{Focus, of_focus}
use Rattle.xq_meaning.specs.Items.{Item, Place}
use Rattle.xq_meaning.specs.Operators.{operated, related_by, or_rest, some_pair}
use Rattle.xq_meaning.specs.PlanMeaning.{Slots, Frame, plan_mean}
use Rattle.xq_meaning.specs.Same.{frame_of}
use Rattle.xq_meaning.proofs.PlanEquations as plan_eq
use Rattle.xq_meaning.proofs.SameForms.{go_on_same}
use Rattle.xq_meaning.proofs.Turns.{go_on_give}
use Rattle.xq_optimise.specs.declared.held.Held.{Held}
use Rattle.xq_optimise.specs.Same.{GivesSame}
use Rattle.xq_optimise.specs.Sure.{on_node}
use Rattle.xq_optimise.specs.private.Parts.{general_comparison}
use Rattle.xq_optimise.specs.private.Positions.{value_comparison, Compares, turned, position_call, position_comparison, TestsPosition}

-- # Two integers, compared

abbrev pub answer : Relation → ℤ → ℤ → Bool
answer by a b = holds (related_by by) (key_cmp (key (Integer a)) (key (Integer b)))

-- one pair decides
one_pair : (b : Bool) → (or_rest b (Ok false) >>= (λ found. or_rest found (Ok false))) ≡ Ok b
one_pair true = refl
one_pair false = refl

pub pairs_give : (by : Relation) (a b : ℤ) (f : List Tree) →
    operated (operator.Comparison (comparing.General by)) f (atomic (Integer a)) (atomic (Integer b)) ≡ Ok (boolean (answer by a b))
pairs_give by a b f =
    let pair : some_pair (related_by by) (Integer a ∷ []) (Integer b ∷ []) ≡ Ok (answer by a b) = one_pair (answer by a b) in
    ap as_boolean pair

pub values_give : (by : Relation) (a b : ℤ) (f : List Tree) →
    operated (operator.Comparison (comparing.Value by)) f (atomic (Integer a)) (atomic (Integer b)) ≡ Ok (boolean (answer by a b))
values_give by a b f = refl

-- # Turned round

abbrev back : Ordering → Ordering
back Less = Greater
back Equal = Equal
back Greater = Less

holds_back : (by : Relation) (o : Ordering) → holds (related_by (turned by)) (back o) ≡ holds (related_by by) o
holds_back relation.Equal Less = refl
holds_back relation.Equal Equal = refl
holds_back relation.Equal Greater = refl
holds_back relation.NotEqual Less = refl
holds_back relation.NotEqual Equal = refl
holds_back relation.NotEqual Greater = refl
holds_back relation.Less Less = refl
holds_back relation.Less Equal = refl
holds_back relation.Less Greater = refl
holds_back relation.LessEqual Less = refl
holds_back relation.LessEqual Equal = refl
holds_back relation.LessEqual Greater = refl
holds_back relation.Greater Less = refl
holds_back relation.Greater Equal = refl
holds_back relation.Greater Greater = refl
holds_back relation.GreaterEqual Less = refl
holds_back relation.GreaterEqual Equal = refl
holds_back relation.GreaterEqual Greater = refl

ranks_back : (a b : ℤ) (o : Ordering) → MatchOrdering o (a <ℤ b) (a ≡ b) (b <ℤ a) →
    MatchOrdering (back o) (b <ℤ a) (b ≡ a) (a <ℤ b)
ranks_back a b Less h = h
ranks_back a b Equal h = sym h
ranks_back a b Greater h = h

order_back : (a b : ℤ) → back (int_cmp a b) ≡ int_cmp b a
order_back a b = int_cmp_is b a (back (int_cmp a b)) (ranks_back a b (int_cmp a b) (int_ranks a b))

pub answer_turned : (by : Relation) (a b : ℤ) → answer (turned by) b a ≡ answer by a b
answer_turned by a b =
    ap (holds (related_by (turned by))) (sym (order_back (in_millionths a) (in_millionths b)))
    ∙ holds_back by (int_cmp (in_millionths a) (in_millionths b))

-- # What the comparisons give

-- the position, where there is a focus
abbrev pub position_value : Option Focus → Judged (List Item)
position_value focus = of_focus focus (λ here. Ok (whole here.position))

module _ (slots : Slots) (focus : Option Focus) (addresses : List Text) (trees : List Tree) where
  abbrev frame : Frame
  frame = frame_of slots focus addresses

  pub number_after : (op : Operator) (n : ℤ) → plan_mean (plan.Chain position_call ((op, plan.Int n) ∷ [])) frame trees
      ≡ go_on (position_value focus, trees) (λ xs. on_trees (λ ts. operated op ts xs (atomic (Integer n))))
  number_after op n =
      ap (λ m. m frame trees) (plan_eq.plan-Chain position_call ((op, plan.Int n) ∷ []))
      ∙ ap (λ o. go_on o (λ xs. in_turn (Forms.next_operand frame) xs ((op, plan_mean (plan.Int n)) ∷ []))) (ap (λ m. m frame trees) (plan_eq.plan-Call function.Position []))
      ∙ go_on_same (position_value focus, trees) (λ xs. in_turn (Forms.next_operand frame) xs ((op, plan_mean (plan.Int n)) ∷ [])) (λ xs. on_trees (λ ts. operated op ts xs (atomic (Integer n))))
      (λ xs f.
      ap (λ o. go_on (go_on o (λ ys. on_trees (λ ts. operated op ts xs ys))) (λ next. give next)) (ap (λ m. m frame f) (plan_eq.plan-Int n))
      ∙ go_on_give (operated op f xs (atomic (Integer n)), f))

  number_before : (op : Operator) (n : ℤ) → plan_mean (plan.Chain (plan.Int n) ((op, position_call) ∷ [])) frame trees
      ≡ go_on (position_value focus, trees) (λ ys. on_trees (λ ts. operated op ts (atomic (Integer n)) ys))
  number_before op n =
      ap (λ m. m frame trees) (plan_eq.plan-Chain (plan.Int n) ((op, position_call) ∷ []))
      ∙ ap (λ o. go_on o (λ xs. in_turn (Forms.next_operand frame) xs ((op, plan_mean position_call) ∷ []))) (ap (λ m. m frame trees) (plan_eq.plan-Int n))
      ∙ ap (λ o. go_on (go_on o (λ ys. on_trees (λ ts. operated op ts (atomic (Integer n)) ys))) (λ next. give next)) (ap (λ m. m frame trees) (plan_eq.plan-Call function.Position []))
      ∙ go_on_give (go_on (position_value focus, trees) (λ ys. on_trees (λ ts. operated op ts (atomic (Integer n)) ys)))

-- the position decides
decided : (focus : Option Focus) (trees : List Tree) (k l : List Item → Doing (List Item)) →
    ((i : ℕ) → k (whole i) trees ≡ l (whole i) trees) →
    go_on (position_value focus, trees) k ≡ go_on (position_value focus, trees) l
decided None trees k l h = refl
decided (Some here) trees k l h = h here.position

pub position_before : (by : Relation) (n : ℤ) → TestsPosition by n (value_comparison by position_call (plan.Int n))
position_before by n slots focus addresses trees =
    let general = operator.Comparison (comparing.General by) in
    let value = operator.Comparison (comparing.Value by) in
    number_after slots focus addresses trees general n
    ∙ decided focus trees (λ xs. on_trees (λ ts. operated general ts xs (atomic (Integer n)))) (λ xs. on_trees (λ ts. operated value ts xs (atomic (Integer n))))
    (λ i. ap (λ r. (r, trees)) (pairs_give by (pos i) n trees ∙ sym (values_give by (pos i) n trees)))
    ∙ sym (number_after slots focus addresses trees value n)

position_behind : (by : Relation) (n : ℤ) (op : Operator) →
    ((a b : ℤ) (f : List Tree) → operated op f (atomic (Integer a)) (atomic (Integer b)) ≡ Ok (boolean (answer by a b))) →
    TestsPosition (turned by) n (plan.Chain (plan.Int n) ((op, position_call) ∷ []))
position_behind by n op h slots focus addresses trees =
    let general = operator.Comparison (comparing.General (turned by)) in
    number_after slots focus addresses trees general n
    ∙ decided focus trees (λ xs. on_trees (λ ts. operated general ts xs (atomic (Integer n)))) (λ ys. on_trees (λ ts. operated op ts (atomic (Integer n)) ys))
    (λ i. ap (λ r. (r, trees)) (pairs_give (turned by) (pos i) n trees ∙ ap (λ b. Ok (boolean b)) (answer_turned by n (pos i)) ∙ sym (h n (pos i) trees)))
    ∙ sym (number_before slots focus addresses trees op n)

-- what the comparison gives at a node
pub position_gives : (by : Relation) (n : ℤ) (slots : Slots) (addresses : List Text) (trees : List Tree) (q : Place) (position last : ℕ) →
    plan_mean (position_comparison by n) (frame_of slots (Some (on_node q position last)) addresses) trees
    ≡ (Ok (boolean (answer by (pos position) n)), trees)
position_gives by n slots addresses trees q position last =
    number_after slots (Some (on_node q position last)) addresses trees (operator.Comparison (comparing.General by)) n
    ∙ ap (λ r. (r, trees)) (pairs_give by (pos position) n trees)

-- # Parts whose form is known

pub test_before : (by : Relation) (n : ℤ) (p q r : Plan) → Compares by p q r → p ≡ position_call → q ≡ plan.Int n →
    TestsPosition by n r
test_before by n p q r (inl is) first second =
    subst (TestsPosition by n) (sym (is ∙ ap (λ s. general_comparison by s q) first ∙ ap (λ s. general_comparison by position_call s) second))
    (λ slots focus addresses trees. refl)
test_before by n p q r (inr is) first second =
    subst (TestsPosition by n) (sym (is ∙ ap (λ s. value_comparison by s q) first ∙ ap (λ s. value_comparison by position_call s) second))
    (position_before by n)

pub test_behind : (by : Relation) (n : ℤ) (p q r : Plan) → Compares by p q r → q ≡ position_call → p ≡ plan.Int n →
    TestsPosition (turned by) n r
test_behind by n p q r (inl is) second first =
    subst (TestsPosition (turned by) n) (sym (is ∙ ap (λ s. general_comparison by s q) first ∙ ap (λ s. general_comparison by (plan.Int n) s) second))
    (position_behind by n (operator.Comparison (comparing.General by)) (pairs_give by))
test_behind by n p q r (inr is) second first =
    subst (TestsPosition (turned by) n) (sym (is ∙ ap (λ s. value_comparison by s q) first ∙ ap (λ s. value_comparison by (plan.Int n) s) second))
    (position_behind by n (operator.Comparison (comparing.Value by)) (values_give by))

pub same_always : (by : Relation) (n : ℤ) (p q : Plan) → TestsPosition by n p → q ≡ position_comparison by n →
    (known : List Held) → GivesSame known p q
same_always by n p q h is known slots focus addresses trees fits =
    ap (λ r. plan_mean r (frame_of slots focus addresses) trees) is ∙ h slots focus addresses trees
