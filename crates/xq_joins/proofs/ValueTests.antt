-- What predicates mean that compare an attribute with a text as values.
use Rattle.std.proofs.Common.{◌≡◌, ℕ, suc, ◌≤◌, List, [], ◌∷◌, length, map, Bool, false, ◌||◌, Ok, refl, sym, ◌∙◌, ap, subst, arith}
use Rattle.std.specs.Prelude.{Some}
use Rattle.xq_atoms.specs.Atom.{Atomic, Integer, Decimal, String, Boolean, Untyped}
use Rattle.xq_atoms.specs.Compare.{compare_value}
use Rattle.xq_atoms.specs.Judged.{Judged}
use Rattle.xq_atoms.specs.Text.{Text, text_eq}
use Rattle.xq_atoms.specs.declared.comparisons.CompOp.TheVariants as comp
use Rattle.xq_expressions.specs.declared.operators.ComparisonOperator.TheVariants as comparing
use Rattle.xq_expressions.specs.declared.operators.Relation.TheVariants as relation
use Rattle.xq_trees.specs.Items.{ItemView}
use Rattle.xq_trees.specs.Tree.{Tree, IsTree}
use Rattle.xq_trees.specs.Tuples.{Tuple}
use Rattle.xq_sources.specs.Sources.{tree_at}
use Rattle.xq_trees.specs.declared.Axis.TheVariants as axis
use Rattle.xq_meaning.specs.declared.node_tests.Test.TheVariants as test
use Rattle.xq_meaning.specs.declared.operators.Operator.TheVariants as operator
use Rattle.xq_meaning.specs.declared.plans.Plan.{Plan}
use Rattle.xq_meaning.specs.Arguments.{as_boolean, boolean}
use Rattle.xq_meaning.specs.Doing.{◌>>=◌, go_on, give, judged, on_trees, in_turn}
use Rattle.xq_meaning.specs.Forms as Forms
use Rattle.xq_meaning.specs.Items.{Place, Item, Node, atom_of, atomized}
use Rattle.xq_meaning.specs.Operators.{by_value, keeps, operated}
use Rattle.xq_meaning.specs.PlanMeaning.{Frame, Meaning, plan_mean}
use Rattle.xq_meaning.specs.Steps.{axis_nodes, is_reverse}
use Rattle.xq_meaning.proofs.PlanEquations.{plan-Chain}
use Rattle.xq_joins.specs.declared.equalities.TextTest.{TextTest}
use Rattle.xq_joins.specs.Equalities.{at_node, have_text, leads_to_text, IsValueTest}
use Rattle.xq_joins.specs.Keys.{text_at}
use Rattle.xq_joins.specs.private.Shapes.{value_equality}
use Rattle.xq_joins.specs.private.Texts.{IsText, IsAttributeTest}
use Rattle.xq_joins.proofs.LoneAttributes.{lone_attribute}
use Rattle.xq_joins.proofs.Meeting.{node_text, or_none, plain, text_eq_swap}
use Rattle.xq_joins.proofs.TextTests.{near_is}

-- # Comparison of texts as values: XQuery 3.1, 3.7.1

value_compared : (a b : Atomic) (s t : Text) → IsText a s → IsText b t → compare_value comp.Eq a b ≡ Ok (text_eq s t)
value_compared (String x) (String y) s t h k = plain x y ∙ (λ i. Ok (text_eq (h i) (k i)))
value_compared (String x) (Untyped y) s t h k = plain x y ∙ (λ i. Ok (text_eq (h i) (k i)))
value_compared (Untyped x) (String y) s t h k = plain x y ∙ (λ i. Ok (text_eq (h i) (k i)))
value_compared (Untyped x) (Untyped y) s t h k = plain x y ∙ (λ i. Ok (text_eq (h i) (k i)))
value_compared (Integer n) b s t h k = absurd h
value_compared (Decimal n) b s t h k = absurd h
value_compared (Boolean c) b s t h k = absurd h
value_compared (String x) (Integer n) s t h k = absurd k
value_compared (String x) (Decimal n) s t h k = absurd k
value_compared (String x) (Boolean c) s t h k = absurd k
value_compared (Untyped x) (Integer n) s t h k = absurd k
value_compared (Untyped x) (Decimal n) s t h k = absurd k
value_compared (Untyped x) (Boolean c) s t h k = absurd k

-- the comparison gives a value, and a predicate with that value keeps an item just where it is so
record Judges (r : Judged (List Item)) (answer : Bool) : Type 0 where
  value : List Item
  gives : r ≡ Ok value
  keeps_if : (position : ℕ) → keeps position value ≡ Ok answer

module _ (trees : List Tree) (a : Atomic) (t : Text) (h : IsText a t) where
  -- a text after one node at most, and before it
  after_one : (ps : List Place) → length ps ≤ 1 → Judges (by_value comp.Eq (atomized trees (map Node ps)) (a ∷ [])) (have_text trees t ps)
  after_one [] few = record { value = []; gives = refl; keeps_if = λ position. refl }
  after_one (p ∷ []) few = record {
    value = boolean (have_text trees t (p ∷ []));
    gives =
        ap as_boolean (value_compared (atom_of trees (Node p)) a (text_at trees p) t (node_text trees p) h)
        ∙ ap (λ b. Ok (boolean b)) (text_eq_swap (text_at trees p) t ∙ sym (or_none (text_eq t (text_at trees p))));
    keeps_if = λ position. refl;
  }
  after_one (p ∷ q ∷ ps) few = absurd (omega (arith, few))

  before_one : (ps : List Place) → length ps ≤ 1 → Judges (by_value comp.Eq (a ∷ []) (atomized trees (map Node ps))) (have_text trees t ps)
  before_one [] few = record { value = []; gives = refl; keeps_if = λ position. refl }
  before_one (p ∷ []) few = record {
    value = boolean (have_text trees t (p ∷ []));
    gives =
        ap as_boolean (value_compared a (atom_of trees (Node p)) t (text_at trees p) h (node_text trees p))
        ∙ ap (λ b. Ok (boolean b)) (sym (or_none (text_eq t (text_at trees p))));
    keeps_if = λ position. refl;
  }
  before_one (p ∷ q ∷ ps) few = absurd (omega (arith, few))

-- # The predicate

-- a comparison for equality, from the values of its operands
value_gives : (first second : Plan) (frame : Frame) (f : List Tree) (xs ys value : List Item) → plan_mean first frame f ≡ (Ok xs, f) → plan_mean second frame f ≡ (Ok ys, f)
    → by_value comp.Eq (atomized f xs) (atomized f ys) ≡ Ok value → plan_mean (value_equality first second) frame f ≡ (Ok value, f)
value_gives first second frame f xs ys value a b is =
    let op = operator.Comparison (comparing.Value relation.Equal) in
    ap (λ (m : Meaning). m frame f) (plan-Chain first ((op, second) ∷ []))
    ∙ ap (λ o. go_on o (λ zs. in_turn (Forms.next_operand frame) zs ((op, plan_mean second) ∷ []))) a
    ∙ ap (λ o. go_on (go_on o (λ zs. on_trees (λ trees. operated op trees xs zs))) (λ next. give next)) b
    ∙ ap (λ r. go_on (judged r f) (λ next. give next)) is

kept_by : (p : Plan) (frame : Frame) (f : List Tree) (q : Place) (position last : ℕ) (value : List Item) (answer : Bool) → plan_mean p (at_node frame q position last) f ≡ (Ok value, f) → keeps position value ≡ Ok answer
    → Forms.passed (plan_mean p) frame (record { item = Node q; position = position; last = last }) f ≡ (Ok (Forms.kept_if (Node q) answer), f)
kept_by p frame f q position last value answer gives keeps_it =
    ap (λ o. go_on o (λ v. judged (keeps position v) >>= (λ k. give (Forms.kept_if (Node q) k)))) gives
    ∙ ap (λ r. go_on (judged r f) (λ k. give (Forms.kept_if (Node q) k))) keeps_it

module _ (slots : Tuple ItemView) (found : TextTest) (near other : Plan) (is : IsAttributeTest slots found near other) where
  abbrev led : List Tree → Place → List Place
  led f q = axis_nodes f found.axis found.test.now q

  step_gives : (frame : Frame) (f : List Tree) (q : Place) (position last : ℕ) → plan_mean near (at_node frame q position last) f ≡ (Ok (map Node (led f q)), f)
  step_gives frame f q position last =
      ap (λ n. plan_mean n (at_node frame q position last) f) is.step ∙ near_is found.axis found.test.now (ap is_reverse is.axis) frame f q position last

  few : (f : List Tree) (q : Place) → IsTree (tree_at f q.tree) → length (led f q) ≤ 1
  few f q tree = (
      let same : length (led f q) ≡ length (axis_nodes f axis.Attributes (test.Attribute (Some is.name)) q) = λ i. length (axis_nodes f (is.axis i) (is.test i) q) in
      let one = lone_attribute f is.name q tree in
      omega (arith, same, one))

  -- the step is the first operand, or the second
  pub value_first : (p : Plan) → p ≡ value_equality near other → IsValueTest slots found p
  value_first p e = λ f. record {
    says = λ frame q position last env tree.
        let at = at_node frame q position last in
        let js = after_one f is.text.atom found.text.now is.text.is_text (led f q) (few f q tree) in
        kept_by p frame f q position last js.value (leads_to_text f found q)
        (ap (λ n. plan_mean n at f) e ∙ value_gives near other at f _ _ js.value (step_gives frame f q position last) (is.text.gives at f env) js.gives)
        (js.keeps_if position);
  }

  pub value_second : (p : Plan) → p ≡ value_equality other near → IsValueTest slots found p
  value_second p e = λ f. record {
    says = λ frame q position last env tree.
        let at = at_node frame q position last in
        let js = before_one f is.text.atom found.text.now is.text.is_text (led f q) (few f q tree) in
        kept_by p frame f q position last js.value (leads_to_text f found q)
        (ap (λ n. plan_mean n at f) e ∙ value_gives other near at f _ _ js.value (is.text.gives at f env) (step_gives frame f q position last) js.gives)
        (js.keeps_if position);
  }
