-- What predicates mean that compare one step with a key.
use Rattle.std.proofs.Common.{◌≡◌, ℕ, List, [], map, false, Ok, refl, sym, ◌∙◌, ap}
use Rattle.std.specs.Prelude.{filter}
use Rattle.std.specs.List.{AllByRecursion}
use Rattle.xq_trees.specs.Items.{ItemView, Place as NodeAt, Value}
use Rattle.xq_trees.specs.Tree.{Tree}
use Rattle.xq_trees.specs.Tuples.{Tuple, value_at}
use Rattle.xq_meaning.specs.declared.plans.Plan.{Plan}
use Rattle.xq_meaning.specs.declared.plans.Plan.TheVariants as plan
use Rattle.xq_meaning.specs.Arguments.{boolean}
use Rattle.xq_meaning.specs.Items.{Place, Node}
use Rattle.xq_meaning.specs.PlanMeaning.{Frame, plan_mean}
use Rattle.xq_meaning.specs.Readings.{node_at}
use Rattle.xq_meaning.specs.Steps.{axis_nodes, is_reverse}
use Rattle.xq_operators.proofs.Streams.{value_read}
use Rattle.xq_operators.specs.Views.{tuple_at}
use Rattle.xq_joins.specs.declared.equalities.TextTest.{TextTest}
use Rattle.xq_joins.specs.declared.keyed.Keyed.{Keyed}
use Rattle.xq_joins.specs.declared.keyed.KeyedTest.{KeyedTest}
use Rattle.xq_joins.specs.Equalities.{leads_to_text, passes_text, at_node}
use Rattle.xq_joins.specs.Keyed.{leads_to_key, passes_key, IsKeyedTest}
use Rattle.xq_joins.specs.Keys.{IsNode, text_at, meet}
use Rattle.xq_joins.specs.private.Keys.{scans, nodes_after, key_texts, places_among}
use Rattle.xq_joins.specs.private.Keyed.{ComparesKey, HasTexts}
use Rattle.xq_joins.specs.private.Shapes.{IsKey, equality}
use Rattle.xq_joins.proofs.Clauses.{filter_same}
use Rattle.xq_joins.proofs.JoinKeys.{nodes_read}
use Rattle.xq_joins.proofs.Meanings.{key_is}
use Rattle.xq_joins.proofs.Meeting.{meet_swap, pairs_meet}
use Rattle.xq_joins.proofs.TextTests.{near_is, equality_gives}

-- # Which predicates are such tests

module _ (found : Keyed) (near other : Plan) (is : near ≡ plan.Step found.axis found.test.now []) (forward : is_reverse found.axis ≡ false) (key : IsKey found.key.slot found.key.steps.now other) where
  abbrev led : List Tree → Place → List Place
  led f p = axis_nodes f found.axis found.test.now p

  abbrev keys : List Tree → List Place → List Place
  keys f qs = nodes_after f (scans found.key.steps.now) qs

  step_gives : (frame : Frame) (f : List Tree) (p : Place) (position last : ℕ) → plan_mean near (at_node frame p position last) f ≡ (Ok (map Node (led f p)), f)
  step_gives frame f p position last = ap (λ q. plan_mean q (at_node frame p position last) f) is ∙ near_is found.axis found.test.now forward frame f p position last

  -- the step is the first operand, or the second
  pub key_second : (p : Plan) → p ≡ equality near other → ComparesKey found p
  key_second p e = record {
    says = λ frame f place position last qs held.
        let here = at_node frame place position last in
        ap (λ q. plan_mean q here f) e
        ∙ equality_gives near other here f (map Node (led f place)) (map Node (keys f qs)) (meet (map (text_at f) (led f place)) (key_texts f (scans found.key.steps.now) qs))
        (step_gives frame f place position last) (key_is found.key.slot found.key.steps.now other key here f qs held) (pairs_meet f (led f place) (keys f qs))
        ∙ ap (λ b. (Ok (boolean b), f)) (meet_swap (map (text_at f) (led f place)) (key_texts f (scans found.key.steps.now) qs));
  }

  pub key_first : (p : Plan) → p ≡ equality other near → ComparesKey found p
  key_first p e = record {
    says = λ frame f place position last qs held.
        let here = at_node frame place position last in
        ap (λ q. plan_mean q here f) e
        ∙ equality_gives other near here f (map Node (keys f qs)) (map Node (led f place)) (meet (key_texts f (scans found.key.steps.now) qs) (map (text_at f) (led f place)))
        (key_is found.key.slot found.key.steps.now other key here f qs held) (step_gives frame f place position last) (pairs_meet f (keys f qs) (led f place));
  }

-- the nodes of the key's slot, and their texts
pub held_is : (f : List Tree) (slots : Tuple ItemView) (n : ℕ) (frame : Frame) → AllByRecursion IsNode (value_at n slots) → frame.env ≡ tuple_at f slots → value_at n frame.env ≡ map Node (places_among f (value_at n slots))
held_is f slots n frame nodes env = ap (value_at n) env ∙ value_read f n slots ∙ nodes_read f (value_at n slots) nodes

-- with the texts of the key
pub keyed_is : (f : List Tree) (slots : Tuple ItemView) (found : Keyed) (test : KeyedTest) (p : Plan) → ComparesKey found p → HasTexts f slots found test → IsKeyedTest f slots test p
keyed_is f slots found test p compares has = record {
  says = λ frame place position last env.
      compares.says frame f place position last (places_among f (value_at found.key.slot slots)) (held_is f slots found.key.slot frame has.nodes env)
      ∙ (λ i. (Ok (boolean (meet (sym has.texts i) (map (text_at f) (axis_nodes f (sym has.on_axis i) (sym has.of_test i) place)))), f));
}

-- # One text

-- the test for it keeps the same
pub only_keeps : (f : List Tree) (found : KeyedTest) (test : TextTest) → ((trees : List Tree) (p : Place) → leads_to_text trees test p ≡ leads_to_key trees found p) → (xs : List ItemView) → filter (passes_text f test) xs ≡ filter (passes_key f found) xs
only_keeps f found test same xs = filter_same (passes_text f test) (passes_key f found) xs one
  where
    one : (x : ItemView) → passes_text f test x ≡ passes_key f found x
    one (NodeAt n) = same f (node_at f n)
    one (Value a) = refl
