-- What tests of quantified expressions mean that compare one scan with a key.
use Rattle.std.proofs.Common.{◌≡◌, ℕ, ◌<◌, List, [], ◌∷◌, ◌++◌, length, map, Bool, true, false, not, Ok, refl, sym, ◌∙◌, ap, subst, arith}
use Rattle.std.specs.List.{AllByRecursion}
use Rattle.std.proofs.lemmas.List.{length-map}
use Rattle.xq_trees.specs.declared.Axis.{Axis}
use Rattle.xq_trees.specs.declared.items.Node.{Node as Spot}
use Rattle.xq_trees.specs.Items.{ItemView, Place as NodeAt, Value}
use Rattle.xq_trees.specs.Tree.{Tree}
use Rattle.xq_trees.specs.Tuples.{Tuple, value_at}
use Rattle.xq_meaning.specs.declared.node_tests.Test.{Test}
use Rattle.xq_meaning.specs.declared.plans.Plan.{Plan}
use Rattle.xq_meaning.specs.declared.plans.PlanStep.{PlanStep}
use Rattle.xq_meaning.specs.declared.plans.PlanStep.TheVariants as step
use Rattle.xq_meaning.specs.Doing.{Doing, go_on, first_that, unless_found}
use Rattle.xq_meaning.specs.Forms as Forms
use Rattle.xq_meaning.specs.Items.{Item, Node}
use Rattle.xq_meaning.specs.PlanMeaning.{Frame, opened, plan_mean}
use Rattle.xq_meaning.specs.Readings.{node_at, items_at, AreIn}
use Rattle.xq_meaning.specs.Steps.{axis_nodes}
use Rattle.xq_sources.specs.Sources.{HasNode}
use Rattle.xq_operators.specs.Views.{tuple_at}
use Rattle.xq_joins.specs.declared.pairs.KeyPair.{KeyPair}
use Rattle.xq_joins.specs.declared.keyed.Keyed.{Keyed}
use Rattle.xq_joins.specs.declared.keyed.KeyedTest.{KeyedTest}
use Rattle.xq_joins.specs.Keyed.{leads_to_key, passes_key, first_with}
use Rattle.xq_joins.specs.Keys.{IsNode, text_at, meet}
use Rattle.xq_joins.specs.private.Keys.{scan_in, scans, key_texts, places_among}
use Rattle.xq_joins.specs.private.Keyed.{ComparesNext, HasTexts, decided}
use Rattle.xq_joins.specs.private.Pairs.{IsTest}
use Rattle.xq_joins.proofs.Clauses.{value_front, value_last}
use Rattle.xq_joins.proofs.Keying.{held_is}
use Rattle.xq_joins.proofs.Meeting.{meet_swap}
use Rattle.xq_joins.proofs.TextTests.{axis_ordered}

-- # Which tests they are

one_scan : (steps : List PlanStep) (a : Axis) (of : Test) → steps ≡ step.Scan a of ∷ [] → scans steps ≡ (a, of) ∷ []
one_scan steps a of e = ap scans e ∙ ap (λ o. scan_in o ++ []) (step.outs-Scan a of)

pub next_is : (next : ℕ) (join : KeyPair) (found : Keyed) (p : Plan) → IsTest join p → join.item.slot ≡ next → join.tuple.slot < next → found.key ≡ join.tuple → join.item.steps.now ≡ step.Scan found.axis found.test.now ∷ []
    → ComparesNext next found p
next_is next join found p is at before key one = record {
  earlier = subst (λ k. k.slot < next) (sym key) before;
  says = λ frame trees n qs there item held.
      let q = node_at trees n in
      let keys = key_texts trees (scans found.key.steps.now) qs in
      let led = axis_nodes trees found.axis found.test.now q in
      is.holds frame trees (q ∷ []) qs (ap (λ k. value_at k frame.env) at ∙ item) (ap (λ k. value_at k.slot frame.env) (sym key) ∙ held)
      ∙ (λ i. (Ok (meet (key_texts trees (one_scan join.item.steps.now found.axis found.test.now one i) (q ∷ [])) (key_texts trees (scans ((sym key i).steps.now)) qs)), trees))
      ∙ ap (λ ps. (Ok (meet (map (text_at trees) ps) keys), trees)) (axis_ordered trees found.axis found.test.now n there)
      ∙ ap (λ b. (Ok b, trees)) (meet_swap (map (text_at trees) led) keys);
}

-- # What they decide

pub decided_found : (wanted b : Bool) (bs : List Bool) → b ≡ wanted → decided wanted (b ∷ bs) ≡ wanted
decided_found true true bs e = refl
decided_found false false bs e = refl
decided_found true false bs e = absurd (let k : false ≡ true = e in cc)
decided_found false true bs e = absurd (let k : true ≡ false = e in cc)

pub decided_missed : (wanted b : Bool) (bs : List Bool) → b ≡ not wanted → decided wanted (b ∷ bs) ≡ decided wanted bs
decided_missed true false bs e = refl
decided_missed false true bs e = refl
decided_missed true true bs e = absurd (let k : true ≡ false = e in cc)
decided_missed false false bs e = absurd (let k : false ≡ true = e in cc)

module _ {A : Type 0} (wanted : Bool) (act : A → Doing Bool) (x : A) (xs : List A) (f : List Tree) (bs : List Bool) (rest : first_that wanted act xs f ≡ (Ok (decided wanted bs), f)) where
  one_tried : (b : Bool) → act x f ≡ (Ok b, f) → first_that wanted act (x ∷ xs) f ≡ (Ok (decided wanted (b ∷ bs)), f)
  one_tried b e = ap (λ o. go_on o (λ answer. unless_found wanted answer (first_that wanted act xs))) e ∙ by wanted b rest
    where
      by : (w c : Bool) → first_that wanted act xs f ≡ (Ok (decided w bs), f) → unless_found w c (first_that wanted act xs) f ≡ (Ok (decided w (c ∷ bs)), f)
      by true true r = refl
      by true false r = r
      by false false r = refl
      by false true r = r

module _ (f : List Tree) (slots : Tuple ItemView) (found : Keyed) (test : KeyedTest) (p : Plan) (is : ComparesNext (length slots) found p) (has : HasTexts f slots found test) (frame : Frame) (env : frame.env ≡ tuple_at f slots) where
  abbrev inner : Item → Frame
  inner x = Forms.in_env frame (opened frame.env (x ∷ []))

  many : length frame.env ≡ length slots
  many = ap length env ∙ length-map slots (items_at f)

  one_is : (n : Spot) → HasNode f n.tree n.pre → Forms.tested (plan_mean p) (inner (Node (node_at f n))) f ≡ (Ok (leads_to_key f test (node_at f n)), f)
  one_is n there =
      let x = Node (node_at f n) in
      let k = found.key.slot in
      let e = is.earlier in
      let m = many in
      is.says (inner x) f n (places_among f (value_at k slots)) there
      (ap (λ j. value_at j (frame.env ++ (x ∷ []) ∷ [])) (sym m) ∙ value_last frame.env (x ∷ []))
      (value_front k frame.env ((x ∷ []) ∷ []) (omega (arith, e, m)) ∙ held_is f slots k frame has.nodes env)
      ∙ (λ i. (Ok (meet (sym has.texts i) (map (text_at f) (axis_nodes f (sym has.on_axis i) (sym has.of_test i) (node_at f n)))), f))

  pub decides : (wanted : Bool) (xs : List ItemView) → AllByRecursion IsNode xs → AreIn f xs → first_with wanted p (items_at f xs) frame f ≡ (Ok (decided wanted (map (passes_key f test) xs)), f)
  decides wanted [] nodes inside = refl
  decides wanted (NodeAt n ∷ xs) nodes inside =
      one_tried wanted (λ x. Forms.tested (plan_mean p) (inner x)) (Node (node_at f n)) (items_at f xs) f (map (passes_key f test) xs) (decides wanted xs nodes.1 inside.1) (leads_to_key f test (node_at f n)) (one_is n inside.0)
  decides wanted (Value a ∷ xs) nodes inside = absurd nodes.0
