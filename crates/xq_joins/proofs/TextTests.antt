-- What predicates mean that compare one step with a text, and what they keep.
use Rattle.std.proofs.Common.{◌≡◌, ℕ, zero, suc, List, [], ◌∷◌, ◌++◌, length, map, reverse, Bool, true, false, cond, ◌&&◌, ◌||◌, Ok, Err, refl, sym, ◌∙◌, ap, subst, append_assoc}
use Rattle.std.specs.Prelude.{filter, if◌then◌else◌}
use Rattle.std.specs.List.{AllByRecursion, flat_map, list_any}
use Rattle.std.proofs.lemmas.Bool.{and_parts, eqb-true}
use Rattle.std.proofs.lemmas.List.{append-nil, map-append}
use Rattle.std.proofs.lemmas.List.Elements.{filter-append}
use Rattle.xq_atoms.specs.Atom.{String}
use Rattle.xq_atoms.specs.Judged.{Judged}
use Rattle.xq_atoms.specs.Text.{Text}
use Rattle.xq_atoms.specs.declared.comparisons.CompOp.TheVariants as comp
use Rattle.xq_atoms.specs.declared.refusals.Code.TheVariants.{XPTY0018, XPTY0019}
use Rattle.xq_expressions.specs.declared.operators.ComparisonOperator.TheVariants as comparing
use Rattle.xq_expressions.specs.declared.operators.Relation.TheVariants as relation
use Rattle.xq_trees.specs.Forest.{end}
use Rattle.xq_trees.specs.Items.{ItemView, Place as NodeAt}
use Rattle.xq_trees.specs.Tree.{Tree}
use Rattle.xq_trees.specs.Tuples.{Tuple, value_at}
use Rattle.xq_trees.specs.declared.Axis.{Axis}
use Rattle.xq_trees.specs.declared.Axis.TheVariants as axis
use Rattle.xq_trees.proofs.AxisTable.{on_axis_is}
use Rattle.xq_meaning.specs.declared.node_tests.Test.{Test}
use Rattle.xq_meaning.specs.declared.node_tests.Test.TheVariants as test
use Rattle.xq_meaning.specs.declared.operators.Operator.TheVariants as operator
use Rattle.xq_meaning.specs.declared.plans.Plan.{Plan}
use Rattle.xq_meaning.specs.declared.plans.Plan.TheVariants as plan
use Rattle.xq_meaning.specs.Arguments.{all_nodes, as_boolean, boolean}
use Rattle.xq_meaning.specs.Doing.{Doing, Outcome, ◌>>=◌, go_on, give, judged, on_trees, in_turn, more, collected}
use Rattle.xq_meaning.specs.Forms as Forms
use Rattle.xq_meaning.specs.Functions.{Focus}
use Rattle.xq_meaning.specs.Items.{Place, Item, Node, atomized, same_node, is_among, places_from, in_document_order}
use Rattle.xq_meaning.specs.Operators.{some_pair, operated, in_order, gathered, nodes_or_atoms, keeps}
use Rattle.xq_meaning.specs.PlanMeaning.{Frame, Meaning, next_step, plan_mean, plan_step_mean}
use Rattle.xq_meaning.specs.Readings.{node_at, items_at}
use Rattle.xq_meaning.specs.Steps.{axis_nodes, context_node, focuses, focuses_from, in_axis_order, is_reverse}
use Rattle.xq_meaning.proofs.PathLemmas.{filter-map}
use Rattle.xq_meaning.specs.declared.plans.PlanStep.{PlanStep}
use Rattle.xq_meaning.specs.declared.plans.PlanStep.TheVariants as step
use Rattle.xq_meaning.proofs.PlanEquations.{plan-Chain, plan-Path, plan-Slot, plan-Step, plan-Str, step-Scan}
use Rattle.xq_axes.specs.Many.{spot, places_from as places_on}
use Rattle.xq_axes.proofs.AxisNodes.{filter_agree}
use Rattle.xq_axes.proofs.Many.{from_one}
use Rattle.xq_axes.proofs.Merging.{any_filter}
use Rattle.xq_axes.specs.DoubleSlash.{selves_and_below}
use Rattle.xq_operators.proofs.NodeLemmas.{are_nodes, context_in, items_read}
use Rattle.xq_operators.specs.Paths.{IsHeld}
use Rattle.xq_operators.specs.declared.contexts.EvalContext.{EvalContext as HeldFrame}
use Rattle.xq_operators.specs.declared.paths.ShortPath.{ShortPath}
use Rattle.xq_trees.specs.declared.items.Node.{Node as Spot}
use Rattle.xq_sources.specs.Sources.{tree_at, HasNode}
use Rattle.xq_tuples.specs.Views.{values_of}
use Rattle.xq_operators.specs.Views.{tuple_at, focus_at, frame_at, FrameIn, after_double_slash}
use Rattle.xq_operators.specs.Nodes.{nodes_among}
use Rattle.xq_joins.specs.declared.equalities.NodeTest.{NodeTest}
use Rattle.xq_joins.specs.declared.equalities.TextTest.{TextTest}
use Rattle.xq_joins.specs.Equalities.{have_text, leads_to_text, on_nodes, at_node, Asks, IsNodeTest, IsTextTest}
use Rattle.xq_joins.specs.Keys.{IsNode}
use Rattle.xq_joins.specs.private.Shapes.{equality}
use Rattle.xq_joins.specs.private.Texts.{AreText, GivesText, IsStepAt}
use Rattle.xq_joins.proofs.Kept.{kept_more, items_filtered as kept_items, scan_by_test, any_nodes, any_items, asking_keeps}
use Rattle.xq_joins.proofs.Meeting.{texts_after, texts_before}

-- # Which predicates are such tests

abbrev turned : {A : Type 0} → Bool → List A → List A
turned b xs = if b then reverse xs else xs

-- a step to children or attributes, without predicates, from a node
pub near_is : (a : Axis) (of : Test) → is_reverse a ≡ false → (frame : Frame) (f : List Tree) (p : Place) (position last : ℕ)
    → plan_mean (plan.Step a of []) (at_node frame p position last) f ≡ (Ok (map Node (axis_nodes f a of p)), f)
near_is a of forward frame f p position last =
    ap (λ m. m (at_node frame p position last) f) (plan-Step a of [])
    ∙ ap (λ b. (Ok (turned b (map Node (turned b (axis_nodes f a of p)))), f)) forward

-- a string literal
pub literal_text : (slots : Tuple ItemView) (t : Text) (p : Plan) → p ≡ plan.Str t → GivesText slots t p
literal_text slots t p is = record {
  atom = String t;
  is_text = refl;
  gives = λ frame f env. ap (λ q. plan_mean q frame f) is ∙ ap (λ m. m frame f) (plan-Str t);
}

value_read : (f : List Tree) (n : ℕ) (slots : Tuple ItemView) → value_at n (tuple_at f slots) ≡ items_at f (value_at n slots)
value_read f n [] = refl
value_read f zero (v ∷ vs) = refl
value_read f (suc n) (v ∷ vs) = value_read f n vs

-- a variable that holds one text
pub slot_text : (slots : Tuple ItemView) (t : Text) (n : ℕ) (p : Plan) → p ≡ plan.Slot n → AreText (value_at n slots) t → GivesText slots t p
slot_text slots t n p is held = record {
  atom = held.atom;
  is_text = held.is_text;
  gives = λ frame f env.
      ap (λ q. plan_mean q frame f) is ∙ ap (λ m. m frame f) (plan-Slot n)
      ∙ ap (λ xs. (Ok xs, f)) (ap (value_at n) env ∙ value_read f n slots ∙ ap (items_at f) held.are);
}

-- a comparison for equality, from the values of its operands
pub equality_gives : (first second : Plan) (frame : Frame) (f : List Tree) (xs ys : List Item) (answer : Bool) → plan_mean first frame f ≡ (Ok xs, f) → plan_mean second frame f ≡ (Ok ys, f)
    → some_pair comp.Eq (atomized f xs) (atomized f ys) ≡ Ok answer → plan_mean (equality first second) frame f ≡ (Ok (boolean answer), f)
equality_gives first second frame f xs ys answer a b pairs =
    let op = operator.Comparison (comparing.General relation.Equal) in
    ap (λ (m : Meaning). m frame f) (plan-Chain first ((op, second) ∷ []))
    ∙ ap (λ o. go_on o (λ zs. in_turn (Forms.next_operand frame) zs ((op, plan_mean second) ∷ []))) a
    ∙ ap (λ o. go_on (go_on o (λ zs. on_trees (λ trees. operated op trees xs zs))) (λ next. give next)) b
    ∙ ap (λ r. go_on (judged (as_boolean r) f) (λ next. give next)) pairs

module _ (slots : Tuple ItemView) (found : TextTest) (near other : Plan) (is : near ≡ plan.Step found.axis found.test.now []) (forward : is_reverse found.axis ≡ false) (text : GivesText slots found.text.now other) where
  step_gives : (frame : Frame) (f : List Tree) (p : Place) (position last : ℕ) → plan_mean near (at_node frame p position last) f ≡ (Ok (map Node (axis_nodes f found.axis found.test.now p)), f)
  step_gives frame f p position last = ap (λ q. plan_mean q (at_node frame p position last) f) is ∙ near_is found.axis found.test.now forward frame f p position last

  -- the step is the first operand, or the second
  pub step_first : (p : Plan) → p ≡ equality near other → IsTextTest slots found p
  step_first p e = λ f. record {
    says = λ frame place position last env.
        ap (λ q. plan_mean q (at_node frame place position last) f) e
        ∙ equality_gives near other (at_node frame place position last) f _ _ (leads_to_text f found place) (step_gives frame f place position last) (text.gives (at_node frame place position last) f env)
        (texts_after f text.atom found.text.now text.is_text (axis_nodes f found.axis found.test.now place));
  }

  pub step_second : (p : Plan) → p ≡ equality other near → IsTextTest slots found p
  step_second p e = λ f. record {
    says = λ frame place position last env.
        ap (λ q. plan_mean q (at_node frame place position last) f) e
        ∙ equality_gives other near (at_node frame place position last) f _ _ (leads_to_text f found place) (text.gives (at_node frame place position last) f env) (step_gives frame f place position last)
        (texts_before f text.atom found.text.now text.is_text (axis_nodes f found.axis found.test.now place));
  }

-- # Which plans are such tests with a node at hand

pub axis_ordered : (f : List Tree) (a : Axis) (of : Test) (n : Spot) → HasNode f n.tree n.pre → in_document_order f (flat_map (axis_nodes f a of) (node_at f n ∷ [])) ≡ axis_nodes f a of (node_at f n)
axis_ordered f a of n h =
    let ps = places_on a of (tree_at f n.tree) n.pre in
    let on = from_one f a of n ps (map (λ p. NodeAt (spot n.tree p)) ps) h refl refl in
    sym on.in_order ∙ on.on_axis

pub path_step : (frame : HeldFrame) (p start : Plan) (steps : List PlanStep) (found : ShortPath) → p ≡ plan.Path start steps → IsHeld frame start found.node → steps ≡ step.Scan found.axis found.test.now ∷ [] → IsStepAt frame found p
path_step frame p start steps found is held one = record {
  there = held.there;
  gives = λ f inside.
      let fr = frame_at f frame in
      let here = Node (node_at f found.node) ∷ [] in
      ap (λ q. plan_mean q fr f) is ∙ ap (λ m. m fr f) (plan-Path start steps)
      ∙ ap (λ o. go_on o (λ xs. in_turn (next_step fr) xs (map plan_step_mean steps))) (held.value f inside)
      ∙ ap (λ ss. in_turn (next_step fr) here (map plan_step_mean ss) f) one
      ∙ ap (λ m. go_on (m fr here f) (λ xs. give xs)) (step-Scan found.axis found.test.now)
      ∙ ap (λ ps. (Ok (map Node ps), f)) (axis_ordered f found.axis found.test.now found.node (held.there f inside));
}

pub context_step : (frame : HeldFrame) (p : Plan) (found : ShortPath) → p ≡ plan.Step found.axis found.test.now [] → is_reverse found.axis ≡ false
    → ((f : List Tree) → Ok (node_at f found.node) ≡ context_node (focus_at f frame.focus)) → IsStepAt frame found p
context_step frame p found is forward context = record {
  there = λ f inside. context_in f frame.focus found.node inside.focus_in (context f);
  gives = λ f inside.
      let fr = frame_at f frame in
      let a = found.axis in
      let of = found.test.now in
      ap (λ q. plan_mean q fr f) is ∙ ap (λ m. m fr f) (plan-Step a of [])
      ∙ sym (ap (λ r. go_on (judged r f) (λ q. on_trees (λ trees. Ok (map Node (in_axis_order a (axis_nodes trees a of q)))) >>= (λ xs. in_turn (Forms.filtered fr) xs [] >>= (λ ys. give (in_axis_order a ys))))) (context f))
      ∙ ap (λ b. (Ok (turned b (map Node (turned b (axis_nodes f a of (node_at f found.node))))), f)) forward;
}

-- the step and a text that make the test
pub record AreParts (found : NodeTest) (at : ShortPath) (t : Text) : Type 0 where
  pub node : found.node ≡ at.node
  pub axis : found.test.axis ≡ at.axis
  pub test : found.test.test.now ≡ at.test.now
  pub text : found.test.text.now ≡ t

module _ (frame : HeldFrame) (found : NodeTest) (at : ShortPath) (t : Text) (near other : Plan) (parts : AreParts found at t) (is : IsStepAt frame at near) (text : GivesText (values_of frame.slots.now) t other) where
  abbrev near_at : List Tree → List Place
  near_at f = axis_nodes f at.axis at.test.now (node_at f at.node)

  there_at : (f : List Tree) → FrameIn f frame → HasNode f found.node.tree found.node.pre
  there_at f inside = subst (λ (n : Spot). HasNode f n.tree n.pre) (sym parts.node) (is.there f inside)

  same_answer : (f : List Tree) → have_text f t (near_at f) ≡ leads_to_text f found.test (node_at f found.node)
  same_answer f = λ i. have_text f (sym parts.text i) (axis_nodes f (sym parts.axis i) (sym parts.test i) (node_at f (sym parts.node i)))

  pub near_first : (p : Plan) → p ≡ equality near other → IsNodeTest frame found p
  near_first p e = record {
    there = there_at;
    says = λ f inside.
        let fr = frame_at f frame in
        ap (λ q. plan_mean q fr f) e
        ∙ equality_gives near other fr f _ _ (have_text f t (near_at f)) (is.gives f inside) (text.gives fr f refl) (texts_after f text.atom t text.is_text (near_at f))
        ∙ ap (λ b. (Ok (boolean b), f)) (same_answer f);
  }

  pub near_second : (p : Plan) → p ≡ equality other near → IsNodeTest frame found p
  near_second p e = record {
    there = there_at;
    says = λ f inside.
        let fr = frame_at f frame in
        ap (λ q. plan_mean q fr f) e
        ∙ equality_gives other near fr f _ _ (have_text f t (near_at f)) (text.gives fr f refl) (is.gives f inside) (texts_before f text.atom t text.is_text (near_at f))
        ∙ ap (λ b. (Ok (boolean b), f)) (same_answer f);
  }

-- # What is kept

pub kept_next : {A : Type 0} (h : A → Bool) (x : A) (kept kept' left rest : List A) (b : Bool) → b ≡ h x → left ≡ x ∷ rest → kept' ≡ kept ++ Forms.kept_if x b → kept ++ filter h left ≡ kept' ++ filter h rest
kept_next h x kept kept' left rest b answer e is =
    ap (λ l. kept ++ filter h l) e
    ∙ ap (λ c. kept ++ cond c (x ∷ filter h rest) (filter h rest)) (sym answer)
    ∙ sym (kept_more kept x (filter h rest) b)
    ∙ ap (λ l. l ++ filter h rest) (sym is)

module _ (f : List Tree) (slots : Tuple ItemView) (passing : Place → Bool) (p : Plan) (is : Asks f slots passing p) (frame : Frame) (env : frame.env ≡ tuple_at f slots) where
  -- of items of code that are nodes those that pass
  pub items_filtered : (xs : List ItemView) → AllByRecursion IsNode xs → Forms.filtered frame (items_at f xs) (plan_mean p) f ≡ (Ok (items_at f (filter (on_nodes f passing) xs)), f)
  items_filtered xs h = kept_items f slots (λ n. Unit {0}) passing p (asking_keeps f slots passing p is) frame env xs (any_items xs h)

  -- a step to children with such a predicate, after `//`, is a scan, and then the test
  pub scan_by_text : (of : Test) (xs : List Item)
      → go_on (Forms.scan axis.DescendantOrSelf test.Any xs f) (λ ys. Forms.slash frame ys (Forms.step axis.Child of (plan_mean p ∷ []))) ≡ go_on (after_double_slash of xs f) (λ ys. Forms.filtered frame ys (plan_mean p))
  scan_by_text of xs = scan_by_test f slots (λ n. Unit {0}) passing p (asking_keeps f slots passing p is) frame env of xs (any_nodes (all_nodes XPTY0019 xs))
