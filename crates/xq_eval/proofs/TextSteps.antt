-- Predicates that ask nodes for a text, and steps with them.
use Rattle.std.proofs.Common.{◌≡◌, ◌<◌, ◌≤◌, List, [], ◌∷◌, map, length, get_or, Bool, Ok, Err, refl, sym, ◌∙◌, ap, subst, arith}
use Rattle.std.specs.Prelude.{filter, ℕ, IfOk, IsErrAnd, Option, Result}
use Rattle.std.specs.Global.{Vec}
use Rattle.std.specs.List.{AllByRecursion, flat_map}
use Rattle.xq_atoms.specs.declared.refusals.Code.TheVariants.{XPTY0019}
use Rattle.xq_atoms.specs.declared.refusals.Fault.{Fault}
use Rattle.xq_atoms.specs.Judged.{Judged, ◌>>=◌}
use Rattle.xq_trees.specs.declared.items.Item.{Item as Held}
use Rattle.xq_trees.specs.declared.Axis.{Axis}
use Rattle.xq_trees.specs.declared.Axis.TheVariants.{Child, DescendantOrSelf}
use Rattle.xq_trees.specs.Items.{ItemView, Place as NodeAt, Value}
use Rattle.xq_trees.specs.Tree.{Tree}
use Rattle.xq_trees.specs.Tuples.{Tuple}
use Rattle.xq_trees.proofs.Lists.{all_filter}
use Rattle.xq_meaning.specs.declared.node_tests.Test.{Test}
use Rattle.xq_meaning.specs.declared.node_tests.Test.TheVariants.{Any}
use Rattle.xq_meaning.specs.declared.plans.Plan.{Plan}
use Rattle.xq_meaning.specs.declared.plans.Plan.TheVariants as plan
use Rattle.xq_meaning.specs.declared.plans.PlanStep.{PlanStep}
use Rattle.xq_meaning.specs.declared.plans.PlanStep.TheVariants as plan_step
use Rattle.xq_meaning.specs.Arguments.{all_nodes}
use Rattle.xq_meaning.specs.Doing.{Doing, Outcome, go_on, judged, on_trees}
use Rattle.xq_meaning.specs.Forms as Forms
use Rattle.xq_meaning.specs.Items.{Place, Item, Node, Atom, in_document_order}
use Rattle.xq_meaning.specs.Operators.{in_order}
use Rattle.xq_meaning.specs.PlanMeaning.{Frame, Meaning, StepMeaning, plan_mean, plan_step_mean}
use Rattle.xq_meaning.specs.Readings.{items_at, IsIn, AreIn}
use Rattle.xq_meaning.specs.Steps.{axis_nodes}
use Rattle.xq_meaning.proofs.PlanEquations.{plan-Step, step-Each, step-Scan}
use Rattle.xq_operators.specs.Views.{tuple_at, after_double_slash, GivesSequence}
use Rattle.xq_joins.specs.Equalities.{on_nodes, Asks, IsNodeOf, IsTreeAt, Keeps}
use Rattle.xq_joins.specs.Keys.{IsNode}
use Rattle.xq_joins.proofs.Kept.{In, items_filtered, scan_by_test, any_nodes, any_items, asking_keeps, each_in, items_in_trees, ordered_in}
use Rattle.xq_joins.proofs.Walks.{then_stays, scan_stays}
use Rattle.xq_eval.specs.private.Texts.{GivesFound}

-- any tree
abbrev any : ℕ → Type 0
any n = Unit {0}

module _ (f : List Tree) (slots : Tuple ItemView) (among : ℕ → Type 0) (passing : Place → Bool) (p : Plan) (is : Keeps f slots among passing p) (frame : Frame) (env : frame.env ≡ tuple_at f slots) where
  -- what the predicate keeps of nodes of those trees
  pub tests_kept : (f' : List Tree) (xs kept : List ItemView) → AllByRecursion (IsNodeOf among) xs → AreIn f xs → kept ≡ filter (on_nodes f passing) xs → f' ≡ f
      → AreIn f' kept × (Forms.filtered frame (items_at f xs) (plan_mean p) f ≡ (Ok (items_at f' kept), f'))
  tests_kept f' xs kept nodes xs_in are same =
      subst (λ g. AreIn g kept × (Forms.filtered frame (items_at f xs) (plan_mean p) f ≡ (Ok (items_at g kept), g))) (sym same) (
        subst (AreIn f) (sym are) (all_filter (IsIn f) (on_nodes f passing) xs xs_in),
        items_filtered f slots among passing p is frame env xs nodes ∙ ap (λ l. (Ok (items_at f l), f)) (sym are),
      )

  -- a step to children with this predicate, after descendant-or-self::node()
  pub test_step_is : (q : PlanStep) (of : Test) (xs : List Item) → q ≡ plan_step.Each (plan.Step Child of (p ∷ [])) → IfOk (all_nodes XPTY0019 xs) (AllByRecursion (In among))
      → go_on (Forms.scan DescendantOrSelf Any xs f) (λ ys. plan_step_mean q frame ys) ≡ go_on (after_double_slash of xs f) (λ ys. Forms.filtered frame ys (plan_mean p))
  test_step_is q of xs hq h =
      let part = Forms.step Child of (plan_mean p ∷ []) in
      let later : plan_step_mean q ≡ (λ frame ys. Forms.slash frame ys part) =
      ap plan_step_mean hq ∙ step-Each (plan.Step Child of (p ∷ [])) ∙ ap (λ (m : Meaning). λ (frame : Frame) (ys : List Item). Forms.slash frame ys m) (plan-Step Child of (p ∷ [])) in
      ap (λ (m : StepMeaning). go_on (Forms.scan DescendantOrSelf Any xs f) (λ ys. m frame ys)) later
      ∙ scan_by_test f slots among passing p is frame env of xs h

module _ (f : List Tree) (slots : Tuple ItemView) (passing : Place → Bool) (p : Plan) (is : Asks f slots passing p) (frame : Frame) (env : frame.env ≡ tuple_at f slots) where
  -- the same of nodes of any trees
  pub texts_kept : (f' : List Tree) (xs kept : List ItemView) → AllByRecursion IsNode xs → AreIn f xs → kept ≡ filter (on_nodes f passing) xs → f' ≡ f
      → AreIn f' kept × (Forms.filtered frame (items_at f xs) (plan_mean p) f ≡ (Ok (items_at f' kept), f'))
  texts_kept f' xs kept nodes xs_in are same = tests_kept f slots any passing p (asking_keeps f slots passing p is) frame env f' xs kept (any_items xs nodes) xs_in are same

  pub text_step_is : (q : PlanStep) (of : Test) (xs : List Item) → q ≡ plan_step.Each (plan.Step Child of (p ∷ []))
      → go_on (Forms.scan DescendantOrSelf Any xs f) (λ ys. plan_step_mean q frame ys) ≡ go_on (after_double_slash of xs f) (λ ys. Forms.filtered frame ys (plan_mean p))
  text_step_is q of xs hq = test_step_is f slots any passing p (asking_keeps f slots passing p is) frame env q of xs hq (any_nodes (all_nodes XPTY0019 xs))

-- descendant-or-self::node(), and what comes after it
pub slashes_then : (s : PlanStep) (next : List Item → Doing (List Item)) (frame : Frame) (xs : List Item) (f : List Tree) → s ≡ plan_step.Scan DescendantOrSelf Any → go_on (plan_step_mean s frame xs f) next ≡ go_on (Forms.scan DescendantOrSelf Any xs f) next
slashes_then s next frame xs f is = ap (λ o. go_on o next) (ap (λ m. m frame xs f) (ap plan_step_mean is ∙ step-Scan DescendantOrSelf Any))

-- # What a scan gives

module _ (among : ℕ → Type 0) where
  abbrev IsItemOf : Item → Type 0
  IsItemOf (Node p) = In among p
  IsItemOf (Atom a) = ⊥

  abbrev GivesOf : Outcome (List Item) → Type 0
  GivesOf (Ok xs, f) = AllByRecursion IsItemOf xs
  GivesOf (Err code, f) = Unit {0}

  nodes_given : (ps : List Place) → AllByRecursion (In among) ps → AllByRecursion IsItemOf (map Node ps)
  nodes_given [] h = tt
  nodes_given (p ∷ ps) h = (h.0, nodes_given ps h.1)

  abbrev scanned : Axis → Test → List Tree → Judged (List Place) → Outcome (List Item)
  scanned a of f r = go_on (judged r f) (λ places. on_trees (λ trees. Ok (in_order trees (flat_map (axis_nodes trees a of) places))))

  scan_gives : (a : Axis) (of : Test) (f : List Tree) (r : Judged (List Place)) → IfOk r (AllByRecursion (In among)) → GivesOf (scanned a of f r)
  scan_gives a of f (Ok ps) h = nodes_given (in_document_order f (flat_map (axis_nodes f a of) ps)) (ordered_in among f (flat_map (axis_nodes f a of) ps) (each_in among f a of ps h))
  scan_gives a of f (Err code) h = tt

  one_before : (p : Place) (r : Judged (List Place)) → In among p → IfOk r (AllByRecursion (In among)) → IfOk (r >>= (λ ps. Ok (p ∷ ps))) (AllByRecursion (In among))
  one_before p (Ok ps) h k = (h, k)
  one_before p (Err code) h k = tt

  given_in : (xs : List Item) → AllByRecursion IsItemOf xs → IfOk (all_nodes XPTY0019 xs) (AllByRecursion (In among))
  given_in [] h = tt
  given_in (Node p ∷ xs) h = one_before p (all_nodes XPTY0019 xs) h.0 (given_in xs h.1)
  given_in (Atom a ∷ xs) h = absurd h.0

  second_gives : (of : Test) (o : Outcome (List Item)) → GivesOf o → GivesOf (go_on o (Forms.scan Child of))
  second_gives of (Ok xs, f) h = scan_gives Child of f (all_nodes XPTY0019 xs) (given_in xs h)
  second_gives of (Err code, f) h = tt

  are_of : (f : List Tree) (xs : List ItemView) → AllByRecursion IsItemOf (items_at f xs) → AllByRecursion (IsNodeOf among) xs
  are_of f [] h = tt
  are_of f (NodeAt n ∷ xs) h = (h.0, are_of f xs h.1)
  are_of f (Value a ∷ xs) h = absurd h.0

-- # What a predicate keeps of what was found

outcome_tested : (among : List Tree → ℕ → Type 0) (ask : List Tree → Place → Bool) (slots : Tuple ItemView) (p : Plan) (f f1 f2 : List Tree) → Keeps f slots (among f) (ask f) p → (frame : Frame) → frame.env ≡ tuple_at f slots
    → (o : Outcome (List Item)) → o.1 ≡ f → GivesOf (among f) o
    → (found kept : List ItemView) → AreIn f1 found × (o ≡ (Ok (items_at f1 found), f1)) → kept ≡ filter (on_nodes f1 (ask f1)) found → f2 ≡ f1
    → AreIn f2 kept × (go_on o (λ ys. Forms.filtered frame ys (plan_mean p)) ≡ (Ok (items_at f2 kept), f2))
outcome_tested among ask slots p f f1 f2 is frame env o stay of_those found kept first are keeps =
    let same : f1 ≡ f = sym (ap (λ (w : Outcome (List Item)). w.1) first.1) ∙ stay in
    let given = are_of (among f) f1 found (subst (GivesOf (among f)) first.1 of_those) in
    let found_in = subst (λ t. AllByRecursion (IsNodeOf (among t)) found) (sym same) given in
    let here : Keeps f1 slots (among f1) (ask f1) p = subst (λ t. Keeps t slots (among t) (ask t) p) (sym same) is in
    let next = λ (ys : List Item). Forms.filtered frame ys (plan_mean p) in
    let second = tests_kept f1 slots (among f1) (ask f1) p here frame (env ∙ ap (λ t. tuple_at t slots) (sym same)) f2 found kept found_in first.0 are keeps in
    (second.0, ap (λ o'. go_on o' next) first.1 ∙ second.1)

-- of one scan
pub child_scan_tested : (among : List Tree → ℕ → Type 0) (ask : List Tree → Place → Bool) (slots : Tuple ItemView) (p : Plan) (f f1 f2 : List Tree) → Keeps f slots (among f) (ask f) p → (frame : Frame) → frame.env ≡ tuple_at f slots
    → (of : Test) (xs : List Item) → IfOk (all_nodes XPTY0019 xs) (AllByRecursion (In (among f)))
    → (found kept : List ItemView) → AreIn f1 found × (Forms.scan Child of xs f ≡ (Ok (items_at f1 found), f1)) → kept ≡ filter (on_nodes f1 (ask f1)) found → f2 ≡ f1
    → AreIn f2 kept × (go_on (Forms.scan Child of xs f) (λ ys. Forms.filtered frame ys (plan_mean p)) ≡ (Ok (items_at f2 kept), f2))
child_scan_tested among ask slots p f f1 f2 is frame env of xs nodes found kept first are keeps =
    outcome_tested among ask slots p f f1 f2 is frame env (Forms.scan Child of xs f) (scan_stays Child of xs f) (scan_gives (among f) Child of f (all_nodes XPTY0019 xs) nodes) found kept first are keeps

-- after `//`
pub scan_tested : (among : List Tree → ℕ → Type 0) (ask : List Tree → Place → Bool) (slots : Tuple ItemView) (p : Plan) (f f1 f2 : List Tree) → Keeps f slots (among f) (ask f) p → (frame : Frame) → frame.env ≡ tuple_at f slots
    → (of : Test) (xs : List Item) → IfOk (all_nodes XPTY0019 xs) (AllByRecursion (In (among f)))
    → (found kept : List ItemView) → AreIn f1 found × (after_double_slash of xs f ≡ (Ok (items_at f1 found), f1)) → kept ≡ filter (on_nodes f1 (ask f1)) found → f2 ≡ f1
    → AreIn f2 kept × (go_on (after_double_slash of xs f) (λ ys. Forms.filtered frame ys (plan_mean p)) ≡ (Ok (items_at f2 kept), f2))
scan_tested among ask slots p f f1 f2 is frame env of xs nodes found kept first are keeps =
    let below = Forms.scan DescendantOrSelf Any xs f in
    outcome_tested among ask slots p f f1 f2 is frame env (after_double_slash of xs f) (then_stays below (Forms.scan Child of) f (scan_stays DescendantOrSelf Any xs f) (λ ys. scan_stays Child of ys))
    (second_gives (among f) of below (scan_gives (among f) DescendantOrSelf Any f (all_nodes XPTY0019 xs) nodes)) found kept first are keeps

pub scan_kept : (ask : List Tree → Place → Bool) (slots : Tuple ItemView) (p : Plan) (f f1 f2 : List Tree) → Asks f slots (ask f) p → (frame : Frame) → frame.env ≡ tuple_at f slots
    → (of : Test) (xs : List Item) (found kept : List ItemView) → AreIn f1 found × (after_double_slash of xs f ≡ (Ok (items_at f1 found), f1)) → kept ≡ filter (on_nodes f1 (ask f1)) found → f2 ≡ f1
    → AreIn f2 kept × (go_on (after_double_slash of xs f) (λ ys. Forms.filtered frame ys (plan_mean p)) ≡ (Ok (items_at f2 kept), f2))
scan_kept ask slots p f f1 f2 is frame env of xs found kept first are keeps =
    scan_tested (λ t. any) ask slots p f f1 f2 (asking_keeps f slots (ask f) p is) frame env of xs (any_nodes (all_nodes XPTY0019 xs)) found kept first are keeps

-- a refusal that `?` hands on
pub found_stop : (whole : Outcome (List Item)) (f : List Tree) (e : Fault) (r : Result (Option (Vec Held)) Fault) → IsErrAnd r (λ e'. e' ≡ e) → GivesSequence whole f (Err e) → GivesFound whole f r
found_stop whole f e (Err e') h g = subst (λ x. GivesSequence whole f (Err x)) (sym h) g
found_stop whole f e (Ok v) h g = elim h [ ]

-- what is given after `//`, where the predicate keeps nodes of trees, also over the same trees later
pub value_given : (passing : List Tree → Place → Bool) (slots : Tuple ItemView) (p : Plan) → ((trees : List Tree) → Keeps trees slots (IsTreeAt trees) (passing trees) p) → (frame : Frame) (f f1 f' : List Tree) → f1 ≡ f → frame.env ≡ tuple_at f slots
    → (of : Test) (views : List ItemView) → AreIn f views → AllByRecursion (IsNodeOf (IsTreeAt f)) views → (r : Result (Vec Held) Fault)
    → (AreIn f1 views → AllByRecursion (IsNodeOf (IsTreeAt f1)) views → frame.env ≡ tuple_at f1 slots → GivesSequence (go_on (after_double_slash of (items_at f1 views) f1) (λ ys. Forms.filtered frame ys (plan_mean p))) f' r)
    → GivesSequence (go_on (Forms.scan DescendantOrSelf Any (items_at f views) f) (λ ys. plan_step_mean (plan_step.Each (plan.Step Child of (p ∷ []))) frame ys)) f' r
value_given passing slots p is frame f f1 f' same env of views items_in nodes r given =
    let then_test = λ (ys : List Item). Forms.filtered frame ys (plan_mean p) in
    let here = subst (λ (h : List Tree). AreIn h views → AllByRecursion (IsNodeOf (IsTreeAt h)) views → frame.env ≡ tuple_at h slots → GivesSequence (go_on (after_double_slash of (items_at h views) h) then_test) f' r) same given items_in nodes env in
    subst (λ (o : Outcome (List Item)). GivesSequence o f' r) (sym (test_step_is f slots (IsTreeAt f) (passing f) p (is f) frame env (plan_step.Each (plan.Step Child of (p ∷ []))) of (items_at f views) refl (items_in_trees (IsTreeAt f) f views nodes))) here

-- the element of a list of one
pub only_one : {A : Type 0} (xs : List A) (x : A) → x ≡ get_or xs 0 x → 1 ≤ length xs → length xs < 2 → xs ≡ x ∷ []
only_one [] x is h k = absurd (omega (arith, h))
only_one (y ∷ []) x is h k = ap (λ z. z ∷ []) (sym is)
only_one (y ∷ z ∷ zs) x is h k = absurd (omega (arith, k))
