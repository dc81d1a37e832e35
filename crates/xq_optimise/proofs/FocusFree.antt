-- Parts that give the same whatever the focus is, or its position: one lemma a form.
use Rattle.std.proofs.Common.{◌≡◌, ℕ, ℤ, List, [], ◌∷◌, map, Ok, Err, refl, sym, ap, ◌∙◌, subst}
use Rattle.std.specs.Prelude.{Option, Bool, true, false, Some, None}
use Rattle.std.specs.List.{AllByRecursion}
use Rattle.xq_atoms.specs.Text.{Text}
use Rattle.xq_expressions.specs.declared.signatures.Function.{Function}
use Rattle.xq_trees.specs.Tree.{Tree}
use Rattle.xq_meaning.specs.declared.operators.Operator.{Operator}
use Rattle.xq_meaning.specs.declared.plans.Plan.{Plan}
use Rattle.xq_meaning.specs.declared.plans.Plan.TheVariants as plan
use Rattle.xq_meaning.specs.declared.plans.Plan.TheOpen.{PlanStep-F}
use Rattle.xq_meaning.specs.declared.plans.PlanClause.{PlanClause}
use Rattle.xq_meaning.specs.declared.plans.PlanStep.{PlanStep, out-PlanStep, roll-PlanStep, roll-out-PlanStep}
use Rattle.xq_meaning.specs.declared.plans.PlanStep.TheVariants as step
use Rattle.xq_meaning.specs.Doing.{Doing, Outcome, go_on, give, judged, on_trees, in_turn, one_more, for_each}
use Rattle.xq_meaning.specs.Forms
use Rattle.xq_meaning.specs.Functions.{Focus, called}
use Rattle.xq_meaning.specs.Items.{Item, Node}
use Rattle.xq_meaning.specs.Steps.{axis_nodes, context_item, context_node, in_axis_order}
use Rattle.xq_trees.specs.declared.Axis.{Axis}
use Rattle.xq_meaning.specs.declared.node_tests.Test.{Test}
use Rattle.xq_atoms.specs.Judged.{Judged}
use Rattle.xq_meaning.specs.Items.{Place}
use Rattle.xq_meaning.specs.Operators.{operated}
use Rattle.xq_meaning.specs.PlanMeaning.{Slots, Meaning, next_step, plan_mean, plan_step_mean}
use Rattle.xq_meaning.specs.Same.{frame_of}
use Rattle.xq_meaning.proofs.PlanEquations as plan_eq
use Rattle.xq_meaning.proofs.SameForms.{AreRelated, go_on_same, then_same, in_turn_same, for_each_same, collected_same}
use Rattle.xq_meaning.proofs.Turns.{begun_then}
use Rattle.xq_optimise.specs.Sure.{AreAlike, on_node, IgnoresBy, IgnoresFocus, IgnoresPosition}
use Rattle.xq_optimise.specs.private.Invariants.{OperandIgnores}

-- a meaning that does
abbrev Free : Bool → Meaning → Type 0
Free at m =
    (slots : Slots) (focus other : Option Focus) → AreAlike at focus other → (addresses : List Text) (f : List Tree) →
    m (frame_of slots focus addresses) f ≡ m (frame_of slots other addresses) f

by_meaning : (at : Bool) (p : Plan) (m : Meaning) → plan_mean p ≡ m → Free at m → IgnoresBy at p
by_meaning at p m is free slots focus other alike addresses f =
    ap (λ k. k (frame_of slots focus addresses) f) is ∙ free slots focus other alike addresses f ∙ sym (ap (λ k. k (frame_of slots other addresses) f) is)

pub of_focus : (p : Plan) → IgnoresBy false p → IgnoresFocus p
of_focus p h slots focus other addresses f = h slots focus other tt addresses f

pub of_position : (p : Plan) → IgnoresBy true p → IgnoresPosition p
of_position p h slots addresses f place position last also count =
    h slots (Some (on_node place position last)) (Some (on_node place also count)) (place, position, last, also, count, refl, refl) addresses f

pub int_free : (at : Bool) (n : ℤ) (p : Plan) → p ≡ plan.Int n → IgnoresBy at p
int_free at n p is = by_meaning at p _ (ap plan_mean is ∙ plan_eq.plan-Int n) (λ slots focus other alike addresses f. refl)

pub dec_free : (at : Bool) (n : ℤ) (p : Plan) → p ≡ plan.Dec n → IgnoresBy at p
dec_free at n p is = by_meaning at p _ (ap plan_mean is ∙ plan_eq.plan-Dec n) (λ slots focus other alike addresses f. refl)

pub str_free : (at : Bool) (t : Text) (p : Plan) → p ≡ plan.Str t → IgnoresBy at p
str_free at t p is = by_meaning at p _ (ap plan_mean is ∙ plan_eq.plan-Str t) (λ slots focus other alike addresses f. refl)

pub slot_free : (at : Bool) (n : ℕ) (p : Plan) → p ≡ plan.Slot n → IgnoresBy at p
slot_free at n p is = by_meaning at p _ (ap plan_mean is ∙ plan_eq.plan-Slot n) (λ slots focus other alike addresses f. refl)

-- # The node in focus

pub context_free : (at : Bool) (p : Plan) → at ≡ true → p ≡ plan.ContextItem → IgnoresBy at p
context_free at p here is = subst (λ b. IgnoresBy b p) (sym here) (by_meaning true p _ (ap plan_mean is ∙ plan_eq.plan-ContextItem) alone)
  where
    alone : Free true Forms.context
    alone slots focus other (place, position, last, also, count, one, two) addresses f =
        ap (λ o. judged (context_item o) f) one ∙ sym (ap (λ o. judged (context_item o) f) two)

pub step_free : (at : Bool) (axis : Axis) (test : Test) (ps : List Plan) (p : Plan) → at ≡ true → p ≡ plan.Step axis test ps → IgnoresBy at p
step_free at axis test ps p here is = subst (λ b. IgnoresBy b p) (sym here) (by_meaning true p _ (ap plan_mean is ∙ plan_eq.plan-Step axis test ps) alone)
  where
    from : Slots → List Text → List Tree → Judged Place → Outcome (List Item)
    from slots addresses f r =
        go_on (r, f)
        (λ q. λ g. go_on (in_turn (Forms.filtered (frame_of slots None addresses)) (map Node (in_axis_order axis (axis_nodes g axis test q))) (map plan_mean ps) g)
        (λ ys. give (in_axis_order axis ys)))

    alone : Free true (Forms.step axis test (map plan_mean ps))
    alone slots focus other (place, position, last, also, count, one, two) addresses f =
        ap (λ o. from slots addresses f (context_node o)) one ∙ sym (ap (λ o. from slots addresses f (context_node o)) two)

-- # From what a start gives, with a focus of its own

pub filter_free : (at : Bool) (q : Plan) (ps : List Plan) (p : Plan) → p ≡ plan.Filter q ps → IgnoresBy at q → IgnoresBy at p
filter_free at q ps p is h =
    by_meaning at p _ (ap plan_mean is ∙ plan_eq.plan-Filter q ps)
    (λ slots focus other alike addresses f. ap (λ o. go_on o (λ xs. in_turn (Forms.filtered (frame_of slots other addresses)) xs (map plan_mean ps))) (h slots focus other alike addresses f))

pub map_free : (at : Bool) (q : Plan) (ps : List Plan) (p : Plan) → p ≡ plan.Map q ps → IgnoresBy at q → IgnoresBy at p
map_free at q ps p is h =
    by_meaning at p _ (ap plan_mean is ∙ plan_eq.plan-Map q ps)
    (λ slots focus other alike addresses f. ap (λ o. go_on o (λ xs. in_turn (Forms.bang (frame_of slots other addresses)) xs (map plan_mean ps))) (h slots focus other alike addresses f))

module _ (slots : Slots) (focus other : Option Focus) (addresses : List Text) where
  pub step_alike : (s : PlanStep) (xs : List Item) (f : List Tree) → plan_step_mean s (frame_of slots focus addresses) xs f ≡ plan_step_mean s (frame_of slots other addresses) xs f
  step_alike s xs f = by (out-PlanStep s) (roll-out-PlanStep s)
    where
      same : (t : PlanStep) → s ≡ t → plan_step_mean t (frame_of slots focus addresses) xs f ≡ plan_step_mean t (frame_of slots other addresses) xs f →
          plan_step_mean s (frame_of slots focus addresses) xs f ≡ plan_step_mean s (frame_of slots other addresses) xs f
      same t is h = subst (λ r. plan_step_mean r (frame_of slots focus addresses) xs f ≡ plan_step_mean r (frame_of slots other addresses) xs f) (sym is) h

      by : (form : PlanStep-F Plan PlanClause PlanStep) → roll-PlanStep form ≡ s → plan_step_mean s (frame_of slots focus addresses) xs f ≡ plan_step_mean s (frame_of slots other addresses) xs f
      by (PlanStep-F.Each part) e =
          let of = plan_eq.step-Each part in
          same (step.Each part) (sym e ∙ step.rolls-Each part)
          (ap (λ k. k (frame_of slots focus addresses) xs f) of ∙ sym (ap (λ k. k (frame_of slots other addresses) xs f) of))
      by (PlanStep-F.Scan axis test) e =
          let of = plan_eq.step-Scan axis test in
          same (step.Scan axis test) (sym e ∙ step.rolls-Scan axis test)
          (ap (λ k. k (frame_of slots focus addresses) xs f) of ∙ sym (ap (λ k. k (frame_of slots other addresses) xs f) of))

  steps_alike : (ss : List PlanStep) →
      AreRelated (λ x y. (xs : List Item) (f : List Tree) → next_step (frame_of slots focus addresses) xs x f ≡ next_step (frame_of slots other addresses) xs y f) (map plan_step_mean ss) (map plan_step_mean ss)
  steps_alike [] = tt
  steps_alike (s ∷ ss) = (step_alike s, steps_alike ss)

pub path_free : (at : Bool) (q : Plan) (ss : List PlanStep) (p : Plan) → p ≡ plan.Path q ss → IgnoresBy at q → IgnoresBy at p
path_free at q ss p is h =
    by_meaning at p _ (ap plan_mean is ∙ plan_eq.plan-Path q ss)
    (λ slots focus other alike addresses f.
    let here = frame_of slots focus addresses in
    let there = frame_of slots other addresses in
    then_same (plan_mean q here f) (plan_mean q there f) (λ xs. in_turn (next_step here) xs (map plan_step_mean ss)) (λ xs. in_turn (next_step there) xs (map plan_step_mean ss))
    (h slots focus other alike addresses f) (λ xs g. in_turn_same (next_step here) (next_step there) (map plan_step_mean ss) (map plan_step_mean ss) (steps_alike slots focus other addresses ss) xs g))

-- # Lists of parts

parts_alike : (at : Bool) (ps : List Plan) → AllByRecursion (IgnoresBy at) ps → (slots : Slots) (focus other : Option Focus) → AreAlike at focus other → (addresses : List Text) →
    AreRelated (λ (m n : Meaning). (f : List Tree) → m (frame_of slots focus addresses) f ≡ n (frame_of slots other addresses) f) (map plan_mean ps) (map plan_mean ps)
parts_alike at [] all slots focus other alike addresses = tt
parts_alike at (p ∷ ps) all slots focus other alike addresses = ((λ f. all.0 slots focus other alike addresses f), parts_alike at ps all.1 slots focus other alike addresses)

pub sequence_free : (at : Bool) (ps : List Plan) (p : Plan) → p ≡ plan.Sequence ps → AllByRecursion (IgnoresBy at) ps → IgnoresBy at p
sequence_free at ps p is all =
    by_meaning at p _ (ap plan_mean is ∙ plan_eq.plan-Sequence ps)
    (λ slots focus other alike addresses f.
    collected_same (λ (m : Meaning). m (frame_of slots focus addresses)) (λ (m : Meaning). m (frame_of slots other addresses)) (map plan_mean ps) (map plan_mean ps)
    (parts_alike at ps all slots focus other alike addresses) f)

operands_alike : (at : Bool) (os : List (Operator × Plan)) → AllByRecursion (OperandIgnores at) os → (slots : Slots) (focus other : Option Focus) → AreAlike at focus other → (addresses : List Text) →
    AreRelated (λ (x y : Operator × Meaning). (xs : List Item) (f : List Tree) → Forms.next_operand (frame_of slots focus addresses) xs x f ≡ Forms.next_operand (frame_of slots other addresses) xs y f)
    (map (λ (o : Operator × Plan). (o.0, plan_mean o.1)) os) (map (λ (o : Operator × Plan). (o.0, plan_mean o.1)) os)
operands_alike at [] all slots focus other alike addresses = tt
operands_alike at (o ∷ os) all slots focus other alike addresses = (
  (λ xs f. ap (λ r. go_on r (λ ys. on_trees (λ trees. operated o.0 trees xs ys))) (all.0 slots focus other alike addresses f)),
  operands_alike at os all.1 slots focus other alike addresses,
)

pub chain_free : (at : Bool) (q : Plan) (os : List (Operator × Plan)) (p : Plan) → p ≡ plan.Chain q os → IgnoresBy at q → AllByRecursion (OperandIgnores at) os → IgnoresBy at p
chain_free at q os p is h all =
    by_meaning at p _ (ap plan_mean is ∙ plan_eq.plan-Chain q os)
    (λ slots focus other alike addresses f.
    let here = frame_of slots focus addresses in
    let there = frame_of slots other addresses in
    let ms = map (λ (o : Operator × Plan). (o.0, plan_mean o.1)) os in
    then_same (plan_mean q here f) (plan_mean q there f) (λ xs. in_turn (Forms.next_operand here) xs ms) (λ xs. in_turn (Forms.next_operand there) xs ms)
    (h slots focus other alike addresses f) (λ xs g. in_turn_same (Forms.next_operand here) (Forms.next_operand there) ms ms (operands_alike at os all slots focus other alike addresses) xs g))

-- # Calls: with an argument a function asks nothing of the focus

pub some_argument : (function : Function) (trees : List Tree) (addresses : List Text) (focus other : Option Focus) (xs : List Item) (rest : List (List Item)) →
    called function trees addresses focus (xs ∷ rest) ≡ called function trees addresses other (xs ∷ rest)
some_argument function trees addresses focus other xs [] = refl
some_argument function trees addresses focus other xs (ys ∷ []) = refl
some_argument function trees addresses focus other xs (ys ∷ zs ∷ []) = refl
some_argument function trees addresses focus other xs (ys ∷ zs ∷ ws ∷ more) = refl

call_with : (function : Function) (addresses : List Text) (focus other : Option Focus) (act : Meaning → Doing (List Item)) (ms : List Meaning) (o : Outcome (List Item)) →
    go_on (go_on (go_on o (λ y. give (y ∷ []))) (λ n. in_turn (one_more act) n ms)) (λ values. on_trees (λ trees. called function trees addresses focus values))
    ≡ go_on (go_on (go_on o (λ y. give (y ∷ []))) (λ n. in_turn (one_more act) n ms)) (λ values. on_trees (λ trees. called function trees addresses other values))
call_with function addresses focus other act ms (Err code, f) = refl
call_with function addresses focus other act ms (Ok y, f) =
    begun_then act y ms (λ values. on_trees (λ trees. called function trees addresses focus values)) f
    ∙ go_on_same (for_each act ms f) (λ ys. on_trees (λ trees. called function trees addresses focus (y ∷ ys))) (λ ys. on_trees (λ trees. called function trees addresses other (y ∷ ys)))
    (λ ys g. ap (λ r. (r, g)) (some_argument function g addresses focus other y ys))
    ∙ sym (begun_then act y ms (λ values. on_trees (λ trees. called function trees addresses other values)) f)

pub call_free : (at : Bool) (function : Function) (ps : List Plan) (p : Plan) → p ≡ plan.Call function ps → ((ps ≡ []) → ⊥) → AllByRecursion (IgnoresBy at) ps → IgnoresBy at p
call_free at function [] p is some all = absurd (some refl)
call_free at function (q ∷ ps) p is some all =
    by_meaning at p _ (ap plan_mean is ∙ plan_eq.plan-Call function (q ∷ ps))
    (λ slots focus other alike addresses f.
    let here : Meaning → Doing (List Item) = λ m. m (frame_of slots focus addresses) in
    let there : Meaning → Doing (List Item) = λ m. m (frame_of slots other addresses) in
    ap (λ o. go_on o (λ values. on_trees (λ trees. called function trees addresses focus values)))
    (for_each_same here there (map plan_mean (q ∷ ps)) (map plan_mean (q ∷ ps)) (parts_alike at (q ∷ ps) all slots focus other alike addresses) f)
    ∙ call_with function addresses focus other there (map plan_mean ps) (plan_mean q (frame_of slots other addresses) f))
