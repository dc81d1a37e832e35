-- Parts that read no slot but those outside, and make no nodes: one lemma a form.
use Rattle.std.proofs.Common.{◌≡◌, ℕ, ℤ, zero, suc, ◌<◌, nat_lt, true, List, [], ◌∷◌, ◌++◌, map, length, Ok, ◌⊎◌, inl, inr, refl, sym, ap, ◌∙◌, arith}
use Rattle.std.specs.Prelude.{Option}
use Rattle.std.specs.List.{AllByRecursion}
use Rattle.std.proofs.lemmas.Bool.{ltb-true}
use Rattle.xq_atoms.specs.Text.{Text}
use Rattle.xq_expressions.specs.declared.operators.Sign.{Sign}
use Rattle.xq_expressions.specs.declared.signatures.Function.{Function}
use Rattle.xq_trees.specs.declared.Axis.{Axis}
use Rattle.xq_trees.specs.Tree.{Tree}
use Rattle.xq_trees.specs.Tuples.{value_at}
use Rattle.xq_meaning.specs.declared.node_tests.Test.{Test}
use Rattle.xq_meaning.specs.declared.operators.Operator.{Operator}
use Rattle.xq_meaning.specs.declared.plans.Plan.{Plan}
use Rattle.xq_meaning.specs.declared.plans.Plan.TheVariants as plan
use Rattle.xq_meaning.specs.declared.plans.PlanStep.{PlanStep}
use Rattle.xq_meaning.specs.declared.plans.PlanStep.TheVariants as step
use Rattle.xq_meaning.specs.Doing.{in_turn}
use Rattle.xq_meaning.specs.Functions.{Focus}
use Rattle.xq_meaning.specs.Items.{Item}
use Rattle.xq_meaning.specs.PlanMeaning.{Slots, Frame, Meaning, next_step, plan_mean, plan_step_mean}
use Rattle.xq_meaning.specs.Same.{frame_of}
use Rattle.xq_meaning.proofs.PlanEquations as plan_eq
use Rattle.xq_meaning.proofs.SameForms.{AreRelated, then_same, in_turn_same, Same, AllSame, SameOperand, call_same, sequence_same, chain_same, unary_same, conditional_same, map_same, or_same, and_same, filter_same, slash_same, step_same}
use Rattle.xq_optimise.specs.private.Joins.{IsOutside, OperandOutside, StepOutside}
use Rattle.xq_optimise.proofs.Leaving.{Quiet, Leaves, then_leaves, turns_leave, call_quiet, sequence_quiet, or_quiet, and_quiet, if_quiet, unary_quiet, chain_quiet, map_quiet, filter_quiet, step_quiet, slash_leaves, scan_leaves, root_quiet}

value_outside : (n : ℕ) (slots more : Slots) → n < length slots → value_at n (slots ++ more) ≡ value_at n slots
value_outside n [] more h = absurd (omega arith)
value_outside zero (x ∷ slots) more h = refl
value_outside (suc n) (x ∷ slots) more h = value_outside n slots more (omega (arith, h))

module _ (outer : ℕ) where
  -- the slots are those outside
  abbrev At : Slots → Type 0
  At slots = (outer ≡ 0) ⊎ (outer ≡ length slots)

  -- with more slots it gives the same
  abbrev IsAlike : Meaning → Type 0
  IsAlike m = (slots more : Slots) (addresses : List Text) → At slots → Same addresses (slots ++ more) slots m m

  by_meaning : (p : Plan) (m : Meaning) → plan_mean p ≡ m → Quiet m → IsAlike m → IsOutside outer p
  by_meaning p m is quiet same = (
    (λ slots more focus addresses trees at.
        ap (λ k. k (frame_of (slots ++ more) focus addresses) trees) is
        ∙ same slots more addresses at focus trees
        ∙ sym (ap (λ k. k (frame_of slots focus addresses) trees) is)),
    (λ frame f. let own = quiet frame f in (own.0, ap (λ k. k frame f) is ∙ own.1)),
  )

  alike : (p : Plan) → IsOutside outer p → IsAlike (plan_mean p)
  alike p h slots more addresses at focus f = h.0 slots more focus addresses f at

  alls : (ps : List Plan) → AllByRecursion (IsOutside outer) ps → (slots more : Slots) (addresses : List Text) → At slots →
      AllSame addresses (slots ++ more) slots (map plan_mean ps) (map plan_mean ps)
  alls [] all slots more addresses at = tt
  alls (p ∷ ps) all slots more addresses at = (alike p all.0 slots more addresses at, alls ps all.1 slots more addresses at)

  quiets : (ps : List Plan) → AllByRecursion (IsOutside outer) ps → AllByRecursion Quiet (map plan_mean ps)
  quiets [] all = tt
  quiets (p ∷ ps) all = (all.0.1, quiets ps all.1)

  -- # Forms without parts

  pub int_outside : (n : ℤ) (p : Plan) → p ≡ plan.Int n → IsOutside outer p
  int_outside n p is = by_meaning p _ (ap plan_mean is ∙ plan_eq.plan-Int n) (λ frame f. (_, refl)) (λ slots more addresses at focus f. refl)

  pub dec_outside : (n : ℤ) (p : Plan) → p ≡ plan.Dec n → IsOutside outer p
  dec_outside n p is = by_meaning p _ (ap plan_mean is ∙ plan_eq.plan-Dec n) (λ frame f. (_, refl)) (λ slots more addresses at focus f. refl)

  pub str_outside : (t : Text) (p : Plan) → p ≡ plan.Str t → IsOutside outer p
  str_outside t p is = by_meaning p _ (ap plan_mean is ∙ plan_eq.plan-Str t) (λ frame f. (_, refl)) (λ slots more addresses at focus f. refl)

  pub context_outside : (p : Plan) → p ≡ plan.ContextItem → IsOutside outer p
  context_outside p is = by_meaning p _ (ap plan_mean is ∙ plan_eq.plan-ContextItem) (λ frame f. (_, refl)) (λ slots more addresses at focus f. refl)

  pub root_outside : (p : Plan) → p ≡ plan.Root → IsOutside outer p
  root_outside p is = by_meaning p _ (ap plan_mean is ∙ plan_eq.plan-Root) root_quiet (λ slots more addresses at focus f. refl)

  pub slot_outside : (n : ℕ) (p : Plan) → p ≡ plan.Slot n → n < outer → IsOutside outer p
  slot_outside n p is below = by_meaning p _ (ap plan_mean is ∙ plan_eq.plan-Slot n) (λ frame f. (_, refl))
      (λ slots more addresses at focus f. elim at [
        | inl none ↦ absurd (omega (arith, none, below))
        | inr e ↦ ap (λ xs. (Ok xs, f)) (value_outside n slots more (omega (arith, e, below)))
      ])

  pub slot_within : (n : ℕ) (p : Plan) → p ≡ plan.Slot n → nat_lt n outer ≡ true → IsOutside outer p
  slot_within n p is e = slot_outside n p is (ltb-true n outer e)

  -- # Forms with parts

  pub call_outside : (name : Function) (ps : List Plan) (p : Plan) → p ≡ plan.Call name ps → AllByRecursion (IsOutside outer) ps → IsOutside outer p
  call_outside name ps p is all = by_meaning p _ (ap plan_mean is ∙ plan_eq.plan-Call name ps) (call_quiet name (map plan_mean ps) (quiets ps all))
      (λ slots more addresses at. call_same addresses (slots ++ more) slots name (map plan_mean ps) (map plan_mean ps) (alls ps all slots more addresses at))

  pub sequence_outside : (ps : List Plan) (p : Plan) → p ≡ plan.Sequence ps → AllByRecursion (IsOutside outer) ps → IsOutside outer p
  sequence_outside ps p is all = by_meaning p _ (ap plan_mean is ∙ plan_eq.plan-Sequence ps) (sequence_quiet (map plan_mean ps) (quiets ps all))
      (λ slots more addresses at. sequence_same addresses (slots ++ more) slots (map plan_mean ps) (map plan_mean ps) (alls ps all slots more addresses at))

  pub or_outside : (ps : List Plan) (p : Plan) → p ≡ plan.Or ps → AllByRecursion (IsOutside outer) ps → IsOutside outer p
  or_outside ps p is all = by_meaning p _ (ap plan_mean is ∙ plan_eq.plan-Or ps) (or_quiet (map plan_mean ps) (quiets ps all))
      (λ slots more addresses at. or_same addresses (slots ++ more) slots (map plan_mean ps) (map plan_mean ps) (alls ps all slots more addresses at))

  pub and_outside : (ps : List Plan) (p : Plan) → p ≡ plan.And ps → AllByRecursion (IsOutside outer) ps → IsOutside outer p
  and_outside ps p is all = by_meaning p _ (ap plan_mean is ∙ plan_eq.plan-And ps) (and_quiet (map plan_mean ps) (quiets ps all))
      (λ slots more addresses at. and_same addresses (slots ++ more) slots (map plan_mean ps) (map plan_mean ps) (alls ps all slots more addresses at))

  pub if_outside : (q r z p : Plan) → p ≡ plan.If q r z → IsOutside outer q → IsOutside outer r → IsOutside outer z → IsOutside outer p
  if_outside q r z p is h k l = by_meaning p _ (ap plan_mean is ∙ plan_eq.plan-If q r z) (if_quiet (plan_mean q) (plan_mean r) (plan_mean z) h.1 k.1 l.1)
      (λ slots more addresses at. conditional_same addresses (slots ++ more) slots (plan_mean q) (plan_mean r) (plan_mean z) (plan_mean q) (plan_mean r) (plan_mean z)
      (alike q h slots more addresses at) (alike r k slots more addresses at) (alike z l slots more addresses at))

  pub unary_outside : (signs : List Sign) (q p : Plan) → p ≡ plan.Unary signs q → IsOutside outer q → IsOutside outer p
  unary_outside signs q p is h = by_meaning p _ (ap plan_mean is ∙ plan_eq.plan-Unary signs q) (unary_quiet signs (plan_mean q) h.1)
      (λ slots more addresses at. unary_same addresses (slots ++ more) slots signs (plan_mean q) (plan_mean q) (alike q h slots more addresses at))

  abbrev mean_operand : Operator × Plan → Operator × Meaning
  mean_operand o = (o.0, plan_mean o.1)

  operands : (os : List (Operator × Plan)) → AllByRecursion (OperandOutside outer) os → (slots more : Slots) (addresses : List Text) → At slots →
      AreRelated (SameOperand addresses (slots ++ more) slots) (map mean_operand os) (map mean_operand os)
  operands [] all slots more addresses at = tt
  operands (o ∷ os) all slots more addresses at = ((refl, alike o.1 all.0 slots more addresses at), operands os all.1 slots more addresses at)

  quiet_operands : (os : List (Operator × Plan)) → AllByRecursion (OperandOutside outer) os →
      AllByRecursion (λ (o : Operator × Meaning). Quiet o.1) (map mean_operand os)
  quiet_operands [] all = tt
  quiet_operands (o ∷ os) all = (all.0.1, quiet_operands os all.1)

  pub chain_outside : (q : Plan) (os : List (Operator × Plan)) (p : Plan) → p ≡ plan.Chain q os → IsOutside outer q → AllByRecursion (OperandOutside outer) os → IsOutside outer p
  chain_outside q os p is h all = by_meaning p _ (ap plan_mean is ∙ plan_eq.plan-Chain q os) (chain_quiet (plan_mean q) (map mean_operand os) h.1 (quiet_operands os all))
      (λ slots more addresses at. chain_same addresses (slots ++ more) slots (plan_mean q) (plan_mean q) (map mean_operand os) (map mean_operand os) (alike q h slots more addresses at) (operands os all slots more addresses at))

  pub map_outside : (q : Plan) (ps : List Plan) (p : Plan) → p ≡ plan.Map q ps → IsOutside outer q → AllByRecursion (IsOutside outer) ps → IsOutside outer p
  map_outside q ps p is h all = by_meaning p _ (ap plan_mean is ∙ plan_eq.plan-Map q ps) (map_quiet (plan_mean q) (map plan_mean ps) h.1 (quiets ps all))
      (λ slots more addresses at. map_same addresses (slots ++ more) slots (plan_mean q) (plan_mean q) (map plan_mean ps) (map plan_mean ps) (alike q h slots more addresses at) (alls ps all slots more addresses at))

  pub filter_outside : (q : Plan) (ps : List Plan) (p : Plan) → p ≡ plan.Filter q ps → IsOutside outer q → AllByRecursion (IsOutside outer) ps → IsOutside outer p
  filter_outside q ps p is h all = by_meaning p _ (ap plan_mean is ∙ plan_eq.plan-Filter q ps) (filter_quiet (plan_mean q) (map plan_mean ps) h.1 (quiets ps all))
      (λ slots more addresses at. filter_same addresses (slots ++ more) slots (plan_mean q) (plan_mean q) (map plan_mean ps) (map plan_mean ps) (alike q h slots more addresses at) (alls ps all slots more addresses at))

  -- # Paths

  pub step_outside : (axis : Axis) (test : Test) (ps : List Plan) (p : Plan) → p ≡ plan.Step axis test ps → AllByRecursion (IsOutside outer) ps → IsOutside outer p
  step_outside axis test ps p is all = by_meaning p _ (ap plan_mean is ∙ plan_eq.plan-Step axis test ps) (step_quiet axis test (map plan_mean ps) (quiets ps all))
      (λ slots more addresses at. step_same addresses (slots ++ more) slots axis test (map plan_mean ps) (map plan_mean ps) (alls ps all slots more addresses at))

  pub scan_outside : (axis : Axis) (test : Test) (s : PlanStep) → s ≡ step.Scan axis test → StepOutside outer s
  scan_outside axis test s is =
      let e = ap plan_step_mean is ∙ plan_eq.step-Scan axis test in (
        (λ slots more focus addresses trees at xs.
            ap (λ k. k (frame_of (slots ++ more) focus addresses) xs trees) e
            ∙ sym (ap (λ k. k (frame_of slots focus addresses) xs trees) e)),
        (λ frame xs f. let own = scan_leaves axis test xs f in (own.0, ap (λ k. k frame xs f) e ∙ own.1)),
      )

  pub each_outside : (q : Plan) (s : PlanStep) → s ≡ step.Each q → IsOutside outer q → StepOutside outer s
  each_outside q s is h =
      let e = ap plan_step_mean is ∙ plan_eq.step-Each q in (
        (λ slots more focus addresses trees at xs.
            ap (λ k. k (frame_of (slots ++ more) focus addresses) xs trees) e
            ∙ slash_same addresses (slots ++ more) slots focus (plan_mean q) (plan_mean q) (alike q h slots more addresses at) xs trees
            ∙ sym (ap (λ k. k (frame_of slots focus addresses) xs trees) e)),
        (λ frame xs f. let own = slash_leaves (plan_mean q) h.1 frame xs f in (own.0, ap (λ k. k frame xs f) e ∙ own.1)),
      )

  quiet_steps : (frame : Frame) (ss : List PlanStep) → AllByRecursion (StepOutside outer) ss →
      AllByRecursion (λ m. (xs : List Item) → Leaves (next_step frame xs m)) (map plan_step_mean ss)
  quiet_steps frame [] all = tt
  quiet_steps frame (s ∷ ss) all = (all.0.1 frame, quiet_steps frame ss all.1)

  abbrev NextSame : Frame → Frame → PlanStep → Type 0
  NextSame here there s = (xs : List Item) (f : List Tree) → plan_step_mean s here xs f ≡ plan_step_mean s there xs f

  next_same : (ss : List PlanStep) → AllByRecursion (StepOutside outer) ss → (slots more : Slots) (addresses : List Text) → At slots → (focus : Option Focus) →
      AllByRecursion (NextSame (frame_of (slots ++ more) focus addresses) (frame_of slots focus addresses)) ss
  next_same [] all slots more addresses at focus = tt
  next_same (s ∷ ss) all slots more addresses at focus = ((λ xs f. all.0.0 slots more focus addresses f at xs), next_same ss all.1 slots more addresses at focus)

  all_steps : (here there : Frame) (ss : List PlanStep) → AllByRecursion (NextSame here there) ss →
      AreRelated (λ x y. (xs : List Item) (f : List Tree) → next_step here xs x f ≡ next_step there xs y f) (map plan_step_mean ss) (map plan_step_mean ss)
  all_steps here there [] all = tt
  all_steps here there (s ∷ ss) all = (all.0, all_steps here there ss all.1)

  pub path_outside : (q : Plan) (ss : List PlanStep) (p : Plan) → p ≡ plan.Path q ss → IsOutside outer q → AllByRecursion (StepOutside outer) ss → IsOutside outer p
  path_outside q ss p is h all = by_meaning p _ (ap plan_mean is ∙ plan_eq.plan-Path q ss) (λ frame. then_leaves (plan_mean q frame) (λ xs. in_turn (next_step frame) xs (map plan_step_mean ss)) (h.1 frame) (λ xs. turns_leave (next_step frame) (map plan_step_mean ss) (quiet_steps frame ss all) xs))
      (λ slots more addresses at focus f.
      let here = frame_of (slots ++ more) focus addresses in
      let there = frame_of slots focus addresses in
      then_same (plan_mean q here f) (plan_mean q there f) (λ xs. in_turn (next_step here) xs (map plan_step_mean ss)) (λ xs. in_turn (next_step there) xs (map plan_step_mean ss))
      (h.0 slots more focus addresses f at)
      (λ xs g. in_turn_same (next_step here) (next_step there) (map plan_step_mean ss) (map plan_step_mean ss)
      (all_steps here there ss (next_same ss all slots more addresses at focus)) xs g))
