-- Parts that read only slots that are known.
use Rattle.std.proofs.Common.{◌≡◌, ℕ, zero, suc, List, [], ◌∷◌, ◌++◌, map, refl, sym, ap, ◌∙◌, subst}
use Rattle.std.specs.Prelude.{Some, Ok, slice_get}
use Rattle.std.specs.List.{AllByRecursion}
use Rattle.xq_atoms.specs.Text.{Text}
use Rattle.xq_expressions.specs.declared.operators.Relation.{Relation}
use Rattle.xq_expressions.specs.declared.operators.ComparisonOperator.TheVariants as comparing
use Rattle.xq_trees.specs.Tree.{Tree}
use Rattle.xq_trees.specs.Tuples.{value_at}
use Rattle.xq_meaning.specs.declared.operators.Operator.TheVariants as operator
use Rattle.xq_meaning.specs.declared.plans.Plan.{Plan}
use Rattle.xq_meaning.specs.declared.plans.Plan.TheVariants as plan
use Rattle.xq_meaning.specs.declared.plans.PlanStep.{PlanStep}
use Rattle.xq_meaning.specs.Doing.{in_turn}
use Rattle.xq_meaning.specs.Items.{Item}
use Rattle.xq_meaning.specs.PlanMeaning.{Slots, Frame, next_step, plan_mean, plan_step_mean}
use Rattle.xq_meaning.specs.Same.{frame_of}
use Rattle.xq_meaning.proofs.PlanEquations as plan_eq
use Rattle.xq_meaning.proofs.SameForms.{AreRelated, then_same, in_turn_same, chain_same, Same}
use Rattle.xq_optimise.specs.declared.held.Held.{Held}
use Rattle.xq_optimise.specs.Known.{Fits}
use Rattle.xq_optimise.specs.Sure.{SurelyNodes, SurelyTexts, ReadsBelow, IgnoresFocus, IsTest}
use Rattle.xq_optimise.specs.private.Parts.{IsKnown, IsScan, general_comparison, IsOfNodes}
use Rattle.xq_optimise.proofs.Scans.{slot_surely, path_surely}
use Rattle.xq_optimise.proofs.Tests.{comparison_tells}

none_held : (m : ℕ) (a : Held) → (let none : List Held = [] in slice_get none m) ≡ Some a → ⊥
none_held zero a e = cc
none_held (suc m) a e = cc

pub value_below : (n : ℕ) (known : List Held) (slots more : Slots) (held : Held) → Fits known slots →
    slice_get known n ≡ Some held → value_at n (slots ++ more) ≡ value_at n slots
value_below n [] [] more held h is = absurd (none_held n held is)
value_below n [] (x ∷ slots) more held h is = absurd h
value_below n (a ∷ known) [] more held h is = absurd h
value_below zero (a ∷ known) (x ∷ slots) more held h is = refl
value_below (suc n) (a ∷ known) (x ∷ slots) more held h is = value_below n known slots more held h.1 is

pub slot_below : (known : List Held) (n : ℕ) (held : Held) → slice_get known n ≡ Some held → ReadsBelow known (plan.Slot n)
slot_below known n held is slots more focus addresses trees fits =
    ap (λ m. m (frame_of (slots ++ more) focus addresses) trees) (plan_eq.plan-Slot n)
    ∙ ap (λ xs. (Ok xs, trees)) (value_below n known slots more held fits is)
    ∙ sym (ap (λ m. m (frame_of slots focus addresses) trees) (plan_eq.plan-Slot n))

pub string_below : (known : List Held) (t : Text) → ReadsBelow known (plan.Str t)
string_below known t slots more focus addresses trees fits =
    ap (λ m. m (frame_of (slots ++ more) focus addresses) trees) (plan_eq.plan-Str t)
    ∙ sym (ap (λ m. m (frame_of slots focus addresses) trees) (plan_eq.plan-Str t))

-- scans ask nothing of the frame
scan_alike : (frame other : Frame) (s : PlanStep) → IsScan s → (xs : List Item) (f : List Tree) →
    plan_step_mean s frame xs f ≡ plan_step_mean s other xs f
scan_alike frame other s (axis, test, is) xs f =
    let e = ap plan_step_mean is ∙ plan_eq.step-Scan axis test in
    ap (λ m. m frame xs f) e ∙ sym (ap (λ m. m other xs f) e)

pub scans_alike : (frame other : Frame) (steps : List PlanStep) → AllByRecursion IsScan steps →
    AreRelated (λ x y. (xs : List Item) (f : List Tree) → next_step frame xs x f ≡ next_step other xs y f) (map plan_step_mean steps) (map plan_step_mean steps)
scans_alike frame other [] all = tt
scans_alike frame other (s ∷ steps) all = (scan_alike frame other s all.0, scans_alike frame other steps all.1)

pub path_below : (known : List Held) (start : Plan) (steps : List PlanStep) → ReadsBelow known start →
    AllByRecursion IsScan steps → ReadsBelow known (plan.Path start steps)
path_below known start steps h all slots more focus addresses trees fits =
    let frame = frame_of (slots ++ more) focus addresses in
    let other = frame_of slots focus addresses in
    ap (λ m. m frame trees) (plan_eq.plan-Path start steps)
    ∙ then_same (plan_mean start frame trees) (plan_mean start other trees) (λ xs. in_turn (next_step frame) xs (map plan_step_mean steps)) (λ xs. in_turn (next_step other) xs (map plan_step_mean steps))
    (h slots more focus addresses trees fits)
    (λ xs f. in_turn_same (next_step frame) (next_step other) (map plan_step_mean steps) (map plan_step_mean steps) (scans_alike frame other steps all) xs f)
    ∙ sym (ap (λ m. m other trees) (plan_eq.plan-Path start steps))

-- # The focus

pub slot_ignores : (n : ℕ) → IgnoresFocus (plan.Slot n)
slot_ignores n slots focus other addresses trees =
    ap (λ m. m (frame_of slots focus addresses) trees) (plan_eq.plan-Slot n)
    ∙ sym (ap (λ m. m (frame_of slots other addresses) trees) (plan_eq.plan-Slot n))

path_ignores : (start : Plan) (steps : List PlanStep) → IgnoresFocus start → AllByRecursion IsScan steps →
    IgnoresFocus (plan.Path start steps)
path_ignores start steps h all slots focus other addresses trees =
    let here = frame_of slots focus addresses in
    let there = frame_of slots other addresses in
    ap (λ m. m here trees) (plan_eq.plan-Path start steps)
    ∙ then_same (plan_mean start here trees) (plan_mean start there trees) (λ xs. in_turn (next_step here) xs (map plan_step_mean steps)) (λ xs. in_turn (next_step there) xs (map plan_step_mean steps))
    (h slots focus other addresses trees)
    (λ xs f. in_turn_same (next_step here) (next_step there) (map plan_step_mean steps) (map plan_step_mean steps) (scans_alike here there steps all) xs f)
    ∙ sym (ap (λ m. m there trees) (plan_eq.plan-Path start steps))

-- # Comparisons

-- in both environments, whatever the focus is
both : (known : List Held) (p : Plan) → ReadsBelow known p → (slots more : Slots) (addresses : List Text) → Fits known slots →
    Same addresses (slots ++ more) slots (plan_mean p) (plan_mean p)
both known p h slots more addresses fits focus f = h slots more focus addresses f fits

pub comparison_below : (known : List Held) (relation : Relation) (p q : Plan) → ReadsBelow known p → ReadsBelow known q →
    ReadsBelow known (general_comparison relation p q)
comparison_below known relation p q h k slots more focus addresses trees fits =
    let op = operator.Comparison (comparing.General relation) in
    ap (λ m. m (frame_of (slots ++ more) focus addresses) trees) (plan_eq.plan-Chain p ((op, q) ∷ []))
    ∙ chain_same addresses (slots ++ more) slots (plan_mean p) (plan_mean p) ((op, plan_mean q) ∷ []) ((op, plan_mean q) ∷ [])
    (both known p h slots more addresses fits) ((refl, both known q k slots more addresses fits), tt) focus trees
    ∙ sym (ap (λ m. m (frame_of slots focus addresses) trees) (plan_eq.plan-Chain p ((op, q) ∷ [])))

-- # Parts whose form is known

pub path_at : (known : List Held) (p start : Plan) (steps : List PlanStep) (n : ℕ) → p ≡ plan.Path start steps → start ≡ plan.Slot n →
    IsKnown IsOfNodes known n → AllByRecursion IsScan steps → SurelyNodes known p × ReadsBelow known p × IgnoresFocus p
path_at known p start steps n is slot held all =
    let whole : p ≡ plan.Path (plan.Slot n) steps = is ∙ ap (λ s. plan.Path s steps) slot in (
      subst (SurelyNodes known) (sym whole) (path_surely known (plan.Slot n) steps (slot_surely known n held) all),
      subst (ReadsBelow known) (sym whole) (path_below known (plan.Slot n) steps (slot_below known n held.0 held.1) all),
      subst IgnoresFocus (sym whole) (path_ignores (plan.Slot n) steps (slot_ignores n) all),
    )

pub comparison_is_test : (known : List Held) (relation : Relation) (p q r : Plan) → r ≡ general_comparison relation p q →
    SurelyTexts known p → ReadsBelow known p → SurelyTexts known q → ReadsBelow known q → IsTest known r
comparison_is_test known relation p q r is h below k lower =
    subst (IsTest known) (sym is)
    (record { tells = comparison_tells known relation p q h k; below = comparison_below known relation p q below lower })
