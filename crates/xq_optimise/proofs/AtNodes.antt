-- Parts that give with a node in focus what others give with it in a slot: one lemma a form.
use Rattle.std.proofs.Common.{◌≡◌, ℕ, ℤ, List, [], ◌∷◌, map, length, Ok, Err, refl, sym, ap, ◌∙◌, inr}
use Rattle.std.specs.Prelude.{Option, Some}
use Rattle.std.specs.List.{AllByRecursion}
use Rattle.xq_atoms.specs.Text.{Text}
use Rattle.xq_expressions.specs.declared.signatures.Function.{Function}
use Rattle.xq_trees.specs.Tree.{Tree}
use Rattle.xq_meaning.specs.declared.joins.JoinKey.{JoinKey}
use Rattle.xq_meaning.specs.declared.joins.KeyForm.TheVariants as key_form
use Rattle.xq_meaning.specs.declared.operators.Operator.{Operator}
use Rattle.xq_meaning.specs.declared.plans.Plan.{Plan}
use Rattle.xq_meaning.specs.declared.plans.Plan.TheVariants as plan
use Rattle.xq_meaning.specs.declared.plans.PlanStep.{PlanStep}
use Rattle.xq_meaning.specs.Doing.{Outcome, go_on, give, on_trees, in_turn}
use Rattle.xq_meaning.specs.Forms
use Rattle.xq_meaning.specs.Functions.{Focus, called}
use Rattle.xq_meaning.specs.Items.{Item, Place, Node}
use Rattle.xq_meaning.specs.Operators.{operated}
use Rattle.xq_meaning.specs.PlanMeaning.{Slots, Frame, next_step, opened, plan_mean, plan_step_mean}
use Rattle.xq_meaning.specs.Same.{frame_of}
use Rattle.xq_meaning.proofs.PlanEquations as plan_eq
use Rattle.xq_meaning.proofs.SameForms.{AreRelated, then_same, in_turn_same}
use Rattle.xq_optimise.specs.Sure.{on_node, IgnoresFocus}
use Rattle.xq_optimise.specs.private.Filters.{LeadsTo}
use Rattle.xq_optimise.specs.private.FirstTests.{SameAtNode}
use Rattle.xq_optimise.specs.private.Joins.{IsOutside, StartsAt, StepOutside}
use Rattle.xq_optimise.proofs.FilterLaws.{scans_side}
use Rattle.xq_optimise.proofs.FocusFree.{some_argument, step_alike}
use Rattle.xq_optimise.proofs.JoinLaws.{plain_key}

-- # The node, and literals

pub key_at_node : (n : ℕ) (p part : Plan) (key : JoinKey) → key.slot ≡ n → key.form ≡ key_form.Value → StartsAt key.slot key.scans p → LeadsTo key.scans part → SameAtNode n p part
key_at_node n p part key slot form at leads slots focus addresses f long place position last =
    let frame = frame_of slots focus addresses in
    scans_side n key part slot form leads frame long place position last f
    ∙ plain_key key p form at (frame_of (opened slots (Node place ∷ [])) focus addresses) f

literal : (n : ℕ) (p q : Plan) (xs : List Item) → ((frame : Frame) (f : List Tree) → plan_mean p frame f ≡ (Ok xs, f)) → q ≡ p → SameAtNode n p q
literal n p q xs gives is slots focus addresses f long place position last =
    let here = frame_of slots (Some (on_node place position last)) addresses in
    ap (λ r. plan_mean r here f) is ∙ gives here f ∙ sym (gives (frame_of (opened slots (Node place ∷ [])) focus addresses) f)

pub int_at_node : (n : ℕ) (i : ℤ) (p q : Plan) → p ≡ plan.Int i → q ≡ plan.Int i → SameAtNode n p q
int_at_node n i p q is at = literal n p q _ (λ frame f. ap (λ m. m frame f) (ap plan_mean is ∙ plan_eq.plan-Int i)) (at ∙ sym is)

pub dec_at_node : (n : ℕ) (i : ℤ) (p q : Plan) → p ≡ plan.Dec i → q ≡ plan.Dec i → SameAtNode n p q
dec_at_node n i p q is at = literal n p q _ (λ frame f. ap (λ m. m frame f) (ap plan_mean is ∙ plan_eq.plan-Dec i)) (at ∙ sym is)

pub str_at_node : (n : ℕ) (t : Text) (p q : Plan) → p ≡ plan.Str t → q ≡ plan.Str t → SameAtNode n p q
str_at_node n t p q is at = literal n p q _ (λ frame f. ap (λ m. m frame f) (ap plan_mean is ∙ plan_eq.plan-Str t)) (at ∙ sym is)

-- a part that is the same for all
pub free_at_node : (n : ℕ) (p : Plan) → IsOutside n p → IgnoresFocus p → SameAtNode n p p
free_at_node n p outside free slots focus addresses f long place position last =
    free slots (Some (on_node place position last)) focus addresses f
    ∙ sym (outside.0 slots ((Node place ∷ []) ∷ []) focus addresses f (inr (sym long)))

-- # Parts of others

pub call_at_node : (n : ℕ) (function : Function) (p q whole found : Plan) → whole ≡ plan.Call function (p ∷ []) → found ≡ plan.Call function (q ∷ []) → SameAtNode n p q → SameAtNode n whole found
call_at_node n function p q whole found is at same slots focus addresses f long place position last =
    let node = Some (on_node place position last) in
    let here = frame_of slots node addresses in
    let there = frame_of (opened slots (Node place ∷ [])) focus addresses in
    ap (λ m. m here f) (ap plan_mean at ∙ plan_eq.plan-Call function (q ∷ []))
    ∙ ap (λ o. go_on (go_on (go_on o (λ y. give (y ∷ []))) (λ n. give n)) (λ values. on_trees (λ trees. called function trees addresses node values))) (same slots focus addresses f long place position last)
    ∙ by (plan_mean p there f)
    ∙ sym (ap (λ m. m there f) (ap plan_mean is ∙ plan_eq.plan-Call function (p ∷ [])))
  where
    by : (o : Outcome (List Item)) →
        go_on (go_on (go_on o (λ y. give (y ∷ []))) (λ n. give n)) (λ values. on_trees (λ trees. called function trees addresses (Some (on_node place position last)) values))
        ≡ go_on (go_on (go_on o (λ y. give (y ∷ []))) (λ n. give n)) (λ values. on_trees (λ trees. called function trees addresses focus values))
    by (Ok xs, g) = ap (λ r. (r, g)) (some_argument function g addresses (Some (on_node place position last)) focus xs [])
    by (Err code, g) = refl

steps_same : (n : ℕ) (ss : List PlanStep) → AllByRecursion (StepOutside n) ss → (slots : Slots) (node focus : Option Focus) (addresses : List Text) (place : Place) → length slots ≡ n →
    AreRelated (λ x y. (xs : List Item) (f : List Tree) → next_step (frame_of slots node addresses) xs x f ≡ next_step (frame_of (opened slots (Node place ∷ [])) focus addresses) xs y f)
    (map plan_step_mean ss) (map plan_step_mean ss)
steps_same n [] all slots node focus addresses place long = tt
steps_same n (s ∷ ss) all slots node focus addresses place long = (
  (λ xs f. step_alike slots node focus addresses s xs f ∙ sym (all.0.0 slots ((Node place ∷ []) ∷ []) focus addresses f (inr (sym long)) xs)),
  steps_same n ss all.1 slots node focus addresses place long,
)

pub path_at_node : (n : ℕ) (p q : Plan) (ss : List PlanStep) (whole found : Plan) → whole ≡ plan.Path p ss → found ≡ plan.Path q ss → AllByRecursion (StepOutside n) ss → SameAtNode n p q →
    SameAtNode n whole found
path_at_node n p q ss whole found is at all same slots focus addresses f long place position last =
    let node = Some (on_node place position last) in
    let here = frame_of slots node addresses in
    let there = frame_of (opened slots (Node place ∷ [])) focus addresses in
    ap (λ m. m here f) (ap plan_mean at ∙ plan_eq.plan-Path q ss)
    ∙ then_same (plan_mean q here f) (plan_mean p there f) (λ xs. in_turn (next_step here) xs (map plan_step_mean ss)) (λ xs. in_turn (next_step there) xs (map plan_step_mean ss))
    (same slots focus addresses f long place position last)
    (λ xs g. in_turn_same (next_step here) (next_step there) (map plan_step_mean ss) (map plan_step_mean ss) (steps_same n ss all slots node focus addresses place long) xs g)
    ∙ sym (ap (λ m. m there f) (ap plan_mean is ∙ plan_eq.plan-Path p ss))

pub pair_at_node : (n : ℕ) (op : Operator) (a b c d whole found : Plan) → whole ≡ plan.Chain a ((op, b) ∷ []) → found ≡ plan.Chain c ((op, d) ∷ []) → SameAtNode n a c → SameAtNode n b d →
    SameAtNode n whole found
pair_at_node n op a b c d whole found is at left right slots focus addresses f long place position last =
    let here = frame_of slots (Some (on_node place position last)) addresses in
    let there = frame_of (opened slots (Node place ∷ [])) focus addresses in
    ap (λ m. m here f) (ap plan_mean at ∙ plan_eq.plan-Chain c ((op, d) ∷ []))
    ∙ then_same (plan_mean c here f) (plan_mean a there f) (λ xs. in_turn (Forms.next_operand here) xs ((op, plan_mean d) ∷ [])) (λ xs. in_turn (Forms.next_operand there) xs ((op, plan_mean b) ∷ []))
    (left slots focus addresses f long place position last)
    (λ xs g. ap (λ o. go_on (go_on o (λ ys. on_trees (λ trees. operated op trees xs ys))) (λ n. give n)) (right slots focus addresses g long place position last))
    ∙ sym (ap (λ m. m there f) (ap plan_mean is ∙ plan_eq.plan-Chain a ((op, b) ∷ [])))
