-- The forms of plans, and what a path comes to that scans a document.
use Rattle.std.proofs.Common.{◌≡◌, List, [], ◌∷◌, map, Option, Some, None, refl, sym, ap, ◌∙◌, subst}
use Rattle.xq_atoms.specs.Text.{Text}
use Rattle.xq_trees.specs.declared.Axis.{Axis}
use Rattle.xq_expressions.specs.declared.signatures.Function.TheVariants.{Doc}
use Rattle.xq_meaning.specs.declared.node_tests.Test.{Test}
use Rattle.xq_meaning.specs.declared.normal_forms.Core.{Core, out-Core}
use Rattle.xq_meaning.specs.declared.normal_forms.Core.TheOpen.{Core-F}
use Rattle.xq_meaning.specs.declared.normal_forms.Core.TheVariants as core
use Rattle.xq_meaning.specs.declared.plans.Plan.{Plan, out-Plan}
use Rattle.xq_meaning.specs.declared.plans.Plan.TheOpen.{Plan-F}
use Rattle.xq_meaning.specs.declared.plans.PlanClause.{PlanClause}
use Rattle.xq_meaning.specs.declared.plans.Plan.TheVariants as plan
use Rattle.xq_meaning.specs.declared.plans.PlanStep.{PlanStep}
use Rattle.xq_meaning.specs.declared.plans.PlanStep.TheVariants as step
use Rattle.xq_plan.specs.Scans.{ScansDocument}
use Rattle.xq_meaning.specs.Same.{IsPlan}
use Rattle.xq_plan.specs.private.Plans.{AreAll, IsStep}
use Rattle.xq_plan.specs.private.Shapes.{Where, Form, literal, plain_step, IsLiteral, IsCallOf, IsPlainStep, IsScan, BecomesScan, IsPath, HasShapeOf, HasShape}

-- a part with its plan, and a part after a slash
abbrev pub IsPart : List Text → Core → Plan → Type 0
IsPart names c p = IsPlan names c p × IsLiteral c p

abbrev pub IsStepOrScan : List Text → Core → PlanStep → Type 0
IsStepOrScan names c s = IsStep names c s × IsScan c s

pub shape_at : (c : Core) (x : Form) (p : Plan) → out-Core c ≡ x → HasShapeOf x p → HasShape c p
shape_at c x p is shape = subst (λ y. HasShapeOf y p) (sym is) shape

-- where each is in one relation to its counterpart, it is in another that follows
pub all_are : {A B : Type 0} (R Q : A → B → Type 0) → ((x : A) (y : B) → R x y → Q x y) → (xs : List A) (ys : List B) → AreAll R xs ys → AreAll Q xs ys
all_are R Q f [] [] h = tt
all_are R Q f [] (y ∷ ys) h = absurd h
all_are R Q f (x ∷ xs) [] h = absurd h
all_are R Q f (x ∷ xs) (y ∷ ys) h = (f x y h.0, all_are R Q f xs ys h.1)

-- a step without predicates has none in its plan
pub step_shape : (R : Core → Plan → Type 0) (axis : Axis) (test : Test) (cs : List Core) (ps : List Plan) → AreAll R cs ps →
    IsPlainStep (Core-F.Step axis test cs) (plan.Step axis test ps)
step_shape R axis t [] [] h = refl
step_shape R axis t [] (p ∷ ps) h = absurd h
step_shape R axis t (c ∷ cs) ps h = tt

scan_where : (o : Option (Axis × Test)) (p : Plan) (s : PlanStep) → Where o (λ it. p ≡ plan.Step it.0 it.1 []) → BecomesScan p s →
    Where o (λ it. s ≡ step.Scan it.0 it.1)
scan_where None p s h k = tt
scan_where (Some it) p s h k = k it.0 it.1 h

pub scan_of : (c : Core) (p : Plan) (s : PlanStep) → IsPlainStep (out-Core c) p → BecomesScan p s → IsScan c s
scan_of c p s h k = scan_where (plain_step (out-Core c)) p s h k

-- a plan, opened once, that is a step
abbrev PlanForm : Type 0
PlanForm = Plan-F Plan PlanClause PlanStep

abbrev opened : Axis → Test → List Plan → PlanForm
opened axis t ps = Plan-F.Step axis t ps

abbrev predicates_of : PlanForm → List Plan
predicates_of (Plan-F.Step axis t ps) = ps
predicates_of other = []

abbrev scan_in : PlanStep → PlanForm → PlanStep
scan_in s (Plan-F.Step axis t ps) = step.Scan axis t
scan_in s other = s

-- two plans that are steps
module _ (a b : Axis) (t u : Test) (ps qs : List Plan) (same : plan.Step a t ps ≡ plan.Step b u qs) where
  same_out : opened a t ps ≡ opened b u qs
  same_out = sym (plan.outs-Step a t ps) ∙ ap out-Plan same ∙ plan.outs-Step b u qs

  pub same_predicates : ps ≡ qs
  same_predicates = ap predicates_of same_out

  pub same_scan : step.Scan a t ≡ step.Scan b u
  same_scan = ap (scan_in (step.Scan b u)) same_out

scan_is : (x : Axis × Test) (s : PlanStep) → IsScan (core.Step x.0 x.1 []) s → s ≡ step.Scan x.0 x.1
scan_is x s h = subst (λ y. Where (plain_step y) (λ it. s ≡ step.Scan it.0 it.1)) (core.outs-Step x.0 x.1 []) h

literal_is : (address : Text) (p : Plan) → IsLiteral (core.Str address) p → p ≡ plan.Str address
literal_is address p h = subst (λ y. Where (literal y) (λ value. p ≡ plan.Str value)) (core.outs-Str address) h

all_scans : (steps : List (Axis × Test)) (ss : List PlanStep) → AreAll IsScan (map (λ s. core.Step s.0 s.1 []) steps) ss →
    ss ≡ map (λ s. step.Scan s.0 s.1) steps
all_scans [] [] h = refl
all_scans [] (s ∷ ss) h = absurd h
all_scans (x ∷ xs) [] h = absurd h
all_scans (x ∷ xs) (s ∷ ss) h =
    ap (λ y. y ∷ ss) (scan_is x s h.0) ∙ ap (λ ys. step.Scan x.0 x.1 ∷ ys) (all_scans xs ss h.1)

one_literal : (address : Text) (ps : List Plan) → AreAll IsLiteral (core.Str address ∷ []) ps → ps ≡ plan.Str address ∷ []
one_literal address [] h = absurd h
one_literal address (p ∷ []) h = ap (λ q. q ∷ []) (literal_is address p h.0)
one_literal address (p ∷ q ∷ qs) h = absurd h.1

pub scans_document : (c : Core) (p : Plan) → HasShape c p → ScansDocument c p
scans_document c p shape address steps is =
    let document = core.Call Doc (core.Str address ∷ []) in
    let parts = map (λ (s : Axis × Test). core.Step s.0 s.1 []) steps in
    let it : IsPath (Core-F.Path document parts) p =
    subst (λ y. IsPath y p) (ap out-Core is ∙ core.outs-Path document parts) shape.3 in
    let call : IsCallOf (Core-F.Call Doc (core.Str address ∷ [])) it.0 =
    subst (λ y. IsCallOf y it.0) (core.outs-Call Doc (core.Str address ∷ [])) it.3 in
    it.2 ∙ ap (λ q. plan.Path q it.1) (call.1 ∙ ap (plan.Call Doc) (one_literal address call.0 call.2))
    ∙ ap (plan.Path (plan.Call Doc (plan.Str address ∷ []))) (all_scans steps it.1 it.4)
