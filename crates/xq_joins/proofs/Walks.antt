-- Scans one after another: they refuse no node, construct nothing, and need no slot.
use Rattle.std.proofs.Common.{◌≡◌, List, [], ◌∷◌, ◌++◌, map, Ok, Err, refl, sym, ◌∙◌, ap}
use Rattle.std.specs.List.{AllByRecursion, flat_map}
use Rattle.xq_atoms.specs.declared.refusals.Code.TheVariants.{XPTY0019}
use Rattle.xq_trees.specs.declared.Axis.{Axis}
use Rattle.xq_trees.specs.Tree.{Tree}
use Rattle.xq_meaning.specs.declared.node_tests.Test.{Test}
use Rattle.xq_meaning.specs.declared.plans.Plan.{Plan}
use Rattle.xq_meaning.specs.declared.plans.PlanStep.{PlanStep, out-PlanStep}
use Rattle.xq_meaning.specs.declared.plans.PlanStep.TheVariants as step
use Rattle.xq_meaning.specs.Arguments.{all_nodes}
use Rattle.xq_meaning.specs.Doing.{Doing, Outcome, go_on, judged, on_trees, in_turn}
use Rattle.xq_meaning.specs.Forms as Forms
use Rattle.xq_meaning.specs.Items.{Place, Item, Node, in_document_order}
use Rattle.xq_meaning.specs.Operators.{in_order}
use Rattle.xq_meaning.specs.PlanMeaning.{Frame, StepMeaning, next_step, plan_step_mean}
use Rattle.xq_meaning.specs.Steps.{axis_nodes}
use Rattle.xq_meaning.proofs.PlanEquations.{step-Scan}
use Rattle.xq_meaning.proofs.SameForms.{AreRelated, in_turn_same}
use Rattle.xq_operators.proofs.NodeLemmas.{are_nodes}
use Rattle.xq_joins.specs.private.Keys.{scan_in, scans, nodes_after}
use Rattle.xq_joins.specs.private.Shapes.{IsScan}

-- # Evaluations that construct nothing

abbrev pub Stays : {A : Type 0} → Doing A → Type 0
Stays act = (f : List Tree) → (act f).1 ≡ f

pub then_stays : {A B : Type 0} (o : Outcome A) (next : A → Doing B) (f : List Tree) → o.1 ≡ f → ((x : A) → Stays (next x)) → (go_on o next).1 ≡ f
then_stays (Ok x, g) next f h after = after x g ∙ h
then_stays (Err code, g) next f h after = h

pub in_turn_stays : {A B : Type 0} (act : B → A → Doing B) (xs : List A) → AllByRecursion (λ x. (b : B) → Stays (act b x)) xs → (b : B) → Stays (in_turn act b xs)
in_turn_stays act [] h b f = refl
in_turn_stays act (x ∷ xs) h b f = then_stays (act b x f) (λ next. in_turn act next xs) f (h.0 b f) (λ next. in_turn_stays act xs h.1 next)

-- # One scan

pub scan_from : (axis : Axis) (test : Test) (ps : List Place) (f : List Tree) → Forms.scan axis test (map Node ps) f ≡ (Ok (map Node (in_document_order f (flat_map (axis_nodes f axis test) ps))), f)
scan_from axis test ps f =
    ap (λ r. go_on (judged r f) (λ places. on_trees (λ trees. Ok (in_order trees (flat_map (axis_nodes trees axis test) places))))) (are_nodes XPTY0019 ps)

pub scan_stays : (axis : Axis) (test : Test) (xs : List Item) → Stays (Forms.scan axis test xs)
scan_stays axis test xs f =
    then_stays (judged (all_nodes XPTY0019 xs) f) (λ places. on_trees (λ trees. Ok (in_order trees (flat_map (axis_nodes trees axis test) places)))) f refl (λ places g. refl)

meant : (s : PlanStep) (is : IsScan s) (frame : Frame) (xs : List Item) (f : List Tree) → next_step frame xs (plan_step_mean s) f ≡ Forms.scan is.0 is.1 xs f
meant s is frame xs f = ap (λ m. m frame xs f) (ap plan_step_mean is.2 ∙ step-Scan is.0 is.1)

scans_first : (s : PlanStep) (is : IsScan s) (ss : List PlanStep) → scans (s ∷ ss) ≡ (is.0, is.1) ∷ scans ss
scans_first s is ss = ap (λ o. scan_in o ++ scans ss) (ap out-PlanStep is.2 ∙ step.outs-Scan is.0 is.1)

-- one step of a walk: what is left leads to what all lead to
pub walked : (f : List Tree) (steps left : List PlanStep) (s : PlanStep) (is : IsScan s) (ps found : List Place) → steps ≡ s ∷ left
    → found ≡ in_document_order f (flat_map (axis_nodes f is.0 is.1) ps) → nodes_after f (scans left) found ≡ nodes_after f (scans steps) ps
walked f steps left s is ps found e one =
    ap (nodes_after f (scans left)) one ∙ ap (λ l. nodes_after f l ps) (sym (scans_first s is left)) ∙ ap (λ l. nodes_after f (scans l) ps) (sym e)

pub skipped : (f : List Tree) (steps left : List PlanStep) (s : PlanStep) (part : Plan) (ps : List Place) → steps ≡ s ∷ left → s ≡ step.Each part
    → nodes_after f (scans left) ps ≡ nodes_after f (scans steps) ps
skipped f steps left s part ps e is =
    ap (λ o. nodes_after f (scan_in o ++ scans left) ps) (sym (ap out-PlanStep is ∙ step.outs-Each part)) ∙ ap (λ l. nodes_after f (scans l) ps) (sym e)

-- # Many scans

pub path_from_nodes : (frame : Frame) (steps : List PlanStep) → AllByRecursion IsScan steps → (ps : List Place) (f : List Tree)
    → in_turn (next_step frame) (map Node ps) (map plan_step_mean steps) f ≡ (Ok (map Node (nodes_after f (scans steps) ps)), f)
path_from_nodes frame [] h ps f = refl
path_from_nodes frame (s ∷ ss) h ps f =
    let is = h.0 in
    let found = in_document_order f (flat_map (axis_nodes f is.0 is.1) ps) in
    ap (λ o. go_on o (λ next. in_turn (next_step frame) next (map plan_step_mean ss))) (meant s is frame (map Node ps) f ∙ scan_from is.0 is.1 ps f)
    ∙ path_from_nodes frame ss h.1 found f
    ∙ ap (λ l. (Ok (map Node (nodes_after f l ps)), f)) (sym (scans_first s is ss))

step_stays : (frame : Frame) (steps : List PlanStep) → AllByRecursion IsScan steps → AllByRecursion (λ (m : StepMeaning). (xs : List Item) → Stays (next_step frame xs m)) (map plan_step_mean steps)
step_stays frame [] h = tt
step_stays frame (s ∷ ss) h = (λ xs f. ap (λ (o : Outcome (List Item)). o.1) (meant s h.0 frame xs f) ∙ scan_stays h.0.0 h.0.1 xs f, step_stays frame ss h.1)

pub path_stays : (frame : Frame) (steps : List PlanStep) → AllByRecursion IsScan steps → (xs : List Item) → Stays (in_turn (next_step frame) xs (map plan_step_mean steps))
path_stays frame steps h xs = in_turn_stays (next_step frame) (map plan_step_mean steps) (step_stays frame steps h) xs

steps_related : (frame other : Frame) (steps : List PlanStep) → AllByRecursion IsScan steps
    → AreRelated (λ (m n : StepMeaning). (xs : List Item) (f : List Tree) → next_step frame xs m f ≡ next_step other xs n f) (map plan_step_mean steps) (map plan_step_mean steps)
steps_related frame other [] h = tt
steps_related frame other (s ∷ ss) h = (λ xs f. meant s h.0 frame xs f ∙ sym (meant s h.0 other xs f), steps_related frame other ss h.1)

-- whatever the frame is
pub path_same : (frame other : Frame) (steps : List PlanStep) → AllByRecursion IsScan steps → (xs : List Item) (f : List Tree)
    → in_turn (next_step frame) xs (map plan_step_mean steps) f ≡ in_turn (next_step other) xs (map plan_step_mean steps) f
path_same frame other steps h xs f = in_turn_same (next_step frame) (next_step other) (map plan_step_mean steps) (map plan_step_mean steps) (steps_related frame other steps h) xs f
