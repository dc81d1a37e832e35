-- A path in which steps with tests are scans, and the tests go over all that was found at once.
use Rattle.std.proofs.Common.{◌≡◌, List, [], ◌∷◌, ◌++◌, map, reverse, Bool, true, Ok, Err, refl, sym, ap, ◌∙◌, subst}
use Rattle.std.specs.Prelude.{Option, ◌&&◌}
use Rattle.std.specs.List.{AllByRecursion}
use Rattle.std.proofs.lemmas.List.{append_assoc, append-nil, map-append, reverse-append, reverse-reverse}
use Rattle.xq_atoms.specs.Text.{Text}
use Rattle.xq_trees.specs.declared.Axis.{Axis}
use Rattle.xq_trees.specs.Tree.{Tree}
use Rattle.xq_meaning.specs.declared.node_tests.Test.{Test}
use Rattle.xq_meaning.specs.declared.plans.Plan.{Plan}
use Rattle.xq_meaning.specs.declared.plans.Plan.TheVariants as plan
use Rattle.xq_meaning.specs.declared.plans.PlanStep.{PlanStep}
use Rattle.xq_meaning.specs.declared.plans.PlanStep.TheVariants as step
use Rattle.xq_meaning.specs.Doing.{Doing, Outcome, give, go_on, in_turn}
use Rattle.xq_meaning.specs.Forms
use Rattle.xq_meaning.specs.Functions.{Focus}
use Rattle.xq_meaning.specs.Items.{Item, Place}
use Rattle.xq_meaning.specs.PlanMeaning.{Slots, Frame, Meaning, next_step, plan_mean, plan_step_mean}
use Rattle.xq_meaning.specs.Same.{frame_of}
use Rattle.xq_meaning.proofs.PlanEquations as plan_eq
use Rattle.xq_meaning.proofs.Turns.{go_on_give, last_turn}
use Rattle.xq_optimise.specs.declared.held.Held.{Held}
use Rattle.xq_optimise.specs.Known.{Fits}
use Rattle.xq_optimise.specs.Same.{GivesSame}
use Rattle.xq_optimise.specs.Sure.{SamePredicates, SurelyKeeps}
use Rattle.xq_optimise.specs.private.Parts.{MovesOn}
use Rattle.xq_optimise.proofs.Forms.{each_gives, then_gives}
use Rattle.xq_optimise.proofs.NodesAtOnce.{AllTold, step_scans}
use Rattle.xq_optimise.proofs.Splitting.{step_same_on}

-- the tests have a truth at each node
pub tells : (known : List Held) (ps : List Plan) → AllByRecursion (SurelyKeeps known) ps → (slots : Slots) (addresses : List Text) (f : List Tree) → Fits known slots →
    (k : Place → Bool) × AllTold slots addresses f (map plan_mean ps) k
tells known [] all slots addresses f fits = ((λ p. true), λ p. refl)
tells known (p ∷ ps) all slots addresses f fits =
    let first = all.0 slots addresses f fits in
    let rest = tells known ps all.1 slots addresses f fits in
    ((λ q. first.0 q && rest.0 q), (first.0, rest.0, first.1, rest.1, λ q. refl))

-- a path with one step more
pub path_more : (start : Plan) (steps : List PlanStep) (s : PlanStep) (frame : Frame) (f : List Tree) →
    plan_mean (plan.Path start (steps ++ s ∷ [])) frame f ≡ go_on (plan_mean (plan.Path start steps) frame f) (λ xs. plan_step_mean s frame xs)
path_more start steps s frame f =
    ap (λ m. m frame f) (plan_eq.plan-Path start (steps ++ s ∷ []))
    ∙ by (plan_mean start frame f)
    ∙ sym (ap (λ m. go_on (m frame f) (λ xs. plan_step_mean s frame xs)) (plan_eq.plan-Path start steps))
  where
    by : (o : Outcome (List Item)) →
        go_on o (λ xs. in_turn (next_step frame) xs (map plan_step_mean (steps ++ s ∷ [])))
        ≡ go_on (go_on o (λ xs. in_turn (next_step frame) xs (map plan_step_mean steps))) (λ xs. plan_step_mean s frame xs)
    by (Ok xs, g) =
        ap (λ ms. in_turn (next_step frame) xs ms g) (map-append plan_step_mean steps (s ∷ []))
        ∙ last_turn (next_step frame) xs (map plan_step_mean steps) (plan_step_mean s) g
    by (Err code, g) = refl

-- the path of no steps
pub path_none : (start : Plan) (frame : Frame) (f : List Tree) → plan_mean (plan.Path start []) frame f ≡ plan_mean start frame f
path_none start frame f = ap (λ m. m frame f) (plan_eq.plan-Path start []) ∙ go_on_give (plan_mean start frame f)

pub path_alone : (known : List Held) (start : Plan) → GivesSame known (plan.Path start []) start
path_alone known start slots focus addresses trees fits = sym (path_none start (frame_of slots focus addresses) trees)

-- # One step more

pub step_moves : (known : List Held) (s : PlanStep) (from : Plan) (scans scans' : List PlanStep) → scans' ≡ scans ++ s ∷ [] →
    MovesOn known s from scans from scans'
step_moves known s from scans scans' is start taken same slots focus addresses trees fits =
    let frame = frame_of slots focus addresses in
    ap (λ ss. plan_mean (plan.Path from ss) frame trees) is
    ∙ path_more from scans s frame trees
    ∙ ap (λ o. go_on o (λ xs. plan_step_mean s frame xs)) (same slots focus addresses trees fits)
    ∙ sym (path_more start taken s frame trees)

pub tests_move : (known : List Held) (axis : Axis) (test : Test) (ps : List Plan) → AllByRecursion (SurelyKeeps known) ps → (s : PlanStep) (from from' : Plan) (scans : List PlanStep) →
    s ≡ step.Each (plan.Step axis test ps) → from' ≡ plan.Filter (plan.Path from (scans ++ step.Scan axis test ∷ [])) ps → MovesOn known s from scans from' []
tests_move known axis test ps all s from from' scans is now start taken same slots focus addresses trees fits =
    let frame = frame_of slots focus addresses in
    path_none from' frame trees
    ∙ ap (λ p. plan_mean p frame trees) now
    ∙ ap (λ m. m frame trees) (plan_eq.plan-Filter (plan.Path from (scans ++ step.Scan axis test ∷ [])) ps)
    ∙ ap (λ o. go_on o (λ xs. in_turn (Forms.filtered frame) xs (map plan_mean ps))) (path_more from scans (step.Scan axis test) frame trees
    ∙ ap (λ o. go_on o (λ xs. plan_step_mean (step.Scan axis test) frame xs)) (same slots focus addresses trees fits))
    ∙ by (plan_mean (plan.Path start taken) frame trees)
    ∙ sym (path_more start taken s frame trees)
  where
    here : Frame
    here = frame_of slots focus addresses

    one : (xs : List Item) (g : List Tree) →
        go_on (plan_step_mean (step.Scan axis test) here xs g) (λ ys. in_turn (Forms.filtered here) ys (map plan_mean ps)) ≡ plan_step_mean s here xs g
    one xs g =
        let told = tells known ps all slots addresses g fits in
        ap (λ m. go_on (m here xs g) (λ ys. in_turn (Forms.filtered here) ys (map plan_mean ps))) (plan_eq.step-Scan axis test)
        ∙ sym (step_scans slots addresses g axis test (map plan_mean ps) told.0 told.1 focus xs)
        ∙ sym (ap (λ m. m here xs g) (ap plan_step_mean is ∙ plan_eq.step-Each (plan.Step axis test ps))
        ∙ ap (λ m. Forms.slash here xs m g) (plan_eq.plan-Step axis test ps))

    by : (o : Outcome (List Item)) →
        go_on (go_on o (λ xs. plan_step_mean (step.Scan axis test) here xs)) (λ ys. in_turn (Forms.filtered here) ys (map plan_mean ps))
        ≡ go_on o (λ xs. plan_step_mean s here xs)
    by (Ok xs, g) = one xs g
    by (Err code, g) = refl

-- # The loop

pub record PathLeft (known : List Held) (start : Plan) (all left : List PlanStep) (from : Plan) (scans : List PlanStep) : Type 0 where
  pub taken : List PlanStep
  pub whole : taken ++ reverse left ≡ all
  pub same : GivesSame known (plan.Path start taken) (plan.Path from scans)

pub path_begun : (known : List Held) (start : Plan) (all left : List PlanStep) (scans : List PlanStep) → left ≡ reverse all → scans ≡ [] →
    PathLeft known start all left start scans
path_begun known start all left scans is none = record {
  taken = [];
  whole = ap reverse is ∙ reverse-reverse all;
  same = subst (λ ss. GivesSame known (plan.Path start []) (plan.Path start ss)) (sym none) (λ slots focus addresses trees fits. refl);
}

pub path_next : (known : List Held) (start : Plan) (all left rest : List PlanStep) (s : PlanStep) (from from' : Plan) (scans scans' : List PlanStep) →
    PathLeft known start all left from scans → left ≡ rest ++ s ∷ [] → MovesOn known s from scans from' scans' → PathLeft known start all rest from' scans'
path_next known start all left rest s from from' scans scans' h cut moves = record {
  taken = h.taken ++ s ∷ [];
  whole =
      append_assoc h.taken (s ∷ []) (reverse rest)
      ∙ sym (ap (λ l. h.taken ++ l) (ap reverse cut ∙ reverse-append rest (s ∷ []))) ∙ h.whole;
  same = moves start h.taken h.same;
}

pub path_done : (known : List Held) (start : Plan) (all left : List PlanStep) (from : Plan) (scans : List PlanStep) → PathLeft known start all left from scans → left ≡ [] →
    GivesSame known (plan.Path start all) (plan.Path from scans)
path_done known start all left from scans h none =
    subst (λ l. GivesSame known (plan.Path start l) (plan.Path from scans)) (sym (append-nil h.taken) ∙ ap (λ l. h.taken ++ reverse l) (sym none) ∙ h.whole) h.same

pub path_whole : (known : List Held) (start : Plan) (all left : List PlanStep) (from : Plan) (scans : List PlanStep) (found : Plan) → PathLeft known start all left from scans → left ≡ [] →
    GivesSame known (plan.Path from scans) found → GivesSame known (plan.Path start all) found
path_whole known start all left from scans found h none same =
    then_gives known (plan.Path start all) (plan.Path from scans) found (path_done known start all left from scans h none) same

-- the path with this step, and no other than the one that was taken
pub pushed_moves : (known : List Held) (s : PlanStep) (from from' : Plan) (scans scans' : List PlanStep) → (from' ≡ from) × (scans' ≡ scans ++ s ∷ []) →
    MovesOn known s from scans from' scans'
pushed_moves known s from from' scans scans' (stays, is) =
    subst (λ p. MovesOn known s from scans p scans') (sym stays) (step_moves known s from scans scans' is)

pub judged_move : (known : List Held) (axis : Axis) (test : Test) (ps : List Plan) → AllByRecursion (SurelyKeeps known) ps → (from from' : Plan) (scans scans' : List PlanStep) →
    (scans' ≡ []) × (from' ≡ plan.Filter (plan.Path from (scans ++ step.Scan axis test ∷ [])) ps) →
    MovesOn known (step.Each (plan.Step axis test ps)) from scans from' scans'
judged_move known axis test ps all from from' scans scans' (none, now) =
    subst (λ ss. MovesOn known (step.Each (plan.Step axis test ps)) from scans from' ss) (sym none)
    (tests_move known axis test ps all (step.Each (plan.Step axis test ps)) from from' scans refl now)

-- # A step whose first predicate stays, and whose others go over all that it finds

then_one : (act : List Item → Meaning → Doing (List Item)) (m : Meaning) (ms : List Meaning) (o : Outcome (List Item)) →
    go_on (go_on o (λ ys. in_turn act ys (m ∷ []))) (λ ys. in_turn act ys ms) ≡ go_on o (λ ys. in_turn act ys (m ∷ ms))
then_one act m ms (Err code, g) = refl
then_one act m ms (Ok ys, g) = by (act ys m g)
  where
    by : (o : Outcome (List Item)) → go_on (go_on o (λ zs. give zs)) (λ zs. in_turn act zs ms) ≡ go_on o (λ zs. in_turn act zs ms)
    by (Ok zs, h) = refl
    by (Err code, h) = refl

-- a step whose predicates have a truth at each node is a scan and then these
scanned : (known : List Held) (axis : Axis) (test : Test) (qs : List Plan) → AllByRecursion (SurelyKeeps known) qs → (slots : Slots) (focus : Option Focus) (addresses : List Text) → Fits known slots →
    (xs : List Item) (g : List Tree) →
    plan_step_mean (step.Each (plan.Step axis test qs)) (frame_of slots focus addresses) xs g
    ≡ go_on (Forms.scan axis test xs g) (λ ys. in_turn (Forms.filtered (frame_of slots focus addresses)) ys (map plan_mean qs))
scanned known axis test qs sure slots focus addresses fits xs g =
    let here = frame_of slots focus addresses in
    let told = tells known qs sure slots addresses g fits in
    ap (λ m. m here xs g) (plan_eq.step-Each (plan.Step axis test qs))
    ∙ ap (λ m. Forms.slash here xs m g) (plan_eq.plan-Step axis test qs)
    ∙ step_scans slots addresses g axis test (map plan_mean qs) told.0 told.1 focus xs

first_kept : (known : List Held) (axis : Axis) (test : Test) (p : Plan) (ps : List Plan) → AllByRecursion (SurelyKeeps known) (p ∷ ps) → (slots : Slots) (focus : Option Focus) (addresses : List Text) →
    Fits known slots → (o : Outcome (List Item)) →
    go_on (go_on o (λ xs. plan_step_mean (step.Each (plan.Step axis test (p ∷ []))) (frame_of slots focus addresses) xs)) (λ ys. in_turn (Forms.filtered (frame_of slots focus addresses)) ys (map plan_mean ps))
    ≡ go_on o (λ xs. plan_step_mean (step.Each (plan.Step axis test (p ∷ ps))) (frame_of slots focus addresses) xs)
first_kept known axis test p ps all slots focus addresses fits (Err code, g) = refl
first_kept known axis test p ps all slots focus addresses fits (Ok xs, g) =
    let here = frame_of slots focus addresses in
    ap (λ o. go_on o (λ ys. in_turn (Forms.filtered here) ys (map plan_mean ps))) (scanned known axis test (p ∷ []) (all.0, tt) slots focus addresses fits xs g)
    ∙ then_one (Forms.filtered here) (plan_mean p) (map plan_mean ps) (Forms.scan axis test xs g)
    ∙ sym (scanned known axis test (p ∷ ps) all slots focus addresses fits xs g)

first_move : (known : List Held) (axis : Axis) (test : Test) (p : Plan) (ps : List Plan) → AllByRecursion (SurelyKeeps known) (p ∷ ps) → (from from' : Plan) (scans : List PlanStep) →
    from' ≡ plan.Filter (plan.Path from (scans ++ step.Each (plan.Step axis test (p ∷ [])) ∷ [])) ps → MovesOn known (step.Each (plan.Step axis test (p ∷ ps))) from scans from' []
first_move known axis test p ps all from from' scans now start taken same slots focus addresses trees fits =
    let here = frame_of slots focus addresses in
    let lone = step.Each (plan.Step axis test (p ∷ [])) in
    path_none from' here trees
    ∙ ap (λ q. plan_mean q here trees) now
    ∙ ap (λ m. m here trees) (plan_eq.plan-Filter (plan.Path from (scans ++ lone ∷ [])) ps)
    ∙ ap (λ o. go_on o (λ xs. in_turn (Forms.filtered here) xs (map plan_mean ps))) (path_more from scans lone here trees
    ∙ ap (λ o. go_on o (λ xs. plan_step_mean lone here xs)) (same slots focus addresses trees fits))
    ∙ first_kept known axis test p ps all slots focus addresses fits (plan_mean (plan.Path start taken) here trees)
    ∙ sym (path_more start taken (step.Each (plan.Step axis test (p ∷ ps))) here trees)

pub first_moves : (known : List Held) (axis : Axis) (test : Test) (p : Plan) (ps : List Plan) → AllByRecursion (SurelyKeeps known) (p ∷ ps) → (from from' : Plan) (scans scans' : List PlanStep) →
    (scans' ≡ []) × (from' ≡ plan.Filter (plan.Path from (scans ++ step.Each (plan.Step axis test (p ∷ [])) ∷ [])) ps) →
    MovesOn known (step.Each (plan.Step axis test (p ∷ ps))) from scans from' scans'
first_moves known axis test p ps all from from' scans scans' (none, now) =
    subst (λ ss. MovesOn known (step.Each (plan.Step axis test (p ∷ ps))) from scans from' ss) (sym none) (first_move known axis test p ps all from from' scans now)

-- # Other predicates that keep the same

pub same_moves : (known : List Held) (axis : Axis) (test : Test) (ps qs : List Plan) → SamePredicates known ps qs → (from from' : Plan) (scans scans' : List PlanStep) →
    MovesOn known (step.Each (plan.Step axis test qs)) from scans from' scans' → MovesOn known (step.Each (plan.Step axis test ps)) from scans from' scans'
same_moves known axis test ps qs same from from' scans scans' moves start taken h slots focus addresses trees fits =
    let here = frame_of slots focus addresses in
    moves start taken h slots focus addresses trees fits
    ∙ path_more start taken (step.Each (plan.Step axis test qs)) here trees
    ∙ by (plan_mean (plan.Path start taken) here trees)
    ∙ sym (path_more start taken (step.Each (plan.Step axis test ps)) here trees)
  where
    by : (o : Outcome (List Item)) →
        go_on o (λ xs. plan_step_mean (step.Each (plan.Step axis test qs)) (frame_of slots focus addresses) xs)
        ≡ go_on o (λ xs. plan_step_mean (step.Each (plan.Step axis test ps)) (frame_of slots focus addresses) xs)
    by (Err code, g) = refl
    by (Ok xs, g) = each_gives known (plan.Step axis test ps) (plan.Step axis test qs) (step_same_on known axis test ps qs same) slots focus addresses fits xs g
