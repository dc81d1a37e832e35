-- Scans from nodes give nodes, and are never refused.
use Rattle.std.proofs.Common.{◌≡◌, ℕ, zero, suc, List, [], ◌∷◌, ◌++◌, map, Ok, Err, refl, sym, ap, ◌∙◌, subst, ◌⊎◌, inl, inr}
use Rattle.std.specs.Prelude.{Some, slice_get}
use Rattle.std.specs.List.{AllByRecursion, flat_map}
use Rattle.std.proofs.lemmas.List.{map-append}
use Rattle.xq_atoms.specs.Judged.{◌>>=◌}
use Rattle.xq_atoms.specs.declared.refusals.Code.{Code}
use Rattle.xq_atoms.specs.declared.refusals.Code.TheVariants.{XPTY0019}
use Rattle.xq_trees.specs.declared.Axis.{Axis}
use Rattle.xq_trees.specs.Tree.{Tree}
use Rattle.xq_trees.specs.Tuples.{value_at}
use Rattle.xq_meaning.specs.declared.node_tests.Test.{Test}
use Rattle.xq_meaning.specs.declared.plans.Plan.{Plan}
use Rattle.xq_meaning.specs.declared.plans.Plan.TheVariants as plan
use Rattle.xq_meaning.specs.declared.plans.PlanStep.{PlanStep}
use Rattle.xq_meaning.specs.Items.{Place, Item, Node, Atom, in_document_order}
use Rattle.xq_meaning.specs.Arguments.{all_nodes}
use Rattle.xq_meaning.specs.Operators.{in_order}
use Rattle.xq_meaning.specs.Steps.{axis_nodes}
use Rattle.xq_meaning.specs.Doing.{Outcome, go_on, in_turn, judged, on_trees}
use Rattle.xq_meaning.specs.Forms
use Rattle.xq_meaning.specs.PlanMeaning.{Slots, Frame, next_step, plan_mean, plan_step_mean}
use Rattle.xq_meaning.specs.Same.{frame_of}
use Rattle.xq_meaning.proofs.PlanEquations as plan_eq
use Rattle.xq_meaning.proofs.SameForms.{go_on_same}
use Rattle.xq_meaning.proofs.Turns.{go_on_give, go_on_go_on, in_turn-append}
use Rattle.xq_optimise.specs.declared.held.Held.{Held}
use Rattle.xq_optimise.specs.declared.held.Held.TheVariants as has
use Rattle.xq_optimise.specs.declared.held.Held.TheVariants.{Nodes, Anything}
use Rattle.xq_optimise.specs.Known.{AreNodes, Holds, Fits}
use Rattle.xq_optimise.specs.Sure.{SurelyNodes}
use Rattle.xq_optimise.specs.private.Kinds.{LeavesNodes, EndsInNodes}
use Rattle.xq_optimise.specs.private.Parts.{IsHeld, IsKnown, GivesHeld, IsScan, IsOfNodes}

pub nodes_all : (code : Code) (ps : List Place) → all_nodes code (map Node ps) ≡ Ok ps
nodes_all code [] = refl
nodes_all code (p ∷ ps) = ap (λ r. r >>= (λ qs. Ok (p ∷ qs))) (nodes_all code ps)

-- items are nodes, or are refused
pub nodes_or_refused : (xs : List Item) →
    ((ps : List Place) × (xs ≡ map Node ps)) ⊎ ((code : Code) → all_nodes code xs ≡ Err code)
nodes_or_refused [] = inl ([], refl)
nodes_or_refused (Atom a ∷ xs) = inr (λ code. refl)
nodes_or_refused (Node p ∷ xs) =
    elim (nodes_or_refused xs) [
      | inl h ↦ inl (p ∷ h.0, ap (λ ys. Node p ∷ ys) h.1)
      | inr h ↦ inr (λ code. ap (λ r. r >>= (λ qs. Ok (p ∷ qs))) (h code))
    ]

-- # From nodes

abbrev found : List Tree → Axis → Test → List Place → List Place
found f axis test ps = in_document_order f (flat_map (axis_nodes f axis test) ps)

pub scan_from : (axis : Axis) (test : Test) (ps : List Place) (f : List Tree) →
    Forms.scan axis test (map Node ps) f ≡ (Ok (map Node (found f axis test ps)), f)
scan_from axis test ps f =
    ap (λ r. go_on (judged r f) (λ places. on_trees (λ trees. Ok (in_order trees (flat_map (axis_nodes trees axis test) places)))))
    (nodes_all XPTY0019 ps)

step_from : (frame : Frame) (s : PlanStep) → IsScan s → (ps : List Place) (f : List Tree) →
    (qs : List Place) × (plan_step_mean s frame (map Node ps) f ≡ (Ok (map Node qs), f))
step_from frame s (axis, test, is) ps f = (
  found f axis test ps,
  ap (λ m. m frame (map Node ps) f) (ap plan_step_mean is ∙ plan_eq.step-Scan axis test) ∙ scan_from axis test ps f,
)

pub scans_from : (frame : Frame) (steps : List PlanStep) → AllByRecursion IsScan steps → (ps : List Place) (f : List Tree) →
    (qs : List Place) × (in_turn (next_step frame) (map Node ps) (map plan_step_mean steps) f ≡ (Ok (map Node qs), f))
scans_from frame [] all ps f = (ps, refl)
scans_from frame (s ∷ steps) all ps f =
    let first = step_from frame s all.0 ps f in
    let rest = scans_from frame steps all.1 first.0 f in (
      rest.0,
      ap (λ o. go_on o (λ xs. in_turn (next_step frame) xs (map plan_step_mean steps))) first.1 ∙ rest.1,
    )

-- # From anything

abbrev HasNodes : Outcome (List Item) → Type 0
HasNodes o = GivesHeld Nodes o

scan_held : (axis : Axis) (test : Test) (xs : List Item) (f : List Tree) → HasNodes (Forms.scan axis test xs f)
scan_held axis test xs f = by (nodes_or_refused xs)
  where
    by : ((ps : List Place) × (xs ≡ map Node ps)) ⊎ ((code : Code) → all_nodes code xs ≡ Err code) →
        HasNodes (Forms.scan axis test xs f)
    by (inl (ps, is)) =
        subst (λ ys. HasNodes (Forms.scan axis test ys f)) (sym is)
        (subst HasNodes (sym (scan_from axis test ps f)) (found f axis test ps, refl))
    by (inr refused) =
        subst (λ r. HasNodes (go_on (judged r f) (λ places. on_trees (λ trees. Ok (in_order trees (flat_map (axis_nodes trees axis test) places)))))) (sym (refused XPTY0019)) tt

pub scan_after : (s : PlanStep) → IsScan s → LeavesNodes s
scan_after s (axis, test, is) frame xs f =
    subst (λ m. HasNodes (m frame xs f)) (sym (ap plan_step_mean is ∙ plan_eq.step-Scan axis test)) (scan_held axis test xs f)

after_start : (frame : Frame) (s : PlanStep) → LeavesNodes s → (o : Outcome (List Item)) →
    HasNodes (go_on o (λ xs. in_turn (next_step frame) xs (map plan_step_mean (s ∷ []))))
after_start frame s leaves (Ok xs, f) =
    subst HasNodes (sym (go_on_give (plan_step_mean s frame xs f))) (leaves frame xs f)
after_start frame s leaves (Err code, f) = tt

-- a path whose last step gives nodes has nodes
path_held : (known : List Held) (start : Plan) (before : List PlanStep) (s : PlanStep) → LeavesNodes s →
    IsHeld known Nodes (plan.Path start (before ++ s ∷ []))
path_held known start before s is slots focus addresses trees fits =
    let frame = frame_of slots focus addresses in
    let act = next_step frame in
    let o = plan_mean start frame trees in
    let apart : plan_mean (plan.Path start (before ++ s ∷ [])) frame trees
    ≡ go_on (go_on o (λ xs. in_turn act xs (map plan_step_mean before))) (λ ys. in_turn act ys (map plan_step_mean (s ∷ []))) =
    ap (λ m. m frame trees) (plan_eq.plan-Path start (before ++ s ∷ []))
    ∙ ap (λ ms. go_on o (λ xs. in_turn act xs ms)) (map-append plan_step_mean before (s ∷ []))
    ∙ go_on_same o (λ xs. in_turn act xs (map plan_step_mean before ++ map plan_step_mean (s ∷ []))) (λ xs f. go_on (in_turn act xs (map plan_step_mean before) f) (λ ys. in_turn act ys (map plan_step_mean (s ∷ []))))
    (λ xs f. in_turn-append act xs (map plan_step_mean before) (map plan_step_mean (s ∷ [])) f)
    ∙ sym (go_on_go_on o (λ xs. in_turn act xs (map plan_step_mean before)) (λ ys. in_turn act ys (map plan_step_mean (s ∷ [])))) in
    subst HasNodes (sym apart) (after_start frame s is (go_on o (λ xs. in_turn act xs (map plan_step_mean before))))

pub path_held_at : (known : List Held) (p start : Plan) (steps : List PlanStep) → p ≡ plan.Path start steps →
    EndsInNodes steps → IsHeld known Nodes p
path_held_at known p start steps is (before, s, cut, leaves) =
    subst (IsHeld known Nodes) (sym (is ∙ ap (plan.Path start) cut)) (path_held known start before s leaves)

-- # From slots

none_held : (m : ℕ) (a : Held) → (let none : List Held = [] in slice_get none m) ≡ Some a → ⊥
none_held zero a e = cc
none_held (suc m) a e = cc

pub slot_held : (n : ℕ) (known : List Held) (slots : Slots) (held : Held) → Fits known slots →
    slice_get known n ≡ Some held → Holds held (value_at n slots)
slot_held n [] [] held h is = absurd (none_held n held is)
slot_held n [] (x ∷ slots) held h is = absurd h
slot_held n (a ∷ known) [] held h is = absurd h
slot_held zero (a ∷ known) (x ∷ slots) held h is = subst (λ b. Holds b x) (some_same a held is) h.0
  where
    some_same : (b c : Held) → Some b ≡ Some c → b ≡ c
    some_same b c e = cc
slot_held (suc n) (a ∷ known) (x ∷ slots) held h is = slot_held n known slots held h.1 is

pub slot_is_held : (known : List Held) (n : ℕ) (held : Held) → slice_get known n ≡ Some held →
    IsHeld known held (plan.Slot n)
slot_is_held known n held is slots focus addresses trees fits =
    subst (λ m. GivesHeld held (m (frame_of slots focus addresses) trees)) (sym (plan_eq.plan-Slot n))
    (slot_held n known slots held fits is)

nodes_of : (held : Held) → IsOfNodes held → (xs : List Item) → Holds held xs → AreNodes xs
nodes_of has.Nodes of xs h = h
nodes_of has.Node of xs h = h.0
nodes_of has.Texts of xs h = absurd of
nodes_of has.Text of xs h = absurd of
nodes_of has.Item of xs h = absurd of
nodes_of has.Anything of xs h = absurd of

pub nodes_held : (known : List Held) (n : ℕ) → IsKnown IsOfNodes known n → IsHeld known Nodes (plan.Slot n)
nodes_held known n (held, is, of) slots focus addresses trees fits =
    subst (λ m. GivesHeld Nodes (m (frame_of slots focus addresses) trees)) (sym (plan_eq.plan-Slot n))
    (nodes_of held of (value_at n slots) (slot_held n known slots held fits is))

pub slot_surely : (known : List Held) (n : ℕ) → IsKnown IsOfNodes known n → SurelyNodes known (plan.Slot n)
slot_surely known n (held, is, of) slots focus addresses trees fits =
    let h = nodes_of held of (value_at n slots) (slot_held n known slots held fits is) in
    (h.0, ap (λ m. m (frame_of slots focus addresses) trees) (plan_eq.plan-Slot n) ∙ ap (λ xs. (Ok xs, trees)) h.1)

pub path_surely : (known : List Held) (start : Plan) (steps : List PlanStep) → SurelyNodes known start →
    AllByRecursion IsScan steps → SurelyNodes known (plan.Path start steps)
path_surely known start steps h all slots focus addresses trees fits =
    let frame = frame_of slots focus addresses in
    let first = h slots focus addresses trees fits in
    let rest = scans_from frame steps all first.0 trees in (
      rest.0,
      ap (λ m. m frame trees) (plan_eq.plan-Path start steps)
          ∙ ap (λ o. go_on o (λ xs. in_turn (next_step frame) xs (map plan_step_mean steps))) first.1 ∙ rest.1,
    )

pub anything_held : (known : List Held) (p : Plan) → IsHeld known Anything p
anything_held known p slots focus addresses trees fits =
    held_at (plan_mean p (frame_of slots focus addresses) trees)
  where
    held_at : (o : Outcome (List Item)) → GivesHeld Anything o
    held_at (Ok xs, f) = tt
    held_at (Err code, f) = tt
