-- Tests of a node in focus that ask no position.
use Rattle.std.proofs.Common.{◌≡◌, ℕ, List, [], ◌∷◌, map, Bool, true, false, Ok, refl, sym, ap, ◌∙◌, subst}
use Rattle.std.specs.Prelude.{Some, reverse, if◌then◌else◌}
use Rattle.std.specs.List.{AllByRecursion}
use Rattle.std.proofs.lemmas.List.{reverse-reverse}
use Rattle.xq_atoms.specs.Text.{Text}
use Rattle.xq_expressions.specs.declared.operators.Relation.{Relation}
use Rattle.xq_expressions.specs.declared.operators.ComparisonOperator.TheVariants as comparing
use Rattle.xq_trees.specs.declared.Axis.{Axis}
use Rattle.xq_trees.specs.Tree.{Tree}
use Rattle.xq_trees.proofs.Lists.{map_reverse}
use Rattle.xq_meaning.specs.declared.node_tests.Test.{Test}
use Rattle.xq_meaning.specs.declared.operators.Operator.TheVariants as operator
use Rattle.xq_meaning.specs.declared.plans.Plan.{Plan}
use Rattle.xq_meaning.specs.declared.plans.Plan.TheVariants as plan
use Rattle.xq_meaning.specs.declared.plans.PlanStep.{PlanStep}
use Rattle.xq_meaning.specs.Arguments.{effective, boolean, as_boolean}
use Rattle.xq_meaning.specs.Doing.{go_on, give, judged, on_trees, in_turn}
use Rattle.xq_meaning.specs.Forms
use Rattle.xq_meaning.specs.Items.{Place, Node, atomized}
use Rattle.xq_meaning.specs.Operators.{keeps, operated, related_by, some_pair}
use Rattle.xq_meaning.specs.PlanMeaning.{Slots, Frame, next_step, plan_mean, plan_step_mean}
use Rattle.xq_meaning.specs.Same.{frame_of}
use Rattle.xq_meaning.specs.Steps.{is_reverse, in_axis_order, axis_nodes}
use Rattle.xq_meaning.proofs.PlanEquations as plan_eq
use Rattle.xq_meaning.proofs.SameForms.{in_turn_same}
use Rattle.xq_optimise.specs.declared.held.Held.{Held}
use Rattle.xq_optimise.specs.Sure.{SurelyNodes, IgnoresFocus, on_node, SurelyKeeps, SurelyFinds, SurelyFindsTexts}
use Rattle.xq_optimise.specs.private.Parts.{IsPlainStep, IsScan, general_comparison}
use Rattle.xq_optimise.proofs.Below.{scans_alike}
use Rattle.xq_optimise.proofs.Scans.{scans_from}
use Rattle.xq_optimise.proofs.Tests.{pairs_compare, nodes_have_texts}

-- # Steps

order_twice : {A : Type 0} (b : Bool) (xs : List A) →
    (if b then reverse (if b then reverse xs else xs) else (if b then reverse xs else xs)) ≡ xs
order_twice true xs = reverse-reverse xs
order_twice false xs = refl

pub order-map : (b : Bool) (ps : List Place) → map Node (if b then reverse ps else ps) ≡ (if b then reverse (map Node ps) else map Node ps)
order-map true ps = map_reverse Node ps
order-map false ps = refl

pub step_found : (axis : Axis) (test : Test) (slots : Slots) (addresses : List Text) (f : List Tree) (p : Place) (position last : ℕ) →
    plan_mean (plan.Step axis test []) (frame_of slots (Some (on_node p position last)) addresses) f
    ≡ (Ok (map Node (axis_nodes f axis test p)), f)
step_found axis test slots addresses f p position last =
    ap (λ m. m (frame_of slots (Some (on_node p position last)) addresses) f) (plan_eq.plan-Step axis test [])
    ∙ ap (λ xs. (Ok xs, f))
    (ap (in_axis_order axis) (order-map (is_reverse axis) (axis_nodes f axis test p)) ∙ order_twice (is_reverse axis) (map Node (axis_nodes f axis test p)))

step_finds : (axis : Axis) (test : Test) → SurelyFinds (plan.Step axis test [])
step_finds axis test slots addresses f p =
    (axis_nodes f axis test p, λ position last. step_found axis test slots addresses f p position last)

pub plain_step_finds : (p : Plan) → IsPlainStep p → SurelyFinds p
plain_step_finds p (axis, test, is) = subst SurelyFinds (sym is) (step_finds axis test)

pub context_finds : SurelyFinds plan.ContextItem
context_finds slots addresses f p =
    (p ∷ [], λ position last. ap (λ m. m (frame_of slots (Some (on_node p position last)) addresses) f) plan_eq.plan-ContextItem)

-- scans from nodes
pub path_finds : (start : Plan) (steps : List PlanStep) → SurelyFinds start → AllByRecursion IsScan steps →
    SurelyFinds (plan.Path start steps)
path_finds start steps h all slots addresses f p =
    let first = h slots addresses f p in
    let frame : ℕ → ℕ → Frame = λ position last. frame_of slots (Some (on_node p position last)) addresses in
    let rest = scans_from (frame 1 1) steps all first.0 f in (
      rest.0,
      λ position last.
          ap (λ m. m (frame position last) f) (plan_eq.plan-Path start steps)
          ∙ ap (λ o. go_on o (λ xs. in_turn (next_step (frame position last)) xs (map plan_step_mean steps))) (first.1 position last)
          ∙ in_turn_same (next_step (frame position last)) (next_step (frame 1 1)) (map plan_step_mean steps) (map plan_step_mean steps)
          (scans_alike (frame position last) (frame 1 1) steps all) (map Node first.0) f
          ∙ rest.1,
    )

-- # Texts

pub found_texts : (known : List Held) (p : Plan) → SurelyFinds p → SurelyFindsTexts known p
found_texts known p h slots addresses f fits place =
    let found = h slots addresses f place in
    (map Node found.0, nodes_have_texts f found.0, found.1)

pub string_texts : (known : List Held) (t : Text) → SurelyFindsTexts known (plan.Str t)
string_texts known t slots addresses f fits p =
    (_, (tt, tt), λ position last. ap (λ m. m (frame_of slots (Some (on_node p position last)) addresses) f) (plan_eq.plan-Str t))

pub outer_texts : (known : List Held) (p : Plan) → SurelyNodes known p → IgnoresFocus p → SurelyFindsTexts known p
outer_texts known p h free slots addresses f fits place =
    let found = h slots (Some (on_node place 1 1)) addresses f fits in (
      map Node found.0,
      nodes_have_texts f found.0,
      λ position last.
          free slots (Some (on_node place position last)) (Some (on_node place 1 1)) addresses f ∙ found.1,
    )

-- # Tests

nodes_keep : (qs : List Place) → (truth : Bool) × (effective (map Node qs) ≡ Ok truth) × ((position : ℕ) → keeps position (map Node qs) ≡ Ok truth)
nodes_keep [] = (false, refl, λ position. refl)
nodes_keep (q ∷ qs) = (true, refl, λ position. refl)

pub found_keep : (known : List Held) (p : Plan) → SurelyFinds p → SurelyKeeps known p
found_keep known p h slots addresses f fits = (
  λ place. let kept = nodes_keep (h slots addresses f place).0 in kept.0,
  λ place position last.
      let found = h slots addresses f place in
      let kept = nodes_keep found.0 in (
        ap (λ o. go_on o (λ xs. judged (effective xs))) (found.1 position last) ∙ ap (λ r. (r, f)) kept.1,
        ap (λ o. go_on o (λ value. judged (keeps position value))) (found.1 position last) ∙ ap (λ r. (r, f)) (kept.2 position),
      ),
)

pub comparison_keeps : (known : List Held) (relation : Relation) (p q r : Plan) → r ≡ general_comparison relation p q →
    SurelyFindsTexts known p → SurelyFindsTexts known q → SurelyKeeps known r
comparison_keeps known relation p q r is h k = subst (SurelyKeeps known) (sym is) both
  where
    both : SurelyKeeps known (general_comparison relation p q)
    both slots addresses f fits =
        let op = operator.Comparison (comparing.General relation) in
        let tells : (place : Place) → (truth : Bool) × (some_pair (related_by relation) (atomized f (h slots addresses f fits place).0) (atomized f (k slots addresses f fits place).0) ≡ Ok truth) =
        λ place.
        let first = h slots addresses f fits place in
        let second = k slots addresses f fits place in
        pairs_compare (related_by relation) (atomized f first.0) (atomized f second.0) first.1 second.1 in
        let value : (place : Place) (position last : ℕ) → plan_mean (general_comparison relation p q) (frame_of slots (Some (on_node place position last)) addresses) f ≡ (Ok (boolean (tells place).0), f) =
        λ place position last.
        let first = h slots addresses f fits place in
        let second = k slots addresses f fits place in
        let frame = frame_of slots (Some (on_node place position last)) addresses in
        ap (λ m. m frame f) (plan_eq.plan-Chain p ((op, q) ∷ []))
        ∙ ap (λ o. go_on o (λ xs. in_turn (Forms.next_operand frame) xs ((op, plan_mean q) ∷ []))) (first.2 position last)
        ∙ ap (λ o. go_on (go_on o (λ ys. on_trees (λ ts. operated op ts first.0 ys))) (λ xs. give xs)) (second.2 position last)
        ∙ ap (λ r'. go_on (as_boolean r', f) (λ xs. give xs)) (tells place).1 in (
          λ place. (tells place).0,
          λ place position last. (
            ap (λ o. go_on o (λ xs. judged (effective xs))) (value place position last),
            ap (λ o. go_on o (λ xs. judged (keeps position xs))) (value place position last),
          ),
        )
