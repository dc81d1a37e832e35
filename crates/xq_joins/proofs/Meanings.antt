-- What plans of a join mean.
use Rattle.std.proofs.Common.{◌≡◌, ℕ, List, [], ◌∷◌, ◌++◌, map, Bool, Option, Some, None, Ok, inl, inr, refl, sym, ◌∙◌, ap, subst}
use Rattle.std.specs.List.{AllByRecursion}
use Rattle.xq_atoms.specs.Atom.{String}
use Rattle.xq_trees.specs.Tree.{Tree}
use Rattle.xq_trees.specs.Tuples.{value_at}
use Rattle.xq_expressions.specs.declared.operators.ComparisonOperator.TheVariants as comparing
use Rattle.xq_expressions.specs.declared.operators.Relation.TheVariants as relation
use Rattle.xq_expressions.specs.declared.signatures.Function.{Function}
use Rattle.xq_meaning.specs.declared.operators.Operator.TheVariants as operator
use Rattle.xq_meaning.specs.declared.plans.Plan.{Plan}
use Rattle.xq_meaning.specs.declared.plans.Plan.TheVariants as plan
use Rattle.xq_meaning.specs.declared.plans.PlanStep.{PlanStep}
use Rattle.xq_meaning.specs.Arguments.{atomic, as_boolean, effective}
use Rattle.xq_meaning.specs.Doing.{Outcome, go_on, give, judged, on_trees, in_turn, one_more}
use Rattle.xq_meaning.specs.Forms as Forms
use Rattle.xq_meaning.specs.Functions.{called}
use Rattle.xq_meaning.specs.Items.{Place, Item, Node}
use Rattle.xq_meaning.specs.Operators.{operated}
use Rattle.xq_meaning.specs.PlanMeaning.{Frame, Meaning, next_step, plan_mean, plan_step_mean}
use Rattle.xq_meaning.proofs.PlanEquations.{plan-Call, plan-Chain, plan-Path, plan-Slot, plan-Str}
use Rattle.xq_meaning.proofs.SameForms.{AreRelated, go_on_same, in_turn_same}
use Rattle.xq_joins.specs.declared.pairs.Key.{Key}
use Rattle.xq_joins.specs.Keys.{text_at, meet}
use Rattle.xq_joins.specs.private.Keys.{scans, nodes_after, key_texts}
use Rattle.xq_joins.specs.private.Pairs.{IsTest}
use Rattle.xq_joins.specs.private.Shapes.{IsKey, equality}
use Rattle.xq_joins.proofs.Meeting.{meet_swap, pairs_meet}
use Rattle.xq_joins.proofs.Walks.{path_from_nodes}

-- # Paths

-- a path means its start, and then its steps
path_is : (start : Plan) (steps : List PlanStep) (frame : Frame) (f : List Tree) → plan_mean (plan.Path start steps) frame f ≡ go_on (plan_mean start frame f) (λ xs. in_turn (next_step frame) xs (map plan_step_mean steps))
path_is start steps frame f = ap (λ m. m frame f) (plan-Path start steps)

-- # Slots

slot_is : (n : ℕ) (frame : Frame) (f : List Tree) → plan_mean (plan.Slot n) frame f ≡ (Ok (value_at n frame.env), f)
slot_is n frame f = ap (λ m. m frame f) (plan-Slot n)

-- # Keys

pub key_is : (n : ℕ) (steps : List PlanStep) (p : Plan) → IsKey n steps p → (frame : Frame) (f : List Tree) (ps : List Place) → value_at n frame.env ≡ map Node ps
    → plan_mean p frame f ≡ (Ok (map Node (nodes_after f (scans steps) ps)), f)
key_is n steps p key frame f ps e = elim (key.form) [
  | inl is ↦ (
      ap (λ q. plan_mean q frame f) is.0 ∙ slot_is n frame f ∙ ap (λ xs. (Ok xs, f)) e
      ∙ ap (λ l. (Ok (map Node (nodes_after f (scans l) ps)), f)) (sym is.1))
  | inr is ↦ (
      ap (λ q. plan_mean q frame f) is ∙ path_is (plan.Slot n) steps frame f
      ∙ ap (λ o. go_on o (λ xs. in_turn (next_step frame) xs (map plan_step_mean steps))) (slot_is n frame f ∙ ap (λ xs. (Ok xs, f)) e)
      ∙ path_from_nodes frame steps key.scans ps f)
]

-- # Tests

abbrev truth_of : Outcome (List Item) → Outcome Bool
truth_of o = go_on o (λ xs. judged (effective xs))

equality_is : (first second : Plan) (frame : Frame) (f : List Tree) (ps qs : List Place) → plan_mean first frame f ≡ (Ok (map Node ps), f) → plan_mean second frame f ≡ (Ok (map Node qs), f)
    → Forms.tested (plan_mean (equality first second)) frame f ≡ (Ok (meet (map (text_at f) ps) (map (text_at f) qs)), f)
equality_is first second frame f ps qs a b =
    let op = operator.Comparison (comparing.General relation.Equal) in
    ap (λ (m : Meaning). truth_of (m frame f)) (plan-Chain first ((op, second) ∷ []))
    ∙ ap (λ o. truth_of (go_on o (λ xs. in_turn (Forms.next_operand frame) xs ((op, plan_mean second) ∷ [])))) a
    ∙ ap (λ o. truth_of (go_on (go_on o (λ ys. on_trees (λ trees. operated op trees (map Node ps) ys))) (λ next. give next))) b
    ∙ ap (λ r. truth_of (go_on (judged (as_boolean r) f) (λ next. give next))) (pairs_meet f ps qs)

module _ (first second test : Plan) (a b : Key) (k : IsKey a.slot a.steps.now first) (l : IsKey b.slot b.steps.now second) (is : test ≡ equality first second) where
  holds_at : (frame : Frame) (f : List Tree) (ps qs : List Place) → value_at a.slot frame.env ≡ map Node ps → value_at b.slot frame.env ≡ map Node qs
      → Forms.tested (plan_mean test) frame f ≡ (Ok (meet (key_texts f (scans a.steps.now) ps) (key_texts f (scans b.steps.now) qs)), f)
  holds_at frame f ps qs d e =
      ap (λ t. Forms.tested (plan_mean t) frame f) is
      ∙ equality_is first second frame f (nodes_after f (scans a.steps.now) ps) (nodes_after f (scans b.steps.now) qs) (key_is a.slot a.steps.now first k frame f ps d) (key_is b.slot b.steps.now second l frame f qs e)

  -- the item's key is the first operand, or the second
  pub tests_first : IsTest (record { item = a; tuple = b }) test
  tests_first = record { holds = holds_at }

  pub tests_second : IsTest (record { item = b; tuple = a }) test
  tests_second = record {
    holds = λ frame f ps qs d e.
        holds_at frame f qs ps e d ∙ ap (λ t. (Ok t, f)) (meet_swap (key_texts f (scans a.steps.now) qs) (key_texts f (scans b.steps.now) ps));
  }
