-- What is told of one step from a node at hand.
use Rattle.std.proofs.Common.{◌≡◌, ℕ, List, [], ◌∷◌, map, Option, Some, None, Result, Ok, Err, sym, ◌∙◌, ap, subst}
use Rattle.std.specs.Prelude.{IfSome}
use Rattle.xq_atoms.specs.declared.atoms.Atom.{Atom}
use Rattle.xq_atoms.specs.declared.refusals.Code.{Code}
use Rattle.xq_atoms.specs.declared.refusals.Fault.{Fault}
use Rattle.xq_atoms.specs.declared.refusals.Fault.TheVariants.{Code as OfCode, Want as OfWant}
use Rattle.xq_atoms.specs.Atom.{Atomic, atomic_of}
use Rattle.xq_atoms.specs.Judged.{Judged}
use Rattle.xq_expressions.specs.declared.signatures.Function.{Function}
use Rattle.xq_trees.specs.Tree.{Tree}
use Rattle.xq_functions.specs.Answers.{TellsAtom}
use Rattle.xq_meaning.specs.declared.plans.Plan.{Plan}
use Rattle.xq_meaning.specs.declared.plans.Plan.TheVariants as plan
use Rattle.xq_meaning.specs.Arguments.{atomic}
use Rattle.xq_meaning.specs.Doing.{Doing, Outcome, go_on, give, on_trees}
use Rattle.xq_meaning.specs.Forms as Forms
use Rattle.xq_meaning.specs.Functions.{called, of_one}
use Rattle.xq_meaning.specs.Items.{Place, Item, Node, atomized}
use Rattle.xq_meaning.specs.PlanMeaning.{Frame, plan_mean}
use Rattle.xq_meaning.specs.Readings.{node_at}
use Rattle.xq_meaning.specs.Steps.{axis_nodes}
use Rattle.xq_meaning.proofs.PathLemmas.{map-map}
use Rattle.xq_meaning.proofs.PlanEquations.{plan-Call}
use Rattle.xq_operators.specs.declared.contexts.EvalContext.{EvalContext as HeldFrame}
use Rattle.xq_operators.specs.declared.paths.ShortPath.{ShortPath}
use Rattle.xq_operators.specs.Views.{frame_at, nodes_in, FrameIn}
use Rattle.xq_joins.specs.Atoms.{Tells}
use Rattle.xq_joins.specs.private.Texts.{IsStepAt}

-- the places of one step are what the plan gives
pub step_places : (frame : HeldFrame) (p : Plan) (found : ShortPath) (f : List Tree) (ps : List ℕ) → IsStepAt frame found p → FrameIn f frame
    → map (λ q. node_at f (record { tree = found.node.tree; pre = q })) ps ≡ axis_nodes f found.axis found.test.now (node_at f found.node)
    → plan_mean p (frame_at f frame) f ≡ (Ok (nodes_in f found.node.tree ps), f)
step_places frame p found f ps at inside on =
    let make : ℕ → Place = λ q. node_at f (record { tree = found.node.tree; pre = q }) in
    at.gives f inside ∙ ap (λ ns. (Ok (map Node ns), f)) (sym on) ∙ ap (λ xs. (Ok xs, f)) (map-map Node make ps)

tells_so : (j : Judged (List Item)) (f : List Tree) (r : Result (Option Atom) Fault) → TellsAtom j r → Tells atomic (j, f) f r
tells_so j f (Ok (Some a)) h = ap (λ x. (x, f)) h
tells_so j f (Ok None) h = tt
tells_so j f (Err (OfCode code)) h = h
tells_so j f (Err (OfWant want)) h = tt

-- a call of one argument that is at hand
pub call_gives : (function : Function) (p : Plan) (parts : List Plan) (frame : Frame) (f : List Tree) (xs : List Item) → parts ≡ p ∷ [] → plan_mean p frame f ≡ (Ok xs, f)
    → Forms.call function (map plan_mean parts) frame f ≡ (of_one function f frame.addresses xs, f)
call_gives function p parts frame f xs one gives =
    let calls : Outcome (List Item) → Outcome (List Item) = λ o. go_on (go_on (go_on o (λ y. give (y ∷ []))) (λ next. give next)) (λ values. on_trees (λ trees. called function trees frame.addresses frame.focus values)) in
    ap (λ l. Forms.call function (map plan_mean l) frame f) one ∙ ap calls gives

pub call_tells : (function : Function) (p : Plan) (parts : List Plan) (frame : Frame) (f : List Tree) (xs : List Item) (r : Result (Option Atom) Fault) → parts ≡ p ∷ [] → plan_mean p frame f ≡ (Ok xs, f)
    → TellsAtom (of_one function f frame.addresses xs) r → Tells atomic (Forms.call function (map plan_mean parts) frame f) f r
call_tells function p parts frame f xs r one gives h =
    subst (λ o. Tells atomic o f r) (sym (call_gives function p parts frame f xs one gives)) (tells_so (of_one function f frame.addresses xs) f r h)

-- # Atomized

abbrev again : {B : Type 0} → Code → Judged (List Item) → Judged B
again code (Ok x) = Err code
again code (Err other) = Err other

abbrev IsErr : Judged (List Item) → Type 0
IsErr (Ok x) = ⊥
IsErr (Err code) = Unit {0}

stops : {B : Type 0} (o : Outcome (List Item)) (next : List Item → Doing B) (code : Code) → o.0 ≡ Err code → (go_on o next).0 ≡ Err code
stops (Ok xs, f) next code h = absurd (subst IsErr (sym h) tt)
stops (Err other, f) next code h = ap (again code) h

atoms_tell : (o : Outcome (List Item)) (f : List Tree) (r : Result (Option Atom) Fault) → Tells atomic o f r → Tells (λ a. a ∷ []) (go_on o (λ xs. on_trees (λ trees. Ok (atomized trees xs)))) f r
atoms_tell o f (Ok (Some a)) h = ap (λ (p : Outcome (List Item)). go_on p (λ xs. on_trees (λ trees. Ok (atomized trees xs)))) h
atoms_tell o f (Ok None) h = tt
atoms_tell o f (Err (OfCode code)) h = stops o (λ xs. on_trees (λ trees. Ok (atomized trees xs))) code h
atoms_tell o f (Err (OfWant want)) h = tt

pub call_atom : (function : Function) (p : Plan) (parts : List Plan) (frame : Frame) (f : List Tree) (r : Result (Option Atom) Fault) → p ≡ plan.Call function parts
    → Tells atomic (Forms.call function (map plan_mean parts) frame f) f r → Tells (λ a. a ∷ []) (Forms.atoms_of (plan_mean p) frame f) f r
call_atom function p parts frame f r is h =
    let same : plan_mean p frame f ≡ Forms.call function (map plan_mean parts) frame f = ap (λ q. plan_mean q frame f) is ∙ ap (λ m. m frame f) (plan-Call function parts) in
    atoms_tell (plan_mean p frame f) f r (subst (λ o. Tells atomic o f r) (sym same) h)

step_atom : (p : Plan) (frame : Frame) (f : List Tree) (xs : List Item) (a : Atomic) → plan_mean p frame f ≡ (Ok xs, f) → atomized f xs ≡ a ∷ []
    → Forms.atoms_of (plan_mean p) frame f ≡ (Ok (a ∷ []), f)
step_atom p frame f xs a gives one = ap (λ (o : Outcome (List Item)). go_on o (λ xs. on_trees (λ trees. Ok (atomized trees xs)))) gives ∙ ap (λ as'. (Ok as', f)) one

pub step_tells : (p : Plan) (frame : Frame) (f : List Tree) (xs : List Item) (o : Option Atom) → plan_mean p frame f ≡ (Ok xs, f) → IfSome o (λ a. atomized f xs ≡ atomic_of a ∷ [])
    → Tells (λ a. a ∷ []) (Forms.atoms_of (plan_mean p) frame f) f (Ok o)
step_tells p frame f xs (Some a) gives one = step_atom p frame f xs (atomic_of a) gives one
step_tells p frame f xs None gives one = tt
