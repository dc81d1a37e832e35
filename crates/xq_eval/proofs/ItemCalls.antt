-- Calls on the item in focus.
use Rattle.std.proofs.Common.{◌≡◌, ◌++◌, List, [], ◌∷◌, Ok, Err, sym, ◌∙◌, ap, map}
use Rattle.std.proofs.lemmas.List.{append-nil}
use Rattle.xq_atoms.specs.declared.atoms.Atom.{Atom}
use Rattle.xq_atoms.specs.declared.refusals.Fault.{Fault}
use Rattle.xq_atoms.specs.declared.refusals.Fault.TheVariants.{Code as OfCode, Want as OfWant}
use Rattle.xq_atoms.specs.Atom.{atomic_of}
use Rattle.xq_expressions.specs.declared.signatures.Function.{Function}
use Rattle.xq_expressions.specs.declared.signatures.Function.TheVariants.{String as OfString, Data as OfData}
use Rattle.xq_trees.specs.Items.{ItemView, Value}
use Rattle.xq_trees.specs.Tree.{Tree}
use Rattle.xq_functions.specs.Answers.{TellsAtom}
use Rattle.xq_meaning.specs.declared.plans.Plan.{Plan}
use Rattle.xq_meaning.specs.declared.plans.Plan.TheVariants as plan
use Rattle.xq_meaning.specs.Arguments.{atomic}
use Rattle.xq_meaning.specs.Doing.{Doing, give, more}
use Rattle.xq_meaning.specs.Forms as Forms
use Rattle.xq_meaning.specs.Functions.{Focus as Spot, of_one}
use Rattle.xq_meaning.specs.Items.{Item}
use Rattle.xq_meaning.specs.PlanMeaning.{Frame, Meaning, plan_mean}
use Rattle.xq_meaning.specs.Readings.{items_at, AreIn}
use Rattle.xq_meaning.proofs.PlanEquations.{plan-Call, plan-ContextItem}
use Rattle.xq_operators.specs.Views.{GivesSequence}
use Rattle.xq_eval.specs.private.Told.{CallsOnItem}
use Rattle.xq_eval.proofs.Loops.{stops}
use Rattle.xq_eval.proofs.Steps.{more_next}

pub on_context : (function : Function) (parts : List Plan) → parts ≡ plan.ContextItem ∷ [] → CallsOnItem function (plan.Call function parts)
on_context function parts is frame spot trees =
    let inner = Forms.in_focus frame spot in
    ap (λ m. m inner trees) (plan-Call function parts)
    ∙ ap (λ ps. Forms.call function (map plan_mean ps) inner trees) is
    ∙ ap (λ (m : Meaning). Forms.call function (m ∷ []) inner trees) plan-ContextItem

pub alone_string : CallsOnItem OfString (plan.Call OfString [])
alone_string frame spot trees = ap (λ m. m (Forms.in_focus frame spot) trees) (plan-Call OfString [])

pub alone_data : CallsOnItem OfData (plan.Call OfData [])
alone_data frame spot trees = ap (λ m. m (Forms.in_focus frame spot) trees) (plan-Call OfData [])

module _ (function : Function) (p : Plan) (calls : CallsOnItem function p) (frame : Frame) (spot : Spot) where
  abbrev pub act : Spot → Doing (List Item)
  act s = plan_mean p (Forms.in_focus frame s)

  -- one atom more
  pub told_next : (done done' : List ItemView) (a : Atom) (f f' : List Tree) → f' ≡ f → AreIn f done → of_one function f frame.addresses (spot.item ∷ []) ≡ Ok (atomic (atomic_of a)) → done' ≡ done ++ Value (atomic_of a) ∷ []
      → AreIn f' done' × (more act (items_at f done) spot f ≡ (Ok (items_at f' done'), f'))
  told_next done done' a f f' same inside told is =
      let xs = atomic (atomic_of a) in
      let step : act spot f ≡ (Ok xs, f') = calls frame spot f ∙ ap (λ r. (r, f)) told ∙ ap (λ t. (Ok xs, t)) (sym same) in
      more_next act done (Value (atomic_of a) ∷ []) done' spot f f' (record { added = []; is = same ∙ sym (append-nil f) }) inside ((tt, tt), step) is

  -- or the refusal
  pub told_refused : (done : List ItemView) (f f' : List Tree) (e : Fault) → TellsAtom (of_one function f frame.addresses (spot.item ∷ [])) (Err e) → GivesSequence (more act (items_at f done) spot f) f' (Err e)
  told_refused done f f' (OfWant want) h = tt
  told_refused done f f' (OfCode code) h = stops (act spot f) (λ ys. give (items_at f done ++ ys)) code (ap (λ o. o.0) (calls frame spot f) ∙ h)
