-- Paths from a document that a literal names.
use Rattle.std.proofs.Common.{◌≡◌, ◌+◌, ◌<◌, ◌≤◌, ℕ, List, [], ◌∷◌, length, map, take, Some, Ok, refl, sym, ◌∙◌, ap, subst, arith}
use Rattle.std.specs.Prelude.{slice_get}
use Rattle.std.proofs.lemmas.List.{take_all}
use Rattle.std.proofs.lemmas.Option.{slice_get_within}
use Rattle.xq_atoms.specs.declared.refusals.Code.TheVariants.{FODC0005}
use Rattle.xq_atoms.specs.Address.{IsAddress}
use Rattle.xq_atoms.specs.Judged.{◌>>=◌, only_if}
use Rattle.xq_atoms.specs.Text.{Text}
use Rattle.xq_axes.specs.Many.{spot}
use Rattle.xq_trees.specs.declared.items.Node.{Node as Spot}
use Rattle.xq_trees.specs.Items.{ItemView, Place as NodeAt}
use Rattle.xq_trees.specs.Tree.{Tree}
use Rattle.xq_expressions.specs.declared.signatures.Function.TheVariants as function
use Rattle.xq_sources.specs.Addresses.{Rise}
use Rattle.xq_sources.specs.Sources.{HasNode}
use Rattle.xq_meaning.specs.declared.plans.Plan.{Plan, out-Plan}
use Rattle.xq_meaning.specs.declared.plans.Plan.TheVariants as plan
use Rattle.xq_meaning.specs.Doing.{go_on, in_turn}
use Rattle.xq_meaning.specs.Forms as Forms
use Rattle.xq_meaning.specs.Functions.{document, document_from}
use Rattle.xq_meaning.specs.Items.{Item, Node, root_of}
use Rattle.xq_meaning.specs.PlanMeaning.{Frame, plan_mean, plan_step_mean, next_step}
use Rattle.xq_meaning.specs.Readings.{node_at, item_at}
use Rattle.xq_meaning.proofs.PathLemmas.{map-map}
use Rattle.xq_meaning.proofs.PlanEquations.{plan-Call, plan-Path, plan-Str}
use Rattle.xq_functions.proofs.DocumentLemmas.{is_address-true, document_found}
use Rattle.xq_operators.specs.declared.contexts.EvalContext.{EvalContext as HeldFrame}
use Rattle.xq_operators.specs.Runs.{views_of, ScansGive}
use Rattle.xq_operators.specs.Views.{frame_at, nodes_in, FrameIn}
use Rattle.xq_joins.specs.declared.paths.DocumentPath.{DocumentPath}
use Rattle.xq_joins.specs.Paths.{steps_in}
use Rattle.xq_joins.specs.private.Paths.{IsDocument, IsDocumentPath}

-- # The document

-- what a search finds, where the text may be an address
pub found_document : (addresses : List Text) (address : Text) (tree : ℕ) → IsAddress address → Rise addresses → slice_get addresses tree ≡ Some address → IsDocument addresses address (record { tree = tree; pre = 0 })
found_document addresses address tree good rise at =
    let number : 0 + tree ≡ tree = omega arith in
    record {
      first = refl;
      within = slice_get_within addresses tree address at;
      is = ap (λ b. only_if b FODC0005 address >>= (λ t. document_from 0 addresses t)) (is_address-true address good)
          ∙ sym (document_found 0 addresses tree address rise at) ∙ ap (λ n. Ok (Node (root_of n) ∷ [])) number;
    }

-- a call with a literal
call_gives : (frame : Frame) (f : List Tree) (address : Text) (xs : List Item) → document frame.addresses address ≡ Ok xs
    → plan_mean (plan.Call function.Doc (plan.Str address ∷ [])) frame f ≡ (Ok xs, f)
call_gives frame f address xs is =
    ap (λ m. m frame f) (plan-Call function.Doc (plan.Str address ∷ []))
    ∙ ap (λ m. Forms.call function.Doc (m ∷ []) frame f) (plan-Str address)
    ∙ ap (λ r. (r, f)) is

-- the root of a tree is there, and it stands at the first place
has_root : (f : List Tree) (tree : ℕ) → tree < length f → HasNode f tree 0
has_root f tree h = record { tree_in = h; node_in = omega arith }

root_is : (f : List Tree) (n : Spot) → n.pre ≡ 0 → node_at f n ≡ root_of n.tree
root_is f n first = ap (λ pre. node_at f (record { tree = n.tree; pre = pre })) first

-- # The path

pub path_from : (frame : HeldFrame) (p : Plan) (address : Text) (path : DocumentPath) → p ≡ plan.Path (plan.Call function.Doc (plan.Str address ∷ [])) path.steps.now
    → IsDocument frame.addresses.now address path.document → IsDocumentPath frame path p
path_from frame p address path form at = record {
  steps = ap steps_in (ap out-Plan form ∙ plan.outs-Path (plan.Call function.Doc (plan.Str address ∷ [])) path.steps.now);
  there = λ f inside.
      let within : path.document.tree < length f = (let few = inside.addresses_in in let one = at.within in omega (arith, few, one)) in
      subst (HasNode f path.document.tree) (sym at.first) (has_root f path.document.tree within);
  gives = λ f inside.
      let fr = frame_at f frame in
      let start = plan.Call function.Doc (plan.Str address ∷ []) in
      let steps = map plan_step_mean path.steps.now in
      ap (λ q. plan_mean q fr f) form ∙ ap (λ m. m fr f) (plan-Path start path.steps.now)
      ∙ ap (λ o. go_on o (λ xs. in_turn (next_step fr) xs steps)) (call_gives fr f address (Node (root_of path.document.tree) ∷ []) at.is)
      ∙ ap (λ n. in_turn (next_step fr) (Node n ∷ []) steps f) (sym (root_is f path.document at.first));
}

-- the places after all of its steps are what the plan gives
pub path_places : (frame : HeldFrame) (p : Plan) (path : DocumentPath) (f : List Tree) (taken : ℕ) (ps : List ℕ) → IsDocumentPath frame path p → FrameIn f frame
    → length path.steps.now ≤ taken → ScansGive f path.document (take taken path.steps.now) (views_of path.document.tree ps)
    → plan_mean p (frame_at f frame) f ≡ (Ok (nodes_in f path.document.tree ps), f)
path_places frame p path f taken ps is inside all given =
    let fr = frame_at f frame in
    let tree = path.document.tree in
    let start = Node (node_at f path.document) ∷ [] in
    let view : ℕ → ItemView = λ q. NodeAt (spot tree q) in
    is.gives f inside
    ∙ ap (λ ss. in_turn (next_step fr) start (map plan_step_mean ss) f) (sym (take_all taken path.steps.now all))
    ∙ given.value fr
    ∙ ap (λ xs. (Ok xs, f)) (map-map (item_at f) view ps)
