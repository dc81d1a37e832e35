-- What comes of a judgement, over trees that are as they were.
use Rattle.std.proofs.Common.{◌≡◌, List, Ok, Err, sym, ◌∙◌, ap}
use Rattle.xq_atoms.specs.Answers.{GivesUnlessWanting}
use Rattle.xq_atoms.specs.Judged.{Judged}
use Rattle.xq_atoms.specs.declared.refusals.Fault.{Fault}
use Rattle.xq_atoms.specs.declared.refusals.Fault.TheVariants.{Code as OfCode, Want as OfWant}
use Rattle.xq_trees.specs.Items.{ItemView}
use Rattle.xq_trees.specs.Tree.{Tree}
use Rattle.xq_trees.specs.declared.items.Node.{Node as HeldNode}
use Rattle.xq_meaning.specs.Doing.{Doing, go_on}
use Rattle.xq_meaning.specs.Items.{Item}
use Rattle.xq_meaning.specs.Readings.{items_at, AreIn}
use Rattle.xq_operators.specs.Views.{GivesAs, GivesNode}

pub then_given : {A : Type 0} (judgement : Judged A) (next : A → Doing (List Item)) (old last new : List Tree) (x : A) (node : HeldNode) → last ≡ old → judgement ≡ Ok x
    → GivesNode (next x last) new (Ok node) → GivesNode (go_on (judgement, old) next) new (Ok node)
then_given judgement next old last new x node e j h = (h.0, ap (λ r. go_on (r, old) next) j ∙ ap (next x) (sym e) ∙ h.1)

pub then_refused : {A R : Type 0} (view : R → List ItemView) (judgement : Judged A) (next : A → Doing (List Item)) (old new : List Tree) (fault : Fault)
    → GivesUnlessWanting (λ (x : A). x) judgement (Err fault) → GivesAs view items_at AreIn (go_on (judgement, old) next) new (Err fault)
then_refused view judgement next old new (OfCode code) h = ap (λ r. (go_on (r, old) next).0) h
then_refused view judgement next old new (OfWant want) h = tt
