-- Constructed nodes, which are answered in no list.
use Rattle.std.proofs.Common.{◌≡◌, List, [], ◌∷◌, Result, Ok, Err, ap, ◌∙◌, subst, sym}
use Rattle.std.specs.Prelude.{IsErrAnd}
use Rattle.xq_atoms.specs.declared.refusals.Fault.{Fault}
use Rattle.xq_atoms.specs.declared.refusals.Fault.TheVariants.{Code as OfCode, Want as OfWant}
use Rattle.xq_atoms.specs.declared.refusals.Want.TheVariants.{Memory}
use Rattle.xq_atoms.specs.Answers.{GivesOr}
use Rattle.xq_atoms.specs.Atom.{String}
use Rattle.xq_atoms.specs.Text.{Text}
use Rattle.xq_expressions.specs.declared.operators.NamedNode.{NamedNode}
use Rattle.xq_trees.specs.declared.items.Node.{Node}
use Rattle.xq_trees.specs.Items.{ItemView, Place}
use Rattle.xq_trees.specs.Tree.{Tree}
use Rattle.xq_meaning.specs.Content.{name_of}
use Rattle.xq_meaning.specs.Doing.{Doing, Outcome, go_on, judged}
use Rattle.xq_meaning.specs.Items.{Item}
use Rattle.xq_operators.specs.Views.{GivesAs, GivesNode}

-- the node alone, as what a list of items holds
abbrev pub one_node : Node → List ItemView
one_node node = Place node ∷ []

-- a refusal as what is answered otherwise
pub refused_so : {R R' S S' B : Type 0} (view : R → S) (view' : R' → S') (read : List Tree → S → B) (read' : List Tree → S' → B) (In : List Tree → S → Type 0) (In' : List Tree → S' → Type 0) (outcome : Outcome B) (f : List Tree) (e : Fault) (r : Result R' Fault)
    → IsErrAnd r (λ other. other ≡ e) → GivesAs view read In outcome f (Err e) → GivesAs view' read' In' outcome f r
refused_so view view' read read' In In' outcome f (OfCode code) (Err other) is h = subst (λ x. GivesAs view' read' In' outcome f (Err x)) (sym is) h
refused_so view view' read read' In In' outcome f (OfWant want) (Err other) is h = subst (λ x. GivesAs view' read' In' outcome f (Err x)) (sym is) tt
refused_so view view' read read' In In' outcome f e (Ok v) is h = elim is [ ]

-- a name that is refused
pub name_refused : (kind : NamedNode) (text : Text) (outcome : Outcome (List Item)) (next : Text → Doing (List Item)) (f : List Tree) (e : Fault) (r : Result Node Fault)
    → outcome ≡ go_on (judged (name_of kind (String text ∷ [])) f) next → IsErrAnd r (λ other. other ≡ e) → GivesOr (λ want. want ≡ Memory) (λ (t : Text). t) (name_of kind (String text ∷ [])) (Err e) → GivesNode outcome f r
name_refused kind text outcome next f (OfCode code) (Err other) begun is h = subst (λ x. GivesNode outcome f (Err x)) (sym is) (ap (λ (o : Outcome (List Item)). o.0) (begun ∙ ap (λ j. go_on (judged j f) next) h))
name_refused kind text outcome next f (OfWant want) (Err other) begun is h = subst (λ x. GivesNode outcome f (Err x)) (sym is) tt
name_refused kind text outcome next f e (Ok v) begun is h = elim is [ ]
