-- What is told of an outcome by one atom, as what a call gives.
use Rattle.std.proofs.Common.{◌≡◌, List, Some, Ok, Err, sym, ◌∙◌}
use Rattle.xq_atoms.specs.declared.atoms.Atom.{Atom}
use Rattle.xq_atoms.specs.declared.refusals.Fault.{Fault}
use Rattle.xq_atoms.specs.declared.refusals.Fault.TheVariants.{Code as OfCode, Want as OfWant}
use Rattle.xq_atoms.specs.Atom.{Atomic, atomic_of}
use Rattle.xq_trees.specs.Tree.{Tree}
use Rattle.xq_meaning.specs.Doing.{Outcome}
use Rattle.xq_operators.specs.Views.{GivesAs}
use Rattle.xq_joins.specs.Atoms.{Tells}

module _ {B R S : Type 0} (make : Atomic → B) (view : R → S) (read : List Tree → S → B) (In : List Tree → S → Type 0) (outcome : Outcome B) (f f' : List Tree) where
  pub told : (a : Atom) (r : R) → f' ≡ f → In f' (view r) → make (atomic_of a) ≡ read f' (view r) → Tells make outcome f (Ok (Some a)) → GivesAs view read In outcome f' (Ok r)
  told a r same inside is h = (inside, h ∙ (λ i. (Ok (is i), sym same i)))

  pub told_stop : (e : Fault) → Tells make outcome f (Err e) → GivesAs view read In outcome f' (Err e)
  told_stop (OfCode code) h = h
  told_stop (OfWant want) h = tt
