use Rattle.std.proofs.Common.{◌≡◌, List, Ok, map, ap, ◌∙◌, sym, arith}
use Rattle.xq_atoms.specs.Atom.{atomic_of}
use Rattle.xq_atoms.specs.declared.atoms.Atom.{Atom}
use Rattle.xq_trees.specs.Tree.{Tree}
use Rattle.xq_tuples.specs.Views.{values_of}
use Rattle.xq_meaning.specs.declared.plans.Plan.TheVariants as plan
use Rattle.xq_meaning.specs.Arguments.{atomic}
use Rattle.xq_meaning.specs.Forms as Forms
use Rattle.xq_meaning.specs.PlanMeaning.{Frame, plan_mean}
use Rattle.xq_operators.specs.Views.{tuple_at}
use Rattle.xq_eval.specs.private.AtHand.{Gives}
use Rattle.xq_eval.proofs.Counted.{given_so, only_one}
use Rattle.xq_eval.proofs.Picking.{picked_alone}
use Rattle.xq_eval.proofs.at_hand.picked.Goals as goal

pub returns : goal.returns
returns c =
    let start = c.args.start.now in
    let predicates = c.args.predicates.now in
    let predicate = c.predicate-item.result in
    let parts = c.as_slice-parts.result.now in
    let part = c.index-parts-index.result in
    let index = c.in-Some.index in
    given_so c.literal.result (λ atom. Gives part (atomic_of atom))
    (λ (atom : Atom). (trees : List Tree) (frame : Frame) → frame.env ≡ tuple_at trees (values_of c.args.slots.now) → Forms.filter_of (plan_mean start) (map plan_mean predicates) frame trees ≡ (Ok (atomic (atomic_of atom)), trees))
    (λ atom gives trees frame env.
    picked_alone frame trees start predicate part parts predicates index (atomic_of atom) (c.in-Sequence.is ∙ ap plan.Sequence (sym c.as_slice-parts.ensures)) (only_one predicates predicate (omega arith) c.predicate-item.is)
    (c.are_literals.ensures c.if-not-are_literals.false) c.in-Some.ensures.0 c.index-parts-index.is gives (λ spot. c.in-Some.ensures.1 trees (Forms.in_focus frame spot) env))
    c.literal.ensures
