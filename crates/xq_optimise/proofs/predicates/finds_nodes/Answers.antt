use Rattle.std.proofs.Common.{refl, sym, subst}
use Rattle.std.specs.List.{AllByRecursion}
use Rattle.xq_optimise.specs.Sure.{SurelyFinds}
use Rattle.xq_optimise.specs.private.Parts.{IsScan}
use Rattle.xq_optimise.proofs.ItemTests.{path_finds}
use Rattle.xq_optimise.proofs.predicates.finds_nodes.Goals as goal

pub returns-then-is_at_node : goal.returns-then-is_at_node
returns-then-is_at_node c = λ e.
    subst SurelyFinds (sym c.in-Path.is)
    (path_finds c.in-Path.start c.in-Path.steps (subst SurelyFinds c.get.ensures (c.if-is_at_node.ensures refl))
    (subst (AllByRecursion IsScan) c.as_slice.ensures (c.are_scans.ensures.all e)))
