use Rattle.std.proofs.Common.{subst}
use Rattle.std.proofs.lemmas.Result.{IfOk-weaker}
use Rattle.xq_optimise.specs.private.Invariants.{LiftsTo}
use Rattle.xq_optimise.proofs.LiftedParts.{none_of_first, part_of_first}
use Rattle.xq_optimise.proofs.invariants.lifted_first.Goals as goal

pub returns-in-Part : goal.returns-in-Part
returns-in-Part c =
    IfOk-weaker c.first_and.result _ _
    (λ found h. part_of_first c.args.known.now c.args.early c.args.predicates c.in_ok-left.left.items c.pop.new.self.items c.in-Part.near c.in-Some.first c.in-Part.part c.in-Part.reads found.parts found.predicates
    c.in_ok-left.ensures c.in-Some.ensures.items c.requires (subst (LiftsTo c.args.known.now c.args.early c.in-Some.first) c.in-Part.is c.in_ok-near-in-Some.ensures) h.0 h.1)
    c.first_and.ensures

pub returns-in-Other : goal.returns-in-Other
returns-in-Other c =
    IfOk-weaker c.first_and-in-Other.result _ _
    (λ found h. none_of_first c.args.known.now c.args.early c.args.predicates c.in_ok-left.left.items c.pop.new.self.items c.in-Some.first c.in-Other.first found.parts found.predicates
    c.in_ok-left.ensures c.in-Some.ensures.items (subst (LiftsTo c.args.known.now c.args.early c.in-Some.first) c.in-Other.is c.in_ok-near-in-Some.ensures) h.0 h.1)
    c.first_and-in-Other.ensures
