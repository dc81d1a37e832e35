use Rattle.std.proofs.Common.{◌∷◌, ◌∙◌, reverse, subst, sym}
use Rattle.xq_optimise.specs.private.FirstTests.{SameClausesOf}
use Rattle.xq_optimise.proofs.LiftedParts.{first_of}
use Rattle.xq_optimise.proofs.first_tests.with_first_test.Goals as goal

pub returns-in_ok-after-in-Some-clause-same : goal.returns-in_ok-after-in-Some-clause-same
returns-in_ok-after-in-Some-clause-same c =
    let known = c.args.known.now.items in
    let first = c.in-Some.first in
    let rest = c.pop.new.self.items in
    let whole = first_of c.args.list c.in_ok-left.left.items rest first c.in_ok-left.ensures c.in-Some.ensures.items in
    let made = c.from_vec.ensures ∙ c.reverse.ensures.items in
    subst (λ l. SameClausesOf known l c.from_vec.result) (sym whole)
    (subst (SameClausesOf known (first ∷ reverse rest)) (sym made) c.in_ok-after-in-Some.ensures.same)
