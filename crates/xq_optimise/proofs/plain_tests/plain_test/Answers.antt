use Rattle.std.proofs.Common.{sym, subst}
use Rattle.std.proofs.lemmas.Result.{IfOk-weaker}
use Rattle.xq_optimise.specs.private.PlainTests.{KeepsAsOther}
use Rattle.xq_optimise.proofs.PlainTests.{same_kept}
use Rattle.xq_optimise.proofs.plain_tests.plain_test.Goals as goal

pub returns-in-Chain : goal.returns-in-Chain
returns-in-Chain c =
    IfOk-weaker c.plain_chain.result _ _
    (λ found h. same_kept c.args.known.now c.args.predicate found (subst (λ p. KeepsAsOther p found) (sym c.in-Chain.is) h)) c.plain_chain.ensures
