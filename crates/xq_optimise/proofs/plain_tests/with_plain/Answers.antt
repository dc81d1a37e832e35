use Rattle.std.proofs.Common.{◌∷◌, []}
use Rattle.std.proofs.lemmas.Result.{IfOk-weaker}
use Rattle.xq_optimise.proofs.plain_tests.with_plain.Goals as goal

pub returns : goal.returns
returns c = IfOk-weaker c.pushed.result _ _ (λ after h. (c.in_ok-plain.plain ∷ [], h, c.in_ok-plain.ensures)) c.pushed.ensures
