use Rattle.std.proofs.Common.{refl}
use Rattle.std.proofs.lemmas.Result.{IfOk-weaker}
use Rattle.xq_optimise.proofs.nested.goes_on.Goals as goal

pub returns : goal.returns
returns c =
    IfOk-weaker c.are_steady.result _ _ (λ answer h yes'. (h yes', (c.if-not-reads_outside.ensures refl).1)) c.are_steady.ensures
