use Rattle.std.proofs.Common.{string_bytes, arith}
use Rattle.std.proofs.lemmas.Result.{err_from_is_err_and}
use Rattle.xq_sources.specs.Lent.{placed_lent}
use Rattle.xq_build.proofs.Written.{run_refused}
use Rattle.xq_build.proofs.printer.append_run.Goals as goal

pub returns-in_err-depth : goal.returns-in_err-depth
returns-in_err-depth c =
    let p = err_from_is_err_and c.from_residual.result c.from_residual.ensures.1 in
    rw (p.1, p.2)
    (λ others. run_refused c.args.limit c.in_err-depth.field-0.0 (string_bytes c.loop-at.text) _ c.loop-at.depth c.args.base c.loop-at.at c.args.rows.now (placed_lent c.row.result) others
    (omega arith) c.row.ensures (c.loop-at.invariant.written others) c.in_err-depth.ensures)
