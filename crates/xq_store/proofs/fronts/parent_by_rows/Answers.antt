use Rattle.std.proofs.Common.{sym, subst}
use Rattle.xq_store.specs.private.Shelves.{IsFront}
use Rattle.xq_store.proofs.Parents.{by_rows}
use Rattle.xq_store.proofs.fronts.parent_by_rows.Goals as goal

pub returns : goal.returns
returns c = λ t is.
    by_rows t c.lent.result (subst (IsFront t) (sym c.lent.ensures) is.rows) c.args.node c.parent.result c.parent.ensures
