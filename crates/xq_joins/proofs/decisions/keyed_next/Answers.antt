use Rattle.std.proofs.Common.{refl}
use Rattle.xq_joins.proofs.Deciding.{next_is}
use Rattle.xq_joins.proofs.decisions.keyed_next.Goals as goal

pub returns : goal.returns
returns c =
    let pair = c.in_ok-pair.pair in
    next_is c.args.next pair (record { axis = c.in_ok-axis.axis; test = c.in_ok-axis.of; key = pair.tuple }) c.args.test.now c.in_ok-pair.ensures.test c.in_ok-pair.ensures.next c.in_ok-pair.ensures.earlier refl c.in_ok-axis.ensures
