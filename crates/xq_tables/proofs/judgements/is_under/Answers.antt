use Rattle.std.proofs.Common.{refl}
use Rattle.xq_tables.proofs.Adopts.{own_under, none_under}
use Rattle.xq_tables.proofs.judgements.is_under.Goals as goal

pub returns-in-Some : goal.returns-in-Some
returns-in-Some c = own_under c.args.address.now c.in-Some.own.now c.args.row.now c.eq.result c.eq.ensures c.in-Some.ensures.some

pub returns-in-None : goal.returns-in-None
returns-in-None c = none_under c.args.address.now c.args.row.now (c.in-None.ensures.none refl)
