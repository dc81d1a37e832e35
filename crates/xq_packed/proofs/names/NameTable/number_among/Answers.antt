use Rattle.std.proofs.Common.{sym}
use Rattle.xq_packed.proofs.Knowing.{with-known}
use Rattle.xq_packed.proofs.names.NameTable.number_among.Goals as goal

pub returns-in-Some-clause-names : goal.returns-in-Some-clause-names
returns-in-Some-clause-names c =
    sym (with-known c.args.self.now c.in-Some.number c.args.name.now c.in-Some.ensures.number.numbered)
