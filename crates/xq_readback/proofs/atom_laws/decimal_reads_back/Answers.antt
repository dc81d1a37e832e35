use Rattle.std.proofs.Common.{subst}
use Rattle.xq_atoms.specs.Decimal.{IsDecimal}
use Rattle.xq_readback.proofs.Decimals.{decimal-literal, decimal-cast}
use Rattle.xq_readback.proofs.atom_laws.decimal_reads_back.Goals as goal

pub returns : goal.returns
returns c =
    let within = subst IsDecimal c.millionths.ensures.value c.millionths.ensures.within in
    record {
      literal = decimal-literal c.args.value within;
      cast = decimal-cast c.args.value within;
    }
