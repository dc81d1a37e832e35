use Rattle.xq_readback.proofs.Integers.{integer-literal, integer-least, integer-cast}
use Rattle.xq_readback.proofs.atom_laws.integer_reads_back.Goals as goal

pub returns : goal.returns
returns c = record {
  literal = λ above. integer-literal c.args.value c.ranges.value above;
  least = λ is. integer-least c.args.value is;
  cast = integer-cast c.args.value c.ranges.value;
}
