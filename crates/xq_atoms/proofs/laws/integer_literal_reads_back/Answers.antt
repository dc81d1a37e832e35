use Rattle.xq_atoms.proofs.ReadBack.{integer_literal-decimal}
use Rattle.xq_atoms.proofs.laws.integer_literal_reads_back.Goals as goal

pub returns : goal.returns
returns c = λ small. integer_literal-decimal c.args.value small
