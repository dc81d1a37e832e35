use Rattle.xq_parser.specs.private.Reading as spec
use Rattle.xq_parser.proofs.primaries.Grammar.make_instruction.Goals as goal

pub returns : goal.returns
unfolding spec.make_instruction
returns g c = c.instruction_after.ensures
