use Rattle.xq_readback.proofs.Rounding.{floor_is, ceiling_is, round_is}
use Rattle.xq_readback.proofs.atom_laws.rounds_to_whole_numbers.Goals as goal

pub returns-clause-floor : goal.returns-clause-floor
returns-clause-floor c = floor_is c.args.value

pub returns-clause-ceiling : goal.returns-clause-ceiling
returns-clause-ceiling c = ceiling_is c.args.value

pub returns-clause-round : goal.returns-clause-round
returns-clause-round c = round_is c.args.value
