use Rattle.xq_readback.proofs.Trees.{legible_is_printable}
use Rattle.xq_readback.proofs.printable.legible_is_printable.Goals as goal

pub returns : goal.returns
returns c = legible_is_printable
