use Rattle.std.proofs.Common.{◌+◌, ◌*◌}
use Rattle.xq_parser.proofs.parsing.+single.Given as goal

-- # Measures: at one depth a function calls those of a lower number

abbrev pub decreases-single : goal.decreases-single
decreases-single l = 11 * l.depth

abbrev pub decreases-operands : goal.decreases-operands
decreases-operands l = 11 * l.depth + l.level + 1
