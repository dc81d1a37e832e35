use Rattle.std.proofs.Common.{◌≡◌, ◌+◌, ◌≤◌, length}
use Rattle.xq_lexer.specs.Separators as sep
use Rattle.xq_lexer.proofs.separators.skip.Given as goal

abbrev pub invariant-loop-deeper : goal.invariant-loop-deeper
invariant-loop-deeper l = record { same : sep.skip 0 l.chars ≡ sep.skip l.depth l.rest; room : l.depth + length l.rest ≤ length l.chars }

abbrev pub decreases-loop-deeper : goal.decreases-loop-deeper
decreases-loop-deeper l = length l.rest
