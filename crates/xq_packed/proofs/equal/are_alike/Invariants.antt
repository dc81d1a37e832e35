use Rattle.std.proofs.Common.{◌≡◌, length}
use Rattle.std.specs.Prelude.{All}
use Rattle.xq_packed.specs.private.Alike.{AreAlike}
use Rattle.xq_packed.specs.private.Copies.{IsKnown}
use Rattle.xq_packed.proofs.equal.are_alike.Given as goal

-- the rows so far are the same but for their values
abbrev pub invariant-loop-at : goal.invariant-loop-at
invariant-loop-at l = record {
  some : length l.known ≡ 16;
  known : All (IsKnown l.others l.names) l.known;
  alike : AreAlike l.names l.others l.run.start l.run.other l.mine l.its l.run.low l.at;
}
