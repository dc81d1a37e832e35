use Rattle.std.proofs.Common.{◌≡◌, ◌-◌, suc, refl, arith}
use Rattle.xq_parser.specs.private.Reading.{single}
use Rattle.xq_parser.proofs.parsing.+single.Goals as goal

pub single-returns-then-depth-eq0 : goal.single-returns-then-depth-eq0
unfolding single
single-returns-then-depth-eq0 t c = let none : c.args.depth ≡ 0 = omega arith in rw none refl

pub single-returns : goal.single-returns
unfolding single
single-returns t c = let e : c.args.depth ≡ suc (c.args.depth - 1) = omega arith in rw e c.any.ensures
