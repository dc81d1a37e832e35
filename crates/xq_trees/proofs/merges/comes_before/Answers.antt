use Rattle.std.proofs.Common.{nat_eq, nat_lt}
use Rattle.xq_trees.proofs.Rising.{before_is}
use Rattle.xq_trees.proofs.merges.comes_before.Goals as goal

pub returns : goal.returns
returns c = before_is (nat_lt c.args.first.now.tree c.args.second.now.tree) (nat_eq c.args.first.now.tree c.args.second.now.tree) (nat_lt c.args.first.now.pre c.args.second.now.pre) (nat_eq c.args.first.now.pre c.args.second.now.pre)
