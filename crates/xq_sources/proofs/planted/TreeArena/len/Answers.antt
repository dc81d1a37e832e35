use Rattle.std.proofs.Common.{length, ap, arith}
use Rattle.xq_sources.proofs.Planting.{length-trees}
use Rattle.xq_sources.proofs.planted.TreeArena.len.Goals as goal

pub returns : goal.returns
returns c =
    let many = length-trees c.self.inside.rows.rows 0 c.self.inside.ends.items in
    let seen = ap length c.self.view_is in
    omega (arith, c.len.ensures, many, seen)
