use Rattle.std.proofs.Common.{◌≡◌, ◌<◌, ◌-◌, suc, length, sym, ap, ◌∙◌, arith}
use Rattle.xq_sources.specs.private.Planted.{start_of}
use Rattle.xq_sources.proofs.Planting.{start-after}
use Rattle.xq_sources.proofs.planted.start_of.Goals as goal

pub returns-else-tree-eq0 : goal.returns-else-tree-eq0
returns-else-tree-eq0 c =
    let one : suc (c.args.tree - 1) ≡ c.args.tree = omega arith in
    let before : c.args.tree - 1 < length c.args.ends.now = omega arith in
    sym (start-after 0 c.args.ends.now (c.args.tree - 1) before) ∙ ap (start_of 0 c.args.ends.now) one
