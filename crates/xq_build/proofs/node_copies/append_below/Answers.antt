use Rattle.std.proofs.Common.{◌∙◌, ◌+◌, ap, sym, arith, map, ◌++◌}
use Rattle.std.proofs.lemmas.List.{append-nil}
use Rattle.xq_trees.specs.Levels.{flat}
use Rattle.xq_sources.specs.Sources.{tree_at}
use Rattle.xq_build.specs.private.Leaves.{lowered}
use Rattle.xq_build.proofs.Subtrees.{none_left}
use Rattle.xq_build.proofs.node_copies.append_below.Goals as goal

pub returns-then-size-eq0-clause-copied : goal.returns-then-size-eq0-clause-copied
returns-then-size-eq0-clause-copied g c = λ _.
    (let t = tree_at (g.L.TreeSource.forest c.args.source.now) c.args.node.tree in
    sym (append-nil (map flat c.args.copies.now.rows))
    ∙ ap (λ l. map flat c.args.copies.now.rows ++ map (lowered c.args.base) l) (sym (none_left t (c.args.node.pre + 1) (c.args.node.pre + c.args.size) (omega arith))))
