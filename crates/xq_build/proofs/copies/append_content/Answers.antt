use Rattle.std.proofs.Common.{◌≡◌, ◌∙◌, ◌+◌, ℕ, ap, sym, List, map, ◌++◌, arith}
use Rattle.xq_trees.specs.Tree.{Tree}
use Rattle.xq_trees.specs.Levels.{flat}
use Rattle.xq_sources.specs.Sources.{tree_at}
use Rattle.xq_build.specs.private.Leaves.{Leaf, IsShapeOf, lowered, leaves_between}
use Rattle.xq_build.proofs.Subtrees.{document_leaves, whole_copied}
use Rattle.xq_build.proofs.Contents.{childless_node}
use Rattle.xq_build.proofs.copies.append_content.Goals as goal

pub returns-in_ok-append_below-in-Document-clause-copied : goal.returns-in_ok-append_below-in-Document-clause-copied
returns-in_ok-append_below-in-Document-clause-copied g c = λ h.
    (let trees = g.L.TreeSource.forest c.args.source.now in
    let n = c.args.node in
    let shape = c.in_ok-shape.shape in
    let old : List Leaf = map flat c.args.copies.now.rows in
    let is : IsShapeOf trees n shape = c.in_ok-shape.ensures.found (c.append_below.ensures.was_clean h) in
    let b : c.in-Some.base ≡ shape.level + 1 = omega (arith, c.in-Some.ensures) in
    c.in_ok-append_below-in-Document.ensures.copied h
    ∙ ap (λ (ts : List Tree). old ++ map (lowered c.in-Some.base) (leaves_between (tree_at ts n.tree) (n.pre + 1) (n.pre + shape.size))) c.shape_of_node.ensures.keeps
    ∙ ap (λ (base : ℕ). old ++ map (lowered base) (leaves_between (tree_at trees n.tree) (n.pre + 1) (n.pre + shape.size))) b
    ∙ ap (λ (l : List Leaf). old ++ l) (document_leaves trees n shape is c.in-Document.is))

pub returns-in_ok-append_whole-in_default-clause-copied : goal.returns-in_ok-append_whole-in_default-clause-copied
returns-in_ok-append_whole-in_default-clause-copied g c = λ h.
    whole_copied (g.L.TreeSource.forest c.args.source.now) (g.L.TreeSource.forest c.shape_of_node.new.source) c.args.node c.in_ok-shape.shape
    (map flat c.args.copies.now.rows) (map flat c.append_whole.new.copies.rows) (sym c.shape_of_node.ensures.keeps)
    (c.in_ok-shape.ensures.found (c.append_whole.ensures.was_clean h)) c.in_default.not-Document (c.in_ok-append_whole-in_default.ensures.copied h)

pub returns-in_ok-append_below-in-Document-clause-childless : goal.returns-in_ok-append_below-in-Document-clause-childless
returns-in_ok-append_below-in-Document-clause-childless g c = λ h.
    childless_node (g.L.TreeSource.forest c.args.source.now) c.args.node c.in_ok-shape.shape (c.in_ok-shape.ensures.found (c.append_below.ensures.was_clean h))

pub returns-in_ok-append_whole-in_default-clause-childless : goal.returns-in_ok-append_whole-in_default-clause-childless
returns-in_ok-append_whole-in_default-clause-childless g c = λ h.
    childless_node (g.L.TreeSource.forest c.args.source.now) c.args.node c.in_ok-shape.shape (c.in_ok-shape.ensures.found (c.append_whole.ensures.was_clean h))
