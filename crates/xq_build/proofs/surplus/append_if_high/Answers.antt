use Rattle.std.proofs.Common.{◌≡◌, ◌∙◌, sym, arith, map, false, refl}
use Rattle.xq_trees.specs.Levels.{flat}
use Rattle.xq_build.specs.private.Content.{are_low}
use Rattle.xq_build.specs.private.Surplus.{copy_of}
use Rattle.xq_build.proofs.Contents.{leaf_added}
use Rattle.xq_build.proofs.Surpluses.{deep_low, root_low, short_nothing, short_seen, short_low, short_high}
use Rattle.xq_build.proofs.surplus.append_if_high.Goals as goal

pub returns-then-shape-gt0-clause-shortens : goal.returns-then-shape-gt0-clause-shortens
returns-then-shape-gt0-clause-shortens g c = λ h is seen.
    short_nothing (g.L.TreeSource.forest c.args.source.now) c.args.node c.args.shape (map flat c.args.rows.now.rows) (map flat c.args.rows.now.rows) c.args.seen.now.keys is c.requires.1 refl
    (λ _. deep_low (g.L.TreeSource.forest c.args.source.now) c.args.node c.args.shape is c.requires.0 (omega arith)) seen

pub returns-then-not-branch-clause-shortens : goal.returns-then-not-branch-clause-shortens
returns-then-not-branch-clause-shortens g c = λ h is seen.
    short_seen (g.L.TreeSource.forest c.args.source.now) c.args.node c.args.shape (map flat c.args.rows.now.rows) (map flat c.args.rows.now.rows) c.args.seen.now.keys c.insert.new.self.keys c.in_ok-insert.field-0
    is c.requires.1 (omega arith) refl seen c.in_ok-insert.ensures.added c.if-not-branch.true c.in_ok-insert.ensures.keys

pub returns-in_ok-push_parts-clause-shortens : goal.returns-in_ok-push_parts-clause-shortens
returns-in_ok-push_parts-clause-shortens g c = λ h is seen.
    (let trees = g.L.TreeSource.forest c.args.source.now in
    let low : are_low (copy_of trees c.args.node) ≡ false =
    root_low trees c.args.node c.args.shape is c.requires.0 (omega arith) (omega arith) ∙ sym (c.in_ok-are_low_between.ensures.low h) ∙ c.if-not-branch-2.true in
    short_high trees c.args.node c.args.shape (map flat c.args.rows.now.rows) (map flat c.push_parts.new.self.rows) _ c.insert.new.self.keys is c.requires.1
    (leaf_added c.args.rows.now.rows c.push_parts.new.self.rows _ c.in_ok-push_parts.ensures.rows) refl low)

pub returns-else-not-branch-2-clause-shortens : goal.returns-else-not-branch-2-clause-shortens
returns-else-not-branch-2-clause-shortens g c = λ h is seen.
    (let trees = g.L.TreeSource.forest c.args.source.now in
    let low = root_low trees c.args.node c.args.shape is c.requires.0 (omega arith) (omega arith) ∙ sym (c.in_ok-are_low_between.ensures.low h) ∙ c.if-not-branch-2.false in
    short_low trees c.args.node c.args.shape (map flat c.args.rows.now.rows) (map flat c.args.rows.now.rows) c.args.seen.now.keys c.insert.new.self.keys c.in_ok-insert.field-0
    is c.requires.1 (omega arith) refl seen c.in_ok-insert.ensures.added c.if-not-branch.false c.in_ok-insert.ensures.keys low)
