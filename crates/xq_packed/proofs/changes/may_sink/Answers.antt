use Rattle.std.proofs.Common.{◌+◌, ◌<◌, ◌≤◌, length, get_or, take, refl, sym, arith}
use Rattle.std.proofs.lemmas.Bool.{true≢false}
use Rattle.std.proofs.lemmas.List.{take_all}
use Rattle.std.proofs.lemmas.List.Elements.{All-more, All-same}
use Rattle.xq_trees.specs.Tree.{most_levels}
use Rattle.xq_packed.specs.declared.shapes.Shape.{Shape}
use Rattle.xq_packed.proofs.Changing.{no_shape}
use Rattle.xq_packed.proofs.changes.may_sink.Goals as goal

pub loop-shape-preserved : goal.loop-shape-preserved
loop-shape-preserved c =
    let shapes = c.args.shapes.now in
    let at = c.loop-shape.shape-index in
    let low : (get_or shapes at no_shape).level + 1 < most_levels = omega (arith, c.from.ensures, c.if-from-ge-MAX_LEVEL.false) in
    All-more (λ (s : Shape). s.level + 1 < most_levels) shapes at no_shape c.loop-shape-test.true c.loop-shape.invariant low

pub returns-then-from-ge-MAX_LEVEL : goal.returns-then-from-ge-MAX_LEVEL
returns-then-from-ge-MAX_LEVEL c =
    let at = c.loop-shape.shape-index in
    (λ t. absurd (true≢false (sym t)), λ all. absurd (omega (arith, c.from.ensures, c.if-from-ge-MAX_LEVEL.true, all at no_shape c.loop-shape-test.true)))

pub returns : goal.returns
returns c =
    let shapes = c.args.shapes.now in
    let past : length shapes ≤ c.loop-shape.shape-index = c.loop-shape-test.false in
    (λ _. All-same (λ (s : Shape). s.level + 1 < most_levels) shapes (take c.loop-shape.shape-index shapes) (sym (take_all c.loop-shape.shape-index shapes past)) c.loop-shape.invariant, λ _. refl)
