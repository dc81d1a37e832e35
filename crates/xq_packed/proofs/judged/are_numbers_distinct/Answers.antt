use Rattle.std.proofs.Common.{◌≡◌, false, get_or}
use Rattle.std.specs.Prelude.{nat_eq}
use Rattle.std.specs.List.{list_any}
use Rattle.std.proofs.lemmas.List.{get_or_default}
use Rattle.xq_packed.proofs.Changing.{no_shape}
use Rattle.xq_packed.proofs.Judging.{doubled, seen_more, distinct_more, is_new}
use Rattle.xq_packed.proofs.judged.are_numbers_distinct.Goals as goal

pub returns-then-not-branch-clause-distinct : goal.returns-then-not-branch-clause-distinct
returns-then-not-branch-clause-distinct c =
    let shapes = c.args.shapes.now in
    let at = c.loop-shape.shape-index in
    let s = get_or shapes at no_shape in
    doubled shapes at s c.loop-shape.seen.keys c.loop-shape-test.true (get_or_default shapes at no_shape s c.loop-shape-test.true) c.loop-shape.invariant.seen c.in_ok-insert.field-0 c.in_ok-insert.ensures.added c.if-not-branch.true

pub loop-shape-preserved : goal.loop-shape-preserved
loop-shape-preserved c =
    let shapes = c.args.shapes.now in
    let at = c.loop-shape.shape-index in
    let s = get_or shapes at no_shape in
    let here = get_or_default shapes at no_shape s c.loop-shape-test.true in
    let keys = c.loop-shape.seen.keys in
    let none : list_any (nat_eq s.name) keys ≡ false = is_new c.in_ok-insert.field-0 (list_any (nat_eq s.name) keys) c.in_ok-insert.ensures.added c.if-not-branch.false in
    record {
      seen = seen_more shapes at s keys c.loop-shape-test.true here c.loop-shape.invariant.seen c.insert.new.self.keys c.in_ok-insert.ensures.keys none;
      distinct = distinct_more shapes at s keys c.loop-shape-test.true here c.loop-shape.invariant.seen none c.loop-shape.invariant.distinct;
    }
