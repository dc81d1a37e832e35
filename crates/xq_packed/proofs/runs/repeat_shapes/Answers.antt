use Rattle.std.proofs.Common.{rules, ◌≡◌, ◌≤◌, ◌<◌, ◌+◌, ◌-◌, length, get_or, sym, ◌∙◌, subst, arith}
use Rattle.std.specs.Prelude.{All, slice_range}
use Rattle.std.proofs.lemmas.List.Elements.{All-push}
use Rattle.xq_atoms.specs.declared.refusals.Want.TheVariants.{Memory}
use Rattle.xq_trees.specs.Tree.{most_levels}
use Rattle.xq_packed.specs.declared.shapes.Shape.{Shape}
use Rattle.xq_packed.specs.private.Shapes.{value_end}
use Rattle.xq_packed.specs.private.Copies.{IsMovedTo}
use Rattle.xq_packed.proofs.Repeating.{range_more, range_at, shifted_more, shape-before}
use Rattle.xq_packed.proofs.runs.repeat_shapes.Goals as goal
use Rattle.xq_packed.proofs.runs.repeat_shapes.Goals.{After-index-shape}

-- the shape at the place is that which stood there
same : (c : After-index-shape) → c.index-shape.result.now ≡ get_or c.args.shapes.now.items c.loop-at.at c.index-shape.result.now
same c =
    let way = c.args.way in
    let old = c.args.shapes.now.items in
    let inside : c.loop-at.at < length old = omega (arith, c.loop-at-test.true, c.requires.inside) in
    c.index-shape.ensures
    ∙ shape-before way.low way.base way.from way.to old (slice_range old c.args.low c.loop-at.at) c.loop-at.shapes.items c.loop-at.at c.index-shape.result.now c.loop-at.invariant.moved inside

-- so what holds of each of the run holds of it
holds : (c : After-index-shape) (P : Shape → Type 0) → All P (slice_range c.args.shapes.now.items c.args.low c.args.high) → P c.index-shape.result.now
holds c P all =
    subst P (sym (same c)) (range_at P c.args.shapes.now.items c.args.low c.args.high c.loop-at.at c.index-shape.result.now c.loop-at.auto.at c.loop-at-test.true c.requires.inside all)

pub moved_shape-requires : goal.moved_shape-requires
moved_shape-requires c = holds (goal.at.moved_shape-requires c).After-index-shape (λ (s : Shape). c.args.way.low ≤ value_end s) c.requires.ends

pub returns-in_err-moved_shape-clause-want : goal.returns-in_err-moved_shape-clause-want
returns-in_err-moved_shape-clause-want c = λ fit.
    (let low = holds (goal.at.returns-in_err-moved_shape-clause-want c).After-index-shape (λ (s : Shape). s.level - c.args.way.from + c.args.way.to < most_levels) fit in
    let memory : c.in_err-moved_shape.field-0.0 ≡ Memory = c.in_err-moved_shape.ensures.want low in
    search (rules, memory))

pub loop-at-preserved : goal.loop-at-preserved
loop-at-preserved c =
    let is = same (goal.at.loop-at-preserved c).After-index-shape in
    let way = c.args.way in
    let old = c.args.shapes.now.items in
    let at = c.loop-at.at in
    let s = c.index-shape.result.now in
    let t = c.in_ok-moved_shape.field-0 in
    let i = c.loop-at.invariant in
    let inside : at < length old = omega (arith, c.loop-at-test.true, c.requires.inside) in
    let fits : (get_or old at s).level - way.from + way.to < most_levels = subst (λ (q : Shape). q.level - way.from + way.to < most_levels) is c.in_ok-moved_shape.ensures.fits in
    record {
      room = omega (arith, i.room, c.loop-at-test.true, c.push_reserved.ensures.len, c.push_reserved.ensures.capacity);
      moved = shifted_more way.low way.base way.from way.to old c.args.low at s t c.loop-at.shapes.items c.push_reserved.new.self.items c.loop-at.auto.at inside i.moved (subst (λ (q : Shape). IsMovedTo way.low way.base way.from way.to q q.name t) is c.in_ok-moved_shape.ensures.moved) c.push_reserved.ensures.items;
      fit = subst (All (λ (q : Shape). q.level - way.from + way.to < most_levels)) (sym (range_more old c.args.low at s c.loop-at.auto.at inside)) (All-push (λ (q : Shape). q.level - way.from + way.to < most_levels) (slice_range old c.args.low at) (get_or old at s) i.fit fits);
    }
