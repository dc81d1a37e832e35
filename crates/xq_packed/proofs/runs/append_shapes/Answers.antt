use Rattle.std.proofs.Common.{◌≡◌, ◌<◌, ◌+◌, ◌-◌, ℕ, Result, Ok, Err, take, length, arith}
use Rattle.std.specs.Prelude.{OnErr}
use Rattle.std.proofs.lemmas.List.Elements.{All-more}
use Rattle.xq_trees.specs.Tree.{most_levels}
use Rattle.xq_packed.specs.declared.shapes.Shape.{Shape}
use Rattle.xq_packed.specs.private.Copies.{with_named}
use Rattle.xq_packed.proofs.Changing.{no_shape}
use Rattle.xq_packed.proofs.Appending.{moved_more, named_more}
use Rattle.xq_packed.proofs.runs.append_shapes.Goals as goal
use Rattle.xq_packed.proofs.runs.append_shapes.Goals.{In_ok-name}

on_err : {A E : Type 0} (P : Type 0) (r : Result A E) → P → OnErr r P
on_err P (Ok x) p = tt
on_err P (Err e) p = p

-- the names after the next
named : (c : In_ok-name) → c.number_again.new.names ≡ with_named c.args.others.now c.args.names.now (take (c.loop-shape.shape-index + 1) c.args.run.now)
named c =
    named_more c.args.others.now c.args.names.now c.loop-shape.names c.number_again.new.names c.args.run.now c.loop-shape.shape-index no_shape c.loop-shape-test.true c.loop-shape.invariant.names c.in_ok-name.ensures.names

pub loop-shape-preserved : goal.loop-shape-preserved
loop-shape-preserved c =
    let others = c.args.others.now in
    let names = c.loop-shape.names in
    let later = c.number_again.new.names in
    let run = c.args.run.now in
    let at = c.loop-shape.shape-index in
    let i = c.loop-shape.invariant in
    let inside : at < length run = c.loop-shape-test.true in
    let way = c.args.way in
    record {
      some = omega (arith, c.number_again.auto.known, i.some);
      known = c.in_ok-name.ensures.known;
      moved = moved_more others names later way.low way.base way.from way.to c.args.shapes.now.items run at no_shape c.in_ok-moved_shape.field-0 c.in_ok-name.name c.loop-shape.shapes.items c.push.new.self.items inside i.moved c.in_ok-name.ensures.names c.in_ok-moved_shape.ensures.moved c.in_ok-name.ensures.number c.in_ok-push.ensures.items;
      names = named_more others c.args.names.now names later run at no_shape inside i.names c.in_ok-name.ensures.names;
      fit = All-more (λ (s : Shape). s.level - way.from + way.to < most_levels) run at no_shape inside i.fit c.in_ok-moved_shape.ensures.fits;
    }

-- some of the names were added
abbrev Added : In_ok-name → Type 0
Added c = (count : ℕ) × (c.number_again.new.names ≡ with_named c.args.others.now c.args.names.now (take count c.args.run.now))

added : (c : In_ok-name) → Added c
added c = (c.loop-shape.shape-index + 1, named c)

pub returns-in_err-moved_shape-clause-some : goal.returns-in_err-moved_shape-clause-some
returns-in_err-moved_shape-clause-some c =
    let n = (goal.at.returns-in_err-moved_shape-clause-some c).In_ok-name in
    on_err (Added n) c.from_residual-in_err-moved_shape.result (added n)

pub returns-in_err-push-clause-some : goal.returns-in_err-push-clause-some
returns-in_err-push-clause-some c =
    let n = (goal.at.returns-in_err-push-clause-some c).In_ok-name in
    on_err (Added n) c.from_residual-in_err-push.result (added n)
