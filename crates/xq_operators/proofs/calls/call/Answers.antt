use Rattle.std.proofs.Common.{◌≡◌, ◌≤◌, ◌<◌, ◌∷◌, [], ap, sym, subst, map, length, arith}
use Rattle.xq_trees.specs.Items.{item_views}
use Rattle.xq_operators.specs.Views.{tuple_at, focus_at, frame_at, lists_of, calling, TupleIn, GivesSequence}
use Rattle.std.specs.List.{AllByRecursion}
use Rattle.std.proofs.lemmas.List.{length-map}
use Rattle.xq_operators.specs.Reads.{IsAtom}
use Rattle.xq_operators.proofs.CallForms.{call_gives, lone, nothing}
use Rattle.xq_operators.proofs.calls.call.Goals as goal

pub returns-then-len-ge2-clause-gives : goal.returns-then-len-ge2-clause-gives
returns-then-len-ge2-clause-gives g c = λ k inside lists.
    let old = g.W.TreeSource.forest c.args.world.now in
    let frame = c.args.frame in
    let addresses = frame.addresses.now in
    let focus = focus_at old frame.focus in
    let many : 2 ≤ length c.args.arguments.items = omega (arith, c.if-len-ge2.true, c.len.ensures, c.args.arguments.ok.0) in
    call_gives old (g.W.TreeSource.forest c.on_many.new.source) frame c.args.function (lists_of c.args.arguments) c.on_many.result c.on_many.ensures.keeps inside lists
    (c.on_many.ensures.gives k many addresses focus)

pub returns-in-Some-clause-gives : goal.returns-in-Some-clause-gives
returns-in-Some-clause-gives g c = λ k inside lists.
    let old = g.W.TreeSource.forest c.args.world.now in
    let new = g.W.TreeSource.forest c.on_one.new.source in
    let frame = c.args.frame in
    let few : length c.args.arguments.items < 2 = omega (arith, c.if-len-ge2.false, c.len.ensures, c.args.arguments.ok.0) in
    let views_are : lists_of c.args.arguments ≡ item_views c.in-Some.items ∷ [] = ap (map item_views) (lone c.args.arguments.items c.pop.new.self.items c.in-Some.items c.in-Some.ensures.items few) in
    subst (λ vs. GivesSequence (calling c.args.function (frame_at old frame) (tuple_at old vs) old) new c.on_one.result) (sym views_are)
    (call_gives old new frame c.args.function (item_views c.in-Some.items ∷ []) c.on_one.result c.on_one.ensures.keeps inside (subst (TupleIn old) views_are lists) (c.on_one.ensures.gives k))

pub returns-clause-gives : goal.returns-clause-gives
returns-clause-gives g c = λ k inside lists.
    let old = g.W.TreeSource.forest c.args.world.now in
    let new = g.W.TreeSource.forest c.on_none.new.source in
    let frame = c.args.frame in
    let none : lists_of c.args.arguments ≡ [] = ap (map item_views) (nothing c.args.arguments.items (omega (arith, c.in-None.ensures.cases.0, c.args.arguments.ok.0))) in
    subst (λ vs. GivesSequence (calling c.args.function (frame_at old frame) (tuple_at old vs) old) new c.on_none.result) (sym none)
    (call_gives old new frame c.args.function [] c.on_none.result c.on_none.ensures.keeps inside tt (c.on_none.ensures.gives k))

pub returns-then-len-ge2-clause-reads : goal.returns-then-len-ge2-clause-reads
returns-then-len-ge2-clause-reads g c = λ doc xs one all.
    let many = length-map c.args.arguments.items item_views in
    let lists = ap length one in
    absurd (omega (arith, c.if-len-ge2.true, c.len.ensures, c.args.arguments.ok.0, many, lists))

pub returns-in-Some-clause-reads : goal.returns-in-Some-clause-reads
returns-in-Some-clause-reads g c = λ doc xs one all.
    let few : length c.args.arguments.items < 2 = omega (arith, c.if-len-ge2.false, c.len.ensures, c.args.arguments.ok.0) in
    let views_are : lists_of c.args.arguments ≡ item_views c.in-Some.items ∷ [] = ap (map item_views) (lone c.args.arguments.items c.pop.new.self.items c.in-Some.items c.in-Some.ensures.items few) in
    let same : item_views c.in-Some.items ≡ xs = cc in
    c.on_one.ensures.reads doc (subst (AllByRecursion IsAtom) (sym same) all)

pub returns-clause-reads : goal.returns-clause-reads
returns-clause-reads g c = λ doc xs one all.
    let many = length-map c.args.arguments.items item_views in
    let lists = ap length one in
    absurd (omega (arith, c.in-None.ensures.cases.0, c.args.arguments.ok.0, many, lists))
