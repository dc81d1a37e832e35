use Rattle.std.proofs.Common.{◌≡◌, ◌+◌, ◌≤◌, Bool, true, sym, ap, subst, ◌∙◌, arith}
use Rattle.std.proofs.lemmas.Result.{IfOk-weaker}
use Rattle.xq_sources.specs.Sources.{tree_at}
use Rattle.xq_axes.specs.Reads.{span, span_end}
use Rattle.xq_axes.specs.private.Hits.{is_wanted, below_where}
use Rattle.xq_axes.specs.private.Named.{IsPlainTest}
use Rattle.xq_axes.specs.private.Downward.{axis_of, IsJudged}
use Rattle.xq_axes.specs.declared.downward.Downward.TheVariants.{Descendant}
use Rattle.xq_axes.proofs.Named.{judged_on, all_there, plain_below}
use Rattle.xq_axes.proofs.downward.take_told.Goals as goal

pub returns-clause-told : goal.returns-clause-told
returns-clause-told g c = λ k start h. (
    let p = c.args.picker.now in
    let t = tree_at (g.L.TreeSource.forest c.args.source.now) c.args.tree in
    let which = g.D.Direction.which in
    let way = which start.judge.direction in
    let vs = start.judge.contexts.places.now in
    let low = c.args.low in
    let high = c.args.high in
    let s = span low high in
    let met = p.judge.contexts.met in
    let marks = p.judge.marks in
    let is_open = p.judge.is_open in
    let d : way ≡ Descendant = sym (ap which h.0.0) ∙ sym c.which.ensures ∙ c.in-Descendant.is in
    let j = subst (λ y. IsJudged y t vs s low met marks is_open) d h.0.3 in
    let there = all_there t vs s met marks is_open low j in
    let order : low ≤ high + 1 = there.0 in
    let wanted = is_wanted (axis_of way) start.test.now t vs in
    let plain = subst (λ y. IsPlainTest (is_wanted (axis_of y) start.test.now t vs) start.test.now t low high) (sym d) (plain_below t vs s met marks is_open start.test.now j) in
    let as_asked = subst (λ q. IsPlainTest wanted q t low high) (sym h.1) plain in
    let end : high + 1 ≡ span_end t s = (let a = there.1 in omega (arith, order, a)) in
    let judged = subst (λ y. IsJudged y t vs s (span_end t s) met marks is_open) (sym d) (judged_on t vs s met marks is_open low (span_end t s) j (omega (arith, order, end))) in
    let added = c.add_named.ensures.added k wanted as_asked order there.1 h.2 in
    IfOk-weaker c.add_named.result (λ (is_told : Bool). is_told ≡ true → c.add_named.new.found.items ≡ below_where wanted (high + 1))
    (λ (is_told : Bool). is_told ≡ true → ((p.judge.direction ≡ start.judge.direction) × (p.judge.contexts.places.now ≡ vs) × (p.judge.last ≡ high) × IsJudged way t vs s (span_end t s) met marks is_open)
    × (p.test.now ≡ start.test.now) × (c.add_named.new.found.items ≡ below_where wanted (span_end t s)))
    (λ is_told f yes. ((h.0.0, h.0.1, h.0.2, judged), h.1, f yes ∙ ap (below_where wanted) end)) added)
