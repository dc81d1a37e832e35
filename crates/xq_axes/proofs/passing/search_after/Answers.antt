use Rattle.std.proofs.Common.{◌≡◌, ℕ, ◌+◌, ◌-◌, ◌<◌, ◌≤◌, length, IfSome, sym, ap, subst, eqb-true, ◌∙◌, arith}
use Rattle.smallvec.specs.SmallVec.{SmallVec}
use Rattle.std.proofs.lemmas.Bool.{eqb-false}
use Rattle.xq_trees.specs.Forest.{count}
use Rattle.xq_trees.specs.Tree.{nodes}
use Rattle.xq_trees.specs.declared.Axis.TheVariants as axis
use Rattle.xq_sources.specs.Sources.{tree_at}
use Rattle.xq_axes.specs.Reads.{span, span_end}
use Rattle.xq_axes.specs.private.Hits.{is_wanted, below_where}
use Rattle.xq_axes.specs.private.Passing.{IsLeastEnd}
use Rattle.xq_axes.proofs.Sizes.{OnOk-if}
use Rattle.xq_axes.proofs.Ranges.{empty_step, following_start, following_all}
use Rattle.xq_axes.proofs.NamedAround.{plain_after}
use Rattle.xq_axes.proofs.Scans.{after_bound}
use Rattle.xq_axes.proofs.passing.search_after.Goals as goal

pub returns-then-is_empty-clause-found : goal.returns-then-is_empty-clause-found
returns-then-is_empty-clause-found g c = λ k. (
    let vs = c.args.places.now in
    let t = tree_at (g.L.TreeSource.forest c.args.source.now) c.args.tree in
    c.new.ensures.items ∙ empty_step axis.Following c.args.test.now t vs (count (nodes t)) (eqb-true (length vs) 0 (sym c.is_empty.ensures ∙ c.if-is_empty.true)))

pub returns-in-Some-clause-found : goal.returns-in-Some-clause-found
returns-in-Some-clause-found g c = λ k. (
    let vs = c.args.places.now in
    let old = tree_at (g.L.TreeSource.forest c.least_end.new.source) c.args.tree in
    let test = c.args.test.now in
    let least = c.in_ok-least.least in
    let none = eqb-false (length vs) 0 (sym c.is_empty.ensures ∙ c.if-is_empty.false) in
    let some : 0 < length vs = omega (arith, none) in
    let same = ap (λ f. tree_at f c.args.tree) c.in_ok-least.ensures.keeps in
    let l_old = subst (λ u. IsLeastEnd u vs least) (sym same) (c.in_ok-least.ensures.least k some) in
    let there = l_old.is_there in
    let told = c.in_ok-found.ensures k (omega (arith, there)) (is_wanted axis.Following test old vs) (plain_after old vs test least (count (nodes old)) l_old) (following_start test old vs least l_old) in
    subst (λ o. IfSome o (λ (found : SmallVec ℕ). found.items ≡ below_where (is_wanted axis.Following test old vs) (count (nodes old)))) c.in-Some.is told
    ∙ ap (λ u. below_where (is_wanted axis.Following test u vs) (count (nodes u))) same)

pub returns-clause-found : goal.returns-clause-found
returns-clause-found g c = λ k. (
    let vs = c.args.places.now in
    let old = tree_at (g.L.TreeSource.forest c.least_end.new.source) c.args.tree in
    let t = tree_at (g.L.TreeSource.forest c.args.source.now) c.args.tree in
    let test = c.args.test.now in
    let least = c.in_ok-least.least in
    let none = eqb-false (length vs) 0 (sym c.is_empty.ensures ∙ c.if-is_empty.false) in
    let some : 0 < length vs = omega (arith, none) in
    let same = ap (λ f. tree_at f c.args.tree) c.in_ok-least.ensures.keeps in
    let was = c.search_rows.ensures.was_clean k in
    let l = c.in_ok-least.ensures.least was some in
    let l_old = subst (λ u. IsLeastEnd u vs least) (sym same) l in
    let w = c.search_rows.ensures.found k (omega arith, l_old) (following_start test old vs least l_old) in
    OnOk-if c.search_rows.result (λ (found : SmallVec ℕ). found.items ≡ below_where (is_wanted axis.Following test old vs) (span_end old (span (least + 1) 4294967295))) (λ (found : SmallVec ℕ). found.items ≡ below_where (is_wanted axis.Following test t vs) (count (nodes t)))
    (λ found e. e ∙ following_all test old vs least l_old ∙ ap (λ u. below_where (is_wanted axis.Following test u vs) (count (nodes u))) same) w)

pub returns-clause-rows : goal.returns-clause-rows
returns-clause-rows g c = λ k. (
    let vs = c.args.places.now in
    let old = tree_at (g.L.TreeSource.forest c.least_end.new.source) c.args.tree in
    let t = tree_at (g.L.TreeSource.forest c.args.source.now) c.args.tree in
    let least = c.in_ok-least.least in
    let none = eqb-false (length vs) 0 (sym c.is_empty.ensures ∙ c.if-is_empty.false) in
    let some : 0 < length vs = omega (arith, none) in
    let same : old ≡ t = ap (λ f. tree_at f c.args.tree) c.in_ok-least.ensures.keeps in
    let l = c.in_ok-least.ensures.least (c.search_rows.ensures.was_clean k) some in
    let b = after_bound t vs least 4294967295 l in
    let r = subst (λ u. (g.L.TreeSource.meter c.search_rows.new.source).rows ≤ (g.L.TreeSource.meter c.least_end.new.source).rows + (span_end u (span (least + 1) 4294967295) - (least + 1))) same (c.search_rows.ensures.rows k) in
    let e = c.in_ok-least.ensures.rows in
    omega (arith, b, r, e))
