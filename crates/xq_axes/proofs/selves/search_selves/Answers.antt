use Rattle.std.proofs.Common.{ℕ, ◌∷◌, [], ◌++◌, cond, get_or, ap, subst, refl, ◌∙◌, arith}
use Rattle.xq_trees.specs.Rows.{Row, rows, row_at}
use Rattle.xq_sources.specs.Lent.{placed_lent}
use Rattle.xq_sources.specs.Sources.{tree_at, HasNode}
use Rattle.xq_sources.specs.Meters.{Readings}
use Rattle.xq_axes.proofs.Counts.{one_single}
use Rattle.xq_axes.proofs.Sizes.{one_row}
use Rattle.xq_axes.proofs.OwnNodes.{one_more, all_so_far}
use Rattle.xq_axes.proofs.selves.search_selves.Goals as goal

pub loop-place-preserved : goal.loop-place-preserved
loop-place-preserved g c =
    let inv = c.loop-place.invariant in
    let vs = c.args.places.now in
    let i = c.loop-place.place-index in
    let v = get_or vs i 0 in
    let old = tree_at (g.L.TreeSource.forest c.loop-place.source) c.args.tree in
    let t = tree_at (g.L.TreeSource.forest c.args.source.now) c.args.tree in
    record {
      forest = c.in_ok-fetch_row.ensures.keeps ∙ inv.forest;
      clean = λ k. inv.clean (c.in_ok-fetch_row.ensures.was_clean k);
      rows = ap (λ (r : Readings). r.rows) c.in_ok-fetch_row.ensures.counts ∙ inv.rows;
      singles = (let s = inv.singles in let n = one_single _ _ c.in_ok-fetch_row.ensures.counts in omega (arith, s, n));
      looks = ap (λ (m : Readings). m.looks) c.in_ok-fetch_row.ensures.counts ∙ inv.looks;
      so_far = λ k up. (
          let there = subst (λ f. HasNode f c.args.tree v) inv.forest (c.in_ok-fetch_row.ensures.exists k) in
          let x = c.in-Some.row in
          let read = one_row c.lent.result (placed_lent x) (v, row_at (rows old) v) (c.lent.ensures ∙ c.in_ok-fetch_row.ensures.found k) c.in-Some.ensures.row in
          let same = ap (λ f. tree_at f c.args.tree) inv.forest in
          let r = ap (λ (p : ℕ × Row). p.1) read ∙ ap (λ u. row_at (rows u) v) same in
          one_more c.args.test.now t vs i v x c.loop-place.found.items c.push_if.new.found.items up (omega arith) refl there.node_in r (inv.so_far (c.in_ok-fetch_row.ensures.was_clean k) up)
          (c.in_ok-push_if.ensures ∙ ap (λ b. c.loop-place.found.items ++ cond b (v ∷ []) []) c.passes.ensures));
    }

pub returns-clause-found : goal.returns-clause-found
returns-clause-found g c = λ k up. (
    let t = tree_at (g.L.TreeSource.forest c.args.source.now) c.args.tree in
    all_so_far c.args.test.now t c.args.places.now c.loop-place.place-index c.loop-place.found.items up (omega arith) (c.loop-place.invariant.so_far k up))
