use Rattle.std.proofs.Common.{◌≡◌, ◌+◌, ◌-◌, ◌<◌, ◌≤◌, [], length, refl, sym, ap, subst, ◌∙◌, arith}
use Rattle.std.specs.Prelude.{slice_get}
use Rattle.xq_trees.specs.Forest.{count}
use Rattle.xq_trees.specs.Tree.{nodes}
use Rattle.xq_sources.specs.Sources.{tree_at}
use Rattle.xq_axes.specs.Reads.{span, span_end}
use Rattle.xq_axes.specs.private.Waiting.{bound, IsLooked}
use Rattle.xq_axes.proofs.Looking.{look_start, moved, read_back, top_bound}
use Rattle.xq_axes.proofs.backward.search_back.Goals as goal

pub loop-high-init : goal.loop-high-init
loop-high-init g c =
    let vs = c.args.places.now in
    let t = tree_at (g.L.TreeSource.forest c.args.source.now) c.args.tree in
    let new = c.new-look.ensures in
    let high = c.last_of-high.result in
    let d = c.args.direction in
    let test = c.args.test.now in
    record {
      forest = refl;
      clean = λ k. k;
      singles = refl;
      looks = refl;
      direction = new.direction;
      places = new.places;
      rows = λ k. (let e = ap bound c.last_of-high.ensures in omega (arith, e));
      looked = λ k there up. (
          let begin = look_start d test t vs high up there (sym c.last_of-high.ensures) in
          subst (λ m. IsLooked d test t vs (bound high) m c.new-look.result.levels c.new-look.result.found.items) (sym new.left)
          (subst (λ ls. IsLooked d test t vs (bound high) (length vs) ls c.new-look.result.found.items) (sym new.levels)
          (subst (λ xs. IsLooked d test t vs (bound high) (length vs) [] xs) (sym new.found) begin)));
    }

pub returns-in_err-look_between-clause-rows : goal.returns-in_err-look_between-clause-rows
returns-in_err-look_between-clause-rows g c = λ k up. (
    let inv = c.loop-high.invariant in
    let vs = c.args.places.now in
    let t = tree_at (g.L.TreeSource.forest c.args.source.now) c.args.tree in
    let place = c.in-Some.place in
    let low = c.saturating_sub-low.result in
    let was = c.in_err-look_between.ensures.was_clean k in
    let less = c.saturating_sub-low.ensures in
    let read = subst (λ f. (g.L.TreeSource.meter c.look_between.new.source).rows ≤ (g.L.TreeSource.meter c.loop-high.source).rows + (span_end (tree_at f c.args.tree) (span low place) - low)) inv.forest (c.in_err-look_between.ensures.rows k) in
    let all = read_back t low place (bound c.loop-high.high) (g.L.TreeSource.meter c.args.source.now).rows 0 (g.L.TreeSource.meter c.loop-high.source).rows (g.L.TreeSource.meter c.look_between.new.source).rows (bound (slice_get vs (length vs - 1)))
    (inv.rows was) (ap bound c.in-Some.is) (omega (arith, less)) read (omega arith) in
    let most = top_bound c.args.direction t vs (slice_get vs (length vs - 1)) up refl in
    omega (arith, all, most))

pub loop-high-preserved : goal.loop-high-preserved
loop-high-preserved g c =
    let inv = c.loop-high.invariant in
    let vs = c.args.places.now in
    let t = tree_at (g.L.TreeSource.forest c.args.source.now) c.args.tree in
    let place = c.in-Some.place in
    let low = c.saturating_sub-low.result in
    let less = c.saturating_sub-low.ensures in
    let p = c.loop-high.look in
    let q = c.look_between.new.look in
    let d = c.args.direction in
    let test = c.args.test.now in
    let direction = c.look_between.ensures.direction ∙ inv.direction in
    let places = c.look_between.ensures.places ∙ inv.places in
    let high = c.next_place-high.result in
    record {
      forest = c.in_ok-look_between.ensures.keeps ∙ inv.forest;
      clean = λ k. inv.clean (c.in_ok-look_between.ensures.was_clean k);
      singles = c.in_ok-look_between.ensures.singles ∙ inv.singles;
      looks = c.in_ok-look_between.ensures.looks ∙ inv.looks;
      direction = direction;
      places = places;
      rows = λ k. (
          let was = c.in_ok-look_between.ensures.was_clean k in
          let read = subst (λ f. (g.L.TreeSource.meter c.look_between.new.source).rows ≤ (g.L.TreeSource.meter c.loop-high.source).rows + (span_end (tree_at f c.args.tree) (span low place) - low)) inv.forest (c.in_ok-look_between.ensures.rows k) in
          read_back t low place (bound c.loop-high.high) (g.L.TreeSource.meter c.args.source.now).rows (bound high) (g.L.TreeSource.meter c.loop-high.source).rows (g.L.TreeSource.meter c.look_between.new.source).rows (bound (slice_get vs (length vs - 1)))
          (inv.rows was) (ap bound c.in-Some.is) (omega (arith, less)) read c.next_place-high.ensures.before);
      looked = λ k there up. (
          let was = c.in_ok-look_between.ensures.was_clean k in
          let u = tree_at (g.L.TreeSource.forest c.loop-high.source) c.args.tree in
          let here : u ≡ t = ap (λ f. tree_at f c.args.tree) inv.forest in
          let n : bound c.loop-high.high ≡ place + 1 = (let e = ap bound c.in-Some.is in omega (arith, e)) in
          let old = inv.looked was there up in
          let hp = old.within in
          let at = subst (λ m. IsLooked d test t vs m p.contexts.left p.levels p.found.items) n old in
          let begin = moved d p.direction test test t u vs p.contexts.places.now (place + 1) p.contexts.left p.levels p.found.items (sym inv.direction) refl (sym here) (sym inv.places) at in
          let hc : place < count (nodes u) = subst (λ w. place < count (nodes w)) (sym here) (omega (arith, hp, n)) in
          let after = c.in_ok-look_between.ensures.looked k (omega (arith, less)) hc begin in
          let in_q = moved p.direction q.direction test test u t p.contexts.places.now q.contexts.places.now low q.contexts.left q.levels q.found.items (sym c.look_between.ensures.direction) refl here (sym c.look_between.ensures.places) after in
          moved q.direction d test test t t q.contexts.places.now vs (bound high) q.contexts.left q.levels q.found.items direction refl refl places (c.next_place-high.ensures.looked test t in_q));
    }

pub returns-clause-rows : goal.returns-clause-rows
returns-clause-rows g c = λ k up. (
    let vs = c.args.places.now in
    let t = tree_at (g.L.TreeSource.forest c.args.source.now) c.args.tree in
    let all = c.loop-high.invariant.rows k in
    let most = top_bound c.args.direction t vs (slice_get vs (length vs - 1)) up refl in
    omega (arith, all, most))
