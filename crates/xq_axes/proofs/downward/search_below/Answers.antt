use Rattle.std.proofs.Common.{◌≡◌, ◌+◌, ◌<◌, get_or, length, sym, ap, subst, ◌∙◌, inl, inr, arith}
use Rattle.std.proofs.lemmas.Bool.{cases_lt}
use Rattle.std.proofs.lemmas.List.{get_or_default}
use Rattle.xq_sources.specs.Sources.{tree_at}
use Rattle.xq_trees.specs.Forest.{count}
use Rattle.xq_trees.specs.Tree.{nodes}
use Rattle.xq_axes.specs.private.Downward.{end_of, IsNext, ReadsBelow}
use Rattle.xq_axes.proofs.Picking.{same_places}
use Rattle.xq_axes.proofs.Scans.{below_goes_on, below_stops, below_ends}
use Rattle.xq_axes.proofs.Searching.{next_place, move_searched, searched_all}
use Rattle.xq_axes.proofs.downward.search_below.Goals as goal

pub loop-place-preserved : goal.loop-place-preserved
loop-place-preserved g c =
    let inv = c.loop-place.invariant in
    let vs = c.args.places.now in
    let i = c.loop-place.place-index in
    let place = get_or vs i 0 in
    let old = c.loop-place.picker in
    let new = c.search_one.new.picker in
    let u = tree_at (g.L.TreeSource.forest c.loop-place.source) c.args.tree in
    let t = tree_at (g.L.TreeSource.forest c.args.source.now) c.args.tree in
    let same = ap (λ f. tree_at f c.args.tree) inv.forest in
    record {
      forest = c.in_ok-next.ensures.keeps ∙ inv.forest;
      clean = λ k. inv.clean (c.in_ok-next.ensures.was_clean k);
      rows = λ k. (
          let r = subst (λ w. ReadsBelow w place (g.L.TreeSource.meter c.loop-place.source).rows (g.L.TreeSource.meter c.search_one.new.source).rows) same (c.in_ok-next.ensures.rows k) in
          let e = subst (λ w. (c.in_ok-next.next ≡ end_of w place + 1) × (end_of w place < count (nodes w))) same (c.in_ok-next.ensures.ends k) in
          below_goes_on (g.D.Direction.which c.args.direction) t vs i c.loop-place.next _ _ _ c.in_ok-next.next (omega arith) (omega arith) (inv.rows (c.in_ok-next.ensures.was_clean k)) r e.0);
      within = λ k. (
          let e = subst (λ w. (c.in_ok-next.next ≡ end_of w place + 1) × (end_of w place < count (nodes w))) same (c.in_ok-next.ensures.ends k) in
          omega (arith, e.0, e.1));
      singles = (let s = inv.singles in let n = c.in_ok-next.ensures.singles in omega (arith, s, n));
      looks = c.in_ok-next.ensures.looks ∙ inv.looks;
      searched = λ k up. (
          let which = g.D.Direction.which in
          let s = inv.searched (c.in_ok-next.ensures.was_clean k) up in
          let next = next_place vs i c.loop-place.next place up (omega arith) (get_or_default vs i 0 place (omega arith)) s.before in
          let from = move_searched (which c.args.direction) (which old.judge.direction) c.args.test.now old.test.now t u vs old.judge.contexts.places.now c.loop-place.next old.judge.contexts.met (length old.judge.marks) old.found.items (sym (ap which s.direction)) (sym s.test) (sym same) (sym s.places) s.found in
          let r = c.in_ok-next.ensures.searched k c.loop-place.next (omega arith) (subst (λ ws. IsNext ws c.loop-place.next place) (sym s.places) next) from in
          record {
            direction = r.1 ∙ s.direction;
            places = r.2 ∙ s.places;
            test = r.3 ∙ s.test;
            before = λ j h. elim (cases_lt j i) [
              | inl l ↦ (let b = s.before j l in let a = r.0 in omega (arith, a, b))
              | inr l ↦ (let ij : i ≡ j = omega arith in let a = r.0 in subst (λ x. get_or vs x 0 < c.in_ok-next.next) ij a)
            ];
            found = move_searched (which old.judge.direction) (which c.args.direction) old.test.now c.args.test.now u t old.judge.contexts.places.now vs c.in_ok-next.next new.judge.contexts.met (length new.judge.marks) new.found.items (ap which s.direction) s.test same s.places r.4;
          });
    }

pub returns-clause-found : goal.returns-clause-found
returns-clause-found g c = λ k up. (
    let s = c.loop-place.invariant.searched k up in
    let p = c.loop-place.picker in
    let t = tree_at (g.L.TreeSource.forest c.args.source.now) c.args.tree in
    same_places c.into_places.result _ _ c.into_places.ensures (searched_all (g.D.Direction.which c.args.direction) c.args.test.now t c.args.places.now c.loop-place.next p.judge.contexts.met (length p.judge.marks) p.found.items s.found (λ j h. s.before j (omega arith))))

pub returns-clause-rows : goal.returns-clause-rows
returns-clause-rows g c = λ k. (
    let inv = c.loop-place.invariant in
    let t = tree_at (g.L.TreeSource.forest c.args.source.now) c.args.tree in
    below_ends (g.D.Direction.which c.args.direction) t c.args.places.now c.loop-place.next _ _ (inv.within k) (inv.rows k))

pub returns-in_err-next-clause-rows : goal.returns-in_err-next-clause-rows
returns-in_err-next-clause-rows g c = λ k. (
    let inv = c.loop-place.invariant in
    let vs = c.args.places.now in
    let i = c.loop-place.place-index in
    let place = get_or vs i 0 in
    let t = tree_at (g.L.TreeSource.forest c.args.source.now) c.args.tree in
    let same = ap (λ f. tree_at f c.args.tree) inv.forest in
    let was = c.in_err-next.ensures.was_clean k in
    let r = subst (λ w. ReadsBelow w place (g.L.TreeSource.meter c.loop-place.source).rows (g.L.TreeSource.meter c.search_one.new.source).rows) same (c.in_err-next.ensures.rows k) in
    below_stops (g.D.Direction.which c.args.direction) t vs i c.loop-place.next _ _ _ (omega arith) (omega arith) (inv.within was) (inv.rows was) r)

pub loop-place-preserved-then-from-next : goal.loop-place-preserved-then-from-next
loop-place-preserved-then-from-next g c =
    let inv = c.loop-place.invariant in
    let vs = c.args.places.now in
    let i = c.loop-place.place-index in
    let next = c.loop-place.next in
    record {
      forest = inv.forest;
      clean = inv.clean;
      rows = inv.rows;
      within = inv.within;
      singles = (let s = inv.singles in omega (arith, s));
      looks = inv.looks;
      searched = λ k up. (
          let s = inv.searched k up in
          record {
            direction = s.direction;
            places = s.places;
            test = s.test;
            before = λ j h. elim (cases_lt j i) [
              | inl l ↦ s.before j l
              | inr l ↦ (let ij : i ≡ j = omega (arith, h, l) in subst (λ x. get_or vs x 0 < next) ij (omega arith))
            ];
            found = s.found;
          });
    }
