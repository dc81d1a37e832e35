use Rattle.std.proofs.Common.{◌≡◌, ◌+◌, ◌<◌, ◌≤◌, ◌++◌, inl, inr, get_or, refl, sym, ap, subst, ◌∙◌, arith}
use Rattle.std.proofs.lemmas.Bool.{cases_lt}
use Rattle.std.proofs.lemmas.List.{get_or_default}
use Rattle.xq_trees.specs.Forest.{count}
use Rattle.xq_trees.specs.Tree.{nodes}
use Rattle.xq_sources.specs.Sources.{tree_at}
use Rattle.xq_axes.specs.private.Hits.{below_where}
use Rattle.xq_axes.specs.private.Passing.{IsEnd}
use Rattle.xq_axes.proofs.LookedBelow.{IsFound, none_found, all_found, found_below, last_there, low_is, after_it, named_is}
use Rattle.xq_axes.proofs.Named.{is_named_at}
use Rattle.xq_axes.proofs.Picking.{same_places}
use Rattle.xq_axes.proofs.Searching.{next_place}
use Rattle.xq_axes.proofs.looks.take_below.Goals as goal

pub loop-place-init : goal.loop-place-init
loop-place-init g c =
    let t = tree_at (g.L.TreeSource.forest c.args.source.now) c.args.tree in
    record {
      forest = refl;
      clean = λ k. k;
      rows = refl;
      singles = omega arith;
      looks = refl;
      so_far = λ k up name is. record {
        before = λ i h. absurd (omega (arith, h));
        found = subst (λ xs. IsFound name t c.args.places.now 0 xs) (sym c.new-found.ensures.items) (none_found name t c.args.places.now up);
      };
    }

pub loop-place-preserved : goal.loop-place-preserved
loop-place-preserved g c =
    let inv = c.loop-place.invariant in
    let vs = c.args.places.now in
    let i = c.loop-place.place-index in
    let place = get_or vs i 0 in
    let last = c.in_ok-last.last in
    let t = tree_at (g.L.TreeSource.forest c.args.source.now) c.args.tree in
    let end : g.L.TreeSource.is_clean c.end_of_node.new.source → IsEnd t place last = λ k. subst (λ f. IsEnd (tree_at f c.args.tree) place last) inv.forest (c.in_ok-last.ensures.end k) in
    record {
      forest = c.in_ok-last.ensures.keeps ∙ inv.forest;
      clean = λ k. inv.clean (c.in_ok-last.ensures.was_clean k);
      rows = c.in_ok-last.ensures.rows ∙ inv.rows;
      singles = (let s = inv.singles in let n = c.in_ok-last.ensures.singles in omega (arith, s, n));
      looks = c.in_ok-last.ensures.looks ∙ inv.looks;
      so_far = λ k up name is. (
          let was = c.in_ok-last.ensures.was_clean k in
          let s = inv.so_far was up name is in
          let next = next_place vs i c.loop-place.next place up (omega arith) (get_or_default vs i 0 place (omega arith)) s.before in
          let after : c.loop-place.next ≤ place = omega arith in
          let old = c.loop-place.found.items in
          let low : c.saturating_add.result ≡ place + 1 = low_is name t vs c.loop-place.next place last old s.found after next (end k) c.saturating_add.result c.saturating_add.ensures in
          let to = after_it name t vs c.loop-place.next place last old s.found after next (end k) in
          let part = c.places_between.ensures (is_named_at t name) (count (nodes t)) (named_is name t c.args.named.now is) (omega (arith, low, to)) (last_there name t vs c.loop-place.next place last old s.found after next (end k)) in
          record {
            before = λ j h. elim (cases_lt j i) [
              | inl l ↦ (let b = s.before j l in let a = after_it name t vs c.loop-place.next place last old s.found after next (end k) in omega (arith, a, b))
              | inr l ↦ (let ij : i ≡ j = omega (arith, h, l) in let a = after_it name t vs c.loop-place.next place last old s.found after next (end k) in subst (λ x. get_or vs x 0 < last + 1) ij (omega (arith, a)))
            ];
            found = found_below name t vs c.loop-place.next place last old s.found after next (end k) _ _ (part ∙ ap (λ m. below_where (is_named_at t name) m ++ c.places_between.result.now) low) c.in_ok-extend.ensures.ok;
          });
    }

pub returns-clause-found : goal.returns-clause-found
returns-clause-found g c = λ k name is up. (
    let inv = c.loop-place.invariant in
    let t = tree_at (g.L.TreeSource.forest c.args.source.now) c.args.tree in
    same_places c.into_places.result _ _ c.into_places.ensures (all_found name t c.args.places.now c.loop-place.next c.loop-place.found.items (inv.so_far k up name is).found (λ j h. (inv.so_far k up name is).before j (omega (arith, h)))))

pub loop-place-preserved-then-from-next : goal.loop-place-preserved-then-from-next
loop-place-preserved-then-from-next g c =
    let inv = c.loop-place.invariant in
    let vs = c.args.places.now in
    let i = c.loop-place.place-index in
    let next = c.loop-place.next in
    record {
      forest = inv.forest;
      clean = inv.clean;
      rows = inv.rows;
      singles = (let s = inv.singles in omega (arith, s));
      looks = inv.looks;
      so_far = λ k up name is. (
          let s = inv.so_far k up name is in
          record {
            before = λ j h. elim (cases_lt j i) [
              | inl l ↦ s.before j l
              | inr l ↦ (let ij : i ≡ j = omega (arith, h, l) in subst (λ x. get_or vs x 0 < next) ij (omega arith))
            ];
            found = s.found;
          });
    }
