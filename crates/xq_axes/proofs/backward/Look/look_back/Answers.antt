use Rattle.std.proofs.Common.{◌≡◌, ◌+◌, length, refl, sym, ap, subst, ◌∙◌, arith}
use Rattle.xq_trees.specs.Rows.{rows, row_at}
use Rattle.xq_axes.specs.private.Waiting.{AreSeen, seen_of, IsLooked}
use Rattle.xq_axes.proofs.Looking.{moved, seen_last}
use Rattle.xq_axes.proofs.backward.Look.look_back.Goals as goal

pub loop-row-preserved : goal.loop-row-preserved
loop-row-preserved c =
    let inv = c.loop-row.invariant in
    let was = c.loop-row.self in
    let now = c.look.new.self in
    let rest = c.loop-row.rest.now in
    let others = c.in-Some.others.now in
    let row = c.in-Some.row.now in
    let place = c.loop-row.place in
    let parts = c.in-Some.ensures.cases in
    record {
      direction = c.look.ensures.direction ∙ inv.direction;
      places = c.look.ensures.places ∙ inv.places;
      looked = λ test t low hl en seen old. (
          let d = c.args.self.now.direction in
          let vs = c.args.self.now.contexts.places.now in
          let r = inv.looked test t low hl en seen old in
          let len = parts.1 in
          let at : place ≡ low + length others = (let p = r.place_is (omega (arith, len)) in omega (arith, p, len)) in
          let n : low + length rest ≡ place + 1 = omega (arith, at, len) in
          let last = seen_last test t low others row (subst (AreSeen test t low) parts.0 r.seen) in
          let before = subst (λ k. IsLooked d test t vs k was.contexts.left was.levels was.found.items) n r.looked in
          let in_was = moved d was.direction test test t t vs was.contexts.places.now (place + 1) was.contexts.left was.levels was.found.items (sym inv.direction) refl refl (sym inv.places) before in
          let hp = before.within in
          let after = c.in_ok-look.ensures.looked test t (omega (arith, hp)) (last.last ∙ ap (λ k. seen_of test (row_at (rows t) k)) (sym at)) in_was in
          let in_args = moved was.direction d test test t t was.contexts.places.now vs place now.contexts.left now.levels now.found.items inv.direction refl refl inv.places after in
          record {
            seen = last.front;
            place_is = λ h. (let s = c.saturating_sub-place.ensures in omega (arith, s, at, h));
            looked = subst (λ k. IsLooked d test t vs k now.contexts.left now.levels now.found.items) at in_args;
          });
    }
