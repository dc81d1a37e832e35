use Rattle.std.proofs.Common.{subst, ◌∙◌, arith, get_or}
use Rattle.xq_sources.specs.Sources.{tree_at}
use Rattle.xq_axes.specs.private.Passing.{IsEnd}
use Rattle.xq_axes.proofs.Ranges.{least_of_all, least_over, least_more}
use Rattle.xq_axes.proofs.passing.least_end.Goals as goal

pub loop-place-preserved-then-from-least : goal.loop-place-preserved-then-from-least
loop-place-preserved-then-from-least g c =
    let inv = c.loop-place.invariant in
    let t = tree_at (g.L.TreeSource.forest c.args.source.now) c.args.tree in
    record {
      forest = inv.forest;
      clean = inv.clean;
      rows = inv.rows;
      singles = (let s = inv.singles in omega (arith, s));
      looks = inv.looks;
      so_far = λ k. least_over t c.args.places.now c.loop-place.place-index c.loop-place.least (omega arith) (omega arith) (let f = c.type_inv.places c.loop-place.place-index in omega (arith, f)) (inv.so_far k);
    }

pub loop-place-preserved : goal.loop-place-preserved
loop-place-preserved g c =
    let inv = c.loop-place.invariant in
    let t = tree_at (g.L.TreeSource.forest c.args.source.now) c.args.tree in
    let vs = c.args.places.now in
    let i = c.loop-place.place-index in
    let last = c.in_ok-end_of_node.field-0 in
    record {
      forest = c.in_ok-end_of_node.ensures.keeps ∙ inv.forest;
      clean = λ k. inv.clean (c.in_ok-end_of_node.ensures.was_clean k);
      rows = c.in_ok-end_of_node.ensures.rows ∙ inv.rows;
      singles = (let s = inv.singles in let n = c.in_ok-end_of_node.ensures.singles in omega (arith, s, n));
      looks = c.in_ok-end_of_node.ensures.looks ∙ inv.looks;
      so_far = λ k. (
          let e = subst (λ f. IsEnd (tree_at f c.args.tree) (get_or vs i 0) last) inv.forest (c.in_ok-end_of_node.ensures.end k) in
          least_more t vs i c.loop-place.least last c.min-least.result (omega arith) e c.in_ok-end_of_node.ensures.small c.min-least.ensures (inv.so_far (c.in_ok-end_of_node.ensures.was_clean k)));
    }

pub returns-clause-least : goal.returns-clause-least
returns-clause-least g c = λ k some. (
    let t = tree_at (g.L.TreeSource.forest c.args.source.now) c.args.tree in
    least_of_all t c.args.places.now c.loop-place.place-index c.loop-place.least (omega arith) some (c.loop-place.invariant.so_far k))
