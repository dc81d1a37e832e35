use Rattle.std.proofs.Common.{◌||◌, eqb, get_or, take, sym, ap, ◌∙◌, arith}
use Rattle.std.proofs.lemmas.List.{take_more}
use Rattle.xq_axes.specs.private.Hits.{is_among}
use Rattle.xq_axes.proofs.KnownParents.{among_after}
use Rattle.xq_axes.proofs.parents.in_order.Goals as goal

pub loop-place-preserved : goal.loop-place-preserved
loop-place-preserved c =
    let vs = c.args.places.now in
    let i = c.loop-place.place-index in
    let v = get_or vs i 0 in
    let inv = c.loop-place.invariant in
    record {
      rising = c.in_ok-add_place.ensures.rising inv.rising;
      among = λ n.
          c.in_ok-add_place.ensures.among inv.rising n ∙ ap (λ b. eqb v n || b) (inv.among n)
          ∙ sym (ap (λ xs. is_among xs n) (take_more vs i 0 (omega arith)) ∙ among_after (take i vs) v n);
      fewer = (let x = c.in_ok-add_place.ensures.fewer in let y = inv.fewer in omega (arith, x, y));
    }
