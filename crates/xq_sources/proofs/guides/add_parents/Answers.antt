use Rattle.std.proofs.Common.{◌≡◌, ◌+◌, ℕ, List, length, sym, subst, arith}
use Rattle.std.proofs.lemmas.List.{length_push}
use Rattle.xq_sources.specs.Parents.{AreParents}
use Rattle.xq_sources.proofs.KeptParents.{one_more}
use Rattle.xq_sources.proofs.guides.add_parents.Goals as goal

pub loop-place-preserved : goal.loop-place-preserved
loop-place-preserved c =
    let so_far = c.loop-place.invariant in
    let parents = c.loop-place.parents.items in
    let place = c.loop-place.place in
    let pushed = c.in_ok-push.ensures.items in
    let more = length_push parents c.told.result in
    record {
      many = subst (λ (xs : List ℕ). length xs ≡ place + 1) (sym pushed) (omega (arith, more, so_far.many));
      right = λ rs there before. subst (AreParents rs) (sym pushed) (one_more rs parents c.told.result place so_far.many (so_far.right rs there before) (λ known. there c.told.result place (c.told.ensures known)));
    }
