use Rattle.std.proofs.Common.{not, ap, sym, ◌∙◌}
use Rattle.xq_functions.specs.private.Places.{takes}
use Rattle.xq_functions.proofs.PlaceLemmas.{among-search, rising-sorted}
use Rattle.xq_functions.proofs.sets.takes.Goals as goal

pub returns-in-Intersect : goal.returns-in-Intersect
returns-in-Intersect c rises =
    let others = c.args.others.now in
    let looked = c.binary_search in
    let found = c.is_ok-is_among.ensures.value ∙ among-search c.args.spot others looked.result (rising-sorted others rises) looked.ensures.bound looked.ensures.position in
    found ∙ ap (λ op. takes op others c.args.spot) (sym c.in-Intersect.is)

pub returns-in-Except : goal.returns-in-Except
returns-in-Except c rises =
    let others = c.args.others.now in
    let looked = c.binary_search in
    let found = c.is_ok-is_among.ensures.value ∙ among-search c.args.spot others looked.result (rising-sorted others rises) looked.ensures.bound looked.ensures.position in
    ap not found ∙ ap (λ op. takes op others c.args.spot) (sym c.in-Except.is)
