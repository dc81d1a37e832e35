use Rattle.std.proofs.Common.{◌<◌, length, refl, arith}
use Rattle.xq_sources.specs.Sources.{tree_at}
use Rattle.xq_store.proofs.FrontLaws.{fronts_set, its_front}
use Rattle.xq_store.proofs.room.forget.Goals as goal

pub returns : goal.returns
returns c = λ trees are.
    let at = c.args.tree in
    let fronts = c.args.fronts.now.items in
    let within : at < length fronts = omega (arith, c.in-Some.ensures.variant.0 refl, c.args.fronts.now.ok.0) in
    let before = its_front trees fronts at c.in-Some.front.now are within c.in-Some.ensures.value in
    fronts_set trees fronts at c.forget.new.self are (c.forget.ensures (tree_at trees at) before)
