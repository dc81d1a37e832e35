use Rattle.std.proofs.Common.{◌<◌, length, refl, arith}
use Rattle.xq_sources.specs.Sources.{tree_at}
use Rattle.xq_store.proofs.FrontLaws.{fronts_set, its_front}
use Rattle.xq_store.proofs.fronts.find_in_front.Goals as goal

pub returns-clause-kept : goal.returns-clause-kept
returns-clause-kept c = λ trees are.
    let at = c.args.tree in
    let fronts = c.args.fronts.now.items in
    let within : at < length fronts = omega (arith, c.in-Some.ensures.variant.0 refl, c.args.fronts.now.ok.0) in
    let before = its_front trees fronts at c.in-Some.front.now are within c.in-Some.ensures.value in
    fronts_set trees fronts at c.find_named.new.self are (c.find_named.ensures.kept (tree_at trees at) before)

pub returns-clause-found : goal.returns-clause-found
returns-clause-found c = λ trees are.
    let at = c.args.tree in
    let fronts = c.args.fronts.now.items in
    let within : at < length fronts = omega (arith, c.in-Some.ensures.variant.0 refl, c.args.fronts.now.ok.0) in
    let before = its_front trees fronts at c.in-Some.front.now are within c.in-Some.ensures.value in
    c.find_named.ensures.found (tree_at trees at) before

pub returns-clause-counts : goal.returns-clause-counts
returns-clause-counts c = λ trees are.
    let at = c.args.tree in
    let fronts = c.args.fronts.now.items in
    let within : at < length fronts = omega (arith, c.in-Some.ensures.variant.0 refl, c.args.fronts.now.ok.0) in
    let before = its_front trees fronts at c.in-Some.front.now are within c.in-Some.ensures.value in
    c.find_named.ensures.counts (tree_at trees at) before
