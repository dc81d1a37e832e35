use Rattle.std.proofs.Common.{◌≡◌, ◌<◌, ◌++◌, ◌∷◌, [], ◌∙◌, ap, sym, arith, refl, length, map, take}
use Rattle.std.proofs.lemmas.List.{take_all}
use Rattle.xq_trees.specs.Items.{item_view}
use Rattle.xq_joins.proofs.Lists.{seen_next}
use Rattle.xq_eval.proofs.pairs.are_same_nodes.Goals as goal

pub loop-index-preserved : goal.loop-index-preserved
loop-index-preserved c =
    let first = c.args.first.now in
    let second = c.args.second.now in
    let n = c.loop-index.index in
    let x = c.index-first-index.result in
    let y = c.index-second-index.result in
    seen_next item_view first n x (omega arith) c.index-first-index.is
    ∙ ap (λ l. l ++ item_view x ∷ []) c.loop-index.invariant
    ∙ ap (λ v. map item_view (take n second) ++ v ∷ []) (c.if-not-are_one_node.ensures refl)
    ∙ sym (seen_next item_view second n y (omega arith) c.index-second-index.is)

pub returns : goal.returns
returns c = λ _.
    let n = c.loop-index.index in
    ap (map item_view) (sym (take_all n c.args.first.now (omega arith))) ∙ c.loop-index.invariant ∙ ap (map item_view) (take_all n c.args.second.now (omega arith))
