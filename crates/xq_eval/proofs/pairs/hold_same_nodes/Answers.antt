use Rattle.std.proofs.Common.{◌≡◌, ◌<◌, ◌++◌, ◌∷◌, [], ◌∙◌, ap, sym, subst, arith, refl, length, take, slice_index_or}
use Rattle.std.specs.List.{AllByRecursion}
use Rattle.std.proofs.lemmas.List.{take_more, take_all}
use Rattle.xq_trees.specs.Items.{ItemView}
use Rattle.xq_trees.specs.Tuples.{Tuple, value_at}
use Rattle.xq_trees.proofs.Lists.{all_append}
use Rattle.xq_tuples.specs.Views.{values_of}
use Rattle.xq_eval.specs.private.Joining.{first_tuple}
use Rattle.xq_eval.proofs.JoinLaws.{first_is}
use Rattle.xq_eval.proofs.pairs.hold_same_nodes.Goals as goal

pub loop-index-preserved : goal.loop-index-preserved
loop-index-preserved c =
    let tuples = c.args.tuples.now in
    let outside = values_of c.args.outside.now in
    let slot = c.args.slot in
    let n = c.loop-index.index in
    let at = λ (t : Tuple ItemView). value_at slot (outside ++ t) in
    let within : n < length tuples = omega (arith, c.loop-index-test.true, c.len-index-end.ensures) in
    let first = c.value-first.ensures ∙ ap at (c.tuple.ensures ∙ first_is tuples) in
    let here = c.value-here.ensures ∙ ap at c.tuple-in-loop-index.ensures in
    subst (AllByRecursion (λ t. at t ≡ at (first_tuple tuples))) (sym (take_more tuples n [] within))
    (all_append (λ t. at t ≡ at (first_tuple tuples)) (take n tuples) (slice_index_or tuples n [] ∷ []) c.loop-index.invariant (sym here ∙ c.if-not-are_same_nodes.ensures refl ∙ first, tt))

pub returns : goal.returns
returns c = λ _.
    let tuples = c.args.tuples.now in
    let outside = values_of c.args.outside.now in
    let slot = c.args.slot in
    subst (AllByRecursion (λ t. value_at slot (outside ++ t) ≡ value_at slot (outside ++ first_tuple tuples)))
    (take_all c.loop-index.index tuples (omega (arith, c.loop-index-test.false, c.len-index-end.ensures))) c.loop-index.invariant
