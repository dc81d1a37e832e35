use Rattle.std.proofs.Common.{◌≡◌, ◌<◌, ◌++◌, ◌∷◌, [], ◌∙◌, ap, sym, subst, arith, refl, length, map, take, slice_index_or, List, Option}
use Rattle.std.specs.Prelude.{IfSome}
use Rattle.std.specs.Global.{Vec}
use Rattle.std.specs.List.{AllByRecursion}
use Rattle.std.proofs.lemmas.List.{map-append, take_more, length-append}
use Rattle.xq_trees.specs.declared.items.Item.{Item as Held}
use Rattle.xq_trees.specs.declared.items.Node.{Node}
use Rattle.xq_trees.specs.Items.{ItemView, Place, item_view, item_views}
use Rattle.xq_trees.specs.Tree.{Tree}
use Rattle.xq_trees.specs.Tuples.{Tuple, value_at}
use Rattle.xq_trees.proofs.Lists.{all_append}
use Rattle.xq_tuples.specs.Views.{values_of}
use Rattle.xq_meaning.specs.declared.joins.JoinKey.{JoinKey}
use Rattle.xq_meaning.specs.Readings.{AreIn}
use Rattle.xq_operators.specs.Views.{TupleIn}
use Rattle.xq_operators.proofs.Growth.{value_in}
use Rattle.xq_joins.specs.private.JoinKeys.{IsTold}
use Rattle.xq_joins.specs.private.Tables.{IsTable, matched}
use Rattle.xq_joins.proofs.Lists.{all_index}
use Rattle.xq_joins.proofs.matches.matching_lists.Goals as goal

pub loop-index-preserved : goal.loop-index-preserved
loop-index-preserved g c =
    let i = c.loop-index.invariant in
    let old = g.L.TreeSource.forest c.args.source.now in
    let equality = c.args.equality in
    let key = c.args.key.now in
    let outside = values_of c.args.outside.now in
    let tuples = c.args.tuples.now in
    let n = c.loop-index.index in
    let tuple = slice_index_or tuples n [] in
    let lists = c.loop-index.lists.items in
    let found = c.in-Some.found in
    let start = map item_view c.value-start.result.now in
    let within : n < length tuples = omega (arith, c.loop-index-test.true, c.len-index-end.ensures) in
    let at : start ≡ value_at key.slot (outside ++ tuple) = c.value-start.ensures ∙ ap (λ (t : Tuple ItemView). value_at key.slot (outside ++ t)) c.tuple.ensures in
    let taken = take_more tuples n [] within in
    let there = λ (outs : TupleIn old outside) (ins : AllByRecursion (TupleIn old) tuples).
    subst (AreIn old) (sym at) (value_in old key.slot (outside ++ tuple) (all_append (AreIn old) outside tuple outs (all_index (TupleIn old) tuples n [] ins within))).0 in
    let now = λ (h : AreIn old start). subst (λ (f : List Tree). AreIn f start) (sym i.keeps) h in
    record {
      keeps = c.matching_at.ensures.keeps ∙ i.keeps;
      was_clean = λ k. i.was_clean (c.matching_at.ensures.was_clean k);
      long = omega (arith, ap length c.in_ok-push.ensures.items, length-append lists (found ∷ []), i.long);
      told = λ k outs ins.
          let one : IsTold equality old key start =
          subst (λ (f : List Tree). IsTold equality f key start) i.keeps
          (subst (λ (o : Option (Vec Held)). IfSome o (λ x. IsTold equality (g.L.TreeSource.forest c.loop-index.source) key start)) c.in-Some.is (c.in_ok-found.ensures.told k (now (there outs ins)))) in
          subst (AllByRecursion (λ t. IsTold equality old key (value_at key.slot (outside ++ t)))) (sym taken)
          (all_append (λ t. IsTold equality old key (value_at key.slot (outside ++ t))) (take n tuples) (tuple ∷ []) (i.told (c.matching_at.ensures.was_clean k) outs ins) (subst (IsTold equality old key) at one, tt));
      lists = λ k outs ins item nodes rising table.
          let f = g.L.TreeSource.forest c.loop-index.source in
          let one : item_views found ≡ matched old item key (value_at key.slot (outside ++ tuple)) (map Place nodes) =
          subst (λ (t : List Tree). IsTable equality t item nodes c.args.table.now → item_views found ≡ matched t item key start (map Place nodes)) i.keeps
          (λ tab. subst (λ (o : Option (Vec Held)). IfSome o (λ items. item_views items ≡ matched f item key start (map Place nodes))) c.in-Some.is (c.in_ok-found.ensures.items k (now (there outs ins)) item nodes rising tab)) table
          ∙ ap (λ ys. matched old item key ys (map Place nodes)) at in
          ap (map item_views) c.in_ok-push.ensures.items ∙ map-append item_views lists (found ∷ [])
          ∙ ap (λ l. l ++ item_views found ∷ []) (i.lists (c.matching_at.ensures.was_clean k) outs ins item nodes rising table)
          ∙ ap (λ l. map (λ t. matched old item key (value_at key.slot (outside ++ t)) (map Place nodes)) (take n tuples) ++ l ∷ []) one
          ∙ sym (ap (map (λ t. matched old item key (value_at key.slot (outside ++ t)) (map Place nodes))) taken ∙ map-append (λ t. matched old item key (value_at key.slot (outside ++ t)) (map Place nodes)) (take n tuples) (tuple ∷ []));
    }
