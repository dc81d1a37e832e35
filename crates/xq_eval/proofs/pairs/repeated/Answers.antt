use Rattle.std.proofs.Common.{◌≡◌, ◌++◌, ◌∷◌, [], ◌∙◌, ap, arith, length, map, replicate}
use Rattle.std.proofs.lemmas.List.{map-append, length-append}
use Rattle.xq_trees.specs.Items.{item_view, item_views}
use Rattle.xq_eval.proofs.JoinLaws.{replicate_more}
use Rattle.xq_eval.proofs.pairs.repeated.Goals as goal

pub loop-index-init : goal.loop-index-init
loop-index-init c = record {
  lists = ap (map item_views) c.in_ok-lists.ensures.items;
  long = ap length c.in_ok-lists.ensures.items;
}

pub loop-index-preserved : goal.loop-index-preserved
loop-index-preserved c =
    let i = c.loop-index.invariant in
    let n = c.loop-index._index in
    let views = map item_view c.args.items.now in
    let lists = c.loop-index.lists.items in
    let copies = c.in_ok-copied.field-0 in
    let pushed = c.in_ok-push.ensures.items in
    record {
      lists =
          ap (map item_views) pushed ∙ map-append item_views lists (copies ∷ [])
          ∙ ap (λ l. l ++ item_views copies ∷ []) i.lists ∙ ap (λ v. replicate n views ++ v ∷ []) c.in_ok-copied.ensures ∙ replicate_more n views;
      long = omega (arith, ap length pushed, length-append lists (copies ∷ []), i.long);
    }
