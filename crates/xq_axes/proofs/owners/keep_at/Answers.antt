use Rattle.std.proofs.Common.{◌≡◌, ◌++◌, ◌∷◌, [], ◌∙◌, refl, ap, sym, arith}
use Rattle.std.specs.Global.{Vec}
use Rattle.xq_trees.specs.Items.{item_view, item_views}
use Rattle.xq_trees.specs.declared.items.Item.{Item}
use Rattle.xq_axes.specs.private.Hits.{is_among}
use Rattle.xq_axes.proofs.Owning.{decided, item_kept, item_left}
use Rattle.xq_axes.proofs.owners.keep_at.Goals as goal
use Rattle.xq_axes.proofs.owners.keep_at.Goals.{in-Some+in_ok-push, in_default-find_near}

pub loop-item-preserved : goal.loop-item-preserved
loop-item-preserved c = record {
  kept = λ up wanted all. (
      let xs = c.args.items.now in
      let places = c.args.places.now in
      let i = c.loop-item.item-index in
      let x = c.item-item.result in
      let node = c.in-Node.node in
      let kept = c.loop-item.kept.items in
      let so_far = c.loop-item.invariant.kept up wanted all in
      let says : wanted (item_view x) ≡ is_among places node.pre =
      ap (λ (y : Item). wanted (item_view y)) c.in-Node.is ∙ decided wanted c.args.tree places node all c.if-node-tree.false in
      elim c.match-find_near.branch [
        | in-Some+in_ok-push w ↦ item_kept item_view wanted xs i x (omega arith) c.item-item.is kept c.match-find_near.kept.items (says ∙ w.in-Some.ensures.some up)
            (ap (λ (v : Vec Item). v.items) w.kept-is ∙ w.in_ok-push.ensures.items ∙ ap (λ (y : Item). kept ++ y ∷ []) (sym c.in-Node.is)) so_far
        | in_default-find_near w ↦ ap item_views w.kept-is ∙ item_left item_view wanted xs i x (omega arith) c.item-item.is kept (says ∙ w.in_default-find_near.ensures.none up refl) so_far
      ]);
}
