use Rattle.std.proofs.Common.{◌++◌, ◌∷◌, [], take, map, ap, sym, ◌∙◌, arith}
use Rattle.std.specs.Global.{Vec}
use Rattle.std.proofs.lemmas.List.{append-nil}
use Rattle.xq_trees.specs.declared.items.Item.{Item}
use Rattle.xq_trees.specs.declared.items.Node.{Node}
use Rattle.xq_trees.specs.Items.{item_view}
use Rattle.xq_joins.proofs.Lists.{seen_next}
use Rattle.xq_operators.specs.Nodes.{nodes_among}
use Rattle.xq_operators.proofs.NodeLemmas.{among-append}
use Rattle.xq_joins.proofs.values.nodes_among.Goals as goal
use Rattle.xq_joins.proofs.values.nodes_among.Goals.{in-Node+in_ok-push, in_default}

pub loop-item-preserved : goal.loop-item-preserved
loop-item-preserved c =
    let n = c.loop-item.item-index in
    let items = c.args.items.now in
    let x = c.item-item.result in
    let before = map item_view (take n items) in
    let next = sym (ap nodes_among (seen_next item_view items n x (omega arith) c.item-item.is) ∙ among-append before (item_view x ∷ [])) in
    let at = λ (y : Item). nodes_among before ++ nodes_among (item_view y ∷ []) in
    elim c.match-item.branch [
      | in-Node+in_ok-push w ↦
          ap (λ (v : Vec Node). v.items) w.nodes-is ∙ w.in_ok-push.ensures.items ∙ ap (λ l. l ++ w.in-Node.node ∷ []) c.loop-item.invariant ∙ ap at (sym w.in-Node.is) ∙ next
      | in_default w ↦
          ap (λ (v : Vec Node). v.items) w.nodes-is ∙ c.loop-item.invariant ∙ sym (append-nil (nodes_among before)) ∙ ap at (sym w.in_default.is) ∙ next
    ]
