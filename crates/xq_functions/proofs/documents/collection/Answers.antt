use Rattle.std.proofs.Common.{◌≡◌, ℕ, ◌++◌, ◌∷◌, [], map, length, string_bytes, ap, sym, ◌∙◌, arith}
use Rattle.std.specs.List.{range_with_len}
use Rattle.std.proofs.lemmas.List.{map_push, length-map}
use Rattle.std.proofs.lemmas.List.FromFn.{map-range_with_len_more}
use Rattle.xq_trees.specs.declared.items.Node.{Node as Spot}
use Rattle.xq_trees.specs.declared.items.Item.TheVariants.{Node as NodeItem}
use Rattle.xq_trees.specs.Items.{Place, item_view}
use Rattle.xq_meaning.specs.Items.{Item, Node, root_of}
use Rattle.xq_meaning.specs.Readings.{item_at, items_at}
use Rattle.xq_functions.proofs.documents.collection.Goals as goal

root_node : ℕ → Item
root_node n = Node (root_of n)

pub loop-tree-preserved : goal.loop-tree-preserved
unfolding root_node
loop-tree-preserved c trees =
    let tree = c.loop-tree.tree in
    let items = c.loop-tree.items.items in
    let spot : Spot = record { tree = tree; pre = 0 } in
    ap (λ xs. items_at trees (map item_view xs)) c.in_ok-push.ensures.items ∙ ap (items_at trees) (map_push item_view items (NodeItem spot)) ∙ map_push (item_at trees) (map item_view items) (Place spot)
    ∙ ap (λ l. l ++ Node (root_of tree) ∷ []) (c.loop-tree.invariant trees) ∙ sym (map-range_with_len_more root_node 0 tree tree (omega arith))

pub returns-clause-nodes : goal.returns-clause-nodes
returns-clause-nodes c trees =
    let all : c.loop-tree.tree ≡ length c.as_slice-tree-end.result.now = omega arith in
    c.loop-tree.invariant trees ∙ ap (λ n. map (λ n. Node (root_of n)) (range_with_len 0 n)) (all ∙ sym (length-map c.as_slice-tree-end.result.now string_bytes) ∙ ap length c.as_slice-tree-end.ensures)
