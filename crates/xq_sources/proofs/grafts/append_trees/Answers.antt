use Rattle.std.proofs.Common.{◌≡◌, ◌++◌, ◌∷◌, [], ◌+◌, List, Option, IfSome, length, map, take, take_all, sym, ap, ◌∙◌, subst, arith, append_assoc}
use Rattle.std.proofs.lemmas.List.{append-nil, length-append, map-append, take_more}
use Rattle.xq_trees.specs.Items.{item_view, ItemView}
use Rattle.xq_trees.specs.Rows.{Row}
use Rattle.xq_trees.specs.declared.Kind.{Kind}
use Rattle.xq_trees.specs.declared.items.Item.{Item}
use Rattle.xq_sources.specs.private.Meeting.{AreMet, IsNext}
use Rattle.xq_sources.specs.private.Planted.{trees_after}
use Rattle.xq_sources.proofs.Meets.{MeetSoFar, none_met, one_met}
use Rattle.xq_sources.proofs.grafts.append_trees.Goals as goal

pub loop-item-init : goal.loop-item-init
loop-item-init c =
    record {
      met = λ front more label of_root same planted. none_met c.args.first label (trees_after front 0 c.args.ends.now) c.args.rows.now.rows;
      after = ([], sym (append-nil c.args.rows.now.rows));
    }

pub append_tree-requires : goal.append_tree-requires
append_tree-requires c =
    let after = c.loop-item.invariant.after in
    omega (arith, c.len-under.ensures.rows, ap length after.1, length-append c.args.rows.now.rows after.0)

pub loop-item-preserved : goal.loop-item-preserved
loop-item-preserved c =
    let so_far = c.loop-item.invariant in
    let items = c.args.items.now in
    let i = c.loop-item.item-index in
    let item = c.item-item.result in
    let added = c.append_tree.ensures.after in
    let view : map item_view (take (i + 1) items) ≡ map item_view (take i items) ++ item_view item ∷ [] = ap (map item_view) (take_more items i item (omega (arith, c.loop-item-test.true)) ∙ ap (λ (x : Item). take i items ++ x ∷ []) (sym c.item-item.is))
    ∙ map-append item_view (take i items) (item ∷ []) in
    record {
      met = λ front more label of_root same planted.
          (let here : c.loop-item.rows.rows ≡ front ++ (more ++ so_far.after.0) = so_far.after.1 ∙ ap (λ (qs : List Row). qs ++ so_far.after.0) same ∙ append_assoc front more so_far.after.0 in
          let next = subst (λ (found : Option Kind). IfSome found (λ kind. IsNext front c.args.ends.now c.in-Some.tree c.len-under.result c.args.root c.loop-item.last kind c.loop-item.rows.rows c.append_tree.new.rows.rows)) c.in-Some-2.is (c.in_ok-kind.ensures.next front (more ++ so_far.after.0) here planted) in
          let picks = c.in-Some.ensures (trees_after front 0 c.args.ends.now) next.there in
          subst (λ (vs : List ItemView). MeetSoFar c.args.first label vs (trees_after front 0 c.args.ends.now) c.args.rows.now.rows c.append_tree.new.rows.rows c.in-Some-2.kind) (sym view)
          (one_met c.args.first label (map item_view (take i items)) (item_view item) front c.args.ends.now c.args.rows.now.rows c.loop-item.rows.rows c.append_tree.new.rows.rows c.loop-item.last c.in-Some-2.kind c.in-Some.tree c.len-under.result c.len-under.ensures.rows (so_far.met front more label of_root same planted) picks.0 picks.1
          (subst (λ (k : Kind). IsNext front c.args.ends.now c.in-Some.tree c.len-under.result k c.loop-item.last c.in-Some-2.kind c.loop-item.rows.rows c.append_tree.new.rows.rows) (sym of_root) next)));
      after = (so_far.after.0 ++ added.0, added.1 ∙ ap (λ (qs : List Row). qs ++ added.0) so_far.after.1 ∙ append_assoc c.args.rows.now.rows so_far.after.0 added.0);
    }

pub returns-clause-met : goal.returns-clause-met
returns-clause-met c front more label of_root same planted is =
    let all : take c.loop-item.item-index c.args.items.now ≡ c.args.items.now = take_all c.loop-item.item-index c.args.items.now (omega (arith, c.loop-item-test.false)) in
    let met = c.loop-item.invariant.met front more label of_root same planted in
    subst (λ (items : List Item). AreMet c.args.first label (map item_view items) (trees_after front 0 c.args.ends.now) c.args.rows.now.rows c.loop-item.rows.rows) all met.met
