use Rattle.std.proofs.Common.{◌≡◌, ◌++◌, ◌∷◌, [], ◌∙◌, ap, sym, subst, refl, length, map, List, Option}
use Rattle.std.specs.Prelude.{String, IfSome, IfOk}
use Rattle.std.specs.Global.{Global, Vec}
use Rattle.std.specs.List.{AllByRecursion}
use Rattle.xq_axes.specs.Nodes.{HaveAll}
use Rattle.xq_trees.specs.declared.items.Item.{Item as Held}
use Rattle.xq_trees.specs.Items.{ItemView, Place, item_view}
use Rattle.xq_trees.specs.Rising.{AreRising}
use Rattle.xq_trees.specs.Tree.{Tree}
use Rattle.xq_trees.specs.Tuples.{Tuple, value_at}
use Rattle.xq_trees.proofs.Rising.{rising_seen}
use Rattle.xq_tuples.specs.Views.{values_of}
use Rattle.xq_operators.specs.Nodes.{nodes_among}
use Rattle.xq_operators.specs.Views.{lists_of, TupleIn, TuplesIn}
use Rattle.xq_operators.proofs.NodeLemmas.{among_in}
use Rattle.xq_joins.specs.Joins.{Matches}
use Rattle.xq_joins.specs.private.JoinKeys.{IsTold}
use Rattle.xq_joins.specs.private.Tables.{IsTable, matched}
use Rattle.xq_joins.proofs.Clauses.{join_gives, ones_told}
use Rattle.xq_joins.proofs.Found.{are_places}
use Rattle.xq_joins.proofs.Lists.{if_found}
use Rattle.xq_joins.proofs.matches.matching.Goals as goal

pub returns-clause-lists : goal.returns-clause-lists
returns-clause-lists g c = λ k outs ins inside.
    let f = g.L.TreeSource.forest c.args.source.now in
    let f' = g.L.TreeSource.forest c.table_of.new.source in
    let join = c.args.join.now in
    let equality = join.equality in
    let outside = values_of c.args.outside.now in
    let tuples = c.args.tuples.now in
    let views = map item_view c.args.items.now in
    let nodes = c.in_ok-nodes.nodes.items in
    let item = c.in-Some.sides.item.now in
    let key = c.in-Some.sides.tuple.now in
    let result = c.matching_lists.result in
    let among : nodes ≡ nodes_among views = c.in_ok-nodes.ensures in
    let are : map Place nodes ≡ views = ap (map Place) among ∙ sym (are_places views (c.if-not-are_nodes.ensures refl)) in
    let rising : AreRising nodes = subst AreRising c.deref.ensures.value (rising_seen c.deref.result.now c.rises.result c.rises.ensures c.if-not-rises.false) in
    let have = subst (HaveAll f) (sym (c.deref-2.ensures.value ∙ among)) (among_in f views inside) in
    let table : IsTable equality f item nodes c.in-Some-2.table =
    subst (λ ns. IsTable equality f item ns c.in-Some-2.table) c.deref-2.ensures.value
    (subst (λ o. IfSome o (IsTable equality f item c.deref-2.result.now)) c.in-Some-2.is (c.in_ok-table.ensures.table (c.matching_lists.ensures.was_clean k) have)) in
    let found = λ (t : List Tree) (u : Tuple ItemView). matched t item key (value_at key.slot (outside ++ u)) (map Place nodes) in
    let lists =
    subst (λ (t : List Tree). TupleIn t outside → TuplesIn t tuples → IsTable equality t item nodes c.in-Some-2.table → IfOk result (λ o. IfSome o (λ ls. lists_of ls ≡ map (found t) tuples))) c.table_of.ensures.keeps
    (λ a b tab. c.matching_lists.ensures.lists k a b item nodes rising tab) outs ins table in
    let told =
    subst (λ (t : List Tree). TupleIn t outside → TuplesIn t tuples → IfOk result (λ o. IfSome o (λ x. AllByRecursion (λ u. IsTold equality t key (value_at key.slot (outside ++ u))) tuples))) c.table_of.ensures.keeps
    (λ a b. c.matching_lists.ensures.told k a b) outs ins in
    if_found (λ (ls : Vec (Vec Held)). lists_of ls ≡ map (found f) tuples) (λ (ls : Vec (Vec Held)). Matches f join outside tuples views (lists_of ls)) (AllByRecursion (λ u. IsTold equality f key (value_at key.slot (outside ++ u))) tuples) result
    (λ ls e all. join_gives equality f outside join item key c.in-Some.ensures.sides refl tuples views (lists_of ls) inside c.in-Some.ensures.next all
    (subst (AllByRecursion (λ x. IsTold equality f item (x ∷ []))) are (ones_told equality f item nodes table.told))
    (e ∙ ap (λ xs. map (λ u. matched f item key (value_at key.slot (outside ++ u)) xs) tuples) are)) lists told
