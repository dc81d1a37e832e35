use Rattle.std.proofs.Common.{◌≡◌, ◌++◌, ◌∷◌, [], ◌∙◌, ap, sym, subst, map, filter, Bool, Option}
use Rattle.std.specs.Prelude.{String, string_bytes, IfSome}
use Rattle.std.specs.Global.{Global, Vec}
use Rattle.std.specs.List.{list_any}
use Rattle.xq_trees.specs.declared.items.Node.{Node}
use Rattle.xq_trees.specs.Items.{ItemView, Place, item_view, item_views}
use Rattle.xq_joins.specs.Keys.{meet}
use Rattle.xq_joins.specs.private.JoinKeys.{IsKeyOf, join_texts}
use Rattle.xq_joins.specs.private.Tables.{nodes_with}
use Rattle.xq_joins.proofs.Found.{found_are, items_are}
use Rattle.xq_joins.proofs.JoinKeys.{texts_told, is_told}
use Rattle.xq_joins.proofs.matches.matching_at.Goals as goal

pub returns-clause-items : goal.returns-clause-items
returns-clause-items g c = λ k inside item nodes rising table.
    let f = g.L.TreeSource.forest c.args.source.now in
    let equality = c.args.equality in
    let key = c.args.key.now in
    let views = map item_view c.args.start.now in
    let texts = map string_bytes c.in-Some.texts.items in
    let gathered = c.in_ok-gathered.field-0.items in
    let merged = c.merge-nodes.result.items in
    let told = subst (λ (o : Option (Vec (String Global))). IfSome o (λ ts. IsKeyOf equality f key views (map string_bytes ts.items))) c.in-Some.is (c.in_ok-texts.ensures.texts k inside) in
    let some : (p : Node → Bool) → list_any p gathered ≡ list_any (λ t. list_any p (nodes_with c.args.table.now t)) texts = λ p.
    c.in_ok-gathered.ensures p ∙ ap (λ ts. list_any (λ t. list_any p (nodes_with c.args.table.now t)) (map string_bytes ts)) c.deref.ensures.value in
    items_are equality f item nodes c.args.table.now table texts merged
    (found_are equality f item nodes c.args.table.now table texts rising gathered merged some c.merge-nodes.ensures.rising c.merge-nodes.ensures.members)
    (item_views c.in_ok-as_items.field-0) (c.in_ok-as_items.ensures ∙ ap (map Place) c.deref-2.ensures.value)
    ∙ ap (λ ts. filter (λ (x : ItemView). meet (join_texts f item (x ∷ [])) ts) (map Place nodes)) (sym (texts_told f equality key views texts told))

pub returns-clause-told : goal.returns-clause-told
returns-clause-told g c = λ k inside.
    let f = g.L.TreeSource.forest c.args.source.now in
    let equality = c.args.equality in
    let key = c.args.key.now in
    let views = map item_view c.args.start.now in
    is_told f equality key views (map string_bytes c.in-Some.texts.items)
    (subst (λ (o : Option (Vec (String Global))). IfSome o (λ ts. IsKeyOf equality f key views (map string_bytes ts.items))) c.in-Some.is (c.in_ok-texts.ensures.texts k inside))
