use Rattle.std.proofs.Common.{◌++◌, ◌∷◌, [], ◌∙◌, ap, sym, subst, arith, map, take, List}
use Rattle.std.specs.Prelude.{string_bytes}
use Rattle.std.proofs.lemmas.List.{map-append, take_all}
use Rattle.xq_trees.specs.Items.{ItemView, item_view}
use Rattle.xq_meaning.specs.Items.{atomized}
use Rattle.xq_meaning.specs.Readings.{items_at}
use Rattle.xq_joins.specs.private.JoinKeys.{AreTexts}
use Rattle.xq_joins.specs.private.Texts.{IsTextItem}
use Rattle.xq_joins.proofs.Lists.{seen_next}
use Rattle.xq_joins.proofs.JoinKeys.{texts_more}
use Rattle.xq_joins.proofs.join_keys.texts_in.Goals as goal

pub loop-item-preserved : goal.loop-item-preserved
loop-item-preserved c = λ trees.
    let items = c.args.items.now in
    let n = c.loop-item.item-index in
    let item = c.item-item.result in
    let done = c.loop-item.texts.items in
    let text = c.in_ok-from_str.field-0 in
    let seen = seen_next item_view items n item (omega arith) c.item-item.is in
    subst (λ (xs : List ItemView). AreTexts (atomized trees (items_at trees xs)) (map string_bytes c.push.new.self.items)) (sym seen)
    (subst (AreTexts (atomized trees (items_at trees (map item_view (take n items) ++ item_view item ∷ []))))
    (sym (ap (map string_bytes) c.in_ok-push.ensures.items ∙ map-append string_bytes done (text ∷ [])))
    (texts_more trees (map item_view (take n items)) (item_view item) (map string_bytes done) (string_bytes text) (c.loop-item.invariant trees)
    (subst (IsTextItem (item_view item)) (sym c.in_ok-from_str.ensures.ok) c.in-Some.ensures)))

pub returns : goal.returns
returns c = λ trees.
    subst (λ xs. AreTexts (atomized trees (items_at trees (map item_view xs))) (map string_bytes c.loop-item.texts.items))
    (take_all c.loop-item.item-index c.args.items.now (omega arith)) (c.loop-item.invariant trees)
