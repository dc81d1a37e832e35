use Rattle.std.proofs.Common.{Option, map, refl, subst, arith}
use Rattle.std.specs.Prelude.{String, string_bytes, IfSome}
use Rattle.std.specs.Global.{Global, Vec}
use Rattle.std.proofs.lemmas.List.{length-map}
use Rattle.xq_trees.specs.Items.{item_view}
use Rattle.xq_joins.specs.private.JoinKeys.{LeadsTo, FormsAs, IsKeyOf}
use Rattle.xq_joins.proofs.JoinKeys.{key_is}
use Rattle.xq_joins.proofs.join_keys.join_key_texts.Goals as goal

pub returns-clause-texts : goal.returns-clause-texts
returns-clause-texts g c = λ k inside.
    let f = g.L.TreeSource.forest c.args.source.now in
    let views = map item_view c.args.items.now in
    let key = c.args.key.now in
    let texts = map string_bytes c.in-Some-2.texts.items in
    let made = map string_bytes c.in-Some-3.texts.items in
    let led = subst (λ (o : Option (Vec (String Global))). IfSome o (λ ts. LeadsTo f c.as_slice.result.now views (map string_bytes ts.items))) c.in-Some-2.is (c.in_ok-texts-2.ensures.texts k inside) in
    let form = subst (λ (o : Option (Vec (String Global))). IfSome o (λ ts. FormsAs key.form texts (map string_bytes ts.items))) c.in-Some-3.is c.in_ok-texts-3.ensures in
    let count = length-map c.in-Some-3.texts.items string_bytes in
    let long = c.len.ensures in
    key_is f c.args.equality key views texts made (subst (λ s. LeadsTo f s views texts) c.as_slice.ensures led) form
    (λ e. let few = c.if-not-are_few.ensures refl e in omega (arith, few, long, count))

pub returns-in-Some-clause-texts : goal.returns-in-Some-clause-texts
returns-in-Some-clause-texts g c = λ k inside.
    let f = g.L.TreeSource.forest c.args.source.now in
    subst (λ (o : Option (Vec (String Global))). IfSome o (λ ts. IsKeyOf c.args.equality f c.args.key.now (map item_view c.args.items.now) (map string_bytes ts.items)))
    c.in-Some.is (c.in_ok-texts.ensures c.args.equality f)
