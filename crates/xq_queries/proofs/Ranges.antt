-- The numbers of a value are in range where those of the items of code are.
use Rattle.std.proofs.Common.{◌≡◌, ℕ, suc, ◌+◌, ◌<◌, ◌≤◌, List, [], ◌∷◌, map, length, drop, get_or, Result, Ok, Err, sym, ap, subst, ◌∙◌, add-one}
use Rattle.std.specs.Prelude.{IfOk}
use Rattle.std.proofs.Math.Seq.{drop-cons}
use Rattle.std.proofs.lemmas.List.{drop_all}
use Rattle.xq_trees.specs.declared.items.Item.{Item as Held}
use Rattle.xq_trees.specs.Items.{ItemView, Place, Value, item_view}
use Rattle.xq_trees.specs.Tree.{Tree}
use Rattle.xq_meaning.specs.Items.{Item}
use Rattle.xq_meaning.specs.Doing.{Outcome}
use Rattle.xq_meaning.specs.Readings.{items_at}
use Rattle.xq_readback.specs.Results.{AreInRange}
use Rattle.xq_queries.specs.Values.{Value as Valued, value_of}
use Rattle.xq_queries.specs.ReadBack.{HaveNumbersInRange}
use Rattle.xq_queries.specs.private.Ranges.{IsViewInRange, AreViewsInRange}

-- # The loop

pub none_left : (i : ℕ) (items : List Held) → length items ≤ i → AreViewsInRange (map item_view (drop i items))
none_left i items h = subst (λ (xs : List Held). AreViewsInRange (map item_view xs)) (sym (drop_all i items h)) tt

pub one_taken : (i : ℕ) (items : List Held) (x : Held) → i < length items → x ≡ get_or items i x → IsViewInRange (item_view x) → AreViewsInRange (map item_view (drop (i + 1) items))
    → AreViewsInRange (map item_view (drop i items))
one_taken i items x h is here rest =
    let split : drop i items ≡ x ∷ drop (i + 1) items = rw add-one (drop-cons items i x h ∙ ap (λ y. y ∷ drop (suc i) items) (sym is)) in
    subst (λ (xs : List Held). AreViewsInRange (map item_view xs)) (sym split) (here, rest)

-- # The value

items_in_range : (trees : List Tree) (views : List ItemView) → AreViewsInRange views → AreInRange (items_at trees views)
items_in_range trees [] h = tt
items_in_range trees (Place node ∷ views) h = (tt, items_in_range trees views h.1)
items_in_range trees (Value a ∷ views) h = (h.0, items_in_range trees views h.1)

pub numbers_of : (outcome : Outcome (List Item)) (trees : List Tree) (items slice : List Held) → slice ≡ items → outcome ≡ (Ok (items_at trees (map item_view items)), trees)
    → AreViewsInRange (map item_view slice) → HaveNumbersInRange (value_of outcome)
numbers_of outcome trees items slice lent is h = λ v same.
    (let all = items_in_range trees (map item_view items) (subst (λ (xs : List Held). AreViewsInRange (map item_view xs)) lent h) in
    let one : value_of outcome ≡ Ok (items_at trees (map item_view items), trees) = ap value_of is in
    let equal : (items_at trees (map item_view items), trees) ≡ v = cc in
    subst (λ (w : Valued). AreInRange w.0) equal all)

pub if_given : {T E : Type 0} (r : Result T E) (P : Type 0) → P → IfOk r (λ x. P)
if_given (Ok x) P h = h
if_given (Err e) P h = tt
