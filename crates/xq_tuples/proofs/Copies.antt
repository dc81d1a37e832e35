-- Tuples that share their values, and what is read of them.
use Rattle.std.proofs.Common.{◌≡◌, ℕ, ◌<◌, List, [], ◌∷◌, ◌++◌, length, get_or, refl, ap, sym, ◌∙◌}
use Rattle.std.specs.List.{AllZip}
use Rattle.std.proofs.lemmas.List.{append_assoc, get_or-map, map_push}
use Rattle.xq_trees.specs.Items.{ItemView}
use Rattle.xq_trees.specs.Tuples.{Tuple, value_at}
use Rattle.xq_tuples.specs.Views.{slot_items, values_of}
use Rattle.xq_tuples.specs.declared.slots.SlotValue.{SlotValue}

pub values_of-clones : (xs ys : List SlotValue) → AllZip (λ x y. slot_items y ≡ slot_items x) xs ys → values_of ys ≡ values_of xs
values_of-clones [] [] h = refl
values_of-clones [] (y ∷ ys) h = absurd h
values_of-clones (x ∷ xs) [] h = absurd h
values_of-clones (x ∷ xs) (y ∷ ys) h = λ t. h.0 t ∷ values_of-clones xs ys h.1 t

-- the value of a slot
pub value_read : (slots : List SlotValue) (k : ℕ) (slot : SlotValue) → k < length slots → slot ≡ get_or slots k slot → value_at k (values_of slots) ≡ slot_items slot
value_read slots k slot within is = get_or-map slot_items slots k slot [] within ∙ ap slot_items (sym is)

-- a tuple with one slot more, after others
pub slot_pushed : (before tuple : Tuple ItemView) (with_tuple now : List SlotValue) (slot : SlotValue) (value : List ItemView) → values_of with_tuple ≡ before ++ tuple → slot_items slot ≡ value → now ≡ with_tuple ++ slot ∷ []
    → values_of now ≡ before ++ (tuple ++ value ∷ [])
slot_pushed before tuple with_tuple now slot value t v e = ap values_of e ∙ map_push slot_items with_tuple slot ∙ (λ i. t i ++ v i ∷ []) ∙ append_assoc before tuple (value ∷ [])
