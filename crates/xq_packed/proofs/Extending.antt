-- Rows added one by one.
use Rattle.std.proofs.Common.{◌≡◌, ◌<◌, ◌+◌, ℕ, List, [], ◌∷◌, ◌++◌, map, take, length, get_or, string_bytes, refl, sym, ap, ◌∙◌, subst, append_assoc}
use Rattle.std.proofs.lemmas.List.{map_more}
use Rattle.xq_trees.specs.declared.NodeRow.{NodeRow}
use Rattle.xq_trees.specs.Rows.{Row, row_of}
use Rattle.xq_packed.specs.Packed.{Packed, with_name, with_names, IsExtended}

with_names-push : (names : List (List ℕ)) (rows : List Row) (r : Row) → with_names names (rows ++ r ∷ []) ≡ with_name (with_names names rows) r.label.name
with_names-push names [] r = refl
with_names-push names (q ∷ rows) r = with_names-push (with_name names q.label.name) rows r

-- a row more after those that were added
extended-push : (old mid new : Packed) (rows : List Row) (r : Row) → IsExtended old mid rows → new.rows ≡ mid.rows ++ r ∷ [] → new.names ≡ with_name mid.names r.label.name → IsExtended old new (rows ++ r ∷ [])
extended-push old mid new rows r so_far more names = record {
  rows = more ∙ ap (λ rs. rs ++ r ∷ []) so_far.rows ∙ append_assoc old.rows rows (r ∷ []);
  names = names ∙ ap (λ ns. with_name ns r.label.name) so_far.names ∙ sym (with_names-push old.names rows r);
}

-- the next of the rows of a list after those before it
pub extended-more : (old mid new : Packed) (xs : List NodeRow) (i : ℕ) (x : NodeRow) → i < length xs → x ≡ get_or xs i x → IsExtended old mid (map row_of (take i xs)) → new.rows ≡ mid.rows ++ row_of x ∷ [] → new.names ≡ with_name mid.names (string_bytes x.name) → IsExtended old new (map row_of (take (i + 1) xs))
extended-more old mid new xs i x within is so_far more names =
    let next : map row_of (take (i + 1) xs) ≡ map row_of (take i xs) ++ row_of x ∷ [] = map_more row_of xs i x within ∙ ap (λ (y : NodeRow). map row_of (take i xs) ++ row_of y ∷ []) (sym is) in
    subst (IsExtended old new) (sym next) (extended-push old mid new (map row_of (take i xs)) (row_of x) so_far more names)
