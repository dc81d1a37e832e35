-- The tuples of a `for`: each tuple with an item more.
use Rattle.std.proofs.Common.{◌≡◌, ℕ, ◌+◌, List, [], ◌∷◌, ◌++◌, map, Bool, true, false, refl, sym, ap, ◌∙◌}
use Rattle.std.specs.List.{enumerate_from, zip}
use Rattle.std.proofs.lemmas.List.Concat.{flat_map-cons}
use Rattle.xq_trees.specs.Tuples.{Tuple, expanded, item_values, satisfying, with_items}
use Rattle.xq_meaning.specs.Items.{Item, Atom}
use Rattle.xq_optimise.specs.private.Parts.{AreAll}

abbrev pub row : Tuple Item → Item → Tuple Item
row t x = t ++ (x ∷ []) ∷ []

rows_from : (t : Tuple Item) (n : ℕ) (xs : List Item) → map (λ (p : ℕ × Item). t ++ item_values Atom false p.0 p.1) (enumerate_from n xs) ≡ map (row t) xs
rows_from t n [] = refl
rows_from t n (x ∷ xs) = ap (λ l. row t x ∷ l) (rows_from t (n + 1) xs)

pub expanded_next : (t : Tuple Item) (ts : List (Tuple Item)) (xs : List Item) (lists : List (List Item)) →
    expanded Atom false false (t ∷ ts) (xs ∷ lists) ≡ map (row t) xs ++ expanded Atom false false ts lists
expanded_next t ts xs lists =
    flat_map-cons (λ (p : Tuple Item × List Item). with_items Atom false false p.0 p.1) (t, xs) (zip ts lists)
    ∙ ap (λ l. l ++ expanded Atom false false ts lists) (rows_from t 1 xs)

-- the answer at a tuple, for each of its rows
abbrev pub spread : List (List Item) → List Bool → List Bool
spread [] bs = []
spread (v ∷ vs) [] = []
spread (v ∷ vs) (b ∷ bs) = map (λ (x : Item). b) v ++ spread vs bs

pub pairs_append : {A B : Type 0} (R : A → B → Type 0) (xs : List A) (ys : List B) (us : List A) (vs : List B) → AreAll R xs ys → AreAll R us vs → AreAll R (xs ++ us) (ys ++ vs)
pairs_append R [] [] us vs h k = k
pairs_append R [] (y ∷ ys) us vs h k = absurd h
pairs_append R (x ∷ xs) [] us vs h k = absurd h
pairs_append R (x ∷ xs) (y ∷ ys) us vs h k = (h.0, pairs_append R xs ys us vs h.1 k)

rows_kept : (t : Tuple Item) (v : List Item) (us : List (Tuple Item)) (bs : List Bool) →
    satisfying (map (row t) v ++ us) (map (λ (x : Item). true) v ++ bs) ≡ map (row t) v ++ satisfying us bs
rows_kept t [] us bs = refl
rows_kept t (x ∷ v) us bs = ap (λ l. row t x ∷ l) (rows_kept t v us bs)

rows_dropped : (t : Tuple Item) (v : List Item) (us : List (Tuple Item)) (bs : List Bool) →
    satisfying (map (row t) v ++ us) (map (λ (x : Item). false) v ++ bs) ≡ satisfying us bs
rows_dropped t [] us bs = refl
rows_dropped t (x ∷ v) us bs = rows_dropped t v us bs

-- the rows of the tuples that are kept
pub rows_satisfy : (R : Tuple Item → List Item → Type 0) (S : Tuple Item → Bool → Type 0) (ts : List (Tuple Item)) (vs : List (List Item)) (bs : List Bool) → AreAll R ts vs → AreAll S ts bs →
    satisfying (expanded Atom false false ts vs) (spread vs bs) ≡ expanded Atom false false (satisfying ts bs) (satisfying vs bs)
rows_satisfy R S [] [] [] h k = refl
rows_satisfy R S [] [] (b ∷ bs) h k = absurd k
rows_satisfy R S [] (v ∷ vs) bs h k = absurd h
rows_satisfy R S (t ∷ ts) [] bs h k = absurd h
rows_satisfy R S (t ∷ ts) (v ∷ vs) [] h k = absurd k
rows_satisfy R S (t ∷ ts) (v ∷ vs) (true ∷ bs) h k =
    ap (λ l. satisfying l (map (λ (x : Item). true) v ++ spread vs bs)) (expanded_next t ts v vs)
    ∙ rows_kept t v (expanded Atom false false ts vs) (spread vs bs)
    ∙ ap (λ l. map (row t) v ++ l) (rows_satisfy R S ts vs bs h.1 k.1)
    ∙ sym (expanded_next t (satisfying ts bs) v (satisfying vs bs))
rows_satisfy R S (t ∷ ts) (v ∷ vs) (false ∷ bs) h k =
    ap (λ l. satisfying l (map (λ (x : Item). false) v ++ spread vs bs)) (expanded_next t ts v vs)
    ∙ rows_dropped t v (expanded Atom false false ts vs) (spread vs bs)
    ∙ rows_satisfy R S ts vs bs h.1 k.1
