-- The places of rows that pass a test, found row by row.
use Rattle.std.proofs.Common.{◌≡◌, ◌<◌, ◌≤◌, ◌+◌, ℕ, suc, List, [], ◌∷◌, ◌++◌, map, take, length, get_or, Bool, true, false, ◌&&◌, cond, refl, sym, ap, ◌∙◌, arith, append-nil}
use Rattle.std.specs.Prelude.{filter}
use Rattle.std.specs.List.{enumerate_from}
use Rattle.std.proofs.lemmas.List.{take_all, take_more, map-append}
use Rattle.std.proofs.lemmas.List.Elements.{filter-append}
use Rattle.std.proofs.lemmas.List.FromFn.{length-enumerate_from, get_or-enumerate_from}
use Rattle.xq_atoms.specs.Text.{Text, text_eq}
use Rattle.xq_trees.specs.Rows.{Row, no_row, row_at}
use Rattle.xq_packed.specs.Values.{is_named, is_valued, places_where, named, valued}
use Rattle.xq_packed.specs.Found.{has_value}

abbrev Placed : Type 0
Placed = ℕ × Row

-- of the rows up to a place, the places of those that pass
abbrev pub places_before : (Row → Bool) → List Row → ℕ → List ℕ
places_before f rows n = map (λ (p : Placed). p.0) (filter (λ (p : Placed). f p.1) (take n (enumerate_from 0 rows)))

one_place : (f : Row → Bool) (n : ℕ) (r : Row) → map (λ (p : Placed). p.0) (filter (λ (p : Placed). f p.1) ((n, r) ∷ [])) ≡ cond (f r) (n ∷ []) []
one_place f n r = by (f r)
  where
    by : (b : Bool) → map (λ (p : Placed). p.0) (cond b ((n, r) ∷ []) []) ≡ cond b (n ∷ []) []
    by true = refl
    by false = refl

-- one row more
pub places-more : (f : Row → Bool) (rows : List Row) (n : ℕ) → n < length rows → places_before f rows (n + 1) ≡ places_before f rows n ++ cond (f (row_at rows n)) (n ∷ []) []
places-more f rows n h =
    let ps = enumerate_from 0 rows in
    let row = row_at rows n in
    let many = length-enumerate_from 0 rows in
    let z : 0 + n ≡ n = omega arith in
    let here : get_or ps n (n, no_row) ≡ (n, row) = get_or-enumerate_from 0 rows n (n, no_row) h ∙ ap (λ (k : ℕ). (k, row)) z in
    let more : take (n + 1) ps ≡ take n ps ++ (n, row) ∷ [] = take_more ps n (n, no_row) (omega (arith, h, many)) ∙ ap (λ (p : Placed). take n ps ++ p ∷ []) here in
    ap (λ xs. map (λ (p : Placed). p.0) (filter (λ (p : Placed). f p.1) xs)) more
    ∙ ap (map (λ (p : Placed). p.0)) (filter-append (λ (p : Placed). f p.1) (take n ps) ((n, row) ∷ []))
    ∙ map-append (λ (p : Placed). p.0) (filter (λ (p : Placed). f p.1) (take n ps)) (filter (λ (p : Placed). f p.1) ((n, row) ∷ []))
    ∙ ap (λ xs. places_before f rows n ++ xs) (one_place f n row)

-- a row more that does not pass
pub places-over : (f : Row → Bool) (rows : List Row) (n : ℕ) → n < length rows → f (row_at rows n) ≡ false → places_before f rows (n + 1) ≡ places_before f rows n
places-over f rows n h e =
    places-more f rows n h ∙ ap (λ b. places_before f rows n ++ cond b (n ∷ []) []) e ∙ append-nil (places_before f rows n)

-- a row more that passes
pub places-on : (f : Row → Bool) (rows : List Row) (n : ℕ) → n < length rows → f (row_at rows n) ≡ true → places_before f rows (n + 1) ≡ places_before f rows n ++ n ∷ []
places-on f rows n h e = places-more f rows n h ∙ ap (λ b. places_before f rows n ++ cond b (n ∷ []) []) e

-- all rows
pub places-all : (f : Row → Bool) (rows : List Row) (n : ℕ) → length rows ≤ n → places_before f rows n ≡ places_where f rows
places-all f rows n h =
    ap (λ xs. map (λ (p : Placed). p.0) (filter (λ (p : Placed). f p.1) xs)) (take_all n (enumerate_from 0 rows) (omega (arith, h, length-enumerate_from 0 rows)))

-- none where no row passes
pub places-none : (f : Row → Bool) (from : ℕ) (rows : List Row) → ((at : ℕ) → at < length rows → f (row_at rows at) ≡ false) → map (λ (p : Placed). p.0) (filter (λ (p : Placed). f p.1) (enumerate_from from rows)) ≡ []
places-none f from [] h = refl
places-none f from (r ∷ rows) h =
    let first : f r ≡ false = h 0 (omega arith) in
    ap (λ b. map (λ (p : Placed). p.0) (cond b ((from, r) ∷ filter (λ (p : Placed). f p.1) (enumerate_from (from + 1) rows)) (filter (λ (p : Placed). f p.1) (enumerate_from (from + 1) rows)))) first
    ∙ places-none f (from + 1) rows (λ at l. h (suc at) (omega (arith, l)))

-- # Of the places of a name those with a value

part_step : (h : ℕ → Bool) (b d : Bool) (at : ℕ) (r : Row) (all part : List Placed) → h at ≡ d → filter h (map (λ (p : Placed). p.0) all) ≡ map (λ (p : Placed). p.0) part → filter h (map (λ (p : Placed). p.0) (cond b ((at, r) ∷ all) all)) ≡ map (λ (p : Placed). p.0) (cond (b && d) ((at, r) ∷ part) part)
part_step h false d at r all part e rest = rest
part_step h true d at r all part e rest = by (h at) d e
  where
    by : (c d : Bool) → c ≡ d → cond c (at ∷ filter h (map (λ (p : Placed). p.0) all)) (filter h (map (λ (p : Placed). p.0) all)) ≡ map (λ (p : Placed). p.0) (cond d ((at, r) ∷ part) part)
    by true d e = rw (← e) (ap (λ ps. at ∷ ps) rest)
    by false d e = rw (← e) rest

part_from : (rows : List Row) (name value : Text) (from : ℕ) (rest : List Row) → ((k : ℕ) → k < length rest → row_at rows (from + k) ≡ row_at rest k) → filter (has_value rows value) (map (λ (p : Placed). p.0) (filter (λ (p : Placed). is_named name p.1) (enumerate_from from rest))) ≡ map (λ (p : Placed). p.0) (filter (λ (p : Placed). is_valued name value p.1) (enumerate_from from rest))
part_from rows name value from [] there = refl
part_from rows name value from (r ∷ rest) there =
    let z : from + 0 ≡ from = omega arith in
    let here : row_at rows from ≡ r = ap (row_at rows) (sym z) ∙ there 0 (omega arith) in
    part_step (has_value rows value) (is_named name r) (text_eq value r.label.value) from r
    (filter (λ (p : Placed). is_named name p.1) (enumerate_from (from + 1) rest))
    (filter (λ (p : Placed). is_valued name value p.1) (enumerate_from (from + 1) rest))
    (ap (λ (q : Row). text_eq value q.label.value) here)
    (part_from rows name value (from + 1) rest (λ k l. (let on : from + 1 + k ≡ from + suc k = omega arith in ap (row_at rows) on ∙ there (suc k) (omega (arith, l)))))

-- the places with a value among those of a name are those with both
pub valued-among : (rows : List Row) (name value : Text) → filter (has_value rows value) (named rows name) ≡ valued rows name value
valued-among rows name value =
    part_from rows name value 0 rows (λ k l. (let z : 0 + k ≡ k = omega arith in ap (row_at rows) z))
