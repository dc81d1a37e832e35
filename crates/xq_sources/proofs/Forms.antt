-- Packed rows from one place to before another, with their places.
use Rattle.std.proofs.Common.{◌≡◌, ◌+◌, ◌-◌, ◌<◌, ◌≤◌, ℕ, List, [], ◌∷◌, Some, None, Bor, length, take, drop, min, refl, sym, ap, ◌∙◌, subst, arith, inl, inr}
use Rattle.std.specs.Prelude.{slice_get, slice_range}
use Rattle.std.specs.List.{enumerate_from}
use Rattle.std.proofs.lemmas.Bool.{cases_lt}
use Rattle.std.proofs.lemmas.List.{length-take, length-drop, get_or-take, get_or-drop, take_min, take-map, drop-map}
use Rattle.std.proofs.lemmas.List.FromFn.{length-enumerate_from, get_or-enumerate_from}
use Rattle.std.proofs.lemmas.Option.{slice_get-get_or, slice_get_past}
use Rattle.xq_trees.specs.Rows.{Row, row_at, no_row}
use Rattle.xq_sources.specs.Lent.{lent_at, unplaced, placed_between}
use Rattle.xq_sources.specs.private.Forms.{rows_of_form, AreThere, IsForm}
use Rattle.xq_sources.specs.declared.lent.Form.{Form}
use Rattle.xq_sources.specs.declared.lent.Form.TheVariants.{Packed}
use Rattle.xq_packed.specs.Packed.{Packed as PackedRows}

-- the rows from a place on, with their places
abbrev placed_from : List Row → ℕ → List (ℕ × Row)
placed_from rs low = drop low (enumerate_from 0 rs)

length-placed_from : (rs : List Row) (low : ℕ) → length (placed_from rs low) ≡ length rs - low
length-placed_from rs low = length-drop low (enumerate_from 0 rs) ∙ ap (λ n. n - low) (length-enumerate_from 0 rs)

length-placed_between : (rs : List Row) (low high : ℕ) → length (placed_between rs low high) ≡ min (high - low) (length rs - low)
length-placed_between rs low high =
    length-take (high - low) (placed_from rs low) ∙ ap (min (high - low)) (length-placed_from rs low)

-- places past the end are as good as the end
pub clamped : (rs : List Row) (low high : ℕ) → placed_between rs (min low (min high (length rs))) (min high (length rs)) ≡ placed_between rs low high
clamped rs low high = elim (cases_lt (min high (length rs)) low) [
  | inl past ↦
      (let there : min low (min high (length rs)) ≡ min high (length rs) = omega (arith, past) in
      let none : min (high - low) (length (placed_from rs low)) ≡ 0 = omega (arith, past, length-placed_from rs low) in
      let nothing : min high (length rs) - min low (min high (length rs)) ≡ 0 = omega (arith, there) in
      ap (λ n. take n (placed_from rs (min low (min high (length rs))))) nothing
      ∙ sym (ap (λ n. take n (placed_from rs low)) none)
      ∙ take_min (high - low) (placed_from rs low))
  | inr inside ↦
      (let there : min low (min high (length rs)) ≡ low = omega (arith, inside) in
      let as_many : min high (length rs) - low ≡ min (high - low) (length (placed_from rs low)) = omega (arith, inside, length-placed_from rs low) in
      ap (λ n. placed_between rs n (min high (length rs))) there
      ∙ ap (λ n. take n (placed_from rs low)) as_many
      ∙ take_min (high - low) (placed_from rs low))
]

-- # What packed rows are seen as

module _ (form : Form) (rows : Bor PackedRows) (base low high : ℕ) (seen : List (ℕ × Row)) (is : form ≡ Packed rows base low high) (view : rows_of_form form ≡ seen) (invariant : IsForm form) where
  abbrev part : List Row
  part = drop base rows.now.rows

  between : placed_between part low high ≡ seen
  between = sym (ap rows_of_form is) ∙ view

  there : AreThere rows.now.rows base low high
  there = subst IsForm is invariant

  enough : high ≤ length part
  enough = omega (arith, there.within, length-drop base rows.now.rows)

  pub as_many : length seen ≡ high - low
  as_many =
      let all : min (high - low) (length part - low) ≡ high - low = omega (arith, enough) in
      sym (ap length between) ∙ length-placed_between part low high ∙ all

  -- the row at a place among them
  pub is_got : (at : ℕ) → at < high - low → slice_get seen at ≡ Some (low + at, row_at part (low + at))
  is_got at inside =
      let places = enumerate_from 0 part in
      let from_none : 0 + (low + at) ≡ low + at = omega arith in
      slice_get-get_or seen at (0, no_row) (omega (arith, inside, as_many))
      ∙ ap (λ (run : List (ℕ × Row)). Some (lent_at run at)) (sym between)
      ∙ ap Some (get_or-take (high - low) (drop low places) at (0, no_row) inside
      ∙ get_or-drop low places at (0, no_row)
      ∙ get_or-enumerate_from 0 part (low + at) (0, no_row) (omega (arith, inside, enough))
      ∙ ap (λ n. (n, row_at part (low + at))) from_none)

  -- there is none past the last
  pub none_got : (at : ℕ) → high - low ≤ at → slice_get seen at ≡ None
  none_got at past = slice_get_past seen at (omega (arith, past, as_many))

-- # Rows without their places

unplaced-enumerate : (n : ℕ) (rs : List Row) → unplaced (enumerate_from n rs) ≡ rs
unplaced-enumerate n [] = refl
unplaced-enumerate n (r ∷ rs) = ap (λ (l : List Row). r ∷ l) (unplaced-enumerate (n + 1) rs)

pub unplaced-between : (rs : List Row) (low high : ℕ) → unplaced (placed_between rs low high) ≡ slice_range rs low high
unplaced-between rs low high =
    sym (take-map (λ (p : ℕ × Row). p.1) (high - low) (placed_from rs low))
    ∙ ap (take (high - low)) (sym (drop-map (λ (p : ℕ × Row). p.1) low (enumerate_from 0 rs)) ∙ ap (drop low) (unplaced-enumerate 0 rs))
