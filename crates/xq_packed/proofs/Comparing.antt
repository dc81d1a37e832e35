-- Rows that are compared with others, shape by shape, and their values as one text.
use Rattle.std.proofs.Common.{◌≡◌, ◌<◌, ◌≤◌, ◌+◌, ◌-◌, ℕ, zero, suc, List, take, drop, length, sym, ap, ◌∙◌, subst, arith, inl, inr}
use Rattle.std.specs.Prelude.{slice_index_or}
use Rattle.std.proofs.lemmas.Bool.{cases_lt}
use Rattle.std.proofs.lemmas.Str.{IsUtf8-nil}
use Rattle.std.proofs.lemmas.List.{take-take, drop-drop, drop-take}
use Rattle.xq_packed.specs.declared.shapes.Shape.{Shape}
use Rattle.xq_packed.specs.Packed.{Packed, row, AreSame}
use Rattle.xq_packed.specs.private.Alike.{AreAlike, AreWithin, no_shape}
use Rattle.xq_packed.specs.private.Shapes.{value_end, value_start, text_between, name_at, rows_of_shapes, AreShapes}
use Rattle.xq_packed.proofs.Standing.{rows-length, shape-placed, start-after}
use Rattle.xq_packed.proofs.Appending.{run-of}

abbrev Text : Type 0
Text = List ℕ

-- a place up to which rows are seen is one up to which there are shapes
pub up-to : (text : Text) (names : List Text) (shapes : List Shape) (at : ℕ) (p : Packed) → record { rows = rows_of_shapes text names 0 shapes; names = names } ≡ p → at ≤ length p.rows → at ≤ length shapes
up-to text names shapes at p seen h =
    let there : at ≤ length (rows_of_shapes text names 0 shapes) = subst (λ (q : Packed). at ≤ length q.rows) (sym seen) h in
    omega (arith, rows-length text names 0 shapes, there)

-- values end after the place where those of their run begin
pub all-within : (text : Text) (names : List Text) (shapes : List Shape) (low high : ℕ) → AreShapes text names 0 shapes → high ≤ length shapes → AreWithin names (value_start 0 shapes low) shapes low high
all-within text names shapes low high h there = record {
  there = there;
  each = λ k from to. (
      let placed = shape-placed text names 0 shapes k no_shape (omega arith) IsUtf8-nil h (omega arith) in
      let rises = (run-of text names shapes low k from h).rises in
      record { after = omega (arith, placed.shape.rises, rises); named = placed.shape.named });
}

-- a piece of a text in a piece around it
piece : (text : Text) (low high i j : ℕ) → low ≤ i → i ≤ j → j ≤ high → text_between text i j ≡ take (j - i) (drop (i - low) (text_between text low high))
piece text low high i j a b c =
    let k = i - low in
    let m = j - i in
    let rest = high - j in
    let whole : high - low ≡ k + (m + rest) = omega arith in
    let start : low + k ≡ i = omega arith in
    sym (
    ap (λ w. take m (drop k (take w (drop low text)))) whole
    ∙ ap (take m) (drop-take k (m + rest) (drop low text))
    ∙ take-take m (m + rest) (drop k (drop low text)) (omega arith)
    ∙ ap (take m) (drop-drop k low text)
    ∙ ap (λ w. take m (drop w text)) start)

-- pieces that lie in the same way in two equal ones
pieces : (text o : Text) (low high i j low' high' i' j' : ℕ) → low ≤ i → i ≤ j → j ≤ high → low' ≤ i' → i' ≤ j' → j' ≤ high' → i - low ≡ i' - low' → j - low ≡ j' - low' → text_between text low high ≡ text_between o low' high' → text_between text i j ≡ text_between o i' j'
pieces text o low high i j low' high' i' j' a b c a' b' c' at to same =
    let size : j - i ≡ j' - i' = omega arith in
    piece text low high i j a b c
    ∙ ap (λ t. take (j - i) (drop (i - low) t)) same
    ∙ ap (λ n. take n (drop (i - low) (text_between o low' high'))) size
    ∙ ap (λ n. take (j' - i') (drop n (text_between o low' high'))) at
    ∙ sym (piece o low' high' i' j' a' b' c')

module _ (text o : Text) (names others : List Text) (mine its : List Shape) (low high : ℕ) (h : AreShapes text names 0 mine) (k : AreShapes o others 0 its) (here : high ≤ length mine) (there : high ≤ length its) (alike : AreAlike names others (value_start 0 mine low) (value_start 0 its low) mine its low high) where
  -- values begin as far after the places where those of their runs begin
  starts : (n : ℕ) → low ≤ n → n ≤ high → value_start 0 mine n - value_start 0 mine low ≡ value_start 0 its n - value_start 0 its low
  starts zero from to =
      let first : low ≡ 0 = omega arith in
      omega (arith, ap (value_start 0 mine) first, ap (value_start 0 its) first)
  starts (suc n) from to = elim (cases_lt n low) [
    | inl before ↦
        (let last : low ≡ suc n = omega arith in
        omega (arith, ap (value_start 0 mine) last, ap (value_start 0 its) last))
    | inr after ↦
        (let inside : n < high = omega arith in
        omega (arith, (alike n after inside).ends, start-after 0 mine n no_shape (omega arith), start-after 0 its n no_shape (omega arith)))
  ]

  pub rows-alike : text_between text (value_start 0 mine low) (value_start 0 mine high) ≡ text_between o (value_start 0 its low) (value_start 0 its high) → AreSame (rows_of_shapes text names 0 mine) (rows_of_shapes o others 0 its) low high
  rows-alike same n from to =
      let p = shape-placed text names 0 mine n no_shape (omega arith) IsUtf8-nil h (omega arith) in
      let q = shape-placed o others 0 its n no_shape (omega arith) IsUtf8-nil k (omega arith) in
      let s = slice_index_or mine n no_shape in
      let t = slice_index_or its n no_shape in
      let both = alike n from to in
      let i = value_start 0 mine n in
      let i' = value_start 0 its n in
      let begins : i - value_start 0 mine low ≡ i' - value_start 0 its low = starts n from (omega arith) in
      let low_mine = (run-of text names mine low n from h).rises in
      let low_its = (run-of o others its low n from k).rises in
      let high_mine = (run-of text names mine (suc n) high (omega arith) h).rises in
      let high_its = (run-of o others its (suc n) high (omega arith) k).rises in
      let end_mine = start-after 0 mine n no_shape (omega arith) in
      let end_its = start-after 0 its n no_shape (omega arith) in
      let value : text_between text i (value_end s) ≡ text_between o i' (value_end t) =
      pieces text o (value_start 0 mine low) (value_start 0 mine high) i (value_end s) (value_start 0 its low) (value_start 0 its high) i' (value_end t) low_mine p.shape.rises (omega (arith, high_mine, end_mine)) low_its q.shape.rises (omega (arith, high_its, end_its)) begins both.ends same in
      p.stands
      ∙ ap (λ v. row s.size s.level s.kind (name_at names s.name) v) value
      ∙ ap (λ m. row s.size s.level s.kind m (text_between o i' (value_end t))) both.name
      ∙ ap (λ z. row z s.level s.kind (name_at others t.name) (text_between o i' (value_end t))) both.size
      ∙ ap (λ z. row t.size z s.kind (name_at others t.name) (text_between o i' (value_end t))) both.level
      ∙ ap (λ z. row t.size t.level z (name_at others t.name) (text_between o i' (value_end t))) both.kind
      ∙ sym q.stands
