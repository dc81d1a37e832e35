-- A part of a list, from one place to before another.
use Rattle.std.proofs.Common.{◌≡◌, ◌+◌, ◌-◌, ◌≤◌, ℕ, List, length, map, take, drop, min, sym, ap, ◌∙◌, arith, inl, inr}
use Rattle.std.specs.Prelude.{slice_range}
use Rattle.std.proofs.lemmas.Bool.{cases_lt}
use Rattle.std.proofs.lemmas.List.{length-drop, drop-drop, drop-map, drop-take, take-map, take-take, take_min}

module _ {X : Type 0} where
  -- places past the end are as good as the end
  clamped_part : (xs : List X) (low high : ℕ) → slice_range xs (min low (min high (length xs))) (min high (length xs)) ≡ slice_range xs low high
  clamped_part xs low high = elim (cases_lt (min high (length xs)) low) [
    | inl past ↦
        (let there : min low (min high (length xs)) ≡ min high (length xs) = omega (arith, past) in
        let none : min (high - low) (length (drop low xs)) ≡ 0 = omega (arith, past, length-drop low xs) in
        let nothing : min high (length xs) - min low (min high (length xs)) ≡ 0 = omega (arith, there) in
        ap (λ n. take n (drop (min low (min high (length xs))) xs)) nothing
        ∙ sym (ap (λ n. take n (drop low xs)) none)
        ∙ take_min (high - low) (drop low xs))
    | inr inside ↦
        (let there : min low (min high (length xs)) ≡ low = omega (arith, inside) in
        let as_many : min high (length xs) - low ≡ min (high - low) (length (drop low xs)) = omega (arith, inside, length-drop low xs) in
        ap (λ n. slice_range xs n (min high (length xs))) there
        ∙ ap (λ n. take n (drop low xs)) as_many
        ∙ take_min (high - low) (drop low xs))
  ]

  pub part_there : (xs : List X) (low high first last : ℕ) → last ≡ min high (length xs) → first ≡ min low last → slice_range xs first last ≡ slice_range xs low high
  part_there xs low high first last to from =
      let start : first ≡ min low (min high (length xs)) = from ∙ ap (min low) to in
      ap (λ n. slice_range xs n last) start
      ∙ ap (slice_range xs (min low (min high (length xs)))) to
      ∙ clamped_part xs low high

  -- what is left of the first elements after some
  pub part_left : (xs : List X) (low high first last : ℕ) → last ≡ min high (length xs) → first ≡ min low last → drop first (take last xs) ≡ slice_range xs low high
  part_left xs low high first last to from =
      let whole : last ≡ first + (last - first) = omega (arith, from) in
      ap (λ n. drop first (take n xs)) whole ∙ drop-take first (last - first) xs ∙ part_there xs low high first last to from

  -- a part of a part
  pub part_of_part : (xs : List X) (start end low high : ℕ) → low ≤ high → high ≤ end - start → slice_range xs (start + low) (start + high) ≡ slice_range (slice_range xs start end) low high
  part_of_part xs start end low high rises within =
      let size : start + high - (start + low) ≡ high - low = omega arith in
      let whole : end - start ≡ low + (end - start - low) = omega (arith, rises, within) in
      let fewer : high - low ≤ end - start - low = omega (arith, within) in
      ap (λ n. take n (drop (start + low) xs)) size
      ∙ sym (ap (λ n. take (high - low) (drop low (take n (drop start xs)))) whole
      ∙ ap (take (high - low)) (drop-take low (end - start - low) (drop start xs))
      ∙ take-take (high - low) (end - start - low) (drop low (drop start xs)) fewer
      ∙ ap (take (high - low)) (drop-drop low start xs))

pub mapped_part : {X Y : Type 0} (f : X → Y) (xs : List X) (low high : ℕ) → map f (slice_range xs low high) ≡ slice_range (map f xs) low high
mapped_part f xs low high = sym (take-map f (high - low) (drop low xs)) ∙ ap (take (high - low)) (sym (drop-map f low xs))

-- a part, with its places counted from a base
pub part_after : {X : Type 0} (xs : List X) (base low high : ℕ) → slice_range xs (base + low) (base + high) ≡ slice_range (drop base xs) low high
part_after xs base low high =
    let size : base + high - (base + low) ≡ high - low = omega arith in
    ap (λ n. take n (drop (base + low) xs)) size ∙ sym (ap (take (high - low)) (drop-drop low base xs))
