-- Parts of texts: names around a colon, and what stands between white space.
use Rattle.std.proofs.Common.{◌≡◌, ℕ, zero, suc, ◌+◌, ◌<◌, List, [], ◌∷◌, ◌++◌, length, take, drop, get_or, Bool, true, false, ◌&&◌, Some, refl, sym, ◌∙◌, ap, subst, arith, encode_utf8}
use Rattle.std.specs.Prelude.{reverse, if◌then◌else◌}
use Rattle.std.specs.List.{before_first, after_first, position_or_len}
use Rattle.std.specs.Str.{chars, IsUtf8, NoCharPasses, NonePass}
use Rattle.std.specs.Str.Pattern.{FindsChar}
use Rattle.std.proofs.lemmas.Bool.Decides.{nat_tests}
use Rattle.std.proofs.lemmas.List.{take_at, drop_at, take-append-drop, reverse-append, length-drop, drop-drop, drop_all, reverse-reverse}
use Rattle.std.proofs.lemmas.Str.{encode_ascii, chars-append, chars_past_char, chars_from_encodes, IsUtf8-take, IsUtf8-drop, IsUtf8-from_ascii, IsCharBoundary-before_ascii, IsCharBoundary-after_ascii, IsCharBoundary-at_seam}
use Rattle.xq_atoms.specs.Characters.{is_space, is_name}
use Rattle.xq_atoms.specs.Spaces.{after_leading, before_trailing}
use Rattle.xq_meaning.specs.Content.{is_colon, is_prefixed}

-- # Around a colon

none_before : (cs : List ℕ) (rest : List ℕ) → NonePass is_colon cs → position_or_len is_colon (cs ++ 58 ∷ rest) ≡ length cs
none_before [] rest h = refl
none_before (c ∷ cs) rest h = let e = none_before cs rest h.1 in rw h.0 (omega (arith, e))

none_at_all : (cs : List ℕ) → NonePass is_colon cs → position_or_len is_colon cs ≡ length cs
none_at_all [] h = refl
none_at_all (c ∷ cs) h = let e = none_at_all cs h.1 in rw h.0 (omega (arith, e))

split_chars : (cs rest : List ℕ) → NonePass is_colon cs → (before_first is_colon (cs ++ 58 ∷ rest) ≡ cs) × (after_first is_colon (cs ++ 58 ∷ rest) ≡ rest)
split_chars cs rest h =
    let n = none_before cs rest h in
    let whole = cs ++ 58 ∷ rest in (
      ap (λ i. take i whole) n ∙ take_at cs (58 ∷ rest) (length cs) refl,
      ap (λ i. drop (i + 1) whole) n ∙ sym (drop-one (length cs) whole) ∙ ap (drop 1) (drop_at cs (58 ∷ rest) (length cs) refl),
    )
  where
    drop-one : (i : ℕ) (xs : List ℕ) → drop 1 (drop i xs) ≡ drop (i + 1) xs
    drop-one i xs = drop-drop 1 i xs

-- a text without a colon is not two names
pub no_colon : (s : List ℕ) → IsUtf8 s → NoCharPasses is_colon s → is_prefixed (chars s) ≡ false
no_colon s u h =
    let same : h.0 ≡ chars s = chars_from_encodes h.0 s u h.1 in
    let n : position_or_len is_colon (chars s) ≡ length (chars s) = ap (position_or_len is_colon) (sym same) ∙ none_at_all h.0 h.2 ∙ ap length same in
    let after : after_first is_colon (chars s) ≡ [] = drop_all (position_or_len is_colon (chars s) + 1) (chars s) (omega (arith, n)) in
    ap (λ (t : List ℕ). is_name (before_first is_colon (chars s)) && is_name t) after ∙ and_false (is_name (before_first is_colon (chars s)))
  where
    and_false : (b : Bool) → (b && false) ≡ false
    and_false true = refl
    and_false false = refl

-- what stands before and after the first colon
pub around_colon : (s front back : List ℕ) (i j : ℕ) → IsUtf8 s → FindsChar 58 s (Some (i, j)) → front ≡ take i s → back ≡ drop j s → length front ≡ i
    → is_prefixed (chars s) ≡ (is_name (chars front) && is_name (chars back))
around_colon s front back i j u h f b l =
    let at = h.1 in
    let split : drop i s ≡ encode_utf8 58 ++ drop j s = at.split in
    let low : get_or s i 0 < 128 = omega (arith, at.byte (omega arith)) in
    let one : drop i s ≡ 58 ∷ drop j s = split ∙ ap (λ (x : List ℕ). x ++ drop j s) (encode_ascii 58 (omega arith)) in
    let within : i < length s = omega (arith, ap length one, length-drop i s) in
    let edge = IsCharBoundary-before_ascii s i within low in
    let front_text : IsUtf8 (take i s) = IsUtf8-take s i u edge in
    let back_text : IsUtf8 (drop i s) = IsUtf8-drop s i u edge in
    let cs = chars (take i s) in
    let same : h.0.0 ≡ cs = chars_from_encodes h.0.0 (take i s) front_text h.0.1 in
    let whole : chars s ≡ cs ++ 58 ∷ chars (drop j s) =
    ap chars (sym (take-append-drop i s)) ∙ chars-append (take i s) (drop i s) front_text ∙ ap (λ (x : List ℕ). cs ++ x) (chars_past_char (drop i s) (drop j s) 58 back_text split) in
    let parts = split_chars cs (chars (drop j s)) (subst (NonePass is_colon) same h.0.2) in
    let e : is_prefixed (cs ++ 58 ∷ chars (drop j s)) ≡ (is_name cs && is_name (chars (drop j s))) = rw (parts.0, parts.1) refl in
    let g : (is_name cs && is_name (chars (drop j s))) ≡ (is_name (chars front) && is_name (chars back)) = rw (f, b) refl in
    ap is_prefixed whole ∙ e ∙ g

-- # White space at the ends

pub leading_utf8 : (s : List ℕ) → IsUtf8 s → IsUtf8 (after_leading is_space s)
leading_utf8 [] u = u
leading_utf8 (c ∷ cs) u = by_test (is_space c) refl (λ small. leading_utf8 cs (IsUtf8-drop (c ∷ cs) 1 u (IsCharBoundary-after_ascii (c ∷ cs) 0 u (omega arith) small)))
  where
    by_test : (b : Bool) → is_space c ≡ b → (c < 128 → IsUtf8 (after_leading is_space cs)) → IsUtf8 (if b then after_leading is_space cs else c ∷ cs)
    by_test true e more = more (grind (arith, nat_tests))
    by_test false e more = u

from_end : (r : List ℕ) → IsUtf8 (reverse r) → IsUtf8 (reverse (after_leading is_space r))
from_end [] u = u
from_end (c ∷ r) u = by_test (is_space c) refl (λ small. from_end r (shorter small))
  where
    ascii : c < 128 → IsUtf8 (c ∷ [])
    ascii small = IsUtf8-from_ascii (c ∷ []) each
      where
        each : (i : ℕ) → get_or (c ∷ []) i 0 < 128
        each zero = small
        each (suc i) = omega arith

    shorter : c < 128 → IsUtf8 (reverse r)
    shorter small =
        let whole : reverse (c ∷ r) ≡ reverse r ++ c ∷ [] = reverse-append (c ∷ []) r in
        let u' : IsUtf8 (reverse r ++ c ∷ []) = subst IsUtf8 whole u in
        subst IsUtf8 (take_at (reverse r) (c ∷ []) (length (reverse r)) refl)
        (IsUtf8-take (reverse r ++ c ∷ []) (length (reverse r)) u' (IsCharBoundary-at_seam (reverse r ++ c ∷ []) (reverse r) (c ∷ []) refl (ascii small)))

    by_test : (b : Bool) → is_space c ≡ b → (c < 128 → IsUtf8 (reverse (after_leading is_space r))) → IsUtf8 (reverse (if b then after_leading is_space r else c ∷ r))
    by_test true e more = more (grind (arith, nat_tests))
    by_test false e more = u

pub trailing_utf8 : (s : List ℕ) → IsUtf8 s → IsUtf8 (before_trailing is_space s)
trailing_utf8 s u = from_end (reverse s) (subst IsUtf8 (sym (reverse-reverse s)) u)
