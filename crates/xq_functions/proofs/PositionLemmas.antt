-- The characters whose positions are within bounds.
use Rattle.std.proofs.Common.{◌≡◌, ℕ, zero, suc, ◌+◌, ◌-◌, ◌<◌, ◌≤◌, ℤ, pos, ◌+ℤ◌, int_le, int_lt, List, [], ◌∷◌, ◌++◌, length, take, drop, Option, Some, None, is_some, Bool, true, false, not, ◌&&◌, ltb, arith, refl, sym, ap, ◌∙◌, ⊎_elim}
use Rattle.std.proofs.lemmas.Bool.{lt-ltb, le-ltb, cases_lt, and_left, and_parts, false≢true}
use Rattle.std.proofs.lemmas.Int.{ints}
use Rattle.std.specs.Prelude.{encode_utf8, encode_utf8_all, MatchOption, IsUtf8, IsCharBoundary}
use Rattle.std.specs.Str.{chars, all_scalars as scalars}
use Rattle.std.proofs.lemmas.Str.{encodes-chars, encodes-append, IsCharBoundary-at_seam, cons_from_encodes, length-le-encodes, chars-encodes, scalars-chars}
use Rattle.std.proofs.lemmas.List.{take-append-drop, length-append, length-drop, take_at, drop-drop, drop_all, nil_from_length}
use Rattle.xq_meaning.specs.Texts.{characters_where, in_front_if, from_position, between_positions}

-- before the start none is kept
pub skipped : (keep : ℤ → Bool) (d i : ℕ) → ((j : ℕ) → i ≤ j → j < i + d → keep (pos (suc j)) ≡ false) → (cs : List ℕ) → characters_where keep (suc i) cs ≡ characters_where keep (suc (i + d)) (drop d cs)
skipped keep zero i none cs = ap (λ k. characters_where keep (suc k) cs) (let e : i ≡ i + 0 = omega arith in e)
skipped keep (suc d) i none [] = refl
skipped keep (suc d) i none (c ∷ cs) =
    ap (λ b. in_front_if b c (characters_where keep (suc (suc i)) cs)) (none i (omega arith) (omega arith))
    ∙ skipped keep d (suc i) (λ j low h. none j (omega arith) (omega arith)) cs ∙ ap (λ k. characters_where keep (suc k) (drop d cs)) (let e : suc i + d ≡ i + suc d = omega arith in e)

-- all are kept
pub kept_all : (keep : ℤ → Bool) (i : ℕ) → ((j : ℕ) → i ≤ j → keep (pos (suc j)) ≡ true) → (cs : List ℕ) → characters_where keep (suc i) cs ≡ cs
kept_all keep i all [] = refl
kept_all keep i all (c ∷ cs) =
    ap (λ b. in_front_if b c (characters_where keep (suc (suc i)) cs)) (all i (omega arith)) ∙ ap (λ l. c ∷ l) (kept_all keep (suc i) (λ j h. all j (omega arith)) cs)

-- those before the end are kept
pub kept_some : (keep : ℤ → Bool) (d i : ℕ) → ((j : ℕ) → i ≤ j → keep (pos (suc j)) ≡ ltb j (i + d)) → (cs : List ℕ) → characters_where keep (suc i) cs ≡ take d cs
kept_some keep zero i all [] = refl
kept_some keep (suc d) i all [] = refl
kept_some keep zero i all (c ∷ cs) =
    ap (λ b. in_front_if b c (characters_where keep (suc (suc i)) cs)) (all i (omega arith) ∙ le-ltb i (i + 0) (omega arith)) ∙ kept_some keep zero (suc i) (λ j h. all j (omega arith) ∙ le-ltb j (i + 0) (omega arith) ∙ sym (le-ltb j (suc i + 0) (omega arith))) cs
kept_some keep (suc d) i all (c ∷ cs) =
    ap (λ b. in_front_if b c (characters_where keep (suc (suc i)) cs)) (all i (omega arith) ∙ lt-ltb i (i + suc d) (omega arith))
    ∙ ap (λ l. c ∷ l) (kept_some keep d (suc i) (λ j h. all j (omega arith) ∙ ap (ltb j) (let e : i + suc d ≡ suc i + d = omega arith in e)) cs)

-- a text in two, after so many characters
pub split_characters : (k : ℕ) (t : List ℕ) → IsUtf8 t → t ≡ encode_utf8_all (take k (chars t)) ++ encode_utf8_all (drop k (chars t))
split_characters k t utf8 =
    sym (encodes-chars t utf8) ∙ ap encode_utf8_all (sym (take-append-drop k (chars t))) ∙ encodes-append (take k (chars t)) (drop k (chars t))

front-length : (k : ℕ) (t rest : List ℕ) → IsUtf8 t → rest ≡ encode_utf8_all (drop k (chars t)) → length t - length rest ≡ length (encode_utf8_all (take k (chars t)))
front-length k t rest utf8 is =
    omega (arith, ap length (split_characters k t utf8), ap length is, length-append (encode_utf8_all (take k (chars t))) (encode_utf8_all (drop k (chars t))))

pub front-boundary : (k : ℕ) (t rest : List ℕ) → IsUtf8 t → IsUtf8 rest → rest ≡ encode_utf8_all (drop k (chars t)) → IsCharBoundary t (length t - length rest)
front-boundary k t rest utf8 rest_utf8 is =
    let front = encode_utf8_all (take k (chars t)) in
    rw (front-length k t rest utf8 is) (IsCharBoundary-at_seam t front rest (split_characters k t utf8 ∙ ap (λ r. front ++ r) (sym is)) rest_utf8)

pub front-is : (k : ℕ) (t rest : List ℕ) → IsUtf8 t → rest ≡ encode_utf8_all (drop k (chars t)) → take (length t - length rest - 0) t ≡ encode_utf8_all (take k (chars t))
front-is k t rest utf8 is =
    let front = encode_utf8_all (take k (chars t)) in
    let back = encode_utf8_all (drop k (chars t)) in
    ap (λ n. take n t) (let e : length t - length rest - 0 ≡ length t - length rest = omega arith in e ∙ front-length k t rest utf8 is) ∙ ap (take (length front)) (split_characters k t utf8) ∙ take_at front back (length front) refl

-- a step over one character
pub next_character : (X : Type 0) (k : ℕ) (t rest new : List ℕ) (r : Option ℕ) → encode_utf8_all (drop k (chars t)) ≡ rest → MatchOption r X (λ c. rest ≡ encode_utf8 c ++ new) → is_some r ≡ true → encode_utf8_all (drop (k + 1) (chars t)) ≡ new
next_character X k t rest new None is step some = absurd (false≢true some)
next_character X k t rest new (Some c) is step some =
    let e = cons_from_encodes (drop k (chars t)) new c (is ∙ step) in
    ap encode_utf8_all (sym (drop-drop 1 k (chars t)) ∙ ap (drop 1) e.1) ∙ e.2

-- no character is left
pub no_character : {S : Type 0} (Y : ℕ → Type 0) (rest_of : S → List ℕ) (k count : ℕ) (t : List ℕ) (old new : S) (r : Option ℕ) → encode_utf8_all (drop k (chars t)) ≡ rest_of old → MatchOption r ((length (rest_of old) ≡ 0) × (new ≡ old)) Y → is_some r ≡ false → k ≤ count
    → rest_of new ≡ encode_utf8_all (drop count (chars t))
no_character Y rest_of k count t old new (Some c) is step none h = absurd (false≢true (sym none))
no_character Y rest_of k count t old new None is step none h =
    let cs = chars t in
    let short : length (drop k cs) ≤ 0 = omega (arith, length-le-encodes (drop k cs), ap length is, step.0) in
    let past : length cs ≤ count = omega (arith, length-drop k cs) in
    ap rest_of step.1 ∙ nil_from_length (rest_of old) step.0 ∙ sym (ap encode_utf8_all (drop_all count cs past))

-- positions from the bound on, and before another bound
int_le-is : (n p : ℤ) → int_le n p ≡ not (int_lt p n)
int_le-is n p = by (int_le n p) (int_lt p n) refl refl
  where
    by : (t u : Bool) → int_le n p ≡ t → int_lt p n ≡ u → t ≡ not u
    by true true e f = absurd (omega (arith, ints))
    by true false e f = refl
    by false true e f = refl
    by false false e f = absurd (omega (arith, ints))

at_index : (index : ℕ) → pos (suc index) ≡ pos (index + 1)
at_index index = ap pos (let e : suc index ≡ index + 1 = omega arith in e)

-- which positions are not below the bound
not_below : (n : ℤ) (start : ℕ) → ((index : ℕ) → int_lt (pos (index + 1)) n ≡ ltb index start) → (j : ℕ) → int_le n (pos (suc j)) ≡ not (ltb j start)
not_below n start below j = int_le-is n (pos (suc j)) ∙ ap (λ p. not (int_lt p n)) (at_index j) ∙ ap not (below j)

not_start : (j start : ℕ) → j < start → not (ltb j start) ≡ false
not_start j start h = ap not (lt-ltb j start h)

from_start : (j start : ℕ) → start ≤ j → not (ltb j start) ≡ true
from_start j start h = ap not (le-ltb j start h)

pub from_position-is : (n : ℤ) (t : List ℕ) (start : ℕ) → ((index : ℕ) → int_lt (pos (index + 1)) n ≡ ltb index start) → encode_utf8_all (drop start (chars t)) ≡ from_position n t
from_position-is n t start below =
    let keep : ℤ → Bool = λ p. int_le n p in
    sym (ap encode_utf8_all (skipped keep start 0 (λ j low h. not_below n start below j ∙ not_start j start (omega arith)) (chars t)
    ∙ kept_all keep (0 + start) (λ j h. not_below n start below j ∙ from_start j start (omega arith)) (drop start (chars t))))

same_end : (j start end : ℕ) → start ≤ j → ltb j end ≡ ltb j (0 + start + (end - start))
same_end j start end h =
    ⊎_elim
    (λ less. lt-ltb j end less ∙ sym (lt-ltb j (0 + start + (end - start)) (omega arith)))
    (λ more. le-ltb j end more ∙ sym (le-ltb j (0 + start + (end - start)) (omega arith)))
    (cases_lt j end)

pub between_positions-is : (n l : ℤ) (t : List ℕ) (start end : ℕ) → ((index : ℕ) → int_lt (pos (index + 1)) n ≡ ltb index start) → ((index : ℕ) → int_lt (pos (index + 1)) (n +ℤ l) ≡ ltb index end)
    → encode_utf8_all (take (end - start) (drop start (chars t))) ≡ between_positions n l t
between_positions-is n l t start end below above =
    let keep : ℤ → Bool = λ p. int_le n p && int_lt p (n +ℤ l) in
    sym (ap encode_utf8_all (skipped keep start 0 (λ j low h. and_left (int_le n (pos (suc j))) (int_lt (pos (suc j)) (n +ℤ l)) (not_below n start below j ∙ not_start j start (omega arith))) (chars t)
    ∙ kept_some keep (end - start) (0 + start) (λ j h. ap (λ b. b && int_lt (pos (suc j)) (n +ℤ l)) (not_below n start below j ∙ from_start j start (omega arith)) ∙ ap (λ p. int_lt p (n +ℤ l)) (at_index j) ∙ above j ∙ same_end j start end (omega arith)) (drop start (chars t))))

scalars-drop : (k : ℕ) (cs : List ℕ) → scalars cs ≡ true → scalars (drop k cs) ≡ true
scalars-drop zero cs h = h
scalars-drop (suc k) [] h = refl
scalars-drop (suc k) (c ∷ cs) h = scalars-drop k cs (and_parts _ _ h).1

-- the characters after so many
pub chars-drop : (k : ℕ) (t : List ℕ) → IsUtf8 t → chars (encode_utf8_all (drop k (chars t))) ≡ drop k (chars t)
chars-drop k t utf8 = chars-encodes (drop k (chars t)) (scalars-drop k (chars t) (scalars-chars t utf8))
