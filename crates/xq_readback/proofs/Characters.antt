-- Texts that hold characters of XML alone, and what functions make of them.
use Rattle.std.proofs.Common.{◌≡◌, ℕ, zero, suc, ◌/◌, ◌%◌, ◌<◌, ◌≤◌, Bool, true, false, not, ◌&&◌, ◌||◌, ◌==◌, List, [], ◌∷◌, ◌++◌, length, map, take, drop, get_or, codes, arith, refl, sym, ap, ◌∙◌, subst, ⊎_elim, ℤ, pos, negsuc}
use Rattle.std.specs.Prelude.{encode_utf8, encode_utf8_all, nat_abs, nat_lt, int_lt, reverse, if◌then◌else◌, decimal as digits_of}
use Rattle.std.specs.Fmt.{digits, digits_onto, digit_glyph, signed_decimal}
use Rattle.std.specs.List.{AllByRecursion, list_all, flat_map}
use Rattle.std.specs.Str.{chars, IsUtf8, IsCharBoundary}
use lib.Utf8.{scalar, scalars}
use Rattle.std.proofs.lemmas.Bool.{and_parts, cases_lt, false≢true}
use Rattle.std.proofs.lemmas.Bool.Decides.{nat_tests, Decides-eqb}
use Rattle.std.proofs.lemmas.Slice.Eq.{starts_is}
use Rattle.std.proofs.lemmas.List.{append-nil, length-append, reverse-append, reverse-reverse, take_at, drop_at}
use Rattle.std.proofs.lemmas.List.Folds.{list_all-append}
use Rattle.std.proofs.lemmas.Str.{chars-encodes, chars-nil, encodes-chars, encode_ascii, inside_one, IsUtf8-append, IsUtf8-nil, IsUtf8-take, IsUtf8-drop, IsCharBoundary-from_take, IsCharBoundary-at_seam, IsCharBoundary-start, chars-append}
use Rattle.std.proofs.Math.Seq.{get_or-append_seam}
use Rattle.xq_atoms.specs.Characters.{is_char, is_digit, is_space, is_name, is_name_start, is_name_char}
use Rattle.xq_atoms.specs.Spaces.{after_leading, trimmed}
use Rattle.xq_atoms.specs.Text.{Text, are_digits, is_empty}
use Rattle.xq_atoms.specs.Atom.{Atomic, Integer, Decimal, String, Boolean, Untyped}
use Rattle.xq_atoms.specs.Cast.{fraction_text, sign_text, pointed, decimal_text, text_of}
use Rattle.xq_readback.proofs.Decimals.{fraction-digits}
use Rattle.xq_meaning.specs.Printable.{IsCharacters}
use Rattle.xq_meaning.specs.Texts.{joined, begins, cut_at, pieces_of, words, normalized, in_front_if, characters_where, text_where, before_first, after_first, substring_before, substring_after}
use Rattle.xq_trees.specs.Names.{holds}
use Rattle.xq_trees.proofs.Lists.{all_filter}
use Rattle.xq_lexer.proofs.Forms.{name_chars}
use Rattle.xq_readback.specs.Legible.{IsLegible}

-- ---- the characters of a text

-- the text is what these characters spell
abbrev pub Spelled : Text → Type 0
Spelled t = (cs : List ℕ) × (list_all is_char cs ≡ true) × (encode_utf8_all cs ≡ t)

char_is_scalar : (c : ℕ) → is_char c ≡ true → scalar c ≡ true
unfolding is_char
char_is_scalar c h = grind (arith, nat_tests)

chars_are_scalars : (cs : List ℕ) → list_all is_char cs ≡ true → scalars cs ≡ true
chars_are_scalars [] h = refl
chars_are_scalars (c ∷ cs) h =
    let p = and_parts (is_char c) (list_all is_char cs) h in
    (λ i. char_is_scalar c p.0 i && chars_are_scalars cs p.1 i)

pub spelled : (t : Text) → Spelled t → IsCharacters t
spelled t s =
    let scalar = chars_are_scalars s.0 s.1 in
    ((s.0, (scalar, s.2)), ap (λ (x : Text). list_all is_char (chars x)) (sym s.2) ∙ ap (list_all is_char) (chars-encodes s.0 scalar) ∙ s.1)

pub spelling : (t : Text) → IsCharacters t → Spelled t
spelling t h = (chars t, h.1, encodes-chars t h.0)

pub none : IsCharacters []
none = (IsUtf8-nil, ap (list_all is_char) chars-nil)

pub both : (s t : Text) → IsCharacters s → IsCharacters t → IsCharacters (s ++ t)
both s t p q =
    (IsUtf8-append s t p.0 q.0, ap (list_all is_char) (chars-append s t p.0) ∙ list_all-append is_char (chars s) (chars t) ∙ rw (p.1, q.1) refl)

-- a part at the front that is UTF-8, and the rest
pub halves : (s t : Text) → IsCharacters (s ++ t) → IsUtf8 s → IsCharacters s × IsCharacters t
halves s t h u =
    let front : take (length s) (s ++ t) ≡ s = take_at s t (length s) refl in
    let fits : length s ≤ length (s ++ t) = omega (arith, length-append s t) in
    let edge = IsCharBoundary-from_take (s ++ t) (length s) h.0 fits (subst IsUtf8 (sym front) u) in
    let rest : IsUtf8 t = subst IsUtf8 (drop_at s t (length s) refl) (IsUtf8-drop (s ++ t) (length s) h.0 edge) in
    let all : (list_all is_char (chars s) && list_all is_char (chars t)) ≡ true =
    sym (list_all-append is_char (chars s) (chars t)) ∙ ap (list_all is_char) (sym (chars-append s t u)) ∙ h.1 in
    let p = and_parts (list_all is_char (chars s)) (list_all is_char (chars t)) all in
    ((u, p.0), (rest, p.1))

-- a part at the end that is UTF-8, and what is before it
pub cached_rows : (s t : Text) → IsCharacters (s ++ t) → IsUtf8 t → IsCharacters s
cached_rows s t h u =
    let edge = IsCharBoundary-at_seam (s ++ t) s t refl u in
    (halves s t h (subst IsUtf8 (take_at s t (length s) refl) (IsUtf8-take (s ++ t) (length s) h.0 edge))).0

-- ---- digits and words

-- a byte that is a character by itself
abbrev is_plain : ℕ → Bool
is_plain b = nat_lt b 128 && is_char b

below : (b n : ℕ) → nat_lt b n ≡ true → b < n
below b n h = grind (arith, nat_tests)

plain_text : (t : Text) → list_all is_plain t ≡ true → IsCharacters t
plain_text [] h = none
plain_text (b ∷ t) h =
    let p = and_parts (is_plain b) (list_all is_plain t) h in
    let q = and_parts (nat_lt b 128) (is_char b) p.0 in
    both (b ∷ []) t (spelled (b ∷ []) (b ∷ [], rw q.1 refl, ap (λ (x : Text). x ++ []) (encode_ascii b (below b 128 q.0)))) (plain_text t p.1)

digit_plain : (b : ℕ) → is_digit b ≡ true → is_plain b ≡ true
unfolding is_char
digit_plain b h = grind (arith, nat_tests)

digits_plain : (t : Text) → list_all is_digit t ≡ true → list_all is_plain t ≡ true
digits_plain [] h = refl
digits_plain (b ∷ t) h =
    let p = and_parts (is_digit b) (list_all is_digit t) h in
    rw (digit_plain b p.0, digits_plain t p.1) refl

pub digits_text : (t : Text) → are_digits t ≡ true → IsCharacters t
digits_text t h = plain_text t (digits_plain t h)

glyph_digit : (d : ℕ) → d < 10 → is_digit (digit_glyph false d) ≡ true
glyph_digit d h =
    let small : nat_lt d 10 ≡ true = grind (arith, nat_tests) in
    rw small (grind (arith, nat_tests))

onto_digits : (k n : ℕ) (acc : Text) → are_digits acc ≡ true → are_digits (digits_onto k 10 false n acc) ≡ true
onto_digits zero n acc h = h
onto_digits (suc k) n acc h =
    let more : are_digits (digit_glyph false (n % 10) ∷ acc) ≡ true = rw (glyph_digit (n % 10) (omega arith), h) refl in
    by_test (n / 10 == 0) more (onto_digits k (n / 10) (digit_glyph false (n % 10) ∷ acc) more)
  where
    by_test : (b : Bool) → are_digits (digit_glyph false (n % 10) ∷ acc) ≡ true → are_digits (digits_onto k 10 false (n / 10) (digit_glyph false (n % 10) ∷ acc)) ≡ true
        → are_digits (if b then digit_glyph false (n % 10) ∷ acc else digits_onto k 10 false (n / 10) (digit_glyph false (n % 10) ∷ acc)) ≡ true
    by_test true here rest = here
    by_test false here rest = rest

last_digits : (k n : ℕ) → IsCharacters (digits_onto k 10 false n [])
last_digits k n = digits_text (digits_onto k 10 false n []) (onto_digits k n [] refl)

-- the digits of a number, however great it is
pub number_text : (n : ℕ) → IsCharacters (digits_of n)
unfolding digits
number_text n = last_digits 64 n

word_text : (t : Text) → list_all is_plain t ≡ true → IsCharacters t
word_text t h = plain_text t h

minus : IsCharacters (codes "-")
unfolding is_char
minus = word_text (codes "-") refl

point : IsCharacters (codes ".")
unfolding is_char
point = word_text (codes ".") refl

pub space : IsCharacters (codes " ")
unfolding is_char
space = word_text (codes " ") refl

true_word : IsCharacters (codes "true")
unfolding is_char
true_word = word_text (codes "true") refl

false_word : IsCharacters (codes "false")
unfolding is_char
false_word = word_text (codes "false") refl

-- ---- atomic values as texts

integer_text : (n : ℤ) → IsCharacters (signed_decimal n)
integer_text (pos n) = number_text n
integer_text (negsuc n) = both (codes "-") (digits_of (suc n)) minus (number_text (suc n))

sign_characters : (n : ℤ) → IsCharacters (sign_text n)
sign_characters n = by_test (int_lt n (pos 0))
  where
    by_test : (b : Bool) → IsCharacters (if b then codes "-" else [])
    by_test true = minus
    by_test false = none

pointed_characters : (t : Text) → IsCharacters t → IsCharacters (pointed t)
pointed_characters [] h = none
pointed_characters (c ∷ cs) h = both (codes ".") (c ∷ cs) point h

fraction_characters : (m : ℤ) → IsCharacters (decimal_text m)
fraction_characters m =
    let n : ℕ = nat_abs m in
    both (sign_text m ++ digits_of (n / 1000000)) (pointed (fraction_text n))
    (both (sign_text m) (digits_of (n / 1000000)) (sign_characters m) (number_text (n / 1000000)))
    (pointed_characters (fraction_text n) (digits_text (fraction_text n) (fraction-digits n)))

pub cast_text : (a : Atomic) → IsLegible a → IsCharacters (text_of a)
cast_text (Integer n) h = integer_text n
cast_text (Decimal m) h = fraction_characters m
cast_text (String t) h = h
cast_text (Boolean true) h = true_word
cast_text (Boolean false) h = false_word
cast_text (Untyped t) h = h

pub cast_texts : (as' : List Atomic) → AllByRecursion IsLegible as' → AllByRecursion IsCharacters (map text_of as')
cast_texts [] h = tt
cast_texts (a ∷ as') h = (cast_text a h.0, cast_texts as' h.1)

pub flat_text : (as' : List Atomic) → AllByRecursion IsLegible as' → IsCharacters (flat_map text_of as')
flat_text [] h = none
flat_text (a ∷ as') h = both (text_of a) (flat_map text_of as') (cast_text a h.0) (flat_text as' h.1)

-- ---- texts put together

pub joined_text : (separator : Text) → IsCharacters separator → (ts : List Text) → AllByRecursion IsCharacters ts → IsCharacters (joined separator ts)
joined_text separator s [] h = none
joined_text separator s (t ∷ []) h = h.0
joined_text separator s (t ∷ u ∷ us) h =
    both (t ++ separator) (joined separator (u ∷ us)) (both t separator h.0 s) (joined_text separator s (u ∷ us) h.1)

-- ---- words between white space

no_space_high : (b : ℕ) → 128 ≤ b → is_space b ≡ false
no_space_high b high = grind (arith, nat_tests)

-- the bytes of a character that is no white space
no_space_bytes : (c k : ℕ) → is_space c ≡ false → k < length (encode_utf8 c) → is_space (get_or (encode_utf8 c) k 0) ≡ false
no_space_bytes c k e h =
    ⊎_elim
    (λ low. ap is_space (sym (inside_one c [] (encode_utf8 c) k (sym (append-nil (encode_utf8 c))) h low)) ∙ e)
    (λ high. no_space_high (get_or (encode_utf8 c) k 0) high)
    (cases_lt (get_or (encode_utf8 c) k 0) 128)

pieces_through : (bs rest : Text) → ((k : ℕ) → k < length bs → is_space (get_or bs k 0) ≡ false) → pieces_of (bs ++ rest) ≡ (bs ++ (pieces_of rest).0, (pieces_of rest).1)
pieces_through [] rest h = refl
pieces_through (b ∷ bs) rest h =
    ap (λ t. cut_at t b (pieces_of (bs ++ rest))) (h zero (omega arith)) ∙ ap (cut_at false b) (pieces_through bs rest (λ k l. h (suc k) (omega (arith, l))))

pieces_space : (c : ℕ) (rest : Text) → is_space c ≡ true → pieces_of (encode_utf8 c ++ rest) ≡ ([], (pieces_of rest).0 ∷ (pieces_of rest).1)
pieces_space c rest space =
    ⊎_elim
    (λ low. ap (λ (bs : Text). pieces_of (bs ++ rest)) (encode_ascii c low) ∙ ap (λ t. cut_at t c (pieces_of rest)) space)
    (λ high. absurd (false≢true (sym (no_space_high c high) ∙ space)))
    (cases_lt c 128)

pieces_word : (c : ℕ) (rest : Text) → is_space c ≡ false → pieces_of (encode_utf8 c ++ rest) ≡ (encode_utf8 c ++ (pieces_of rest).0, (pieces_of rest).1)
pieces_word c rest e = pieces_through (encode_utf8 c) rest (λ k. no_space_bytes c k e)

-- each piece holds characters
abbrev Pieces : Text × List Text → Type 0
Pieces p = IsCharacters p.0 × AllByRecursion IsCharacters p.1

pieces_characters : (cs : List ℕ) → list_all is_char cs ≡ true → Pieces (pieces_of (encode_utf8_all cs))
pieces_characters [] h = (none, tt)
pieces_characters (c ∷ cs) h =
    let p = and_parts (is_char c) (list_all is_char cs) h in
    by_test (is_space c) refl (pieces_characters cs p.1) (one c p.0)
  where
    one : (c : ℕ) → is_char c ≡ true → IsCharacters (encode_utf8 c)
    one c h = spelled (encode_utf8 c) (c ∷ [], rw h refl, append-nil (encode_utf8 c))

    by_test : (b : Bool) → is_space c ≡ b → Pieces (pieces_of (encode_utf8_all cs)) → IsCharacters (encode_utf8 c) → Pieces (pieces_of (encode_utf8 c ++ encode_utf8_all cs))
    by_test true e rest here = subst Pieces (sym (pieces_space c (encode_utf8_all cs) e)) (none, (rest.0, rest.1))
    by_test false e rest here =
        subst Pieces (sym (pieces_word c (encode_utf8_all cs) e)) (both (encode_utf8 c) (pieces_of (encode_utf8_all cs)).0 here rest.0, rest.1)

pub normalized_text : (t : Text) → IsCharacters t → IsCharacters (normalized t)
normalized_text t h =
    let s = spelling t h in
    let pieces = subst (λ (x : Text). Pieces (pieces_of x)) s.2 (pieces_characters s.0 s.1) in
    joined_text (codes " ") space (words t)
    (all_filter IsCharacters (λ piece. not (is_empty piece)) ((pieces_of t).0 ∷ (pieces_of t).1) (pieces.0, pieces.1))

-- ---- characters by their positions

front_characters : (b : Bool) (c : ℕ) (cs : List ℕ) → is_char c ≡ true → list_all is_char cs ≡ true → list_all is_char (in_front_if b c cs) ≡ true
front_characters true c cs h k = rw (h, k) refl
front_characters false c cs h k = k

where_characters : (keep : ℤ → Bool) (p : ℕ) (cs : List ℕ) → list_all is_char cs ≡ true → list_all is_char (characters_where keep p cs) ≡ true
where_characters keep p [] h = refl
where_characters keep p (c ∷ cs) h =
    let q = and_parts (is_char c) (list_all is_char cs) h in
    front_characters (keep (pos p)) c (characters_where keep (suc p) cs) q.0 (where_characters keep (suc p) cs q.1)

pub part_text : (keep : ℤ → Bool) (t : Text) → IsCharacters t → IsCharacters (text_where keep t)
part_text keep t h = spelled (text_where keep t) (characters_where keep 1 (chars t), where_characters keep 1 (chars t) h.1, refl)

-- ---- before and after the first place of a word

-- the word and what is around it
halved : (before : Text) (w : ℕ) (ws after : Text) → IsCharacters (before ++ ((w ∷ ws) ++ after)) → IsUtf8 (w ∷ ws) → IsCharacters before × IsCharacters after
halved before w ws after h u =
    let whole : Text = before ++ ((w ∷ ws) ++ after) in
    let some : 0 < length (w ∷ ws) = omega arith in
    let at : get_or whole (length before) 0 ≡ w = get_or-append_seam before w (ws ++ after) 0 in
    let fits : length before ≤ length whole = omega (arith, length-append before ((w ∷ ws) ++ after)) in
    let edge : IsCharBoundary whole (length before) = (fits, λ inside high. subst (λ n. 192 ≤ n) (sym at) ((IsCharBoundary-start (w ∷ ws) u).1 some (subst (λ n. 128 ≤ n) at high))) in
    let front : IsUtf8 before = subst IsUtf8 (take_at before ((w ∷ ws) ++ after) (length before) refl) (IsUtf8-take whole (length before) h.0 edge) in
    let parts = halves before ((w ∷ ws) ++ after) h front in
    (parts.0, (halves (w ∷ ws) after parts.1 u).1)

begins_is : (word t : Text) → begins word t ≡ true → t ≡ word ++ drop (length word) t
begins_is word t = (starts_is Decides-eqb t word (begins word t) refl).0

around : (w : ℕ) (ws t : Text) → holds (w ∷ ws) t ≡ true → t ≡ before_first (w ∷ ws) t ++ ((w ∷ ws) ++ after_first (w ∷ ws) t)
around w ws [] h = absurd (false≢true h)
around w ws (c ∷ cs) h = by_test (begins (w ∷ ws) (c ∷ cs)) refl h (λ more. around w ws cs more)
  where
    by_test : (b : Bool) → begins (w ∷ ws) (c ∷ cs) ≡ b → (b || holds (w ∷ ws) cs) ≡ true → (holds (w ∷ ws) cs ≡ true → cs ≡ before_first (w ∷ ws) cs ++ ((w ∷ ws) ++ after_first (w ∷ ws) cs))
        → c ∷ cs ≡ (if b then [] else c ∷ before_first (w ∷ ws) cs) ++ ((w ∷ ws) ++ (if b then drop (length (w ∷ ws)) (c ∷ cs) else after_first (w ∷ ws) cs))
    by_test true e h more = begins_is (w ∷ ws) (c ∷ cs) e
    by_test false e h more = ap (λ (x : Text). c ∷ x) (more h)

-- nothing is after a word that stands nowhere
nothing_after : (w : ℕ) (ws t : Text) → holds (w ∷ ws) t ≡ false → after_first (w ∷ ws) t ≡ []
nothing_after w ws [] h = refl
nothing_after w ws (c ∷ cs) h = by_test (begins (w ∷ ws) (c ∷ cs)) h (λ more. nothing_after w ws cs more)
  where
    by_test : (b : Bool) → (b || holds (w ∷ ws) cs) ≡ false → (holds (w ∷ ws) cs ≡ false → after_first (w ∷ ws) cs ≡ [])
        → (if b then drop (length (w ∷ ws)) (c ∷ cs) else after_first (w ∷ ws) cs) ≡ []
    by_test true h more = absurd (false≢true (sym h))
    by_test false h more = more h

-- the empty word stands at the front
nothing_before : (t : Text) → before_first [] t ≡ []
nothing_before [] = refl
nothing_before (c ∷ cs) = refl

pub before_text : (t word : Text) → IsCharacters t → IsCharacters word → IsCharacters (substring_before t word)
before_text t [] h k = by_test (holds [] t)
  where
    by_test : (b : Bool) → IsCharacters (if b then before_first [] t else [])
    by_test true = subst IsCharacters (sym (nothing_before t)) none
    by_test false = none
before_text t (w ∷ ws) h k = by_test (holds (w ∷ ws) t) refl
  where
    by_test : (b : Bool) → holds (w ∷ ws) t ≡ b → IsCharacters (if b then before_first (w ∷ ws) t else [])
    by_test true e = (halved (before_first (w ∷ ws) t) w ws (after_first (w ∷ ws) t) (subst IsCharacters (around w ws t e) h) k.0).0
    by_test false e = none

pub after_text : (t word : Text) → IsCharacters t → IsCharacters word → IsCharacters (substring_after t word)
after_text t [] h k = h
after_text t (w ∷ ws) h k = by_test (holds (w ∷ ws) t) refl
  where
    by_test : (b : Bool) → holds (w ∷ ws) t ≡ b → IsCharacters (after_first (w ∷ ws) t)
    by_test true e = (halved (before_first (w ∷ ws) t) w ws (after_first (w ∷ ws) t) (subst IsCharacters (around w ws t e) h) k.0).1
    by_test false e = subst IsCharacters (sym (nothing_after w ws t e)) none

-- ---- without white space at the ends

space_plain : (b : ℕ) → is_space b ≡ true → is_plain b ≡ true
unfolding is_char
space_plain b h = grind (arith, nat_tests)

space_text : (b : ℕ) → is_space b ≡ true → IsUtf8 (b ∷ [])
space_text b h = (plain_text (b ∷ []) (rw (space_plain b h) refl)).0

pub leading_text : (s : Text) → IsCharacters s → IsCharacters (after_leading is_space s)
leading_text [] h = h
leading_text (c ∷ cs) h = by_test (is_space c) refl (λ e. leading_text cs (halves (c ∷ []) cs h (space_text c e)).1)
  where
    by_test : (b : Bool) → is_space c ≡ b → (is_space c ≡ true → IsCharacters (after_leading is_space cs)) → IsCharacters (if b then after_leading is_space cs else c ∷ cs)
    by_test true e more = more e
    by_test false e more = h

from_end : (r : Text) → IsCharacters (reverse r) → IsCharacters (reverse (after_leading is_space r))
from_end [] h = h
from_end (c ∷ r) h =
    by_test (is_space c) refl
    (λ e. from_end r (cached_rows (reverse r) (c ∷ []) (subst IsCharacters (reverse-append (c ∷ []) r) h) (space_text c e)))
  where
    by_test : (b : Bool) → is_space c ≡ b → (is_space c ≡ true → IsCharacters (reverse (after_leading is_space r))) → IsCharacters (reverse (if b then after_leading is_space r else c ∷ r))
    by_test true e more = more e
    by_test false e more = h

pub trimmed_text : (s : Text) → IsCharacters s → IsCharacters (trimmed s)
trimmed_text s h =
    let front = leading_text s h in
    from_end (reverse (after_leading is_space s)) (subst IsCharacters (sym (reverse-reverse (after_leading is_space s))) front)

-- ---- names

name_start_char : (c : ℕ) → is_name_start c ≡ true → is_char c ≡ true
unfolding is_char is_name_start
name_start_char c h = grind (arith, nat_tests)

name_char_char : (c : ℕ) → is_name_char c ≡ true → is_char c ≡ true
unfolding is_char is_name_char is_name_start
name_char_char c h = grind (arith, nat_tests)

name_chars_are : (cs : List ℕ) → list_all is_name_char cs ≡ true → list_all is_char cs ≡ true
name_chars_are [] h = refl
name_chars_are (c ∷ cs) h =
    let p = and_parts (is_name_char c) (list_all is_name_char cs) h in
    rw (name_char_char c p.0, name_chars_are cs p.1) refl

pub name_characters : (cs : List ℕ) → is_name cs ≡ true → list_all is_char cs ≡ true
name_characters cs h = name_chars_are cs (name_chars cs h)
