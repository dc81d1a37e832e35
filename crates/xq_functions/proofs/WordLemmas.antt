-- One character more of a text that is cut into words.
use Rattle.std.proofs.Common.{◌≡◌, ℕ, zero, suc, ◌<◌, ◌≤◌, List, [], ◌∷◌, ◌++◌, length, length-append, get_or, Bool, true, false, not, ◌||◌, ◌==◌, codes, arith, refl, sym, ap, ◌∙◌, ⊎_elim}
use Rattle.std.specs.Prelude.{encode_utf8}
use Rattle.std.proofs.lemmas.List.{append_assoc, append-nil}
use Rattle.std.proofs.lemmas.Str.{encode_ascii, inside_one, length-encode, len_utf8_bounds}
use Rattle.std.proofs.lemmas.Bool.{cases_lt, false≢true, ne_eqb}
use Rattle.std.proofs.lemmas.Bool.Decides.{nat_tests}
use Rattle.xq_atoms.specs.Text.{Text}
use Rattle.xq_atoms.specs.Characters.{is_space}
use Rattle.xq_meaning.specs.Texts.{pieces_of, cut_at, words, joined}
use Rattle.xq_functions.specs.private.Words.{spaced, not_empty, continued}

not_space-high : (b : ℕ) → 128 ≤ b → is_space b ≡ false
not_space-high b high = grind (arith, nat_tests)

-- the bytes of a character that is no white space
not_space-bytes : (c k : ℕ) → is_space c ≡ false → k < length (encode_utf8 c) → is_space (get_or (encode_utf8 c) k 0) ≡ false
not_space-bytes c k not_space h =
    ⊎_elim
    (λ low. ap is_space (sym (inside_one c [] (encode_utf8 c) k (sym (append-nil (encode_utf8 c))) h low)) ∙ not_space)
    (λ high. not_space-high (get_or (encode_utf8 c) k 0) high)
    (cases_lt (get_or (encode_utf8 c) k 0) 128)

pieces_through : (bs rest : List ℕ) → ((k : ℕ) → k < length bs → is_space (get_or bs k 0) ≡ false) → pieces_of (bs ++ rest) ≡ (bs ++ (pieces_of rest).0, (pieces_of rest).1)
pieces_through [] rest h = refl
pieces_through (b ∷ bs) rest h =
    ap (λ t. cut_at t b (pieces_of (bs ++ rest))) (h zero (omega arith)) ∙ ap (cut_at false b) (pieces_through bs rest (λ k l. h (suc k) (omega arith)))

pieces_space : (c : ℕ) (rest : List ℕ) → is_space c ≡ true → pieces_of (encode_utf8 c ++ rest) ≡ ([], (pieces_of rest).0 ∷ (pieces_of rest).1)
pieces_space c rest space =
    ⊎_elim
    (λ low. ap (λ bs. pieces_of (bs ++ rest)) (encode_ascii c low) ∙ ap (λ t. cut_at t c (pieces_of rest)) space)
    (λ high. absurd (false≢true (sym (not_space-high c high) ∙ space)))
    (cases_lt c 128)

pieces_word : (c : ℕ) (rest : List ℕ) → is_space c ≡ false → pieces_of (encode_utf8 c ++ rest) ≡ (encode_utf8 c ++ (pieces_of rest).0, (pieces_of rest).1)
pieces_word c rest not_space = pieces_through (encode_utf8 c) rest (λ k. not_space-bytes c k not_space)

joined-spaced : (w : Text) (ws : List Text) → joined (codes " ") (w ∷ ws) ≡ w ++ spaced ws
joined-spaced w [] = sym (append-nil w)
joined-spaced w (u ∷ us) = append_assoc w (32 ∷ []) (joined (codes " ") (u ∷ us)) ∙ ap (λ t. w ++ 32 ∷ t) (joined-spaced u us)

-- after a character of white space
pub continued-space : (apart : Bool) (before : Text) (c : ℕ) (rest : Text) → is_space c ≡ true → continued (apart || not (length before == 0)) before rest ≡ continued apart before (encode_utf8 c ++ rest)
continued-space true before c rest space = sym (ap (λ p. spaced (not_empty (p.0 ∷ p.1))) (pieces_space c rest space))
continued-space false [] c rest space = sym (ap (λ p. joined (codes " ") (not_empty (p.0 ∷ p.1))) (pieces_space c rest space))
continued-space false (b ∷ bs) c rest space =
    ap (λ t. continued (not t) (b ∷ bs) rest) (ne_eqb (length (b ∷ bs)) 0 (λ e. absurd (omega (arith, e)))) ∙ sym (ap (λ p. p.0 ++ spaced (not_empty p.1)) (pieces_space c rest space))

not_empty-word : (w rest : Text) (ws : List Text) → 0 < length w → not_empty ((w ++ rest) ∷ ws) ≡ (w ++ rest) ∷ not_empty ws
not_empty-word [] rest ws h = absurd (omega arith)
not_empty-word (b ∷ bs) rest ws h = refl

encode-length : (c : ℕ) → 0 < length (encode_utf8 c)
encode-length c = omega (arith, length-encode c, (len_utf8_bounds c).0)

words-word : (c : ℕ) (rest : Text) → is_space c ≡ false → words (encode_utf8 c ++ rest) ≡ (encode_utf8 c ++ (pieces_of rest).0) ∷ not_empty (pieces_of rest).1
words-word c rest not_space =
    ap (λ p. not_empty (p.0 ∷ p.1)) (pieces_word c rest not_space) ∙ not_empty-word (encode_utf8 c) (pieces_of rest).0 (pieces_of rest).1 (encode-length c)

continued-inside : (before rest : Text) → 0 < length before → continued false before rest ≡ (pieces_of rest).0 ++ spaced (not_empty (pieces_of rest).1)
continued-inside [] rest h = absurd (omega arith)
continued-inside (b ∷ bs) rest h = refl

-- after a word's character, without a space before it, and with one
pub continued-word : (before : Text) (c : ℕ) (rest : Text) → is_space c ≡ false → (before ++ encode_utf8 c) ++ continued false (before ++ encode_utf8 c) rest ≡ before ++ continued false before (encode_utf8 c ++ rest)
continued-word [] c rest not_space =
    let p = pieces_of rest in
    ap (λ t. encode_utf8 c ++ t) (continued-inside (encode_utf8 c) rest (encode-length c)) ∙ sym (append_assoc (encode_utf8 c) p.0 (spaced (not_empty p.1)))
    ∙ sym (joined-spaced (encode_utf8 c ++ p.0) (not_empty p.1)) ∙ sym (ap (joined (codes " ")) (words-word c rest not_space))
continued-word (b ∷ bs) c rest not_space =
    let p = pieces_of rest in
    append_assoc (b ∷ bs) (encode_utf8 c) (p.0 ++ spaced (not_empty p.1)) ∙ ap (λ t. (b ∷ bs) ++ t) (sym (append_assoc (encode_utf8 c) p.0 (spaced (not_empty p.1))))
    ∙ sym (ap (λ q. (b ∷ bs) ++ (q.0 ++ spaced (not_empty q.1))) (pieces_word c rest not_space))

longer : (xs ys : List ℕ) → 0 < length ys → 0 < length (xs ++ ys)
longer xs ys h = omega (arith, length-append xs ys)

pub continued-gap : (before : Text) (c : ℕ) (rest : Text) → is_space c ≡ false → ((before ++ 32 ∷ []) ++ encode_utf8 c) ++ continued false ((before ++ 32 ∷ []) ++ encode_utf8 c) rest ≡ before ++ continued true before (encode_utf8 c ++ rest)
continued-gap before c rest not_space =
    let p = pieces_of rest in
    ap (λ t. ((before ++ 32 ∷ []) ++ encode_utf8 c) ++ t) (continued-inside ((before ++ 32 ∷ []) ++ encode_utf8 c) rest (longer (before ++ 32 ∷ []) (encode_utf8 c) (encode-length c)))
    ∙ (simp append_assoc) ∙ sym (ap (λ ws. before ++ spaced ws) (words-word c rest not_space))

-- after the last character
pub continued-nil : (apart : Bool) (before : Text) → continued apart before [] ≡ []
continued-nil true before = refl
continued-nil false [] = refl
continued-nil false (b ∷ bs) = refl
