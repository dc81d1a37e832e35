-- Pieces of a text whose bytes are characters, cut out of it where these stand.
use Rattle.std.proofs.Common.{◌≡◌, ℕ, ◌+◌, ◌-◌, ◌<◌, ◌≤◌, Bool, true, [], ◌∷◌, ◌++◌, length, take, drop, refl, append_assoc, sym, ap, ◌∙◌, subst, arith, encode_utf8_all, encode_utf8}
use Rattle.std.specs.Char.{len_utf8}
use Rattle.std.proofs.lemmas.List.{take-append-drop, length-drop, drop-drop, drop_at}
use Rattle.std.proofs.lemmas.Str.{encodes-append, length-le-encodes, length-encode, len_utf8_ascii, drop_past_char}
use Rattle.std.proofs.lemmas.Bool.Decides.{nat_tests}
use Rattle.xq_lexer.specs.Chars.{Text, is_quote}
use Rattle.xq_lexer.specs.Reading.{span}
use Rattle.xq_lexer.specs.Lexeme.{Lex}
use Rattle.xq_lexer.specs.Spelling.{bytes, form_text, Next}
use Rattle.xq_lexer.specs.private.Lexes.{SpelledAt, BeginsAt}
use Rattle.xq_lexer.proofs.RunLemmas.{bytes_append}
use Rattle.xq_lexer.proofs.SeparatorLemmas.{skip_suffix}
use Rattle.xq_lexer.proofs.Spans.{Parts, parts}

-- ---- bytes, counted from one for each character

pub bytes_so_far : (cs : Text) (i : ℕ) → i ≤ length cs → bytes (take i cs) + (length cs - i) ≤ bytes cs
bytes_so_far cs i le =
    let e = ap bytes (take-append-drop i cs) in
    let a = bytes_append (take i cs) (drop i cs) in
    let l = length-le-encodes (drop i cs) in
    let d = length-drop i cs in
    omega (arith, e, a, l, d)

pub narrow : (c : ℕ) → c < 128 → length (encode_utf8 c) ≡ 1
narrow c lt = length-encode c ∙ len_utf8_ascii c lt

-- ---- the front of what is written from a place on

pub run_parts : (p : ℕ → Bool) (cs run after : Text) → ◌≡◌ {A = Text × Text} (run, after) (span p cs) → Parts p cs (run, after)
run_parts p cs run after h = subst (Parts p cs) (sym h) (parts p cs)

pub begins_at : (p : ℕ → Bool) (written : Text) (place : ℕ) (cs run after : Text) → ◌≡◌ {A = Text × Text} (run, after) (span p cs) → SpelledAt written place cs → BeginsAt written place run
begins_at p written place cs run after h s =
    let w = (run_parts p cs run after h).whole in
    (encode_utf8_all after, s ∙ ap encode_utf8_all (sym w) ∙ encodes-append run after)

pub front_at : (written : Text) (place : ℕ) (cs : Text) (n : ℕ) → SpelledAt written place cs → BeginsAt written place (take n cs)
front_at written place cs n s = (encode_utf8_all (drop n cs), s ∙ ap encode_utf8_all (sym (take-append-drop n cs)) ∙ encodes-append (take n cs) (drop n cs))

pub run_short : (p : ℕ → Bool) (cs run after : Text) → ◌≡◌ {A = Text × Text} (run, after) (span p cs) → bytes run ≤ bytes cs
run_short p cs run after h =
    let e = ap bytes (run_parts p cs run after h).whole in
    let a = bytes_append run after in
    omega (arith, e, a)

-- ---- what is written behind a front

pub spelled_past : (written : Text) (place end : ℕ) (cs front rest : Text) → SpelledAt written place cs → front ++ rest ≡ cs → end + bytes rest ≡ place + bytes cs → SpelledAt written end rest
spelled_past written place end cs front rest s w e =
    let b = ap bytes w in
    let a = bytes_append front rest in
    let far : end ≡ place + bytes front = omega (arith, b, a, e) in
    ap (λ (n : ℕ). drop n written) far ∙ sym (drop-drop (bytes front) place written)
    ∙ ap (drop (bytes front)) (s ∙ ap encode_utf8_all (sym w) ∙ encodes-append front rest)
    ∙ drop_at (encode_utf8_all front) (encode_utf8_all rest) (bytes front) refl

-- what the next token leaves stands behind some front
pub next_suffix : (cs : Text) (t : Lex) (after : Text) → Next cs t after → (front : Text) × (front ++ after ≡ cs)
next_suffix cs t after n =
    let text = form_text n.form in
    let suffix = skip_suffix cs (text ++ after) n.skipped in
    (suffix.front ++ text, append_assoc suffix.front text after ∙ suffix.whole)

pub spelled_next : (written : Text) (place end : ℕ) (cs : Text) (t : Lex) (after : Text) → SpelledAt written place cs → Next cs t after → end + bytes after ≡ place + bytes cs → SpelledAt written end after
spelled_next written place end cs t after s n e =
    let suffix = next_suffix cs t after n in
    spelled_past written place end cs suffix.0 after s suffix.1 e

-- ---- behind a quote

pub quote_narrow : (quote : ℕ) → is_quote quote ≡ true → quote < 128
quote_narrow quote is = grind (arith, nat_tests)

pub past_quote : (written : Text) (place quote : ℕ) (cs : Text) → is_quote quote ≡ true → SpelledAt written place (quote ∷ cs) → SpelledAt written (place + 1) cs
past_quote written place quote cs is s =
    let one : len_utf8 quote ≡ 1 = len_utf8_ascii quote (quote_narrow quote is) in
    ap (λ (n : ℕ). drop (place + n) written) (sym one) ∙ drop_past_char written (encode_utf8_all cs) place quote s

pub quoted_short : (quote : ℕ) (cs : Text) → 1 + bytes cs ≤ bytes (quote ∷ cs)
quoted_short quote cs =
    let a = bytes_append (quote ∷ []) cs in
    let l = length-le-encodes (quote ∷ []) in
    omega (arith, a, l)
