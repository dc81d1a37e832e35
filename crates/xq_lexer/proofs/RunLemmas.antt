-- Runs of characters, and the bytes of a front.
use Rattle.std.proofs.Common.{◌≡◌, ℕ, ◌+◌, ◌<◌, ◌≤◌, Bool, true, false, [], ◌∷◌, ◌++◌, length, get_or, take, drop, sym, ap, ◌∙◌, arith, encode_utf8_all, encode_utf8}
use Rattle.std.specs.List.{list_all}
use Rattle.std.proofs.lemmas.List.{take_more, take-append-drop, drop_more, length-append, append-nil, drop_all}
use Rattle.std.proofs.lemmas.Str.{encodes-append}
use Rattle.xq_lexer.specs.Chars.{Text, begins}
use Rattle.xq_lexer.specs.Spelling.{bytes}
use Rattle.xq_lexer.specs.Reading.{span}
use Rattle.xq_lexer.proofs.Spans.{span_exact, all_more}

pub encode_more : (cs : Text) (i c : ℕ) → i < length cs → c ≡ get_or cs i 0 → encode_utf8_all (take (i + 1) cs) ≡ encode_utf8_all (take i cs) ++ encode_utf8 c
encode_more cs i c lt e =
    ap encode_utf8_all (take_more cs i 0 lt) ∙ encodes-append (take i cs) (get_or cs i 0 ∷ []) ∙ ap (λ (u : Text). encode_utf8_all (take i cs) ++ u) (append-nil (encode_utf8 (get_or cs i 0)) ∙ ap encode_utf8 (sym e))

pub bytes_more : (cs : Text) (i c : ℕ) → i < length cs → c ≡ get_or cs i 0 → bytes (take (i + 1) cs) ≡ bytes (take i cs) + length (encode_utf8 c)
bytes_more cs i c lt e = ap length (encode_more cs i c lt e) ∙ length-append (encode_utf8_all (take i cs)) (encode_utf8 c)

pub bytes_append : (w u : Text) → bytes (w ++ u) ≡ bytes w + bytes u
bytes_append w u = ap length (encodes-append w u) ∙ length-append (encode_utf8_all w) (encode_utf8_all u)

pub bytes_within : (cs : Text) (i : ℕ) → bytes (take i cs) ≤ bytes cs
bytes_within cs i =
    let e = ap bytes (take-append-drop i cs) in
    let a = bytes_append (take i cs) (drop i cs) in
    omega (arith, e, a)

pub all_at : (p : ℕ → Bool) (cs : Text) (i c : ℕ) → i < length cs → c ≡ get_or cs i 0 → list_all p (take i cs) ≡ true → p c ≡ true → list_all p (take (i + 1) cs) ≡ true
all_at p cs i c lt e all h = ap (list_all p) (take_more cs i 0 lt) ∙ all_more p (take i cs) (get_or cs i 0) all (ap p (sym e) ∙ h)

pub span_at : (p : ℕ → Bool) (cs : Text) (i c : ℕ) → i < length cs → c ≡ get_or cs i 0 → list_all p (take i cs) ≡ true → p c ≡ false → ◌≡◌ {A = Text × Text} (take i cs, drop i cs) (span p cs)
span_at p cs i c lt e all h =
    let d : begins p (drop i cs) ≡ false = ap (begins p) (drop_more cs i 0 lt) ∙ ap p (sym e) ∙ h in
    sym (span_exact p (take i cs) (drop i cs) all d) ∙ ap (span p) (take-append-drop i cs)

pub span_all : (p : ℕ → Bool) (cs : Text) (i : ℕ) → length cs ≤ i → list_all p (take i cs) ≡ true → ◌≡◌ {A = Text × Text} (take i cs, drop i cs) (span p cs)
span_all p cs i le all =
    let d : begins p (drop i cs) ≡ false = ap (begins p) (drop_all i cs le) in
    sym (span_exact p (take i cs) (drop i cs) all d) ∙ ap (span p) (take-append-drop i cs)
