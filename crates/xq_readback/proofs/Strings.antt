-- A printed string is one token.
use Rattle.std.proofs.Common.{◌≡◌, ◌≢◌, ℕ, Bool, true, false, cond, not, ◌&&◌, List, [], ◌∷◌, ◌++◌, length, map, flat_map, Some, arith, refl, sym, ap, ◌∙◌}
use Rattle.std.specs.Prelude.{◌==◌, encode_utf8, encode_utf8_all, IsUtf8}
use Rattle.std.specs.List.{list_all}
use Rattle.std.specs.Str.{chars}
use lib.Utf8.{scalars, scalar}
use Rattle.std.proofs.lemmas.Bool.Decides.{nat_tests}
use Rattle.std.proofs.lemmas.Grind.{flat_map-append}
use Rattle.std.proofs.lemmas.List.{append-nil, length-append}
use Rattle.std.proofs.lemmas.Str.{chars-encodes, encodes-append, encodes-chars, scalars-chars}
use Rattle.xq_atoms.specs.Print.{quoted_character, quoted}
use Rattle.xq_atoms.proofs.TextLemmas.{and-true}
use Rattle.xq_atoms.proofs.PrintLemmas.{flat_map-encode}
use Rattle.xq_atoms.specs.Characters.{is_char}
use Rattle.xq_lexer.specs.Chars.{Text}
use Rattle.xq_lexer.specs.Separators.{skip}
use Rattle.xq_lexer.specs.Lexeme.{Lex, str}
use Rattle.xq_lexer.specs.Literals.{ampersand, hexadecimal, Piece, plain, doubled, reference, IsPiece, ArePieces, piece_text, piece_char, content_text, content_chars}
use Rattle.xq_lexer.specs.Spelling.{Form, string, form_text, IsForm, form_lex, MayStand, Spells}
use Rattle.xq_readback.specs.Tokens.{IsToken}

-- ---- how a character is printed

abbrev pub piece_by : ℕ → Bool → Bool → Bool → Piece
piece_by c quote amp return =
    cond quote doubled (cond amp (reference ampersand) (cond return (reference (hexadecimal (68 ∷ []))) (plain c)))

abbrev pub piece : ℕ → Piece
piece c = piece_by c (c == 34) (c == 38) (c == 13)

pub same : (a b : ℕ) → (a == b) ≡ true → a ≡ b
same a b h = grind (arith, nat_tests)

pub other : (a b : ℕ) → (a == b) ≡ false → a ≢ b
other a b h = grind (arith, nat_tests)

pub is_piece-by : (c : ℕ) → is_char c ≡ true → (quote amp return : Bool) → (c == 34) ≡ quote → (c == 38) ≡ amp → IsPiece 34 (piece_by c quote amp return)
unfolding is_char
is_piece-by c h true amp return q a = tt
is_piece-by c h false true return q a = (tt, refl)
is_piece-by c h false false true q a = ((refl, omega arith), refl)
is_piece-by c h false false false q a = λ i. not (q i) && not (a i) && h i

pub is_piece : (c : ℕ) → is_char c ≡ true → IsPiece 34 (piece c)
is_piece c h = is_piece-by c h (c == 34) (c == 38) (c == 13) refl refl

pub piece_char-by : (c : ℕ) (quote amp return : Bool) → (c == 34) ≡ quote → (c == 38) ≡ amp → (c == 13) ≡ return → piece_char 34 (piece_by c quote amp return) ≡ c
piece_char-by c true amp return q a r = sym (same c 34 q)
piece_char-by c false true return q a r = sym (same c 38 a)
piece_char-by c false false true q a r = sym (same c 13 r)
piece_char-by c false false false q a r = refl

pub piece_char-piece : (c : ℕ) → piece_char 34 (piece c) ≡ c
piece_char-piece c = piece_char-by c (c == 34) (c == 38) (c == 13) refl refl refl

pub piece_bytes-by : (c : ℕ) (quote amp return : Bool) → (c == 34) ≡ quote → (c == 38) ≡ amp → (c == 13) ≡ return
    → flat_map quoted_character (encode_utf8 c) ≡ encode_utf8_all (piece_text 34 (piece_by c quote amp return))
unfolding lib.Utf8.encode
piece_bytes-by c true amp return q a r = ap (λ x. flat_map quoted_character (encode_utf8 x)) (same c 34 q)
piece_bytes-by c false true return q a r = ap (λ x. flat_map quoted_character (encode_utf8 x)) (same c 38 a)
piece_bytes-by c false false true q a r = ap (λ x. flat_map quoted_character (encode_utf8 x)) (same c 13 r)
piece_bytes-by c false false false q a r = flat_map-encode c (other c 34 q) (other c 38 a) (other c 13 r) ∙ sym (append-nil (encode_utf8 c))

pub piece_bytes : (c : ℕ) → flat_map quoted_character (encode_utf8 c) ≡ encode_utf8_all (piece_text 34 (piece c))
piece_bytes c = piece_bytes-by c (c == 34) (c == 38) (c == 13) refl refl refl

pub piece_scalars-by : (c : ℕ) (quote amp return : Bool) → scalar c ≡ true → scalars (piece_text 34 (piece_by c quote amp return)) ≡ true
piece_scalars-by c true amp return h = refl
piece_scalars-by c false true return h = refl
piece_scalars-by c false false true h = refl
piece_scalars-by c false false false h = λ i. h i && true

-- ---- how characters are printed

pub are_pieces : (cs : Text) → list_all is_char cs ≡ true → ArePieces 34 (map piece cs)
are_pieces [] h = tt
are_pieces (c ∷ cs) h =
    let here = and-true (is_char c) (list_all is_char cs) h in
    (is_piece c here.0, are_pieces cs here.1)

pub content_chars-pieces : (cs : Text) → content_chars 34 (map piece cs) ≡ cs
content_chars-pieces [] = refl
content_chars-pieces (c ∷ cs) = λ i. piece_char-piece c i ∷ content_chars-pieces cs i

pub content_bytes : (cs : Text) → flat_map quoted_character (encode_utf8_all cs) ≡ encode_utf8_all (content_text 34 (map piece cs))
content_bytes [] = refl
content_bytes (c ∷ cs) =
    flat_map-append quoted_character (encode_utf8 c) (encode_utf8_all cs)
    ∙ (λ i. piece_bytes c i ++ content_bytes cs i)
    ∙ sym (encodes-append (piece_text 34 (piece c)) (content_text 34 (map piece cs)))

pub scalars-append : (xs ys : Text) → scalars xs ≡ true → scalars ys ≡ true → scalars (xs ++ ys) ≡ true
scalars-append [] ys h more = more
scalars-append (x ∷ xs) ys h more =
    let here = and-true (scalar x) (scalars xs) h in
    (λ i. here.0 i && scalars-append xs ys here.1 more i)

pub content_scalars : (cs : Text) → scalars cs ≡ true → scalars (content_text 34 (map piece cs)) ≡ true
content_scalars [] h = refl
content_scalars (c ∷ cs) h =
    let here = and-true (scalar c) (scalars cs) h in
    scalars-append (piece_text 34 (piece c)) (content_text 34 (map piece cs)) (piece_scalars-by c (c == 34) (c == 38) (c == 13) here.0) (content_scalars cs here.1)

-- ---- the token

-- the string literal that is printed for these characters
abbrev pub literal : Text → Form
literal cs = string 34 (map piece cs)

pub literal-bytes : (cs : Text) → quoted (encode_utf8_all cs) ≡ encode_utf8_all (form_text (literal cs))
unfolding lib.Utf8.encode
literal-bytes cs =
    ap (λ x. 34 ∷ x ++ 34 ∷ []) (content_bytes cs)
    ∙ ap (λ x. 34 ∷ x) (sym (encodes-append (content_text 34 (map piece cs)) (34 ∷ [])))

pub literal-scalars : (cs : Text) → scalars cs ≡ true → scalars (form_text (literal cs)) ≡ true
literal-scalars cs h = scalars-append (content_text 34 (map piece cs)) (34 ∷ []) (content_scalars cs h) refl

pub skip-quote : (t : Text) → skip 0 (34 ∷ t) ≡ Some (34 ∷ t)
skip-quote [] = refl
skip-quote (c ∷ t) = refl

-- a text that is the spelling of one form is the token of this form
alone : (f : Form) → IsForm f → MayStand f [] → skip 0 (form_text f) ≡ Some (form_text f) → Spells (form_text f) (form_lex f ∷ [])
alone f is_form stands skips =
    let whole = append-nil (form_text f) in (
      [],
      (
        [],
        record {
          form = f;
          skipped = skips ∙ ap Some (sym whole);
          is_form = is_form;
          longest = λ g rest is_one equal. omega (arith, ap length equal, length-append (form_text g) rest, length-append (form_text f) []);
          stands = stands;
          lex = refl;
        },
        refl,
      ),
      refl,
    )

as_token : (printed : List ℕ) (text : Text) (lex value : Lex) → chars printed ≡ text → value ≡ lex → Spells text (value ∷ []) → IsToken lex printed
as_token printed text lex value read is token = rw (read, sym is) token

pub printed-string : (t : List ℕ) → IsUtf8 t → list_all is_char (chars t) ≡ true → IsToken (str t) (quoted t)
printed-string t text h =
    let cs = chars t in
    let kept : encode_utf8_all cs ≡ t = encodes-chars t text in
    let spelled : quoted t ≡ encode_utf8_all (form_text (literal cs)) = ap quoted (sym kept) ∙ literal-bytes cs in
    let read : chars (quoted t) ≡ form_text (literal cs) = ap chars spelled ∙ chars-encodes (form_text (literal cs)) (literal-scalars cs (scalars-chars t text)) in
    let value : form_lex (literal cs) ≡ str t = ap str (ap encode_utf8_all (content_chars-pieces cs) ∙ kept) in
    as_token (quoted t) (form_text (literal cs)) (str t) (form_lex (literal cs)) read value
    (alone (literal cs) (refl, are_pieces cs h) refl (skip-quote (content_text 34 (map piece cs) ++ 34 ∷ [])))
