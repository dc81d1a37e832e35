-- Tokens as they are printed, some with a space after them, and that each is read where it stands.
use Rattle.std.proofs.Common.{◌≡◌, ℕ, suc, ◌+◌, Bool, true, false, List, [], ◌∷◌, ◌++◌, length, Some, Ok, refl, sym, ap, ◌∙◌, subst, arith, append_assoc, ◌⊎◌, inl, inr}
use Rattle.std.specs.Prelude.{◌==◌}
use Rattle.std.proofs.lemmas.Bool.{false≢true, false_from_ne_true}
use Rattle.std.proofs.lemmas.Bool.Decides.{nat_tests}
use Rattle.xq_atoms.specs.Characters.{is_space, is_name_start, is_name_char}
use Rattle.xq_lexer.specs.Chars.{Text, begins}
use Rattle.xq_lexer.specs.Separators.{skip}
use Rattle.xq_lexer.specs.Lexeme.{Lex}
use Rattle.xq_lexer.specs.declared.tokens.Symbol.TheVariants as s
use Rattle.xq_lexer.specs.Literals.{Piece, ArePieces, content_text}
use Rattle.xq_lexer.specs.Spelling.{Form, name, string, symbol, form_text, form_lex, IsName, Next, Spells}
use Rattle.xq_lexer.specs.Reading.{after_name, read_name, as_string, read_symbol, read_token}
use Rattle.xq_lexer.proofs.Spans.{span_exact}
use Rattle.xq_lexer.proofs.Forms.{name_parts, name_chars}
use Rattle.xq_lexer.proofs.Contents.{content_read}
use Rattle.xq_lexer.proofs.TokenLemmas.{Found, Means, token_means, name_token, string_token}

-- a token, and whether a space stands after it
abbrev pub Mark : Type 0
Mark = Form × Bool

abbrev pub gap : Bool → Text
gap true = 32 ∷ []
gap false = []

abbrev pub marks_text : List Mark → Text
marks_text [] = []
marks_text (m ∷ ms) = form_text m.0 ++ (gap m.1 ++ marks_text ms)

abbrev pub marks_lexes : List Mark → List Lex
marks_lexes [] = []
marks_lexes (m ∷ ms) = form_lex m.0 ∷ marks_lexes ms

-- the form is read where it stands before this text, and no separator is in front of it
pub record IsThere (f : Form) (after : Text) : Type 0 where
  pub first : ℕ
  pub rest : Text
  pub whole : form_text f ++ after ≡ first ∷ rest
  pub read : read_token (first ∷ rest) ≡ Ok (f, after)
  pub skipped : skip 0 (first ∷ rest) ≡ Some (first ∷ rest)

-- each of the marks is read where it stands
abbrev pub AreThere : List Mark → Type 0
AreThere [] = Unit {0}
AreThere (m ∷ ms) = IsThere m.0 (gap m.1 ++ marks_text ms) × AreThere ms

-- ---- from marks to tokens

-- the text stands as it is, or a space is in front of it
abbrev Spaced : Text → Text → Type 0
Spaced text z = (text ≡ z) ⊎ (text ≡ 32 ∷ z)

skip_space : (c : ℕ) (t : Text) → skip 0 (32 ∷ c ∷ t) ≡ skip 0 (c ∷ t)
skip_space c t = refl

-- what is read there is the longest token
found : (f : Form) (after : Text) (t : IsThere f after) → Found (t.first ∷ t.rest) f after
found f after t = subst (Means (t.first ∷ t.rest)) t.read (token_means t.first t.rest)

spaced_skip : (text : Text) (f : Form) (after : Text) → (t : IsThere f after) → Spaced text (form_text f ++ after) → skip 0 text ≡ Some (form_text f ++ after)
spaced_skip text f after t (inl same) = ap (skip 0) (same ∙ t.whole) ∙ t.skipped ∙ ap (λ (z : Text). Some z) (sym t.whole)
spaced_skip text f after t (inr same) = ap (skip 0) (same ∙ ap (λ (z : Text). 32 ∷ z) t.whole) ∙ skip_space t.first t.rest ∙ t.skipped ∙ ap (λ (z : Text). Some z) (sym t.whole)

gap_spaced : (b : Bool) (z : Text) → Spaced (gap b ++ z) z
gap_spaced true z = inr refl
gap_spaced false z = inl refl

nothing_left : (text : Text) → Spaced text [] → skip 0 text ≡ Some []
nothing_left text (inl same) = ap (skip 0) same
nothing_left text (inr same) = ap (skip 0) same

-- marks that are there are tokens up to the end of the text
place : (text : Text) (ms : List Mark) → AreThere ms → Spaced text (marks_text ms) → Spells text (marks_lexes ms)
place text [] are spaced = (text, refl, nothing_left text spaced)
place text (m ∷ ms) are spaced =
    let f : Form = m.0 in
    let after : Text = gap m.1 ++ marks_text ms in
    let here = found f after are.0 in
    let more = place after ms are.1 (gap_spaced m.1 (marks_text ms)) in
    let next : Next text (form_lex f) after = record { form = f; skipped = spaced_skip text f after are.0 spaced; is_form = here.is; longest = here.longest; stands = here.stands; lex = refl } in
    (more.0, (after, next, more.1), more.2)

-- marks that are there are the tokens of their text
pub marks_spell : (ms : List Mark) → AreThere ms → Spells (marks_text ms) (marks_lexes ms)
marks_spell ms are = place (marks_text ms) ms are (inl refl)

-- ---- what is read

-- nothing is skipped in front of what is no white space and opens no comment
pub skip_none : (c : ℕ) (t : Text) → is_space c ≡ false → (c == 40) ≡ false → skip 0 (c ∷ t) ≡ Some (c ∷ t)
skip_none c [] p q = rw p refl
skip_none c (b ∷ t) p q = rw (q, p) refl

space_is : (c : ℕ) → is_space c ≡ true → (c ≡ 32) ⊎ ((c ≡ 9) ⊎ ((c ≡ 13) ⊎ (c ≡ 10)))
space_is c h = grind (arith, nat_tests)

space_no_start : (c : ℕ) → is_space c ≡ true → is_name_start c ≡ false
unfolding is_name_start
space_no_start c h = elim (space_is c h) [
  | inl e ↦ rw e refl
  | inr (inl e) ↦ rw e refl
  | inr (inr (inl e)) ↦ rw e refl
  | inr (inr (inr e)) ↦ rw e refl
]

paren_no_start : (c : ℕ) → (c == 40) ≡ true → is_name_start c ≡ false
unfolding is_name_start
paren_no_start c h = let e : c ≡ 40 = grind (arith, nat_tests) in rw e refl

start_no_space : (c : ℕ) → is_name_start c ≡ true → is_space c ≡ false
start_no_space c h = false_from_ne_true (is_space c) (λ e. false≢true (sym (space_no_start c e) ∙ h))

start_no_paren : (c : ℕ) → is_name_start c ≡ true → (c == 40) ≡ false
start_no_paren c h = false_from_ne_true (c == 40) (λ e. false≢true (sym (paren_no_start c e) ∙ h))

-- a name before what is no part of it
after_name-stops : (w : Text) (c : ℕ) (t : Text) → (c == 58) ≡ false → ◌≡◌ {A = Form × Text} (after_name w (c ∷ t)) (name w, c ∷ t)
unfolding after_name
after_name-stops w c [] h = refl
after_name-stops w c (b ∷ t) h = rw h refl

read_name-stops : (w : Text) (c : ℕ) (t : Text) → IsName w → is_name_char c ≡ false → (c == 58) ≡ false → ◌≡◌ {A = Form × Text} (read_name (w ++ c ∷ t)) (name w, c ∷ t)
unfolding read_name
read_name-stops w c t is stops colon = rw (span_exact is_name_char w (c ∷ t) (name_chars w is) stops) (after_name-stops w c t colon)

-- names, before what ends them
pub name_there : (w : Text) (c : ℕ) (t : Text) → IsName w → is_name_char c ≡ false → (c == 58) ≡ false → IsThere (name w) (c ∷ t)
name_there [] c t is stops colon = absurd (false≢true is)
name_there (a ∷ w) c t is stops colon =
    let start = (name_parts a w is).0 in
    record {
      first = a;
      rest = w ++ c ∷ t;
      whole = refl;
      read = name_token (a ∷ w) (c ∷ t) is ∙ ap (λ (x : Form × Text). Ok x) (read_name-stops (a ∷ w) c t is stops colon);
      skipped = skip_none a (w ++ c ∷ t) (start_no_space a start) (start_no_paren a start);
    }

space_stops : is_name_char 32 ≡ false
unfolding is_name_char is_name_start
space_stops = refl

paren_stops : is_name_char 40 ≡ false
unfolding is_name_char is_name_start
paren_stops = refl

-- a name before a space, and before a parenthesis
pub spaced_name : (w t : Text) → IsName w → IsThere (name w) (32 ∷ t)
spaced_name w t is = name_there w 32 t is space_stops refl

pub called_name : (w t : Text) → IsName w → IsThere (name w) (40 ∷ t)
called_name w t is = name_there w 40 t is paren_stops refl

-- ---- symbols

read_brace : (t : Text) → read_token (123 ∷ t) ≡ Ok (symbol s.OpenBrace, t)
unfolding read_token read_symbol is_name_start
read_brace [] = refl
read_brace (b ∷ t) = refl

read_close : (t : Text) → read_token (125 ∷ t) ≡ Ok (symbol s.CloseBrace, t)
unfolding read_token read_symbol is_name_start
read_close [] = refl
read_close (b ∷ t) = refl

read_comma : (t : Text) → read_token (44 ∷ t) ≡ Ok (symbol s.Comma, t)
unfolding read_token read_symbol is_name_start
read_comma [] = refl
read_comma (b ∷ t) = refl

read_minus : (t : Text) → read_token (45 ∷ t) ≡ Ok (symbol s.Minus, t)
unfolding read_token read_symbol is_name_start
read_minus [] = refl
read_minus (b ∷ t) = refl

read_open : (b : ℕ) (t : Text) → read_token (40 ∷ b ∷ t) ≡ Ok (symbol s.OpenParenthesis, b ∷ t)
unfolding read_token read_symbol is_name_start
read_open b t = refl

read_closed : (t : Text) → read_token (41 ∷ t) ≡ Ok (symbol s.CloseParenthesis, t)
unfolding read_token read_symbol is_name_start
read_closed [] = refl
read_closed (b ∷ t) = refl

pub brace_there : (t : Text) → IsThere (symbol s.OpenBrace) t
brace_there t = record { first = 123; rest = t; whole = refl; read = read_brace t; skipped = skip_none 123 t refl refl }

pub close_there : (t : Text) → IsThere (symbol s.CloseBrace) t
close_there t = record { first = 125; rest = t; whole = refl; read = read_close t; skipped = skip_none 125 t refl refl }

pub comma_there : (t : Text) → IsThere (symbol s.Comma) t
comma_there t = record { first = 44; rest = t; whole = refl; read = read_comma t; skipped = skip_none 44 t refl refl }

pub minus_there : (t : Text) → IsThere (symbol s.Minus) t
minus_there t = record { first = 45; rest = t; whole = refl; read = read_minus t; skipped = skip_none 45 t refl refl }

pub open_there : (b : ℕ) (t : Text) → (b == 58) ≡ false → IsThere (symbol s.OpenParenthesis) (b ∷ t)
open_there b t h = record { first = 40; rest = b ∷ t; whole = refl; read = read_open b t; skipped = rw h refl }

pub closed_there : (t : Text) → IsThere (symbol s.CloseParenthesis) t
closed_there t = record { first = 41; rest = t; whole = refl; read = read_closed t; skipped = skip_none 41 t refl refl }

-- ---- strings

-- a string literal, before what does not double its quote
pub string_there : (ps : List Piece) (after : Text) → ArePieces 34 ps → begins (λ c. c == 34) after ≡ false → IsThere (string 34 ps) after
string_there ps after are stops =
    let t = content_text 34 ps ++ 34 ∷ after in
    record {
      first = 34;
      rest = t;
      whole = ap (λ (u : Text). 34 ∷ u) (append_assoc (content_text 34 ps) (34 ∷ []) after);
      read = string_token 34 t refl ∙ ap (as_string 34) (content_read 34 ps after (suc (length t)) refl are stops (omega arith));
      skipped = skip_none 34 t refl refl;
    }
