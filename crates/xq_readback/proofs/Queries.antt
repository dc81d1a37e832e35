-- The tokens that a text spells hold characters of XML, so what the query gives is legible.
use Rattle.std.proofs.Common.{◌≡◌, ℕ, true, List, [], ◌∷◌, Ok, refl, sym, subst}
use Rattle.std.specs.Prelude.{encode_utf8_all}
use Rattle.std.specs.List.{list_all}
use Rattle.std.proofs.lemmas.Bool.{and_parts}
use Rattle.std.proofs.lemmas.Bool.Decides.{nat_tests}
use Rattle.std.proofs.Common.{arith}
use Rattle.xq_atoms.specs.Characters.{is_char}
use Rattle.xq_atoms.specs.Text.{Text}
use Rattle.xq_lexer.specs.Chars.{is_quote}
use Rattle.xq_lexer.specs.Lexeme.{Lex}
use Rattle.xq_lexer.specs.Literals.{integer, decimal, Piece, plain, doubled, reference, IsPiece, ArePieces, piece_char, content_chars}
use Rattle.xq_lexer.specs.Spelling.{Form, name, prefixed, number, string, symbol, IsForm, form_lex, Before}
use Rattle.xq_trees.specs.Tree.{Tree}
use Rattle.xq_meaning.specs.Items.{Item}
use Rattle.xq_meaning.specs.Doing.{Outcome}
use Rattle.xq_meaning.specs.Meaning.{first_frame, evaluated}
use Rattle.xq_readback.specs.Legible.{AreLegible, AreTrees}
use Rattle.xq_readback.specs.Results.{ResultsAreLegible}
use Rattle.xq_readback.proofs.Characters.{spelled, name_characters}
use Rattle.xq_readback.proofs.Holding.{Holds}
use Rattle.xq_readback.proofs.Forms.{IsLegibleFrame}
use Rattle.xq_readback.proofs.Reading.{IsLegibleLex, AreLegibleLexes}
use Rattle.xq_readback.proofs.LegiblePhrases.{derived_good}

-- # Tokens

quote_char : (c : ℕ) → is_quote c ≡ true → is_char c ≡ true
unfolding is_char
quote_char c h = grind (arith, nat_tests)

piece_is_char : (quote : ℕ) (p : Piece) → is_quote quote ≡ true → IsPiece quote p → is_char (piece_char quote p) ≡ true
piece_is_char quote (plain c) q h = (and_parts _ (is_char c) h).1
piece_is_char quote doubled q h = quote_char quote q
piece_is_char quote (reference r) q h = h.1

pieces_are_chars : (quote : ℕ) (ps : List Piece) → is_quote quote ≡ true → ArePieces quote ps → list_all is_char (content_chars quote ps) ≡ true
pieces_are_chars quote [] q h = refl
pieces_are_chars quote (p ∷ ps) q h = rw (piece_is_char quote p q h.0, pieces_are_chars quote ps q h.1) refl

form_legible : (f : Form) → IsForm f → IsLegibleLex (form_lex f)
form_legible (name w) h = spelled (encode_utf8_all w) (w, name_characters w h, refl)
form_legible (prefixed p w) h = spelled (encode_utf8_all w) (w, name_characters w h.1, refl)
form_legible (number (integer w)) h = tt
form_legible (number (decimal w f)) h = tt
form_legible (string quote ps) h = spelled (encode_utf8_all (content_chars quote ps)) (content_chars quote ps, pieces_are_chars quote ps h.0 h.1, refl)
form_legible (symbol s) h = tt

before_legible : (text : List ℕ) (ts : List Lex) (rest : List ℕ) → Before text ts rest → AreLegibleLexes ts
before_legible text [] rest h = tt
before_legible text (t ∷ ts) rest h =
    (subst IsLegibleLex (sym h.1.lex) (form_legible h.1.form h.1.is_form), before_legible h.0 ts rest h.2)

-- # The law

-- in a query no variable is bound, and there is no focus
first_legible : (addresses : List Text) → IsLegibleFrame (first_frame addresses)
first_legible addresses = record { env = λ v. tt; focus = tt }

of_result : (o : Outcome (List Item)) (xs : List Item) (now : List Tree) → o ≡ (Ok xs, now) → Holds AreLegible o → AreLegible xs × AreTrees now
of_result o xs now e h = subst (Holds AreLegible) e h

pub results_are_legible : ResultsAreLegible
results_are_legible = λ characters tokens query spells derives addresses trees are xs now is.
    (let legible = before_legible characters tokens spells.0 spells.1 in
    let good = derived_good tokens query derives legible in
    of_result (evaluated query addresses trees) xs now is (good (first_frame addresses) (first_legible addresses) trees are))
