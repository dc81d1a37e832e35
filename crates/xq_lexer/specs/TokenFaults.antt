-- The first fault of a text that no list of tokens spells.
use Rattle.std.specs.Prelude.{◌≡◌, ℕ, ◌<◌, ◌==◌, true, false, List, [], ◌∷◌, ◌++◌, length, Some, None, ◌⊎◌}
use Rattle.xq_atoms.specs.declared.refusals.Code.{Code}
use Rattle.xq_atoms.specs.declared.refusals.Code.TheVariants.{XPST0003, XQST0090}
use Rattle.xq_atoms.specs.declared.refusals.Fault.{Fault}
use Rattle.xq_atoms.specs.declared.refusals.Fault.TheVariants.{Code as OfCode, Want as OfWant}
use Rattle.xq_atoms.specs.declared.refusals.Want.TheVariants.{Memory}
use Rattle.xq_lexer.specs.Lexeme.{Lex}
use Rattle.xq_atoms.specs.Characters.{is_char}
use Rattle.xq_lexer.specs.Chars.{Text, is_quote, begins}
use Rattle.xq_lexer.specs.Separators.{skip}
use Rattle.xq_lexer.specs.Literals.{Number, number_text, IsNumber, number_fault, Reference, reference_text, IsReference, referred, Piece, ArePieces, content_text}
use Rattle.xq_lexer.specs.Spelling.{Form, number, form_text, IsForm, IsLongest, Before, Spells}

-- a reference that stands for no character
pub record RefersToNone (rest : Text) : Type 0 where
  pub reference : Reference
  pub after : Text
  pub whole : 38 ∷ reference_text reference ++ after ≡ rest
  pub is_reference : IsReference reference
  pub none : is_char (referred reference) ≡ false

-- an `&` that begins no reference
pub record RefersNot (rest : Text) : Type 0 where
  pub ampersand : begins (λ c. c == 38) rest ≡ true
  pub no_reference : (r : Reference) (after : Text) → IsReference r
      → 38 ∷ reference_text r ++ after ≡ rest → ⊥

-- inside a string, whose pieces up to here are without fault: the text ends, holds what is no
-- character, refers to none, or has another `&`
abbrev pub ContentFault : Text → Code → Type 0
ContentFault rest code =
    ((rest ≡ []) × (code ≡ XPST0003))
    ⊎ (((c : ℕ) × (after : Text) × (rest ≡ c ∷ after) × (is_char c ≡ false) × (code ≡ XPST0003))
    ⊎ ((RefersToNone rest × (code ≡ XQST0090)) ⊎ (RefersNot rest × (code ≡ XPST0003))))

-- the longest number that begins here is at fault
pub record NumberFault (z : Text) (code : Code) : Type 0 where
  pub written : Number
  pub after : Text
  pub whole : number_text written ++ after ≡ z
  pub is_number : IsNumber written
  pub longest : IsLongest (number written) after
  pub fault : number_fault written after ≡ Some code

-- a string begins here, and is at fault after some pieces
pub record StringFault (z : Text) (code : Code) : Type 0 where
  pub quote : ℕ
  pub pieces : List Piece
  pub rest : Text
  pub whole : quote ∷ content_text quote pieces ++ rest ≡ z
  pub is_quote : is_quote quote ≡ true
  pub are_pieces : ArePieces quote pieces
  pub fault : ContentFault rest code

-- no token and no string begins here
pub record NoToken (z : Text) : Type 0 where
  pub some : 0 < length z
  pub no_string : begins is_quote z ≡ false
  pub no_form : (f : Form) (after : Text) → IsForm f → form_text f ++ after ≡ z → ⊥

-- the number or the string that begins here is at fault, or no token begins here
abbrev pub TokenFault : Text → Code → Type 0
TokenFault z code = NumberFault z code ⊎ (StringFault z code ⊎ (NoToken z × (code ≡ XPST0003)))

-- the separators here, or the token after them, are at fault
abbrev pub FaultHere : Text → Code → Type 0
FaultHere text code =
    ((skip 0 text ≡ None) × (code ≡ XPST0003))
    ⊎ ((z : Text) × (skip 0 text ≡ Some z) × TokenFault z code)

-- after some tokens there is a fault, the first one of the text
abbrev pub HasFault : Text → Code → Type 0
HasFault text code = (ts : List Lex) × (rest : Text) × Before text ts rest × FaultHere rest code

-- the text is refused: for its fault, and then no list is spelled and no fault has another code; or
-- for want of memory
abbrev pub RefusesText : Text → Fault → Type 0
RefusesText text (OfCode code) = HasFault text code × ((ts : List Lex) → Spells text ts → ⊥)
    × ((other : Code) → HasFault text other → other ≡ code)
RefusesText text (OfWant want) = want ≡ Memory
