-- The expression that a text is read as, or the code for which it is refused before anything is
-- evaluated (XQuery 3.1, 2.2.3.1): in this order its bytes, tokens, nesting, grammar and static
-- faults are judged.
use Rattle.std.specs.Prelude.{◌≡◌, ◌⊎◌, ◌≤◌, ◌<◌, ℕ, List, Ok, Err, Some, None}
use Rattle.std.specs.Str.{IsUtf8}
use Rattle.xq_atoms.specs.declared.refusals.Code.{Code}
use Rattle.xq_atoms.specs.declared.refusals.Code.TheVariants.{XPST0003, ProfAddress, ProfDepth, ProfFrame, ProfUtf8}
use Rattle.xq_atoms.specs.Judged.{Judged}
use Rattle.xq_lexer.specs.Lexeme.{Lex}
use Rattle.xq_lexer.specs.Nesting.{deepest_nesting, nesting}
use Rattle.xq_lexer.specs.Spelling.{Spells}
use Rattle.xq_lexer.specs.TokenFaults.{HasFault}
use Rattle.xq_expressions.specs.declared.expressions.Expr.{Expr}
use Rattle.xq_parser.specs.Grammar.{Derives}
use Rattle.xq_statics.specs.Statics.{static_fault}
use Rattle.xq_queries.specs.Texts.{characters}

-- the tokens nest too deep, derive no expression, or one with a static fault
abbrev pub TokensFault : List Lex → Code → Type 0
TokensFault tokens code =
    ((deepest_nesting < nesting tokens) × (code ≡ ProfDepth))
    ⊎ ((nesting tokens ≤ deepest_nesting)
    × ((((e : Expr) → ¬ (Derives tokens e)) × (code ≡ XPST0003))
    ⊎ ((e : Expr) × Derives tokens e × (static_fault e ≡ Some code))))

-- the characters spell no tokens, or such as are at fault
abbrev pub CharactersFault : List ℕ → Code → Type 0
CharactersFault text code =
    HasFault text code
    ⊎ ((tokens : List Lex) × Spells text tokens × TokensFault tokens code)

-- the bytes are no UTF-8, or their characters are at fault
abbrev pub IsRefused : List ℕ → Code → Type 0
IsRefused text code =
    ((¬ (IsUtf8 text)) × (code ≡ ProfUtf8))
    ⊎ (IsUtf8 text × CharactersFault (characters text) code)

-- the tokens derive this expression, and no static check refuses it
abbrev pub TokensRead : List Lex → Expr → Type 0
TokensRead tokens e = (nesting tokens ≤ deepest_nesting) × Derives tokens e
    × (static_fault e ≡ None)

-- the bytes are UTF-8, and the tokens that they spell are read as this expression
abbrev pub IsRead : List ℕ → Expr → Type 0
IsRead text e =
    IsUtf8 text
    × ((tokens : List Lex) × Spells (characters text) tokens × TokensRead tokens e)

-- The text reads as this expression, or is refused for this code.
abbrev pub Reads : List ℕ → Judged Expr → Type 0
Reads text (Ok e) = IsRead text e
Reads text (Err code) = IsRefused text code

-- A text has one reading.
abbrev pub ReadsAtMostOnce : Type 0
ReadsAtMostOnce = (text : List ℕ) (x y : Judged Expr) → Reads text x → Reads text y → x ≡ y

-- what is refused before a text's characters are read
abbrev pub IsEarly : Code → Type 0
IsEarly code = (code ≡ ProfFrame) ⊎ (code ≡ ProfAddress) ⊎ (code ≡ ProfUtf8)

-- The faults of a text in UTF-8 are none of these.
abbrev pub FaultsComeLater : Type 0
FaultsComeLater =
    (text : List ℕ) (code : Code) → IsUtf8 text → Reads text (Err code) → ¬ (IsEarly code)
