-- What the parts of reading give.
use Rattle.std.specs.Prelude.{◌≡◌, ℕ, List, Result, Ok, Err}
use Rattle.xq_atoms.specs.declared.refusals.Fault.{Fault}
use Rattle.xq_atoms.specs.declared.refusals.Fault.TheVariants.{Code as OfCode, Want as OfWant}
use Rattle.xq_atoms.specs.declared.refusals.Want.TheVariants.{Memory}
use Rattle.xq_lexer.specs.Lexeme.{Lex}
use Rattle.xq_lexer.specs.Spelling.{Spells}
use Rattle.xq_expressions.specs.declared.expressions.Expr.{Expr}
use Rattle.xq_meaning.specs.declared.plans.Plan.{Plan}
use Rattle.xq_queries.specs.Reading.{CharactersFault, TokensFault, TokensRead}
use Rattle.xq_queries.specs.Scans.{ScansItsDocument}
use Rattle.xq_queries.specs.Values.{IsPlanOf}

-- the characters give this expression, or a fault
abbrev pub Parses : List ℕ → Result Expr Fault → Type 0
Parses text (Ok e) =
    (tokens : List Lex) × Spells text tokens × TokensRead tokens e
Parses text (Err (OfCode code)) = CharactersFault text code
Parses text (Err (OfWant want)) = want ≡ Memory

-- the tokens do
abbrev pub Checks : List Lex → Result Expr Fault → Type 0
Checks tokens (Ok e) = TokensRead tokens e
Checks tokens (Err (OfCode code)) = TokensFault tokens code
Checks tokens (Err (OfWant want)) = want ≡ Memory

-- the characters give a plan of their expression, which scans the document that a path starts at,
-- or a fault
abbrev pub Understands : List ℕ → Result Plan Fault → Type 0
Understands text (Ok plan) =
    (e : Expr) × Parses text (Ok e) × IsPlanOf e plan × ScansItsDocument e plan
Understands text (Err (OfCode code)) = CharactersFault text code
Understands text (Err (OfWant want)) = want ≡ Memory
