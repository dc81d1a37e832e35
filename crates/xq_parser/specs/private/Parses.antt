-- What a private function that parses ensures: what the reader gives, unless memory runs out.
use Rattle.std.specs.Prelude.{◌≡◌, ◌<◌, ◌≤◌, ℕ, List, Option, Some, None, Result, Ok, Err}
use Rattle.std.specs.declared.alloc.Global.{Global}
use denote.Ref.{Bor}
use Rattle.xq_atoms.specs.declared.refusals.Fault.{Fault}
use Rattle.xq_atoms.specs.declared.refusals.Fault.TheVariants.{Code as OfCode, Want as OfWant}
use Rattle.xq_atoms.specs.declared.refusals.Code.TheVariants.{XPST0003}
use Rattle.xq_atoms.specs.declared.refusals.Want.TheVariants.{Memory}
use Rattle.xq_lexer.specs.declared.tokens.Token.{Token}
use Rattle.xq_lexer.specs.Lexeme.{lexemes}
use Rattle.xq_expressions.specs.declared.expressions.Expr.{Expr}
use Rattle.xq_parser.specs.Look.{Tokens}
use Rattle.xq_parser.specs.private.Reading.{Outcome, single, level as level_of}

abbrev pub ParsesNot : {Y : Type 0} → Fault → Option Y → Type 0
ParsesNot (OfWant Memory) read = Unit {0}
ParsesNot (OfWant _) read = ⊥
ParsesNot (OfCode XPST0003) read = read ≡ None
ParsesNot (OfCode _) read = ⊥

abbrev pub ParsesAs : {X Y : Type 0} → (X → Y) → Result X Fault → Option Y → Type 0
ParsesAs view (Ok x) read = read ≡ Some (view x)
ParsesAs view (Err fault) read = ParsesNot fault read

-- what was read, and the tokens after it
abbrev pub parse_view : {A : Type 0} → A × Bor (List Token) → A × Tokens
parse_view x = (x.0, lexemes x.1.now)

abbrev pub Parses : {A : Type 0} → Result (A × Bor (List Token)) Fault → Outcome A → Type 0
Parses {A} r read = ParsesAs (parse_view {A = A}) r read

-- a function value that reads singles to a depth
pub record Nests (depth : ℕ) (pre : Global → ℕ → Bor (List Token) → Type 0)
    (post : Global → ℕ → Bor (List Token) → Result (Expr × Bor (List Token)) Fault
    → Type 0) : Type 0 where
  pub callable : (alloc : Global) (tokens : Bor (List Token)) → pre alloc depth tokens
  pub reads : (alloc : Global) (tokens : Bor (List Token))
      (r : Result (Expr × Bor (List Token)) Fault) → post alloc depth tokens r
      → Parses r (single depth (lexemes tokens.now))

-- a function value that reads operands with operators of levels below one
pub record Operands (depth loosest : ℕ) (pre : Global → ℕ → ℕ → Bor (List Token) → Type 0)
    (post : Global → ℕ → ℕ → Bor (List Token) → Result (Expr × Bor (List Token)) Fault
    → Type 0) : Type 0 where
  pub callable : (alloc : Global) (level : ℕ) (tokens : Bor (List Token)) → level < loosest
      → pre alloc depth level tokens
  pub reads : (alloc : Global) (level : ℕ) (tokens : Bor (List Token))
      (r : Result (Expr × Bor (List Token)) Fault) → post alloc depth level tokens r
      → Parses r (level_of (single depth) level (lexemes tokens.now))

-- the operands of a level are read so
pub record OperandReady (level depth loosest : ℕ)
    (pre : Global → ℕ → ℕ → Bor (List Token) → Type 0)
    (post : Global → ℕ → ℕ → Bor (List Token) → Result (Expr × Bor (List Token)) Fault
    → Type 0) : Type 0 where
  pub operands : Operands depth loosest pre post
  pub some : 0 < level
  pub within : level ≤ loosest
