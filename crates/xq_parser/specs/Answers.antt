-- When tokens are refused, and why: XPST0003 where they derive no expression (XQuery 3.1, appendix
-- F), `prof:DEPTH` where they nest too deep for this profile.
use Rattle.std.specs.Prelude.{◌≤◌, ◌<◌, Result, Ok, Err}
use Rattle.xq_atoms.specs.declared.refusals.Fault.{Fault}
use Rattle.xq_atoms.specs.declared.refusals.Fault.TheVariants.{Code as OfCode, Want as OfWant}
use Rattle.xq_atoms.specs.declared.refusals.Code.TheVariants.{XPST0003, ProfDepth}
use Rattle.xq_atoms.specs.declared.refusals.Want.TheVariants.{Memory}
use Rattle.xq_lexer.specs.Nesting.{deepest_nesting, nesting}
use Rattle.xq_expressions.specs.declared.expressions.Expr.{Expr}
use Rattle.xq_parser.specs.Look.{Tokens}
use Rattle.xq_parser.specs.Grammar.{Derives}

-- Too deep nesting goes before a want of memory and before the grammar; no other fault is answered.
abbrev pub IsTokenRefusal : Fault → Tokens → Type 0
IsTokenRefusal (OfWant Memory) ts = nesting ts ≤ deepest_nesting
IsTokenRefusal (OfWant _) ts = ⊥
IsTokenRefusal (OfCode ProfDepth) ts = deepest_nesting < nesting ts
IsTokenRefusal (OfCode XPST0003) ts = (nesting ts ≤ deepest_nesting)
    × ((e : Expr) → Derives ts e → ⊥)
IsTokenRefusal (OfCode _) ts = ⊥

-- an answer of the parser, which may be any expression as far as this goes
abbrev pub RefusesTokens : Result Expr Fault → Tokens → Type 0
RefusesTokens (Ok e) ts = Unit {0}
RefusesTokens (Err fault) ts = IsTokenRefusal fault ts
