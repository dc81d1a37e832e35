-- What the answer of the reader says of the grammar.
use Rattle.std.proofs.Common.{◌≡◌, ◌≤◌, Result, Ok, Err, sym, ◌∙◌}
use Rattle.std.specs.Prelude.{IfOk}
use Rattle.xq_atoms.specs.declared.refusals.Fault.{Fault}
use Rattle.xq_atoms.specs.declared.refusals.Fault.TheVariants.{Code as OfCode, Want as OfWant}
use Rattle.xq_atoms.specs.declared.refusals.Code.TheVariants.{XPST0003, ProfDepth}
use Rattle.xq_atoms.specs.declared.refusals.Want.TheVariants.{Memory, Store}
use Rattle.xq_lexer.specs.Nesting.{nesting}
use Rattle.xq_expressions.specs.declared.expressions.Expr.{Expr}
use Rattle.xq_parser.specs.Look.{Tokens}
use Rattle.xq_parser.specs.Grammar.{Derives}
use Rattle.xq_parser.specs.private.Reading.{query}
use Rattle.xq_parser.specs.private.Parses.{ParsesAs}
use Rattle.xq_parser.specs.Answers.{RefusesTokens}
use Rattle.xq_parser.proofs.Tokens.{none_some}
use Rattle.xq_parser.proofs.SoundLines.{query_sound}
use Rattle.xq_parser.proofs.Top.{query_reads, derives_one}

pub found_by : (r : Result Expr Fault) (ts : Tokens) → ParsesAs (λ x. x) r (query 129 ts) → IfOk r (λ e. Derives ts e)
found_by (Ok x) ts h = query_sound 129 ts x h
found_by (Err f) ts h = tt

pub only_by : (r : Result Expr Fault) (ts : Tokens) → ParsesAs (λ x. x) r (query 129 ts) → IfOk r (λ e. (other : Expr) → Derives ts other → other ≡ e)
only_by (Ok x) ts h = λ other w. derives_one ts other x w (query_sound 129 ts x h)
only_by (Err f) ts h = tt

pub shallow_by : (r : Result Expr Fault) (ts : Tokens) → nesting ts ≤ 128 → IfOk r (λ _. nesting ts ≤ 128)
shallow_by (Ok x) ts low = low
shallow_by (Err f) ts low = tt

pub refused_by : (r : Result Expr Fault) (ts : Tokens) → nesting ts ≤ 128 → ParsesAs (λ x. x) r (query 129 ts) → RefusesTokens r ts
refused_by (Ok x) ts low h = tt
refused_by (Err (OfWant Memory)) ts low h = low
refused_by (Err (OfWant Store)) ts low h = absurd h
refused_by (Err (OfCode XPST0003)) ts low h = (low, λ e w. none_some (sym h ∙ query_reads 128 ts e low w))
refused_by (Err (OfCode ProfDepth)) ts low h = absurd h
refused_by (Err (OfCode _)) ts low h = absurd h
