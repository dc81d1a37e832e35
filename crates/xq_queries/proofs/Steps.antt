-- The steps of reading, one after another.
use Rattle.std.proofs.Common.{◌≡◌, ◌≤◌, ℕ, List, [], ◌∷◌, map, refl, ◌∙◌, ap, subst, None, Ok, Err, Result, inl, inr, IsErrAnd}
use Rattle.std.specs.Str.{IsUtf8}
use Rattle.xq_atoms.specs.declared.refusals.Code.TheVariants.{XPST0003, ProfDepth}
use Rattle.xq_atoms.specs.declared.refusals.Fault.{Fault}
use Rattle.xq_atoms.specs.declared.refusals.Fault.TheVariants.{Code as OfCode, Want as OfWant}
use Rattle.xq_atoms.specs.declared.refusals.Want.TheVariants.{Memory, Store}
use Rattle.xq_lexer.specs.declared.tokens.Token.{Token}
use Rattle.xq_lexer.specs.Lexeme.{Lex, lexemes}
use Rattle.xq_lexer.specs.Nesting.{nesting}
use Rattle.xq_lexer.specs.Spelling.{Spells}
use Rattle.xq_lexer.specs.TokenFaults.{RefusesText}
use Rattle.xq_expressions.specs.declared.expressions.Expr.{Expr}
use Rattle.xq_parser.specs.Answers.{IsTokenRefusal}
use Rattle.xq_parser.specs.Grammar.{Derives}
use Rattle.xq_statics.specs.Gives.{Judges}
use Rattle.xq_statics.specs.Statics.{static_fault}
use Rattle.xq_meaning.specs.declared.normal_forms.Core.{Core}
use Rattle.xq_meaning.specs.declared.plans.Plan.{Plan}
use Rattle.xq_meaning.specs.Meaning.{first_frame}
use Rattle.xq_meaning.specs.Same.{IsNormalForm, IsPlan}
use Rattle.xq_normal.specs.DocumentPaths.{StaysDocumentPath, written_out}
use Rattle.xq_plan.specs.Scans.{ScansDocument}
use Rattle.xq_queries.specs.Texts.{characters}
use Rattle.xq_queries.specs.Reading.{CharactersFault}
use Rattle.xq_queries.specs.Scans.{ScansItsDocument}
use Rattle.xq_queries.specs.Values.{IsPlanOf, Plans, value_of}
use Rattle.xq_queries.specs.private.Plans.{Checks, Parses, Understands}

-- ---- characters

pub lex_refused : (text : List ℕ) (fault : Fault) → RefusesText text fault → Parses text (Err fault)
lex_refused text (OfCode code) refused = inl refused.0
lex_refused text (OfWant want) refused = refused

pub parses_by : (text : List ℕ) (ts : List Token) (r : Result Expr Fault) → Spells text (lexemes ts)
    → Checks (lexemes ts) r → Parses text r
parses_by text ts (Ok e) spelled checks = (lexemes ts, spelled, checks)
parses_by text ts (Err (OfCode code)) spelled checks = inr (lexemes ts, spelled, checks)
parses_by text ts (Err (OfWant want)) spelled checks = checks

-- ---- tokens

pub parse_refused : (ts : List Lex) (fault : Fault) → IsTokenRefusal fault ts → Checks ts (Err fault)
parse_refused ts (OfWant Memory) refused = refl
parse_refused ts (OfWant Store) refused = absurd refused
parse_refused ts (OfCode ProfDepth) refused = inl (refused, refl)
parse_refused ts (OfCode XPST0003) refused = inr (refused.0, inl (refused.1, refl))
parse_refused ts (OfCode _) refused = absurd refused

pub check_refused : (ts : List Lex) (e : Expr) (fault : Fault) → nesting ts ≤ 128 → Derives ts e
    → Judges (Err fault) (static_fault e) → Checks ts (Err fault)
check_refused ts e (OfCode code) shallow derived judged = inr (shallow, inr (e, derived, judged))
check_refused ts e (OfWant Memory) shallow derived judged = refl
check_refused ts e (OfWant Store) shallow derived judged = absurd judged

-- ---- bytes

pub read_by : (text spelled : List ℕ) (r : Result Plan Fault) → IsUtf8 text → spelled ≡ characters text
    → Understands spelled r → Plans text r
read_by text spelled (Ok plan) utf8 same understood =
    (understood.0, (utf8, subst (λ s. Parses s (Ok understood.0)) same understood.1), understood.2, understood.3)
read_by text spelled (Err (OfCode code)) utf8 same understood =
    inr (utf8, subst (λ s. CharactersFault s code) same understood)
read_by text spelled (Err (OfWant want)) utf8 same understood = (understood, utf8)

-- ---- plans

pub plan_of : (e : Expr) (core : Core) (plan : Plan) → IsNormalForm e core → IsPlan [] core plan → IsPlanOf e plan
plan_of e core plan normal is =
    λ addresses trees. ap value_of (is [] None addresses trees refl ∙ normal (first_frame addresses) trees)

-- a path from a document stays one, and then is scans
pub scans_of : (e : Expr) (core : Core) (plan : Plan) → StaysDocumentPath e core → ScansDocument core plan → ScansItsDocument e plan
scans_of e core plan stays scans = λ name address first more is path.
    scans address (map written_out (first ∷ more)) (stays name address first more is path)

-- ---- what is handed on

pub handed_on : {T E : Type 0} (result : Result T E) (e : E) → IsErrAnd result (λ f. f ≡ e) → result ≡ Err e
handed_on (Ok x) e is = absurd is
handed_on (Err f) e is = ap Err is

pub not_parsed : (text : List ℕ) (fault : Fault) → Parses text (Err fault) → Understands text (Err fault)
not_parsed text (OfCode code) fault = fault
not_parsed text (OfWant want) fault = fault
