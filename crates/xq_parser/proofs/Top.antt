-- The whole list of tokens: what is derived within the depth is read, and so there is one expression at most.
use Rattle.std.proofs.Common.{◌≡◌, ℕ, zero, suc, ◌<◌, ◌≤◌, true, [], Some, refl, sym, ◌∙◌, arith}
use Rattle.xq_lexer.specs.Nesting.{nesting}
use Rattle.xq_expressions.specs.declared.expressions.Expr.{Expr}
use Rattle.xq_parser.specs.Look.{Tokens}
use Rattle.xq_parser.specs.Grammar as g
use Rattle.xq_parser.specs.private.Reading as r
use Rattle.xq_parser.proofs.Tokens.{some_is}
use Rattle.xq_parser.proofs.Moves.{AllMove}
use Rattle.xq_parser.proofs.LinesMove as m
use Rattle.xq_parser.proofs.Rank.{rank, begins_phrase}
use Rattle.xq_parser.proofs.Begins.{any_begins}
use Rattle.xq_parser.proofs.Complete.{Fits, Deeper, greatest-least}
use Rattle.xq_parser.proofs.PrimaryLines.{whole_line}
use Rattle.xq_parser.proofs.ClauseLines.{any_reads}

single_moves : (h : ℕ) → AllMove (g.Single h)
single_moves zero = λ ts a us w. absurd w
single_moves (suc h) = m.any-moves (g.Single h) (single_moves h)

single_begins : (h : ℕ) (ts : Tokens) (a : Expr) (us : Tokens) → g.Single h ts a us → begins_phrase ts ≡ true
single_begins zero ts a us w = absurd w
single_begins (suc h) ts a us w = any_begins (g.Single h) ts a us w

abbrev ReadsAt : ℕ → Type 0
ReadsAt h = (d : ℕ) (ts : Tokens) (a : Expr) (us : Tokens) → g.Single h ts a us → rank us < 20 → Fits d ts → r.single (suc d) ts ≡ Some (a, us)

-- without room nothing is deeper
inner : (h : ℕ) → ReadsAt h → (d : ℕ) (ts : Tokens) (a : Expr) (us : Tokens) → g.Single h ts a us → rank us < 20 → Deeper d ts → r.single d ts ≡ Some (a, us)
inner h reads zero ts a us w low f = let g = greatest-least f.k f.saved ts in let u = f.under in let x = f.room in absurd (omega (arith, g, u, x))
inner h reads (suc d) ts a us w low f = reads d ts a us w low (record { top = f.top; k = f.k; saved = f.saved; room = (let x = f.room in omega arith); under = f.under })

reads_single : (h : ℕ) → ReadsAt h
unfolding r.single
reads_single zero d ts a us w low f = absurd w
reads_single (suc h) d ts a us w low f = any_reads (g.Single h) (r.single d) d (single_moves h) (single_begins h) (inner h (reads_single h) d) ts a us w low f

end_rank : rank [] < 10
unfolding rank
end_rank = omega arith

-- what is derived, and nests no deeper, is read
pub query_reads : (limit : ℕ) (ts : Tokens) (a : Expr) → nesting ts ≤ limit → g.Derives ts a → r.query (suc limit) ts ≡ Some a
unfolding r.query
query_reads limit ts a low w =
    let f : Deeper (suc limit) ts = record { top = limit; k = 0; saved = []; room = omega arith; under = low } in
    let line = whole_line (g.Single w.0) (r.single (suc limit)) (suc limit) (single_moves w.0) (single_begins w.0) (inner w.0 (reads_single w.0) (suc limit)) in
    rw (line.reads ts a [] w.1 end_rank f) refl

-- two expressions that the same tokens derive are equal, whatever their nesting
pub derives_one : (ts : Tokens) (a b : Expr) → g.Derives ts a → g.Derives ts b → a ≡ b
derives_one ts a b v w =
    let within : nesting ts ≤ nesting ts = omega arith in
    some_is (sym (query_reads (nesting ts) ts a within v) ∙ query_reads (nesting ts) ts b within w)
