use Rattle.std.proofs.Common.{rules, ◌≡◌, ◌+◌, ◌<◌, false, arith}
use Rattle.std.specs.Prelude.{◌==◌}
use Rattle.std.proofs.lemmas.Bool.Decides.{nat_tests}
use Rattle.std.proofs.lemmas.Result.{err_from_is_err_and}
use Rattle.xq_lexer.specs.Lexeme.{lexemes}
use Rattle.xq_parser.specs.private.Reading.{single, stands}
use Rattle.xq_parser.proofs.Behind.{calls_fail, up_first, up_fails, up_more, up_stays}
use Rattle.xq_parser.proofs.operators.Operators.behind.Goals as goal

pub returns-in_err-found : goal.returns-in_err-found
returns-in_err-found g c =
    let p = err_from_is_err_and c.from_residual.result c.from_residual.ensures.1 in
    rw (p.1, p.2) (calls_fail (single c.args.self.now.grammar.now.depth) c.args.operand (lexemes c.args.tokens.now) c.args.self.now.level _ c.in_err-found.ensures)

pub loop-tighter-init : goal.loop-tighter-init
loop-tighter-init g c = record {
  read = up_first (single c.args.self.now.grammar.now.depth) c.args.operand (lexemes c.args.tokens.now) c.in_ok-found.found (lexemes c.in_ok-found.rest.now) c.in_ok-found.ensures;
  next = c.next_level-next.ensures;
}

pub loop-tighter-preserved-then-next-tighter : goal.loop-tighter-preserved-then-next-tighter
loop-tighter-preserved-then-next-tighter g c =
    let l = c.loop-tighter in
    let other = c.if-next-tighter.true in
    let is = l.invariant.next in
    let none : stands (l.tighter + 1) (lexemes l.rest.now) ≡ false = grind (arith, nat_tests) in
    let low : l.tighter < 9 = omega (arith, c.requires.bound) in
    record {
      read = up_stays (single c.args.self.now.grammar.now.depth) c.args.operand (lexemes c.args.tokens.now) l.tighter l.found (lexemes l.rest.now) low none l.invariant.read;
      next = l.invariant.next;
    }

pub returns-in_err-all : goal.returns-in_err-all
returns-in_err-all g c =
    let l = c.loop-tighter in
    let same = c.if-next-tighter.false in
    let p = err_from_is_err_and c.from_residual-in_err-all.result c.from_residual-in_err-all.ensures.1 in
    rw (p.1, p.2) (up_fails (single c.args.self.now.grammar.now.depth) c.args.operand (lexemes c.args.tokens.now) l.tighter c.args.self.now.level l.next l.found (lexemes l.rest.now) _ (omega arith) (omega (arith, same)) l.invariant.read c.in_err-all.ensures)

pub loop-tighter-preserved : goal.loop-tighter-preserved
loop-tighter-preserved g c =
    let l = c.loop-tighter in
    let same = c.if-next-tighter.false in
    record {
      read = up_more (single c.args.self.now.grammar.now.depth) c.args.operand (lexemes c.args.tokens.now) l.tighter l.next l.found (lexemes l.rest.now) c.in_ok-all.all (lexemes c.in_ok-all.after.now) (omega (arith, same)) l.invariant.read c.in_ok-all.ensures;
      next = search rules;
    }
