use Rattle.std.proofs.Common.{sym, ◌∙◌, arith, length, []}
use Rattle.std.proofs.lemmas.Result.{err_from_is_err_and}
use Rattle.xq_lexer.specs.Lexeme.{lexemes}
use Rattle.xq_parser.proofs.Loops.{kept_first, kept_stop, kept_next, kept_last, fails_along}
use Rattle.xq_parser.proofs.lists.many.Goals as goal

pub returns-then-not-follows : goal.returns-then-not-follows
returns-then-not-follows g c = rw c.new.ensures (kept_stop (g.R.Repeated.test c.args.phrase.now) (g.R.Repeated.reader c.args.phrase.now) [] (length c.args.tokens.now) 0 (lexemes c.args.tokens.now) (lexemes c.args.tokens.now) (sym {b = g.R.Repeated.test c.args.phrase.now (lexemes c.args.tokens.now)} c.if-not-follows.ensures) (kept_first (g.R.Repeated.test c.args.phrase.now) (g.R.Repeated.reader c.args.phrase.now) c.args.tokens.now))

pub loop-turn-init : goal.loop-turn-init
loop-turn-init g c = rw (c.from_vec-found.ensures ∙ c.in_ok-with_capacity.ensures.items) (kept_first (g.R.Repeated.test c.args.phrase.now) (g.R.Repeated.reader c.args.phrase.now) c.args.tokens.now)

pub returns-then-not-follows-2 : goal.returns-then-not-follows-2
returns-then-not-follows-2 g c = kept_stop (g.R.Repeated.test c.args.phrase.now) (g.R.Repeated.reader c.args.phrase.now) c.loop-turn.found (length c.args.tokens.now) c.loop-turn._turn (lexemes c.loop-turn.rest.now) (lexemes c.args.tokens.now) (sym {b = g.R.Repeated.test c.args.phrase.now (lexemes c.loop-turn.rest.now)} c.if-not-follows-2.ensures) c.loop-turn.invariant

pub returns-in_err-item : goal.returns-in_err-item
returns-in_err-item g c =
    let p = err_from_is_err_and c.from_residual-in_err-item.result c.from_residual-in_err-item.ensures.1 in
    rw (p.1, p.2) (fails_along (g.R.Repeated.test c.args.phrase.now) (g.R.Repeated.reader c.args.phrase.now) c.loop-turn.found (length c.args.tokens.now) c.loop-turn._turn (lexemes c.loop-turn.rest.now) (lexemes c.args.tokens.now) _ (omega arith) (sym {b = g.R.Repeated.test c.args.phrase.now (lexemes c.loop-turn.rest.now)} c.if-not-follows-2.ensures) c.in_err-item.ensures c.loop-turn.invariant)

pub loop-turn-preserved : goal.loop-turn-preserved
loop-turn-preserved g c = rw c.in_ok-push.ensures.ok (kept_next (g.R.Repeated.test c.args.phrase.now) (g.R.Repeated.reader c.args.phrase.now) c.loop-turn.found (length c.args.tokens.now) c.loop-turn._turn (lexemes c.loop-turn.rest.now) (lexemes c.args.tokens.now) c.in_ok-item.item (lexemes c.in_ok-item.after.now) (omega arith) (sym {b = g.R.Repeated.test c.args.phrase.now (lexemes c.loop-turn.rest.now)} c.if-not-follows-2.ensures) c.in_ok-item.ensures c.loop-turn.invariant)

pub returns : goal.returns
returns g c = kept_last (g.R.Repeated.test c.args.phrase.now) (g.R.Repeated.reader c.args.phrase.now) c.loop-turn.found (length c.args.tokens.now) c.loop-turn._turn (lexemes c.loop-turn.rest.now) (lexemes c.args.tokens.now) (omega arith) c.loop-turn.invariant
