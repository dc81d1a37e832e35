use Rattle.std.proofs.Common.{◌≡◌, ◌-◌, ◌∷◌, max, List, rules, refl, ap, ◌∙◌, arith}
use Rattle.std.proofs.lemmas.List.{take_rest}
use Rattle.xq_lexer.specs.Lexeme.{lexemes}
use Rattle.xq_lexer.specs.private.Changes.{first_change}
use Rattle.xq_lexer.specs.declared.tokens.Token.{Token}
use Rattle.xq_lexer.proofs.NestingLemmas.{held, few, counts_over, counts_open, counts_deepen, counts_keep, counts_close_none, counts_close}
use Rattle.xq_lexer.proofs.depth.nesting.Goals as goal
use Rattle.xq_lexer.proofs.depth.nesting.Goals.{in-Opens+else-now, in-Closes+then-open-gt0, in-Closes+else-open-gt0, in-Deepens+else-now-2, in-Keeps}

pub returns-then-now : goal.returns-then-now
returns-then-now c =
    let l = c.loop-index in
    counts_over l.saved l.open l.now l.greatest l.index c.args.tokens.now l.invariant (omega arith) c.first_change.result (c.first_change.ensures ∙ ap (λ (ts : List Token). first_change (lexemes ts)) (take_rest c.args.tokens.now l.index)) (l.now ∷ held l.open l.saved) (rw c.in-Opens.is refl) (omega arith)

pub bounds-saved-open : goal.bounds-saved-open
bounds-saved-open c =
    let l = c.loop-index in
    let f = few l.saved l.open l.now l.greatest l.index c.args.tokens.now l.invariant in
    omega (arith, f, l.invariant.small)

pub loop-index-preserved : goal.loop-index-preserved
loop-index-preserved c =
    let l = c.loop-index in
    let g : c.max-greatest.result ≡ max l.greatest c.match-first_change.now = search rules in
    elim c.match-first_change.branch [
      | in-Opens+else-now w ↦
          rw (g, w.saved-is, w.open-is, w.now-is) (counts_open l.saved l.open l.now l.greatest l.index c.args.tokens.now l.invariant (omega arith) c.first_change.result (c.first_change.ensures ∙ ap (λ (ts : List Token). first_change (lexemes ts)) (take_rest c.args.tokens.now l.index)) w.in-Opens.is (omega (arith, w.if-now.false, l.invariant.small)))
      | in-Closes+then-open-gt0 w ↦
          rw (g, w.saved-is, w.open-is, w.now-is) (counts_close l.saved l.open l.now l.greatest l.index c.args.tokens.now l.invariant (omega arith) c.first_change.result (c.first_change.ensures ∙ ap (λ (ts : List Token). first_change (lexemes ts)) (take_rest c.args.tokens.now l.index)) (l.open - 1) _ w.in-Closes.is (omega (arith, w.if-open-gt0.true)) refl)
      | in-Closes+else-open-gt0 w ↦
          rw (g, w.saved-is, w.open-is, w.now-is) (counts_close_none l.saved l.open l.now l.greatest l.index c.args.tokens.now l.invariant (omega arith) c.first_change.result (c.first_change.ensures ∙ ap (λ (ts : List Token). first_change (lexemes ts)) (take_rest c.args.tokens.now l.index)) w.in-Closes.is (omega (arith, w.if-open-gt0.false)))
      | in-Deepens+else-now-2 w ↦
          rw (g, w.saved-is, w.open-is, w.now-is) (counts_deepen l.saved l.open l.now l.greatest l.index c.args.tokens.now l.invariant (omega arith) c.first_change.result (c.first_change.ensures ∙ ap (λ (ts : List Token). first_change (lexemes ts)) (take_rest c.args.tokens.now l.index)) w.in-Deepens.is (omega (arith, w.if-now-2.false, l.invariant.small)))
      | in-Keeps w ↦
          rw (g, w.saved-is, w.open-is, w.now-is) (counts_keep l.saved l.open l.now l.greatest l.index c.args.tokens.now l.invariant (omega arith) c.first_change.result (c.first_change.ensures ∙ ap (λ (ts : List Token). first_change (lexemes ts)) (take_rest c.args.tokens.now l.index)) w.in-Keeps.is)
    ]

pub returns-then-now-2 : goal.returns-then-now-2
returns-then-now-2 c =
    let l = c.loop-index in
    counts_over l.saved l.open l.now l.greatest l.index c.args.tokens.now l.invariant (omega arith) c.first_change.result (c.first_change.ensures ∙ ap (λ (ts : List Token). first_change (lexemes ts)) (take_rest c.args.tokens.now l.index)) (held l.open l.saved) (rw c.in-Deepens.is refl) (omega arith)
