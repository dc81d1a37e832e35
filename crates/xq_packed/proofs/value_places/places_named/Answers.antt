use Rattle.std.proofs.Common.{◌<◌, ◌≤◌, [], ◌∷◌, ◌++◌, length, sym, ap, ◌∙◌, arith}
use Rattle.xq_packed.specs.Values.{is_named}
use Rattle.xq_packed.proofs.Places.{places-over, places-on, places-all}
use Rattle.xq_packed.proofs.value_places.places_named.Goals as goal

pub loop-at-preserved-then-not-is_named_at : goal.loop-at-preserved-then-not-is_named_at
loop-at-preserved-then-not-is_named_at c = λ name h.
    let rows = c.args.rows.now.rows in
    let at = c.loop-at.at in
    let inside : at < length rows = omega (arith, c.loop-at-test.true, c.len-at-end.ensures.rows) in
    c.loop-at.invariant name h ∙ sym (places-over (is_named name) rows at inside (sym (c.is_named_at.ensures name h) ∙ c.if-not-is_named_at.true))

pub loop-at-preserved : goal.loop-at-preserved
loop-at-preserved c = λ name h.
    let rows = c.args.rows.now.rows in
    let at = c.loop-at.at in
    let inside : at < length rows = omega (arith, c.loop-at-test.true, c.len-at-end.ensures.rows) in
    c.in_ok-push.ensures.items ∙ ap (λ ps. ps ++ at ∷ []) (c.loop-at.invariant name h)
    ∙ sym (places-on (is_named name) rows at inside (sym (c.is_named_at.ensures name h) ∙ c.if-not-is_named_at.false))

pub returns-clause-places : goal.returns-clause-places
returns-clause-places c = λ name h.
    let rows = c.args.rows.now.rows in
    let past : length rows ≤ c.loop-at.at = omega (arith, c.loop-at-test.false, c.len-at-end.ensures.rows) in
    c.loop-at.invariant name h ∙ places-all (is_named name) rows c.loop-at.at past
