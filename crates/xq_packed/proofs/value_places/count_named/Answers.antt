use Rattle.std.proofs.Common.{◌<◌, ◌≤◌, [], ◌∷◌, false, true, length, sym, ap, ◌∙◌, arith, length-append}
use Rattle.xq_packed.specs.Values.{is_named}
use Rattle.xq_packed.proofs.Places.{places_before, places-over, places-on, places-all}
use Rattle.xq_packed.proofs.value_places.count_named.Goals as goal

pub loop-at-preserved-then-not-is_named_at : goal.loop-at-preserved-then-not-is_named_at
loop-at-preserved-then-not-is_named_at c =
    let rows = c.args.rows.now.rows in
    let at = c.loop-at.at in
    let inside : at < length rows = omega (arith, c.loop-at-test.true, c.len-at-end.ensures.rows) in
    record {
      few = omega (arith, c.loop-at.invariant.few);
      counted = λ name h. c.loop-at.invariant.counted name h ∙ ap length (sym (places-over (is_named name) rows at inside (sym (c.is_named_at.ensures name h) ∙ c.if-not-is_named_at.true)));
    }

pub loop-at-preserved : goal.loop-at-preserved
loop-at-preserved c =
    let rows = c.args.rows.now.rows in
    let at = c.loop-at.at in
    let inside : at < length rows = omega (arith, c.loop-at-test.true, c.len-at-end.ensures.rows) in
    record {
      few = omega (arith, c.loop-at.invariant.few);
      counted = λ name h.
          let so_far = c.loop-at.invariant.counted name h in
          let on = places-on (is_named name) rows at inside (sym (c.is_named_at.ensures name h) ∙ c.if-not-is_named_at.false) in
          omega (arith, so_far, ap length on, length-append (places_before (is_named name) rows at) (at ∷ []));
    }

pub returns : goal.returns
returns c = λ name h.
    let rows = c.args.rows.now.rows in
    let past : length rows ≤ c.loop-at.at = omega (arith, c.loop-at-test.false, c.len-at-end.ensures.rows) in
    c.loop-at.invariant.counted name h ∙ ap length (places-all (is_named name) rows c.loop-at.at past)
