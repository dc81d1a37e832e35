use Rattle.std.proofs.Common.{eqb-true, suc, length, sym, ◌∙◌, arith}
use Rattle.xq_axes.proofs.Looking.{latest_none, before_latest, looked_over}
use Rattle.xq_axes.proofs.backward.Look.next_place.Goals as goal

pub returns-in-None-clause-looked : goal.returns-in-None-clause-looked
returns-in-None-clause-looked c = λ test t old. (
    let look = c.args.self.now in
    let vs = look.contexts.places.now in
    let left = look.contexts.left in
    let z = latest_none vs left (sym (c.latest.ensures old.reached.within) ∙ c.in-None.is) in
    let empty = eqb-true (length look.levels) 0 (sym c.is_empty.ensures ∙ c.if-not-is_empty.false) in
    looked_over look.direction test t vs c.args.low 0 left look.levels look.found.items old empty (omega arith) (λ i l. absurd (omega (arith, l, z))))

pub returns-then-place-low-clause-looked : goal.returns-then-place-low-clause-looked
returns-then-place-low-clause-looked c = λ test t old. (
    let look = c.args.self.now in
    let vs = look.contexts.places.now in
    let left = look.contexts.left in
    let e = sym (c.latest.ensures old.reached.within) ∙ c.in-Some.is in
    let empty = eqb-true (length look.levels) 0 (sym c.is_empty.ensures ∙ c.if-not-is_empty.false) in
    looked_over look.direction test t vs c.args.low (suc c.in-Some.place) left look.levels look.found.items old empty (omega arith)
    (λ i l. (let a = before_latest vs left c.in-Some.place i old.rising old.reached.within e l in omega (arith, a))))
