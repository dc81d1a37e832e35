use Rattle.std.proofs.Common.{sym, ◌∙◌, arith}
use Rattle.xq_axes.proofs.Lists.{got, got_none, among_at, reached_met, reached_past, reached_among}
use Rattle.xq_axes.proofs.contexts.Contexts.meets.Goals as goal

pub returns-in-None-clause-met : goal.returns-in-None-clause-met
returns-in-None-clause-met c = λ up r. (
    let vs = c.args.self.now.places.now in
    let n = got_none vs c.args.self.now.met (sym c.in-None.ensures) in
    (sym (reached_among vs c.args.self.now.met c.args.place up r (λ h e. omega (arith, n, h))), reached_past vs c.args.self.now.met c.args.place r (λ h e. omega (arith, n, h)) up))

pub returns-then-next-place-clause-met : goal.returns-then-next-place-clause-met
returns-then-next-place-clause-met c = λ up r. (
    let vs = c.args.self.now.places.now in
    let g = got vs c.args.self.now.met c.in-Some.next (sym c.in-Some.ensures) in
    (sym (reached_among vs c.args.self.now.met c.args.place up r (λ h e. c.if-next-place.true (sym g.1 ∙ e))), reached_past vs c.args.self.now.met c.args.place r (λ h e. c.if-next-place.true (sym g.1 ∙ e)) up))

pub overflow_add-self : goal.overflow_add-self
overflow_add-self c =
    let g = got c.args.self.now.places.now c.args.self.now.met c.in-Some.next (sym c.in-Some.ensures) in
    omega (arith, g.0)

pub returns-else-next-place-clause-met : goal.returns-else-next-place-clause-met
returns-else-next-place-clause-met c = λ up r. (
    let vs = c.args.self.now.places.now in
    let g = got vs c.args.self.now.met c.in-Some.next (sym c.in-Some.ensures) in
    let e = g.1 ∙ c.if-next-place.false in
    (sym (among_at vs c.args.self.now.met c.args.place g.0 e), reached_met vs c.args.self.now.met c.args.place up r g.0 e))
