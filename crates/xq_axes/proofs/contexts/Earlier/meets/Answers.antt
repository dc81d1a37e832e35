use Rattle.std.proofs.Common.{sym, ◌∙◌, arith}
use Rattle.xq_axes.proofs.Looking.{latest_none, earlier, apart}
use Rattle.xq_axes.proofs.contexts.Earlier.meets.Goals as goal

pub returns-then-latest-place-clause-met : goal.returns-then-latest-place-clause-met
returns-then-latest-place-clause-met c = λ up r. (
    let vs = c.args.self.now.places.now in
    let left = c.args.self.now.left in
    let e = sym (c.latest.ensures r.within) ∙ c.in-Some.is in
    apart vs left c.args.place r (λ i l. earlier vs left c.args.place c.in-Some.latest i up r e c.if-latest-place.true l))

pub returns-in-None-clause-met : goal.returns-in-None-clause-met
returns-in-None-clause-met c = λ up r. (
    let vs = c.args.self.now.places.now in
    let left = c.args.self.now.left in
    let z = latest_none vs left (sym (c.latest.ensures r.within) ∙ c.in-None.is) in
    apart vs left c.args.place r (λ i l. absurd (omega (arith, l, z))))
