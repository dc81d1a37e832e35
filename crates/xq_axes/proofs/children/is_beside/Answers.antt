use Rattle.std.proofs.Common.{arith}
use Rattle.std.proofs.lemmas.Bool.{ltb-true}
use Rattle.xq_axes.proofs.ManyChildren.{none_beside}
use Rattle.xq_axes.proofs.children.is_beside.Goals as goal

pub returns-in-Some-get : goal.returns-in-Some-get
returns-in-Some-get c = λ up less.
    let vs = c.args.places.now in
    let i = c.args.index in
    let before = c.in-Some.ensures.lookup.3 in
    let is = before.1 0 in
    let next = c.in-Some-get.ensures.lookup.3.1 0 in
    let below = ltb-true c.args.place c.in-Some-get.after.now less in
    none_beside vs i c.args.place up before.0 (let more = c.if-place-before.false in omega (arith, is, more)) (λ l. omega (arith, next, below))

pub returns-in-None : goal.returns-in-None
returns-in-None c = λ up _.
    let vs = c.args.places.now in
    let i = c.args.index in
    let before = c.in-Some.ensures.lookup.3 in
    let is = before.1 0 in
    none_beside vs i c.args.place up before.0 (let more = c.if-place-before.false in omega (arith, is, more)) (λ l. absurd (let last = c.in-None.ensures.lookup in omega (arith, last, l)))
