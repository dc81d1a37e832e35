use Rattle.std.proofs.Common.{◌-◌, length, sym, arith}
use Rattle.std.proofs.lemmas.Bool.{ltb-true}
use Rattle.xq_axes.proofs.Lists.{got, got_none}
use Rattle.xq_operators.proofs.Scanning.{next_rises}
use Rattle.xq_operators.proofs.nodes.is_next.Goals as goal

pub returns-in-Some : goal.returns-in-Some
returns-in-Some c = λ tree less up.
    let places = c.args.places.now in
    let at = got places (length places - 1) c.in-Some.last.now (sym c.in-Some.ensures.value) in
    let below = ltb-true c.in-Some.last.now c.args.place less in
    next_rises tree places c.args.place (λ l. (let is = at.1 in omega (arith, is, below))) up

pub returns-in-None : goal.returns-in-None
returns-in-None c = λ tree _ up.
    let places = c.args.places.now in
    let none = got_none places (length places - 1) (sym c.in-None.ensures.value) in
    next_rises tree places c.args.place (λ l. absurd (omega (arith, none, l))) up
