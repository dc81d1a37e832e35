-- Digits that are too many give a number that is too great, whatever digits follow.
use Rattle.std.proofs.Common.{◌+◌, ◌-◌, ◌*◌, get_or, drop, arith}
use Rattle.xq_atoms.proofs.TextLemmas.{value_after-ge, value_after-drop}
use Rattle.xq_atoms.proofs.texts.value.Goals as goal

pub returns-in_err-checked_mul : goal.returns-in_err-checked_mul
returns-in_err-checked_mul c =
    let i = c.loop-digit.digit-index in
    let ds = c.args.digits.now in
    let next = value_after-drop c.loop-digit.value i ds c.loop-digit-test.true in
    let least = value_after-ge (c.loop-digit.value * 10 + (get_or ds i 0 - 48)) (drop (i + 1) ds) in
    rw c.from_residual.ensures (λ small. c.in_err-checked_mul.ensures (omega (arith, c.loop-digit.invariant.1)))

pub returns-in_err-value : goal.returns-in_err-value
returns-in_err-value c =
    let i = c.loop-digit.digit-index in
    let ds = c.args.digits.now in
    let next = value_after-drop c.loop-digit.value i ds c.loop-digit-test.true in
    let least = value_after-ge (c.loop-digit.value * 10 + (get_or ds i 0 - 48)) (drop (i + 1) ds) in
    rw c.from_residual-in_err-value.ensures (λ small. c.in_err-value.ensures (omega (arith, c.loop-digit.invariant.1, c.in_ok-checked_mul.ensures, c.from.ensures)))
