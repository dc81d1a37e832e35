use Rattle.std.proofs.Common.{arith, ◌≡◌, ◌-◌, ◌*◌, ◌^◌, length}
use Rattle.std.proofs.Math.Facts.{Fits-of_lt}
use Rattle.std.proofs.lemmas.Int.{ints}
use Rattle.xq_atoms.specs.Text as Text
use Rattle.xq_atoms.proofs.TextLemmas.{value-lt, scaled-lt}
use Rattle.xq_atoms.proofs.literals.millionths.Goals as goal

pub returns-in_err-below : goal.returns-in_err-below
returns-in_err-below c =
    let small = value-lt c.args.fraction.now 6 c.requires.fraction c.requires.short in
    absurd (c.in_err-below.ensures (omega arith))

pub overflow_mul-below : goal.overflow_mul-below
overflow_mul-below c =
    let small = value-lt c.args.fraction.now 6 c.requires.fraction c.requires.short in
    let product = scaled-lt c.in_ok-below.field-0 c.pow.result (length c.args.fraction.now) (omega (arith, c.in_ok-below.ensures)) c.pow.ensures in
    Fits-of_lt (omega arith)

pub returns : goal.returns
returns c =
    let small = value-lt c.args.fraction.now 6 c.requires.fraction c.requires.short in
    let below = c.in_ok-below.ensures in
    let product = scaled-lt c.in_ok-below.field-0 c.pow.result (length c.args.fraction.now) (omega arith) c.pow.ensures in
    let scaled : c.in_ok-below.field-0 * c.pow.result ≡ Text.value c.args.fraction.now * 10 ^ (6 - length c.args.fraction.now) = λ i. below.1 i * c.pow.ensures i in
    let whole = c.in_ok-value.ensures in
    (whole.0, omega (arith, ints))
