use Rattle.std.proofs.Common.{sym}
use Rattle.xq_atoms.specs.Literal.{after_point}
use Rattle.xq_atoms.proofs.TextLemmas.{are_digits-without_trailing_zeros, is_number-digits}
use Rattle.xq_atoms.proofs.casts.decimal_of_text.Goals as goal

pub millionths-requires-clause-fraction : goal.millionths-requires-clause-fraction
millionths-requires-clause-fraction c =
    rw (c.without_trailing_zeros-fraction.ensures, c.split_at_point.ensures.decimals)
    (are_digits-without_trailing_zeros (after_point c.after_sign-number.result.now) (is_number-digits c.after_sign-number.result.now (sym c.if-not-is_number.ensures)).1)
