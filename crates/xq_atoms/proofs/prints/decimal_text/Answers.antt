use Rattle.xq_atoms.specs.Cast.{six_digits}
use Rattle.xq_atoms.proofs.TextLemmas.{All-digits, are_digits-six_digits, are_digits-without_trailing_zeros}
use Rattle.xq_atoms.proofs.prints.decimal_text.Goals as goal

pub append_digits-requires : goal.append_digits-requires
append_digits-requires c =
    All-digits c.without_trailing_zeros-fraction.result.now
    (rw (c.without_trailing_zeros-fraction.ensures, c.six_digits-digits.ensures) (are_digits-without_trailing_zeros (six_digits c.fraction_of.result) (are_digits-six_digits c.fraction_of.result c.fraction_of.ensures.below)))
