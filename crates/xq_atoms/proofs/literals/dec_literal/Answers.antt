use Rattle.xq_atoms.specs.Literal.{after_point}
use Rattle.xq_atoms.proofs.TextLemmas.{are_digits-without_trailing_zeros, is_number-digits}
use Rattle.xq_atoms.proofs.literals.dec_literal.Goals as goal

pub millionths-requires-clause-fraction : goal.millionths-requires-clause-fraction
millionths-requires-clause-fraction c =
    rw (c.without_trailing_zeros-fraction.ensures, c.split_at_point.ensures.decimals, c.as_bytes.ensures.value)
    (are_digits-without_trailing_zeros (after_point c.args.text.now) (is_number-digits c.args.text.now c.requires).1)
