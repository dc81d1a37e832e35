use Rattle.std.proofs.Common.{string_bytes}
use Rattle.xq_atoms.specs.Cast.{six_digits}
use Rattle.xq_atoms.proofs.TextLemmas.{All-digits, are_digits-six_digits, are_digits-without_trailing_zeros}
use Rattle.xq_atoms.proofs.PrintLemmas.{take-through, take-front}
use Rattle.xq_atoms.proofs.prints.append_decimal.Goals as goal

pub append_digits-requires : goal.append_digits-requires
append_digits-requires c =
    All-digits c.without_trailing_zeros-fraction.result.now
    (rw (c.without_trailing_zeros-fraction.ensures, c.six_digits-digits.ensures) (are_digits-without_trailing_zeros (six_digits c.fraction_of.result) (are_digits-six_digits c.fraction_of.result c.fraction_of.ensures.below)))

pub returns-in_err-append_digits-clause-kept : goal.returns-in_err-append_digits-clause-kept
returns-in_err-append_digits-clause-kept c =
    take-through (string_bytes c.args.out.now) (string_bytes c.push.new.self) _
    (rw (c.in_ok-push.ensures.bytes, c.in_ok-append_whole.ensures.ok) (take-front (string_bytes c.args.out.now) _ _)) c.append_digits.ensures.kept
