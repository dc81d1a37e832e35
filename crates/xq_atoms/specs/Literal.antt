-- Numeric literals (XQuery 3.1, 3.1.1), which have no sign.
use Rattle.std.specs.Prelude.{ℕ, ◌+◌, ◌-◌, ◌*◌, ◌^◌, ℤ, pos, ◌++◌, length, Bool, ◌==◌, nat_lt, Err, if◌then◌else◌}
use Rattle.std.specs.List.{before_first, after_first}
use Rattle.xq_atoms.specs.declared.refusals.Code.TheVariants.{FOAR0002, ProfDigits}
use Rattle.xq_atoms.specs.Judged.{Judged, only_if}
use Rattle.xq_atoms.specs.Decimal.{is_decimal}
use Rattle.xq_atoms.specs.Text.{Text, is_whole, value}
use Rattle.xq_atoms.specs.Spaces.{before_trailing}
use Rattle.xq_atoms.specs.Atom.{is_integer}

-- a decimal point
abbrev pub is_point : ℕ → Bool
is_point c = c == 46

-- what stands before the first point: all, where there is none
abbrev pub whole_part : Text → Text
whole_part t = before_first is_point t

-- what stands after the first point: nothing, where there is none
abbrev pub after_point : Text → Text
after_point t = after_first is_point t

-- d+(.d*)? or .d+
abbrev pub is_number : Text → Bool
is_number t = is_whole (whole_part t ++ after_point t)

-- the digit 0
abbrev pub is_zero_digit : ℕ → Bool
is_zero_digit c = c == 48

-- a text without the zeros at its end
abbrev pub without_trailing_zeros : Text → Text
without_trailing_zeros = before_trailing is_zero_digit

-- what stands after the point, without the zeros at its end
abbrev pub fraction : Text → Text
fraction t = without_trailing_zeros (after_point t)

-- the millionths of digits before and after a point, at most six of them after it
abbrev pub millionths_of : Text → Text → ℕ
millionths_of whole decimals = value whole * 1000000 + value decimals * 10 ^ (6 - length decimals)

-- the millionths of a number with at most six digits in its fraction
abbrev pub millionths : Text → ℕ
millionths t = millionths_of (whole_part t) (fraction t)

-- an IntegerLiteral: its value, which has to be in range
abbrev pub integer_literal : Text → Judged ℤ
integer_literal t = only_if (is_integer (pos (value t))) FOAR0002 (pos (value t))

-- a DecimalLiteral: its millionths, with at most six digits in its fraction, and in range
abbrev pub decimal_literal : Text → Judged ℤ
decimal_literal t =
    if nat_lt 6 (length (fraction t)) then Err ProfDigits
    else only_if (is_decimal (pos (millionths t))) FOAR0002 (pos (millionths t))
