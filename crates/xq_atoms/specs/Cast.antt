-- Casts between the five types (F&O 3.1, 19).
use Rattle.std.specs.Prelude.{ℕ, ◌/◌, ◌%◌, ◌-◌, ℤ, pos, neg_ℤ, nat_abs, int_lt, int_div, [], ◌∷◌, ◌++◌, length, replicate, Bool, true, false, not, ◌||◌, ◌==◌, nat_lt, Ok, Err, codes, if◌then◌else◌, decimal as digits}
use Rattle.std.specs.Fmt.{signed_decimal}
use Rattle.xq_atoms.specs.declared.refusals.Code.TheVariants.{FORG0001, FOCA0001, FOCA0003, FOCA0006}
use Rattle.xq_atoms.specs.Judged.{Judged, only_if}
use Rattle.xq_atoms.specs.Decimal.{one, in_millionths, is_decimal}
use Rattle.xq_atoms.specs.Text.{Text, text_eq, is_whole, value}
use Rattle.xq_atoms.specs.Spaces.{trimmed}
use Rattle.xq_atoms.specs.Literal.{is_number, fraction, without_trailing_zeros, millionths}
use Rattle.xq_atoms.specs.Atom.{Atomic, Integer, Decimal, String, Boolean, Untyped, is_integer}
use Rattle.xq_atoms.specs.Arithmetic.{is_zero}

-- after a sign at the front, if there is one
abbrev pub after_sign : Text → Text
after_sign [] = []
after_sign (c ∷ cs) = if c == 43 || c == 45 then cs else c ∷ cs

-- a minus at the front
abbrev pub is_negated : Text → Bool
is_negated [] = false
is_negated (c ∷ cs) = c == 45

-- a number with the sign that the text begins with
abbrev pub signed : Text → ℕ → ℤ
signed t n = if is_negated t then neg_ℤ (pos n) else pos n

-- [+-]?d+
abbrev pub integer_of_text : Text → Judged Atomic
integer_of_text t =
    let n = signed t (value (after_sign t)) in
    if is_whole (after_sign t) then only_if (is_integer n) FOCA0003 (Integer n) else Err FORG0001

-- [+-]?(d+(.d*)?|.d+)
abbrev pub decimal_of_text : Text → Judged Atomic
decimal_of_text t =
    let m = signed t (millionths (after_sign t)) in
    if not (is_number (after_sign t)) then Err FORG0001
    else if nat_lt 6 (length (fraction (after_sign t))) then Err FOCA0006
    else only_if (is_decimal m) FOCA0001 (Decimal m)

-- true, 1, false or 0
abbrev pub boolean_of_text : Text → Judged Atomic
boolean_of_text t =
    if text_eq t (codes "true") || text_eq t (codes "1") then Ok (Boolean true)
    else if text_eq t (codes "false") || text_eq t (codes "0") then Ok (Boolean false)
    else Err FORG0001

-- a boolean as a number: true is one, false is zero
abbrev pub one_or_zero : Bool → ℤ
one_or_zero b = if b then pos 1 else pos 0

-- 19.1: a decimal is truncated towards zero
abbrev pub cast_integer : Atomic → Judged Atomic
cast_integer (Integer n) = Ok (Integer n)
cast_integer (Decimal m) = only_if (is_integer (int_div m one)) FOCA0003 (Integer (int_div m one))
cast_integer (Boolean b) = Ok (Integer (one_or_zero b))
cast_integer (String t) = integer_of_text (trimmed t)
cast_integer (Untyped t) = integer_of_text (trimmed t)

-- 19.1: to a decimal, an integer as it is, a boolean as one or zero
abbrev pub cast_decimal : Atomic → Judged Atomic
cast_decimal (Integer n) = Ok (Decimal (in_millionths n))
cast_decimal (Decimal m) = Ok (Decimal m)
cast_decimal (Boolean b) = Ok (Decimal (in_millionths (one_or_zero b)))
cast_decimal (String t) = decimal_of_text (trimmed t)
cast_decimal (Untyped t) = decimal_of_text (trimmed t)

-- 19.1: a number is true unless it is zero
abbrev pub cast_boolean : Atomic → Judged Atomic
cast_boolean (Integer n) = Ok (Boolean (not (is_zero n)))
cast_boolean (Decimal m) = Ok (Boolean (not (is_zero m)))
cast_boolean (Boolean b) = Ok (Boolean b)
cast_boolean (String t) = boolean_of_text (trimmed t)
cast_boolean (Untyped t) = boolean_of_text (trimmed t)

-- the number in six digits
abbrev pub six_digits : ℕ → Text
six_digits n = replicate (6 - length (digits n)) 48 ++ digits n

-- the digits after the point, without trailing zeros
abbrev pub fraction_text : ℕ → Text
fraction_text n = without_trailing_zeros (six_digits (n % 1000000))

-- a minus for a number below zero, nothing for another
abbrev pub sign_text : ℤ → Text
sign_text n = if int_lt n (pos 0) then codes "-" else []

-- the digits before the point, with the sign
abbrev pub whole_text : ℤ → Text
whole_text m = sign_text m ++ digits (nat_abs m / 1000000)

-- a point and the digits after it, if there are any
abbrev pub pointed : Text → Text
pointed [] = []
pointed (c ∷ cs) = codes "." ++ (c ∷ cs)

-- 19.1: a whole decimal as an integer, another without trailing zeros
abbrev pub decimal_text : ℤ → Text
decimal_text m = whole_text m ++ pointed (fraction_text (nat_abs m))

-- 19.1: an atomic value, cast to a string
abbrev pub text_of : Atomic → Text
text_of (Integer n) = signed_decimal n
text_of (Decimal m) = decimal_text m
text_of (String t) = t
text_of (Boolean b) = if b then codes "true" else codes "false"
text_of (Untyped t) = t
