-- Arithmetic on atomic values (XQuery 3.1, 3.5; F&O 3.1, 4.2 and 4.4).
use Rattle.std.specs.Prelude.{ℤ, pos, neg_ℤ, nat_abs, ◌+ℤ◌, ◌-ℤ◌, ◌*ℤ◌, int_div, int_rem, Bool, Ok, Err, if◌then◌else◌}
use Rattle.std.specs.Ordering.{int_eq}
use Rattle.xq_atoms.specs.declared.refusals.Code.TheVariants.{FOAR0001, XPTY0004}
use Rattle.xq_atoms.specs.Judged.{Judged, ◌>>=◌}
use Rattle.xq_atoms.specs.Decimal.{one, in_millionths, floored, raised, rounded}
use Rattle.xq_atoms.specs.Atom.{Atomic, Integer, Decimal, integer, decimal, numeric}

-- two integers, or two numbers in millionths where one is a decimal
pub data Operands : Type 0 where
  Integers : ℤ → ℤ → Operands
  Decimals : ℤ → ℤ → Operands

-- two numbers as operands; what is no number is refused
abbrev pub beside : Atomic → Atomic → Judged Operands
beside (Integer m) (Integer n) = Ok (Integers m n)
beside (Integer m) (Decimal n) = Ok (Decimals (in_millionths m) n)
beside (Decimal m) (Integer n) = Ok (Decimals m (in_millionths n))
beside (Decimal m) (Decimal n) = Ok (Decimals m n)
beside a b = Err XPTY0004

-- the left operand is judged, then the right one
abbrev pub operands : Atomic → Atomic → Judged Operands
operands a b = do
  x ← numeric a
  y ← numeric b
  beside x y

-- the first operation on two integers, the second one on two numbers in millionths
abbrev pub on_operands : (ℤ → ℤ → Judged Atomic) → (ℤ → ℤ → Judged Atomic) → Operands
    → Judged Atomic
on_operands integers decimals (Integers m n) = integers m n
on_operands integers decimals (Decimals m n) = decimals m n

-- XQuery 3.1, 3.5: an operator on two atomic values, by its operations on integers and on
-- millionths
abbrev pub arithmetic : (ℤ → ℤ → Judged Atomic) → (ℤ → ℤ → Judged Atomic) → Atomic → Atomic
    → Judged Atomic
arithmetic integers decimals a b = operands a b >>= on_operands integers decimals

-- the number is zero
abbrev pub is_zero : ℤ → Bool
is_zero n = int_eq n (pos 0)

-- F&O 3.1, 4.2.4 to 4.2.6: a result, unless the divisor is zero
abbrev pub unless_zero : ℤ → Judged Atomic → Judged Atomic
unless_zero n result = if is_zero n then Err FOAR0001 else result

-- op:numeric-add
abbrev pub add : Atomic → Atomic → Judged Atomic
add = arithmetic (λ m n. integer (m +ℤ n)) (λ m n. decimal (m +ℤ n))

-- op:numeric-subtract
abbrev pub sub : Atomic → Atomic → Judged Atomic
sub = arithmetic (λ m n. integer (m -ℤ n)) (λ m n. decimal (m -ℤ n))

-- op:numeric-multiply; decimals are truncated towards zero
abbrev pub mul : Atomic → Atomic → Judged Atomic
mul = arithmetic (λ m n. integer (m *ℤ n)) (λ m n. decimal (int_div (m *ℤ n) one))

-- a decimal, also of two integers, truncated towards zero
abbrev pub quotient : ℤ → ℤ → Judged Atomic
quotient m n = unless_zero n (decimal (int_div (in_millionths m) n))

-- op:numeric-divide
abbrev pub div : Atomic → Atomic → Judged Atomic
div = arithmetic quotient quotient

-- an integer, also of two decimals, truncated towards zero
abbrev pub whole_quotient : ℤ → ℤ → Judged Atomic
whole_quotient m n = unless_zero n (integer (int_div m n))

-- op:numeric-integer-divide
abbrev pub idiv : Atomic → Atomic → Judged Atomic
idiv = arithmetic whole_quotient whole_quotient

-- op:numeric-mod; the remainder has the dividend's sign
abbrev pub modulo : Atomic → Atomic → Judged Atomic
modulo = arithmetic (λ m n. unless_zero n (integer (int_rem m n)))
    (λ m n. unless_zero n (decimal (int_rem m n)))

-- the type stays
abbrev pub on_number : (ℤ → ℤ) → (ℤ → ℤ) → Atomic → Judged Atomic
on_number integers decimals (Integer n) = integer (integers n)
on_number integers decimals (Decimal m) = decimal (decimals m)
on_number integers decimals a = Err XPTY0004

-- an operation on one atomic value, by what it does to an integer and to millionths
abbrev pub on_one : (ℤ → ℤ) → (ℤ → ℤ) → Atomic → Judged Atomic
on_one integers decimals a = numeric a >>= on_number integers decimals

-- op:numeric-unary-minus
abbrev pub neg : Atomic → Judged Atomic
neg = on_one neg_ℤ neg_ℤ

-- fn:abs
abbrev pub abs : Atomic → Judged Atomic
abs = on_one (λ n. pos (nat_abs n)) (λ m. pos (nat_abs m))

-- fn:ceiling
abbrev pub ceiling : Atomic → Judged Atomic
ceiling = on_one (λ n. n) raised

-- fn:floor
abbrev pub floor : Atomic → Judged Atomic
floor = on_one (λ n. n) floored

-- fn:round
abbrev pub round : Atomic → Judged Atomic
round = on_one (λ n. n) rounded
