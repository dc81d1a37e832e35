-- Atomic values (XDM 3.1, 2.7), of the five types of the profile.
use Rattle.std.specs.Prelude.{◌^◌, ℤ, pos, neg_ℤ, int_lt, int_le, Bool, ◌&&◌, Result, Ok, Err, string_bytes}
use Rattle.xq_atoms.specs.declared.refusals.Code.{Code}
use Rattle.xq_atoms.specs.declared.refusals.Code.TheVariants.{FOAR0002, XPTY0004, ProfDouble}
use Rattle.xq_atoms.specs.declared.atoms.Atom.{Atom}
use Rattle.xq_atoms.specs.declared.atoms.Atom.TheVariants.{Int, Dec, Str, Bool as Truth, Untyped as UntypedText}
use Rattle.xq_atoms.specs.Judged.{Judged, only_if}
use Rattle.xq_atoms.specs.Decimal.{is_decimal}
use Rattle.xq_atoms.specs.Text.{Text}

-- a decimal is given in millionths
pub data Atomic : Type 0 where
  Integer : ℤ → Atomic
  Decimal : ℤ → Atomic
  String : Text → Atomic
  Boolean : Bool → Atomic
  Untyped : Text → Atomic

-- the value of an atom of the program
abbrev pub atomic_of : Atom → Atomic
atomic_of (Int n) = Integer n
atomic_of (Dec m) = Decimal m
atomic_of (Str s) = String (string_bytes s)
atomic_of (Truth b) = Boolean b
atomic_of (UntypedText s) = Untyped (string_bytes s)

-- what a result of the program judges: the value of its atom, or its code
abbrev pub judged_of : Result Atom Code → Judged Atomic
judged_of (Ok a) = Ok (atomic_of a)
judged_of (Err code) = Err code

-- the range of integers: 64 bits
abbrev pub is_integer : ℤ → Bool
is_integer n = int_le (neg_ℤ (pos (2 ^ 63))) n && int_lt n (pos (2 ^ 63))

-- the results of operations on numbers, which have to be in range
abbrev pub integer : ℤ → Judged Atomic
integer n = only_if (is_integer n) FOAR0002 (Integer n)

-- a decimal of so many millionths; out of range it is refused
abbrev pub decimal : ℤ → Judged Atomic
decimal m = only_if (is_decimal m) FOAR0002 (Decimal m)

-- an operand that has to be a number; the standard casts an untyped one to a double
abbrev pub numeric : Atomic → Judged Atomic
numeric (Integer n) = Ok (Integer n)
numeric (Decimal m) = Ok (Decimal m)
numeric (Untyped t) = Err ProfDouble
numeric a = Err XPTY0004
