-- How atomic values are printed: as an expression that gives the same value.
use Rattle.std.specs.Prelude.{ℕ, ◌^◌, ℤ, pos, neg_ℤ, nat_abs, [], ◌∷◌, ◌++◌, ◌==◌, codes, flat_map, if◌then◌else◌}
use Rattle.std.specs.Fmt.{signed_decimal}
use Rattle.std.specs.Ordering.{int_eq}
use Rattle.xq_atoms.specs.Text.{Text}
use Rattle.xq_atoms.specs.Atom.{Atomic, Integer, Decimal, String, Boolean, Untyped}
use Rattle.xq_atoms.specs.Cast.{whole_text, fraction_text}

-- a character in a string literal: a quote, an ampersand and a carriage return are written
-- otherwise
abbrev pub quoted_character : ℕ → Text
quoted_character c =
    if c == 34 then codes "\"\"" else if c == 38 then codes "&amp;" else if c == 13
    then codes "&#xD;" else c ∷ []

-- a text as it stands between the quotes of a string literal
abbrev pub escaped : Text → Text
escaped t = flat_map quoted_character t

-- a string literal: XQuery 3.1, 3.1.1
abbrev pub quoted : Text → Text
quoted t = codes "\"" ++ escaped t ++ codes "\""

-- the least integer is no literal with a sign before it, since the literal is out of range
abbrev pub print_integer : ℤ → Text
print_integer n =
    if int_eq n (neg_ℤ (pos (2 ^ 63))) then codes "xs:integer(\"-9223372036854775808\")"
    else signed_decimal n

-- at least one digit after the point
abbrev pub at_least_zero : Text → Text
at_least_zero [] = codes "0"
at_least_zero (c ∷ cs) = c ∷ cs

-- a decimal with its point, after a minus where it is below zero
abbrev pub print_decimal : ℤ → Text
print_decimal m = whole_text m ++ codes "." ++ at_least_zero (fraction_text (nat_abs m))

-- an atomic value, as a query writes it
abbrev pub print_atomic : Atomic → Text
print_atomic (Integer n) = print_integer n
print_atomic (Decimal m) = print_decimal m
print_atomic (String t) = quoted t
print_atomic (Boolean b) = if b then codes "true()" else codes "false()"
print_atomic (Untyped t) = codes "xs:untypedAtomic(" ++ quoted t ++ codes ")"
