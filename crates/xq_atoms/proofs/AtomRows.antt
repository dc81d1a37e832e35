-- The worked rows of the operations on atomic values.
use Rattle.std.specs.Prelude.{◌≡◌, refl, ℕ, ◌^◌, ◌-◌, ℤ, pos, neg_ℤ, true, false, [], ◌∷◌, ◌++◌, Ok, Err, codes}
use Rattle.std.specs.Fmt.{digits}
use Rattle.xq_atoms.specs.declared.refusals.Code.TheVariants.{FOAR0001, FOAR0002, FORG0001, FOCA0001, FOCA0003, FOCA0006, XPTY0004, ProfDouble, ProfDigits}
use Rattle.xq_atoms.specs.declared.comparisons.CompOp.TheVariants.{Eq, Lt}
use Rattle.xq_atoms.specs.Atom.{Atomic, Integer, Decimal, String, Boolean, Untyped}
use Rattle.xq_atoms.specs.Arithmetic.{add, sub, mul, div, idiv, modulo, neg, abs, ceiling, floor, round}
use Rattle.xq_atoms.specs.Literal.{integer_literal, decimal_literal}
use Rattle.xq_atoms.specs.Cast.{cast_integer, cast_decimal, cast_boolean, text_of}
use Rattle.xq_atoms.specs.Compare.{compare_value, compare_general, key, Characters}
use Rattle.xq_atoms.specs.Print.{print_atomic}

abbrev minus : ℕ → ℤ
minus n = neg_ℤ (pos n)

abbrev least : Atomic
least = Integer (minus (2 ^ 63))

abbrev int : ℕ → Atomic
int n = Integer (pos n)

abbrev dec : ℕ → Atomic
dec m = Decimal (pos m)

mul_small : mul (dec 1) (dec 1) ≡ Ok (dec 0)
mul_small = refl

mul_great : mul (dec (10 ^ 24)) (dec (10 ^ 24)) ≡ Err FOAR0002
mul_great = refl

div_third : div (Integer (minus 1)) (int 3) ≡ Ok (Decimal (minus 333333))
div_third = refl

mod_half : modulo (dec 7500000) (int 2) ≡ Ok (dec 1500000)
mod_half = refl

idiv_least : idiv least (Integer (minus 1)) ≡ Err FOAR0002
idiv_least = refl

mod_least : modulo least (Integer (minus 1)) ≡ Ok (int 0)
mod_least = refl

idiv_great : idiv (dec (10 ^ 25 - 1)) (dec 1) ≡ Err FOAR0002
idiv_great = refl

mod_zero : modulo (int 1) (int 0) ≡ Err FOAR0001
mod_zero = refl

div_zero : div (int 1) (int 0) ≡ Err FOAR0001
div_zero = refl

round_great : round (dec 9999999999999999999500000) ≡ Err FOAR0002
round_great = refl

abs_least : abs least ≡ Err FOAR0002
abs_least = refl

neg_least : neg least ≡ Err FOAR0002
neg_least = refl

int_of_dec : cast_integer (Decimal (minus 1900000)) ≡ Ok (Integer (minus 1))
int_of_dec = refl

dec_of_str : cast_decimal (String (codes " +.50 ")) ≡ Ok (dec 500000)
dec_of_str = refl

general_untyped : compare_general Eq (Untyped (codes "1")) (int 1) ≡ Err ProfDouble
general_untyped = refl

value_untyped : compare_value Eq (Untyped (codes "1")) (int 1) ≡ Err XPTY0004
value_untyped = refl

value_bool : compare_value Lt (Boolean false) (Boolean true) ≡ Ok true
value_bool = refl

literal_point : decimal_literal (codes "1.") ≡ Ok (pos 1000000)
literal_point = refl

literal_digits : decimal_literal (codes "0.1234567") ≡ Err ProfDigits
literal_digits = refl

literal_zeros : decimal_literal (codes "0.1000000") ≡ Ok (pos 100000)
literal_zeros = refl

literal_great : integer_literal (codes "9223372036854775808") ≡ Err FOAR0002
literal_great = refl

literal_greatest : integer_literal (codes "9223372036854775807") ≡ Ok (pos (2 ^ 63 - 1))
literal_greatest = refl

-- 4 div 2, string(4 div 2), 1 div 3; 7 idiv 2, -7 idiv 2, -7 mod 2, 7.5 mod 2
div_print : div (int 4) (int 2) ≡ Ok (dec 2000000)
div_print = refl

print_two : print_atomic (dec 2000000) ≡ codes "2.0"
unfolding digits
print_two = refl

string_two : text_of (dec 2000000) ≡ codes "2"
unfolding digits
string_two = refl

print_third : print_atomic (dec 333333) ≡ codes "0.333333"
unfolding digits
print_third = refl

idiv_seven : idiv (int 7) (int 2) ≡ Ok (int 3)
idiv_seven = refl

idiv_minus : idiv (Integer (minus 7)) (int 2) ≡ Ok (Integer (minus 3))
idiv_minus = refl

mod_minus : modulo (Integer (minus 7)) (int 2) ≡ Ok (Integer (minus 1))
mod_minus = refl

over : add (int 9223372036854775807) (int 1) ≡ Err FOAR0002
over = refl

to_least : sub (Integer (minus 9223372036854775807)) (int 1) ≡ Ok least
to_least = refl

print_least : print_atomic least ≡ codes "xs:integer(\"-9223372036854775808\")"
unfolding digits
print_least = refl

print_text : print_atomic (String (codes "a\"&" ++ 13 ∷ [])) ≡ codes "\"a\"\"&amp;&#xD;\""
print_text = refl

print_half : print_atomic (Decimal (minus 500000)) ≡ codes "-0.5"
unfolding digits
print_half = refl

print_untyped : print_atomic (Untyped (codes "1")) ≡ codes "xs:untypedAtomic(\"1\")"
print_untyped = refl

text_half : text_of (Decimal (minus 500000)) ≡ codes "-0.5"
unfolding digits
text_half = refl

-- round(2.5), round(-2.5), floor(-0.5), abs(-3), ceiling
round_up : round (dec 2500000) ≡ Ok (dec 3000000)
round_up = refl

round_down : round (Decimal (minus 2500000)) ≡ Ok (Decimal (minus 2000000))
round_down = refl

floor_half : floor (Decimal (minus 500000)) ≡ Ok (Decimal (minus 1000000))
floor_half = refl

ceiling_half : ceiling (Decimal (minus 500000)) ≡ Ok (dec 0)
ceiling_half = refl

ceiling_up : ceiling (dec 500000) ≡ Ok (dec 1000000)
ceiling_up = refl

abs_three : abs (Integer (minus 3)) ≡ Ok (int 3)
abs_three = refl

-- xs:integer(" 7 "), xs:integer(-1.9), xs:boolean("1"), xs:decimal(".5"), and their refusals
int_seven : cast_integer (String (codes " 7 ")) ≡ Ok (int 7)
int_seven = refl

int_signed : cast_integer (Untyped (codes "-9223372036854775808")) ≡ Ok least
int_signed = refl

bool_one : cast_boolean (String (codes "1")) ≡ Ok (Boolean true)
bool_one = refl

bool_text : cast_boolean (String (codes "yes")) ≡ Err FORG0001
bool_text = refl

bool_zero : cast_boolean (dec 0) ≡ Ok (Boolean false)
bool_zero = refl

dec_half : cast_decimal (String (codes ".5")) ≡ Ok (dec 500000)
dec_half = refl

dec_point : cast_decimal (String (codes ".")) ≡ Err FORG0001
dec_point = refl

dec_points : cast_decimal (String (codes "1.2.3")) ≡ Err FORG0001
dec_points = refl

dec_minus : cast_decimal (String (codes "-1.25")) ≡ Ok (Decimal (minus 1250000))
dec_minus = refl

int_text : cast_integer (String (codes "1.0")) ≡ Err FORG0001
int_text = refl

int_great : cast_integer (dec 9999999999999999999000000) ≡ Err FOCA0003
int_great = refl

dec_digits : cast_decimal (String (codes "0.0000001")) ≡ Err FOCA0006
dec_digits = refl

dec_great : cast_decimal (String (codes "10000000000000000000")) ≡ Err FOCA0001
dec_great = refl

-- "1" + 1, untyped + 1, "a" + untyped: the left operand is judged first
add_text : add (String (codes "1")) (int 1) ≡ Err XPTY0004
add_text = refl

add_untyped : add (Untyped (codes "1")) (int 1) ≡ Err ProfDouble
add_untyped = refl

add_both : add (String (codes "a")) (Untyped (codes "1")) ≡ Err XPTY0004
add_both = refl

add_mixed : add (int 1) (dec 2500000) ≡ Ok (dec 3500000)
add_mixed = refl

-- comparisons
general_bool : compare_general Eq (Boolean true) (Untyped (codes " 1 ")) ≡ Ok true
general_bool = refl

general_bad : compare_general Eq (Boolean true) (Untyped (codes "x")) ≡ Err FORG0001
general_bad = refl

general_text : compare_general Eq (String (codes "a")) (int 1) ≡ Err XPTY0004
general_text = refl

ten_nine : compare_general Lt (Untyped (codes "10")) (Untyped (codes "9")) ≡ Ok true
ten_nine = refl

value_mixed : compare_value Eq (int 1) (dec 1000000) ≡ Ok true
value_mixed = refl

key_untyped : key (Untyped (codes "1")) ≡ Characters (codes "1")
key_untyped = refl
