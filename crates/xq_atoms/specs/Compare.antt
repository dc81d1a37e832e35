-- What atomic values are compared by (XQuery 3.1, 3.7 and 3.12.7; F&O 3.1, 4.3, 5.3.6 and 7.2).
use Rattle.std.specs.Prelude.{ℤ, Bool, true, false, not, Option, Some, None, Ok, Err, string_bytes}
use Rattle.std.specs.declared.cmp.Ordering.{Ordering}
use Rattle.std.specs.declared.cmp.Ordering.TheVariants.{Less, Equal, Greater}
use Rattle.std.specs.Ordering.{is_eq, is_lt, is_le, is_gt, is_ge, int_eq, int_cmp, bool_cmp}
use Rattle.xq_atoms.specs.declared.refusals.Code.TheVariants.{XPTY0004, ProfDouble}
use Rattle.xq_atoms.specs.declared.atoms.Atom.{Atom}
use Rattle.xq_atoms.specs.declared.atoms.GroupKey.{GroupKey}
use Rattle.xq_atoms.specs.declared.atoms.GroupKey.TheVariants.{Empty, Num, Text as TextKey, Truth as TruthKey}
use Rattle.xq_atoms.specs.declared.comparisons.CompOp.{CompOp}
use Rattle.xq_atoms.specs.declared.comparisons.CompOp.TheVariants.{Eq, Ne, Lt, Le, Gt, Ge}
use Rattle.xq_atoms.specs.Judged.{Judged, ◌>>=◌, only_if}
use Rattle.xq_atoms.specs.Text.{Text, text_eq, text_cmp}
use Rattle.xq_atoms.specs.Atom.{Atomic, Integer, Decimal, String, Boolean, Untyped, atomic_of}
use Rattle.xq_atoms.specs.Decimal.{in_millionths}
use Rattle.xq_atoms.specs.Cast.{cast_boolean}

-- numbers in millionths, strings with untyped values, booleans
pub data Key : Type 0 where
  Nothing : Key
  Number : ℤ → Key
  Characters : Text → Key
  Truth : Bool → Key

-- what an atomic value is compared by
abbrev pub key : Atomic → Key
key (Integer n) = Number (in_millionths n)
key (Decimal m) = Number m
key (String t) = Characters t
key (Boolean b) = Truth b
key (Untyped t) = Characters t

-- XQuery 3.1, 3.12.7: the key of at most one value
abbrev pub group_key : Option Atom → Key
group_key None = Nothing
group_key (Some a) = key (atomic_of a)

-- the value of a key of the program
abbrev pub key_of : GroupKey → Key
key_of Empty = Nothing
key_of (Num m) = Number m
key_of (TextKey s) = Characters (string_bytes s)
key_of (TruthKey b) = Truth b

-- both nothing, or equal numbers, strings or booleans
abbrev pub key_eq : Key → Key → Bool
key_eq Nothing Nothing = true
key_eq (Number m) (Number n) = int_eq m n
key_eq (Characters s) (Characters t) = text_eq s t
key_eq (Truth p) (Truth q) = is_eq (bool_cmp p q)
key_eq j k = false

-- nothing is less than anything else, and false than true; of two kinds the first named above is
-- less
abbrev pub key_cmp : Key → Key → Ordering
key_cmp Nothing Nothing = Equal
key_cmp Nothing k = Less
key_cmp (Number m) Nothing = Greater
key_cmp (Number m) (Number n) = int_cmp m n
key_cmp (Number m) k = Less
key_cmp (Characters s) (Characters t) = text_cmp s t
key_cmp (Characters s) (Truth q) = Less
key_cmp (Characters s) k = Greater
key_cmp (Truth p) (Truth q) = bool_cmp p q
key_cmp (Truth p) k = Greater

-- two numbers, two strings or two booleans
abbrev pub of_one_kind : Key → Key → Bool
of_one_kind (Number m) (Number n) = true
of_one_kind (Characters s) (Characters t) = true
of_one_kind (Truth p) (Truth q) = true
of_one_kind j k = false

-- an operator holds of two values that are in this order
abbrev pub holds : CompOp → Ordering → Bool
holds Eq o = is_eq o
holds Ne o = not (is_eq o)
holds Lt o = is_lt o
holds Le o = is_le o
holds Gt o = is_gt o
holds Ge o = is_ge o

-- XQuery 3.1, 3.7.1: two numbers, two strings or two booleans
abbrev pub compare_value : CompOp → Atomic → Atomic → Judged Bool
compare_value op a b = only_if (of_one_kind (key a) (key b)) XPTY0004
    (holds op (key_cmp (key a) (key b)))

-- XQuery 3.1, 3.7.2: an operand, as it is compared with the other one; the standard casts it to a
-- double beside a number
abbrev pub beside : Atomic → Atomic → Judged Atomic
beside (Untyped t) (Boolean b) = cast_boolean (Untyped t)
beside (Untyped t) (Integer n) = Err ProfDouble
beside (Untyped t) (Decimal m) = Err ProfDouble
beside a b = Ok a

-- XQuery 3.1, 3.7.2: of one value with one other; the left operand is judged first
abbrev pub compare_general : CompOp → Atomic → Atomic → Judged Bool
compare_general op a b = do
  x ← beside a b
  y ← beside b a
  compare_value op x y
