-- How the language reads what atoms are printed as: numeric literals, with a minus before them or
-- not (XQuery 3.1, 3.1.1 and 3.5.1), and casts of string literals (3.14.2).
use Rattle.std.specs.Prelude.{◌++◌, codes, Ok, Err, if◌then◌else◌}
use Rattle.xq_atoms.specs.declared.refusals.Code.TheVariants.{XPST0003}
use Rattle.xq_atoms.specs.Judged.{Judged, ◌>>=◌}
use Rattle.xq_atoms.specs.Text.{Text, is_whole}
use Rattle.xq_atoms.specs.Atom.{Atomic, Integer, Decimal}
use Rattle.xq_atoms.specs.Literal.{is_number, integer_literal, decimal_literal}
use Rattle.xq_atoms.specs.Cast.{is_negated, after_sign}
use Rattle.xq_atoms.specs.Arithmetic.{neg}
use Rattle.xq_atoms.specs.Print.{quoted}

-- an IntegerLiteral or a DecimalLiteral
abbrev pub numeric_literal : Text → Judged Atomic
numeric_literal t =
    if is_whole t then integer_literal t >>= (λ n. Ok (Integer n))
    else if is_number t then decimal_literal t >>= (λ m. Ok (Decimal m))
    else Err XPST0003

-- a numeric literal, or the negation of one
abbrev pub number : Text → Judged Atomic
number t = if is_negated t then numeric_literal (after_sign t) >>= neg else numeric_literal t

-- the call of a constructor function on a string literal
abbrev pub called : Text → Text → Text
called name t = name ++ codes "(" ++ quoted t ++ codes ")"
