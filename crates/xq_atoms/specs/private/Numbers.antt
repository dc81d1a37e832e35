-- What the program's numbers and pairs of operands stand for.
use Rattle.std.specs.Prelude.{Result, Ok, Err}
use Rattle.xq_atoms.specs.declared.refusals.Code.{Code}
use Rattle.xq_atoms.specs.declared.arithmetic.Number.{Number}
use Rattle.xq_atoms.specs.declared.arithmetic.Number.TheVariants.{Integer as AnInteger, Decimal as ADecimal}
use Rattle.xq_atoms.specs.declared.arithmetic.Operands.{Operands as Pair}
use Rattle.xq_atoms.specs.declared.arithmetic.Operands.TheVariants.{Integers as TwoIntegers, Decimals as TwoDecimals}
use Rattle.xq_atoms.specs.Judged.{Judged}
use Rattle.xq_atoms.specs.Atom.{Atomic, Integer, Decimal}
use Rattle.xq_atoms.specs.Arithmetic.{Operands, Integers, Decimals}

abbrev pub number_of : Result Number Code → Judged Atomic
number_of (Ok (AnInteger n)) = Ok (Integer n)
number_of (Ok (ADecimal m)) = Ok (Decimal m)
number_of (Err code) = Err code

abbrev pub operands_of : Result Pair Code → Judged Operands
operands_of (Ok (TwoIntegers m n)) = Ok (Integers m n)
operands_of (Ok (TwoDecimals m n)) = Ok (Decimals m n)
operands_of (Err code) = Err code
