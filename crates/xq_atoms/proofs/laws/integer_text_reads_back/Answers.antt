use Rattle.std.proofs.Common.{◌≡◌, ℤ, pos, negsuc, suc, Ok, arith}
use Rattle.std.specs.Prelude.{FitsSigned}
use Rattle.std.specs.Fmt.{signed_decimal}
use mir.Syntax.{w64}
use Rattle.xq_atoms.specs.Atom.{Integer}
use Rattle.xq_atoms.specs.Cast.{integer_of_text}
use Rattle.xq_atoms.proofs.ReadBack.{integer_of_text-decimal, integer_of_text-minus}
use Rattle.xq_atoms.proofs.laws.integer_text_reads_back.Goals as goal

read_back : (z : ℤ) → FitsSigned w64 z → integer_of_text (signed_decimal z) ≡ Ok (Integer z)
read_back (pos n) fits = integer_of_text-decimal n fits.sfits
read_back (negsuc n) fits = integer_of_text-minus (suc n) (omega (arith, fits.sfits))

pub returns : goal.returns
returns c = read_back c.args.value c.ranges.value
