use Rattle.std.proofs.Common.{arith, lit<, lit≤, [], refl}
use Rattle.std.proofs.lemmas.Fmt.{length-decimal-le}
use Rattle.xq_atoms.proofs.PrintLemmas.{padded-is}
use Rattle.xq_atoms.proofs.prints.six_digits.Goals as goal

pub write_digits-requires : goal.write_digits-requires
write_digits-requires c = (length-decimal-le 6 c.args.number (lit< tt) (omega arith) (omega arith), lit≤ tt)

pub returns : goal.returns
returns c = padded-is _ c.write_digits.new.buf _ [] c.write_digits.result refl c.write_digits.ensures.start c.write_digits.ensures.written c.write_digits.ensures.before
