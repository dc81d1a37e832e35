use Rattle.std.proofs.Common.{arith}
use Rattle.xq_lexer.proofs.StepLemmas.{passed_is}
use Rattle.xq_lexer.proofs.lexing.passed.Goals as goal

pub slice_bounds-bytes-count : goal.slice_bounds-bytes-count
slice_bounds-bytes-count c = (passed_is c.args.chars.now c.args.rest.now c.requires.suffix.0 c.requires.suffix.1).0

pub bytes-requires : goal.bytes-requires
bytes-requires c =
    let p = passed_is c.args.chars.now c.args.rest.now c.requires.suffix.0 c.requires.suffix.1 in
    omega (arith, p.1, c.requires.short)

pub returns : goal.returns
returns c =
    let p = passed_is c.args.chars.now c.args.rest.now c.requires.suffix.0 c.requires.suffix.1 in
    omega (arith, p.1, c.bytes.ensures)
