use Rattle.std.proofs.Common.{arith}
use Rattle.xq_atoms.specs.Characters.{is_name_char}
use Rattle.xq_lexer.proofs.Cuts.{begins_at, run_short}
use Rattle.xq_lexer.proofs.names.name.Goals as goal

pub cut-requires-clause-short : goal.cut-requires-clause-short
cut-requires-clause-short c =
    let s = run_short is_name_char c.args.chars.now c.run.result.0.now c.run.result.1.now c.run.ensures in
    omega (arith, s, c.requires.short)

pub cut-requires-clause-spelled : goal.cut-requires-clause-spelled
cut-requires-clause-spelled c = begins_at is_name_char c.args.written.now c.args.place c.args.chars.now c.run.result.0.now c.run.result.1.now c.run.ensures c.requires.spelled
