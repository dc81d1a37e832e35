use Rattle.std.proofs.Common.{ap, ◌∙◌, length, take, drop, arith, length-append}
use Rattle.std.specs.Prelude.{encode_utf8_all}
use Rattle.std.specs.Str.{chars}
use Rattle.xq_functions.proofs.PositionLemmas.{split_characters, front-boundary, front-is}
use Rattle.xq_functions.proofs.positions.before_characters.Goals as goal

pub overflow_sub-text : goal.overflow_sub-text
overflow_sub-text c =
    let parts = split_characters c.args.count c.args.text.now c.utf8.text in
    omega (arith, ap length parts, ap length c.after_characters-rest.ensures, length-append (encode_utf8_all (take c.args.count (chars c.args.text.now))) (encode_utf8_all (drop c.args.count (chars c.args.text.now))))

pub range-requires-clause-end_boundary : goal.range-requires-clause-end_boundary
range-requires-clause-end_boundary c = front-boundary c.args.count c.args.text.now c.after_characters-rest.result.now c.utf8.text c.after_characters-rest.utf8 c.after_characters-rest.ensures

pub returns : goal.returns
returns c = c.range.ensures.value ∙ front-is c.args.count c.args.text.now c.after_characters-rest.result.now c.utf8.text c.after_characters-rest.ensures
