use Rattle.std.proofs.Common.{◌*◌, ap, sym, ◌∙◌, arith}
use Rattle.xq_tuples.specs.Keys.{by_tuple}
use Rattle.xq_tuples.specs.Views.{values_of}
use Rattle.xq_tuples.proofs.Laid.{narrow}
use Rattle.xq_tuples.proofs.streams.Tuples.of_slots.Goals as goal

pub invariant_of-result : goal.invariant_of-result
invariant_of-result c = record {
  long = c.requires.long ∙ ap (λ n. n * c.args.width) c.if-count-eq0.true ∙ omega arith;
  narrow = omega arith;
  few = c.requires.few;
}

pub returns-then-count-eq0 : goal.returns-then-count-eq0
returns-then-count-eq0 c =
    let slots = values_of c.args.slots.items in
    (λ i. by_tuple (c.if-count-eq0.true i) 0 slots) ∙ sym (λ i. by_tuple (c.if-count-eq0.true i) c.args.width slots)

pub invariant_of-result-2 : goal.invariant_of-result-2
invariant_of-result-2 c = record {
  long = c.requires.long;
  narrow = omega (arith, c.requires.long, narrow c.args.count c.args.width (omega (arith, c.if-count-eq0.false)));
  few = c.requires.few;
}
