use Rattle.std.proofs.Common.{rules}
use Rattle.std.specs.Prelude.{nat_lt}
use Rattle.std.proofs.lemmas.Fn.{always_returns_same}
use Rattle.xq_packed.specs.declared.shapes.Shape.{Shape}
use Rattle.xq_packed.proofs.Judging.{distinct-ascending}
use Rattle.xq_packed.proofs.judged.numbers_ascend.Goals as goal

pub returns : goal.returns
returns c = distinct-ascending c.args.shapes.now c.is_sorted_by.result (c.is_sorted_by.ensures.cases (λ (x y : Shape). nat_lt x.name y.name) (always_returns_same _ _ _ (λ a r f k. search rules)))
