use Rattle.std.proofs.Common.{refl, subst}
use Rattle.std.proofs.lemmas.Result.{IfOk-weaker}
use Rattle.std.specs.List.{AllByRecursion}
use Rattle.xq_optimise.specs.Sure.{SurelyKeeps}
use Rattle.xq_optimise.proofs.Splitting.{same_itself}
use Rattle.xq_optimise.proofs.comparisons.ordered.Goals as goal

pub returns-then-are_item_tests : goal.returns-then-are_item_tests
returns-then-are_item_tests c =
    let known = c.args.known.now in
    let sure = subst (AllByRecursion (SurelyKeeps known)) c.as_slice.ensures (c.if-are_item_tests.ensures refl) in
    IfOk-weaker c.equalities_first.result _ _ (λ found h. (h known sure).1) c.equalities_first.ensures

pub returns-else-are_item_tests : goal.returns-else-are_item_tests
returns-else-are_item_tests c = same_itself c.args.known.now c.args.predicates
