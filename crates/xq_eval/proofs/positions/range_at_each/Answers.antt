use Rattle.std.proofs.Common.{◌≡◌, ◌≤◌, ◌∙◌, to_z, of_z, w64, sym, subst, rules}
use Rattle.std.specs.Prelude.{ℤ}
use Rattle.std.proofs.lemmas.Int.{to_z-of_z}
use Rattle.xq_meaning.specs.Operators.{how_many, most_integers}
use Rattle.xq_eval.specs.private.Positions.{GivesRange}
use Rattle.xq_eval.proofs.PositionRanges.{range_there}
use Rattle.xq_eval.proofs.positions.range_at_each.Goals as goal

abbrev IsShort : ℤ → ℤ → Type 0
IsShort m n = how_many m n ≤ most_integers

pub returns-then-is_allowed : goal.returns-then-is_allowed
returns-then-is_allowed c = λ count all.
    let it = c.in_ok-bounds.bounds in
    let slots = c.args.slots.now in
    let p = c.args.plan.now in
    let from = c.in_ok-from.from in
    let to = c.in_ok-to.to in
    let last : to_z w64 (of_z w64 c.args.last) ≡ c.args.last = to_z-of_z w64 c.args.last c.ranges.last in
    let same : to_z w64 (of_z w64 from) ≡ from = search rules in
    let same' : to_z w64 (of_z w64 to) ≡ to = search rules in
    let few = subst (λ m. IsShort m (to_z w64 (of_z w64 to))) same (c.is_allowed.ensures c.if-is_allowed.true) in
    let given = range_there slots p it.left.now it.right.now count from to c.in_ok-bounds.ensures (c.in_ok-from.ensures count (last ∙ all)) (c.in_ok-to.ensures count (last ∙ all)) (subst (IsShort from) same' few) in
    subst (λ m. GivesRange slots p count m (to_z w64 (of_z w64 to))) (sym same) (subst (GivesRange slots p count from) (sym same') given)
