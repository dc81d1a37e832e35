use Rattle.std.proofs.Common.{◌≡◌, ◌∙◌, to_z, of_z, w64, ap, sym, subst, rules}
use Rattle.std.proofs.lemmas.Int.{to_z-of_z}
use Rattle.xq_meaning.specs.Operators.{related_by}
use Rattle.xq_eval.specs.declared.positions.ByPosition.TheVariants.{Compared}
use Rattle.xq_eval.specs.private.Positions.{IsPositional}
use Rattle.xq_eval.proofs.PositionalPredicates.{position_first, position_second}
use Rattle.xq_eval.proofs.positions.compared.Goals as goal

pub returns-then-is_position : goal.returns-then-is_position
returns-then-is_position c = λ count all.
    let it = c.in_ok-asked.asked in
    let slots = c.args.slots.now in
    let p = c.args.predicate.now in
    let number = c.in_ok-number.number in
    let op = c.related_by.result in
    let last : to_z w64 (of_z w64 c.args.last) ≡ c.args.last = to_z-of_z w64 c.args.last c.ranges.last in
    let same : to_z w64 (of_z w64 number) ≡ number = search rules in
    let there = c.in_ok-number.ensures count (last ∙ all) in
    subst (λ n. IsPositional slots p count (Compared op n)) (sym same)
    (position_first slots it.relation it.left.now it.right.now p count op number c.in_ok-asked.ensures (c.is_position.ensures c.if-is_position.true) c.related_by.ensures there)

pub returns-then-is_position-2 : goal.returns-then-is_position-2
returns-then-is_position-2 c = λ count all.
    let it = c.in_ok-asked.asked in
    let slots = c.args.slots.now in
    let p = c.args.predicate.now in
    let number = c.in_ok-number-2.number in
    let op = c.related_by-then-is_position-2.result in
    let last : to_z w64 (of_z w64 c.args.last) ≡ c.args.last = to_z-of_z w64 c.args.last c.ranges.last in
    let same : to_z w64 (of_z w64 number) ≡ number = search rules in
    let there = c.in_ok-number-2.ensures count (last ∙ all) in
    subst (λ n. IsPositional slots p count (Compared op n)) (sym same)
    (position_second slots it.relation it.left.now it.right.now p count op number c.in_ok-asked.ensures (c.is_position-2.ensures c.if-is_position-2.true) (c.related_by-then-is_position-2.ensures ∙ ap related_by c.turned.ensures) there)
