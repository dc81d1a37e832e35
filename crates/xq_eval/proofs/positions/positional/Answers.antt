use Rattle.std.proofs.Common.{◌≡◌, length, to_z, of_z, w64, pos, sym, subst, rules}
use Rattle.std.specs.Prelude.{IfSome}
use Rattle.xq_eval.specs.declared.positions.ByPosition.TheVariants.{At}
use Rattle.xq_eval.specs.private.Positions.{IsPositional}
use Rattle.xq_eval.proofs.positions.positional.Goals as goal

pub returns-in-Some : goal.returns-in-Some
returns-in-Some c =
    let count = length c.args.items.now in
    let number = c.in-Some.number in
    let all : to_z w64 count ≡ pos count = search rules in
    let same : to_z w64 (of_z w64 number) ≡ number = search rules in
    let there = subst (λ found. IfSome found (λ n. IsPositional c.args.slots.now c.args.predicate.now count (At n))) c.in-Some.is (c.integer_at_each.ensures count all) in
    subst (λ n. IsPositional c.args.slots.now c.args.predicate.now count (At n)) (sym same) there

pub returns-in-Some-compared : goal.returns-in-Some-compared
returns-in-Some-compared c =
    let count = length c.args.items.now in
    let all : to_z w64 count ≡ pos count = search rules in
    subst (λ found. IfSome found (λ value. IsPositional c.args.slots.now c.args.predicate.now count value)) c.in-Some-compared.is (c.compared.ensures count all)

pub returns : goal.returns
returns c =
    let all : to_z w64 (length c.args.items.now) ≡ pos (length c.args.items.now) = search rules in
    c.within.ensures (length c.args.items.now) all
