use Rattle.std.proofs.Common.{◌≡◌, ◌<◌, ◌++◌, ap, sym, subst, arith, length, ℕ, Option}
use Rattle.std.proofs.lemmas.List.{length-map}
use Rattle.std.specs.List.{AllByRecursion}
use Rattle.xq_tuples.specs.Views.{slot_items, values_of}
use Rattle.xq_trees.specs.Tuples.{value_at}
use Rattle.xq_eval.specs.private.Joining.{carried_at, first_tuple}
use Rattle.xq_eval.proofs.JoinLaws.{none_steady, outer_steady, same_steady}
use Rattle.xq_eval.proofs.pairs.is_steady.Goals as goal

pub returns-in_default : goal.returns-in_default
returns-in_default c = λ _.
    let outside = values_of c.args.outside.now in
    let tuples = c.args.tuples.now in
    subst (λ (o : Option ℕ). AllByRecursion (λ t. carried_at o (outside ++ t) ≡ carried_at o (outside ++ first_tuple tuples)) tuples) (sym c.in_default.is)
    (none_steady outside (outside ++ first_tuple tuples) tuples)

pub returns-then-slot-outside : goal.returns-then-slot-outside
returns-then-slot-outside c = λ _.
    let outside = values_of c.args.outside.now in
    let tuples = c.args.tuples.now in
    let slot = c.in-Some.slot in
    subst (λ (o : Option ℕ). AllByRecursion (λ t. carried_at o (outside ++ t) ≡ carried_at o (outside ++ first_tuple tuples)) tuples) (sym c.in-Some.is)
    (outer_steady slot outside (first_tuple tuples) tuples (omega (arith, length-map c.args.outside.now slot_items)))

pub returns : goal.returns
returns c = λ e.
    let outside = values_of c.args.outside.now in
    let tuples = c.args.tuples.now in
    let slot = c.in-Some.slot in
    subst (λ (o : Option ℕ). AllByRecursion (λ t. carried_at o (outside ++ t) ≡ carried_at o (outside ++ first_tuple tuples)) tuples) (sym c.in-Some.is)
    (same_steady slot outside (value_at slot (outside ++ first_tuple tuples)) tuples (c.hold_same_nodes.ensures e))
