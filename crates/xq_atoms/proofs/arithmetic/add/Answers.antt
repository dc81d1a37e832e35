use Rattle.std.proofs.Common.{rules, arith, ◌≡◌, ◌+ℤ◌, ap, ◌∙◌, sym, w64, FitsSigned, to_z, of_z}
use mir.Syntax.{w128}
use Rattle.std.proofs.lemmas.Int.{ints}
use Rattle.xq_atoms.specs.Atom as Atomic
use Rattle.xq_atoms.proofs.OperandsLemmas.{arithmetic-Integers, arithmetic-Decimals}
use Rattle.xq_atoms.proofs.arithmetic.add.Goals as goal

pub returns-in-Integers : goal.returns-in-Integers
returns-in-Integers c =
    let left : FitsSigned w64 c.in-Integers.left = search rules in
    let right : FitsSigned w64 c.in-Integers.right = search rules in
    let value : to_z w128 (of_z w128 (to_z w128 (of_z w128 c.from.result) +ℤ to_z w128 (of_z w128 c.from-in-Integers.result))) ≡ c.in-Integers.left +ℤ c.in-Integers.right = omega (arith, ints) in
    c.integer.ensures ∙ ap Atomic.integer value ∙ sym (arithmetic-Integers _ _ _ _ _ _ _ c.in_ok-left.ensures c.in-Integers.is)

pub returns-in-Decimals : goal.returns-in-Decimals
returns-in-Decimals c =
    let value : to_z w128 (of_z w128 (to_z w128 (of_z w128 c.millionths.result) +ℤ to_z w128 (of_z w128 c.millionths-in-Decimals.result))) ≡ c.in-Decimals.left +ℤ c.in-Decimals.right = omega (arith, ints) in
    c.decimal.ensures ∙ ap Atomic.decimal value ∙ sym (arithmetic-Decimals _ _ _ _ _ _ _ c.in_ok-left.ensures c.in-Decimals.is)
