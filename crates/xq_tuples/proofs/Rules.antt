-- The orders by specifications are total.
use Rattle.std.proofs.Common.{List, [], ◌∷◌, Bool, true, false, refl}
use Rattle.std.specs.Prelude.{if◌then◌else◌}
use Rattle.std.specs.declared.cmp.Ordering.{Ordering}
use Rattle.std.specs.declared.cmp.Ordering.TheVariants.{Equal}
use Rattle.std.specs.Cmp.{IsTotalOrder, on_total, back_total, then_total, bool_cmp_total}
use Rattle.xq_trees.specs.Tuples.{OrderRule, is_nothing, placed_cmp, rule_cmp, first_key, later_keys, keys_cmp}
use Rattle.xq_atoms.proofs.KeyOrder.{key_cmp_total}

placed_total : (greatest : Bool) → IsTotalOrder (placed_cmp greatest)
placed_total false = key_cmp_total
placed_total true = then_total (on_total is_nothing bool_cmp_total) key_cmp_total

pub directed_total : {K : Type 0} (descending : Bool) {R : K → K → Ordering} → IsTotalOrder R → IsTotalOrder (λ j k. if descending then R k j else R j k)
directed_total true o = back_total o
directed_total false o = o

rule_total : (rule : OrderRule) → IsTotalOrder (rule_cmp rule)
rule_total rule = directed_total rule.descending (placed_total rule.greatest)

always_equal : {K : Type 0} → IsTotalOrder {K = K} (λ j k. Equal)
always_equal = record { antisymm = λ x y. refl; trans = λ x y z p q. p; congr = λ x y z p. refl }

pub keys_total : (rules : List OrderRule) → IsTotalOrder (keys_cmp rules)
keys_total [] = always_equal
keys_total (rule ∷ rules) = then_total (on_total first_key (rule_total rule)) (on_total later_keys (keys_total rules))
