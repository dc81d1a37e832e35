use Rattle.std.proofs.Common.{◌≡◌, map, drop}
use Rattle.xq_atoms.specs.Compare.{Nothing, key_of}
use Rattle.xq_trees.specs.Tuples.{keys_cmp}
use Rattle.xq_tuples.specs.Orders.{rule_of}
use Rattle.xq_tuples.specs.private.Ranks.{keys_at}
use Rattle.xq_tuples.proofs.order.compare.Given as goal

abbrev pub invariant-loop-index : goal.invariant-loop-index
invariant-loop-index l =
    let js = keys_at l.first l.columns in
    let ks = keys_at l.second l.columns in
    record {
      rest : keys_cmp (map rule_of (drop l.index l.specs)) (drop l.index js) (drop l.index ks) ≡ keys_cmp (map rule_of l.specs) js ks;
      empty : key_of l.empty ≡ Nothing;
    }
