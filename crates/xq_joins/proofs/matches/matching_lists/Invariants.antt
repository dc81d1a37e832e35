use Rattle.std.proofs.Common.{◌≡◌, ◌++◌, List, length, map, take}
use Rattle.std.specs.List.{AllByRecursion}
use Rattle.xq_trees.specs.declared.items.Node.{Node}
use Rattle.xq_trees.specs.Items.{Place}
use Rattle.xq_trees.specs.Rising.{AreRising}
use Rattle.xq_trees.specs.Tuples.{value_at}
use Rattle.xq_tuples.specs.Views.{values_of}
use Rattle.xq_meaning.specs.declared.joins.JoinKey.{JoinKey}
use Rattle.xq_operators.specs.Views.{lists_of, TupleIn, TuplesIn}
use Rattle.xq_joins.specs.private.JoinKeys.{IsTold}
use Rattle.xq_joins.specs.private.Tables.{IsTable, matched}
use Rattle.xq_joins.proofs.matches.matching_lists.Given as goal

abbrev pub invariant-loop-index : goal.invariant-loop-index
invariant-loop-index g l =
    let old = g.L.TreeSource.forest l.fn.source in
    let clean = g.L.TreeSource.is_clean l.source in
    let outside = values_of l.outside in
    let key = l.key in
    record {
      keeps : g.L.TreeSource.forest l.source ≡ old;
      was_clean : clean → g.L.TreeSource.is_clean l.fn.source;
      long : length l.lists.items ≡ l.index;
      told : clean → TupleIn old outside → TuplesIn old l.tuples → AllByRecursion (λ t. IsTold l.equality old key (value_at key.slot (outside ++ t))) (take l.index l.tuples);
      lists : clean → TupleIn old outside → TuplesIn old l.tuples → (item : JoinKey) (nodes : List Node) → AreRising nodes → IsTable l.equality old item nodes l.table
          → lists_of l.lists ≡ map (λ t. matched old item key (value_at key.slot (outside ++ t)) (map Place nodes)) (take l.index l.tuples);
    }
