use Rattle.std.proofs.Common.{◌≡◌, map}
use Rattle.xq_trees.specs.Items.{item_views}
use Rattle.xq_tuples.specs.Keys.{column_of}
use Rattle.xq_meaning.specs.Items.{atomized}
use Rattle.xq_operators.specs.Views.{tuple_at}
use Rattle.xq_operators.proofs.calls.all_into_atoms.Given as goal

abbrev pub invariant-loop-list : goal.invariant-loop-list
invariant-loop-list g l =
    let old = g.L.TreeSource.forest l.fn.source in
    let clean = g.L.TreeSource.is_clean l.source in
    record {
      keeps : g.L.TreeSource.forest l.source ≡ old;
      was_clean : clean → g.L.TreeSource.is_clean l.fn.source;
      value : clean → column_of l.atoms ≡ map (atomized old) (tuple_at old (map item_views l.yielded));
    }
