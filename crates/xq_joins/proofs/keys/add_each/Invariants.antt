use Rattle.std.proofs.Common.{◌≡◌, ◌&&◌, ◌||◌, Bool, map}
use Rattle.std.specs.Prelude.{string_bytes}
use Rattle.std.specs.List.{list_any}
use Rattle.xq_atoms.specs.Text.{Text, text_eq}
use Rattle.xq_trees.specs.declared.items.Node.{Node}
use Rattle.xq_joins.specs.private.Tables.{nodes_with}
use Rattle.xq_joins.proofs.keys.add_each.Given as goal

abbrev pub invariant-loop-text : goal.invariant-loop-text
invariant-loop-text l = (q : Text) (p : Node → Bool) → list_any p (nodes_with l.table q)
    ≡ (list_any p (nodes_with l.fn.table q) || (p l.node && list_any (text_eq q) (map string_bytes l.yielded)))
