use Rattle.std.proofs.Common.{◌≡◌, Bool, map, take}
use Rattle.std.specs.Prelude.{string_bytes}
use Rattle.std.specs.List.{list_any}
use Rattle.xq_trees.specs.declared.items.Node.{Node}
use Rattle.xq_joins.specs.private.Tables.{nodes_with}
use Rattle.xq_joins.proofs.keys.gathered.Given as goal

abbrev pub invariant-loop-text : goal.invariant-loop-text
invariant-loop-text l = (p : Node → Bool) → list_any p l.nodes.items
    ≡ list_any (λ text. list_any p (nodes_with l.table text)) (map string_bytes (take l.text-index l.texts))
