-- Nodes by the number of their tree and their place in it, in document order.
use Rattle.std.specs.List.Sorted.{IsStrictlySortedBy}
use Rattle.std.specs.Prelude.{List}
use Rattle.std.specs.declared.cmp.Ordering.{Ordering}
use Rattle.std.specs.Ordering.{ordering_then, nat_cmp}
use Rattle.xq_trees.specs.declared.items.Node.{Node}

-- document order (XDM 3.1, 2.4): trees stand by their numbers, the nodes of a tree by their places
abbrev pub document_order : Node → Node → Ordering
document_order first second = ordering_then (nat_cmp first.tree second.tree)
    (nat_cmp first.pre second.pre)

-- each node comes before those after it
abbrev pub AreRising : List Node → Type 0
AreRising ns = IsStrictlySortedBy document_order ns
