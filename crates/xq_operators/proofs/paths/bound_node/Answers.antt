use Rattle.std.proofs.lemmas.Option.{IfSome_then}
use Rattle.xq_operators.proofs.ShortPaths.{held_slot, held_context}
use Rattle.xq_operators.proofs.paths.bound_node.Goals as goal

pub returns-in-Slot : goal.returns-in-Slot
returns-in-Slot c =
    let frame = c.args.frame in
    let number = c.in-Slot.number in
    IfSome_then c.node_in.result c.node_in.ensures (λ node one. held_slot frame c.args.plan.now number node c.in-Slot.is one)

pub returns-in-Some : goal.returns-in-Some
returns-in-Some c =
    let frame = c.args.frame in
    let focus = c.in-Some.focus in
    IfSome_then c.as_node.result c.as_node.ensures (λ node one. held_context frame c.args.plan.now focus node c.in-ContextItem.is c.in-Some.is one)
