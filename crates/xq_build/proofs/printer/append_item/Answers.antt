use Rattle.xq_build.proofs.Counted.{nothing_read, row_read, node_read}
use Rattle.xq_build.proofs.printer.append_item.Goals as goal

pub returns-in-Atom-clause-reads : goal.returns-in-Atom-clause-reads
returns-in-Atom-clause-reads g c = λ h. nothing_read _ _ _

pub returns-in_err-root-in-Node-clause-reads : goal.returns-in_err-root-in-Node-clause-reads
returns-in_err-root-in-Node-clause-reads g c = λ h.
    row_read (g.L.TreeSource.forest c.args.source.now) c.args.item.now c.in-Node.node _ _ c.in-Node.is c.row_of_node.ensures.rows c.row_of_node.ensures.singles

pub returns-in_ok-root-in-Node-clause-reads : goal.returns-in_ok-root-in-Node-clause-reads
returns-in_ok-root-in-Node-clause-reads g c = λ h.
    node_read (g.L.TreeSource.forest c.args.source.now) c.args.item.now c.in-Node.node c.in_ok-root-in-Node.root _ (g.L.TreeSource.meter c.row_of_node.new.source) _ c.in-Node.is
    (c.in_ok-root-in-Node.ensures.found (c.append_node.ensures.was_clean h)) c.row_of_node.ensures.rows c.row_of_node.ensures.singles (c.append_node.ensures.rows h) c.append_node.ensures.singles
