use Rattle.std.proofs.Common.{◌≡◌, ◌∷◌, [], arith}
use Rattle.std.proofs.lemmas.Grind.{common_steps}
use Rattle.xq_trees.specs.declared.items.Item.TheVariants.{Node as NodeItem}
use Rattle.xq_queries.proofs.Asked.{one_copied}
use Rattle.xq_queries.proofs.asking.document_of.Goals as goal

pub returns-in_ok-tree-in-Node-clause-reads : goal.returns-in_ok-tree-in-Node-clause-reads
returns-in_ok-tree-in-Node-clause-reads g c = λ clean.
    (let is : c.args.items.now ≡ NodeItem c.in-Node.node ∷ [] = grind (arith, common_steps) in
    one_copied (g.L.TreeSource.forest c.args.source.now) c.args.items.now c.in-Node.node _ _ _ is (c.copy.ensures.rows clean) c.copy.ensures.singles (grind (arith, common_steps)))

pub returns-in_err-tree-in-Node-clause-reads : goal.returns-in_err-tree-in-Node-clause-reads
returns-in_err-tree-in-Node-clause-reads g c = λ clean.
    (let is : c.args.items.now ≡ NodeItem c.in-Node.node ∷ [] = grind (arith, common_steps) in
    one_copied (g.L.TreeSource.forest c.args.source.now) c.args.items.now c.in-Node.node _ _ _ is (c.copy.ensures.rows clean) c.copy.ensures.singles (grind (arith, common_steps)))
