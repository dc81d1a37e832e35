use Rattle.std.proofs.Common.{rules, ◌≡◌, ◌++◌, map, ap, ◌∙◌}
use Rattle.xq_atoms.specs.declared.refusals.Want.TheVariants.{Memory}
use Rattle.xq_trees.specs.Rows.{row_of, rows}
use Rattle.xq_packed.proofs.Trees.{packs-tree_of, tree-of, low-rows}
use Rattle.xq_packed.proofs.packed_tree.PackedTree.of.Goals as goal
use Rattle.xq_packed.proofs.packed_tree.PackedTree.of.Goals.{In_ok-extend}

pub returns-in_err-extend-clause-want : goal.returns-in_err-extend-clause-want
returns-in_err-extend-clause-want c =
    let memory : c.in_err-extend.field-0.0 ≡ Memory = c.in_err-extend.ensures.want (low-rows c.rows.result.now c.args.fragment.now c.rows.ensures) in
    search (rules, memory)

its_rows : (c : In_ok-extend) → c.extend.new.self.rows ≡ rows c.args.fragment.now
its_rows c =
    c.in_ok-extend.ensures.all.rows ∙ ap (λ rs. rs ++ map row_of c.rows.result.now) c.new-rows.ensures.rows ∙ c.rows.ensures.rows

pub invariant_of-result : goal.invariant_of-result
invariant_of-result c =
    packs-tree_of c.extend.new.self c.args.fragment.now (record { is_tree = c.rows.ensures.is_tree; rows = its_rows c })

pub returns-clause-tree : goal.returns-clause-tree
returns-clause-tree c = tree-of c.extend.new.self c.args.fragment.now (its_rows c)
