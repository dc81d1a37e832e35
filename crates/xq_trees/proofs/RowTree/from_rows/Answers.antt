use Rattle.std.proofs.Common.{◌≡◌, map, length, sym, ◌∙◌, ap, subst}
use Rattle.std.specs.Vec.{with_items}
use Rattle.std.proofs.lemmas.List.{with_items_is}
use Rattle.xq_trees.specs.Rows.{Encodes, row_of, tree_of}
use Rattle.xq_trees.specs.Rows.{IsEncoding}
use Rattle.xq_trees.proofs.Encoding.{Encodes-tree_of}
use Rattle.xq_trees.proofs.RowTree.from_rows.Goals as goal

kept : (c : goal.Then-is_encoding) → (with_items c.args.rows c.is_encoding.new.rows).items ≡ c.args.rows.items
kept c = with_items_is c.args.rows c.is_encoding.new.rows (ap length c.is_encoding.ensures.kept ∙ ap length c.deref_mut.ensures.value ∙ sym c.args.rows.ok.0)
    ∙ c.is_encoding.ensures.kept ∙ c.deref_mut.ensures.value

encoded : (c : goal.Then-is_encoding) → Encodes c.args.rows.items (tree_of (map row_of c.args.rows.items))
encoded c = Encodes-tree_of c.args.rows.items (subst IsEncoding c.deref_mut.ensures.value (c.is_encoding.ensures.encodes.0 c.if-is_encoding.true))

pub invariant_of-result : goal.invariant_of-result
invariant_of-result c = subst (λ xs. Encodes xs (tree_of (map row_of xs))) (sym (kept c)) (encoded c)

pub returns-then-is_encoding-clause-ok : goal.returns-then-is_encoding-clause-ok
returns-then-is_encoding-clause-ok c = subst (λ xs. Encodes c.args.rows.items (tree_of (map row_of xs))) (sym (kept c)) (encoded c)

pub returns-else-is_encoding-clause-back : goal.returns-else-is_encoding-clause-back
returns-else-is_encoding-clause-back c =
    with_items_is c.args.rows c.is_encoding.new.rows (ap length c.is_encoding.ensures.kept ∙ ap length c.deref_mut.ensures.value ∙ sym c.args.rows.ok.0)
    ∙ c.is_encoding.ensures.kept ∙ c.deref_mut.ensures.value
