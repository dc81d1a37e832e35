-- The text of a node that has one row below it.
use Rattle.std.proofs.Common.{◌≡◌, ℕ, ◌+◌, ◌<◌, min, List, [], ◌∷◌, ◌++◌, length, true, sym, ◌∙◌, ap, subst, arith}
use Rattle.std.proofs.lemmas.List.{append-nil}
use Rattle.xq_trees.specs.declared.Kind.TheVariants.{Text}
use Rattle.xq_sources.specs.declared.lent.LentRow.{LentRow}
use Rattle.xq_sources.specs.Lent.{placed_lent, row_lent}
use Rattle.xq_trees.specs.declared.items.Node.{Node as Spot}
use Rattle.xq_trees.specs.Forest.{count}
use Rattle.xq_trees.specs.Node.{below_at}
use Rattle.xq_trees.specs.Order.{path_at}
use Rattle.xq_trees.specs.Rows.{Row, row_at, rows}
use Rattle.xq_trees.specs.Tree.{Tree, IsTree, nodes}
use Rattle.xq_trees.specs.Value.{text_of, texts, string_value}
use Rattle.xq_trees.proofs.Encoding.{length-rows}
use Rattle.xq_sources.specs.Sources.{tree_at, HasNode}
use Rattle.xq_meaning.specs.Items.{tree_below}
use Rattle.xq_meaning.specs.Readings.{node_at}
use Rattle.xq_axes.specs.Reads.{rows_to, joined_texts, IsSized, is_parent}
use Rattle.xq_axes.proofs.Below.{joined_texts-measured}
use Rattle.xq_axes.proofs.Runs.{rows_to-more}
use Rattle.xq_axes.proofs.Sizes.{node_of, rows_below, rows_to-none, parent_value, size_read}

one_text : (t : Tree) (v : ℕ) (row : Row) → IsSized t v 1 → row ≡ row_at (rows t) (v + 1) → text_of row.label.kind row.label.value ≡ texts (below_at (nodes t) (path_at (nodes t) v))
one_text t v row sized is =
    let d = node_of t v sized.is_there in
    let within : v + 1 < count (nodes t) = (let e = d.ends in let s = sized.size in omega (arith, e, s)) in
    let one = rows_to-more (rows t) (v + 1) (v + 1) (omega arith) (omega (arith, within, length-rows t)) in
    let lone : rows_to (rows t) (v + 1) (v + 1 + 1) ≡ row ∷ [] = one ∙ ap (λ l. l ++ row_at (rows t) (v + 1) ∷ []) (rows_to-none t (v + 1)) ∙ ap (λ r. r ∷ []) (sym is) in
    sym (append-nil (text_of row.label.kind row.label.value))
    ∙ ap joined_texts (sym lone)
    ∙ ap joined_texts (rows_below t v 1 sized.is_there sized.size)
    ∙ joined_texts-measured (length (path_at (nodes t) v)) (below_at (nodes t) (path_at (nodes t) v))

pub lone_value : (trees : List Tree) (node : Spot) (x y : LentRow) (place : ℕ) → HasNode trees node.tree node.pre → placed_lent x ≡ (node.pre, row_at (rows (tree_at trees node.tree)) node.pre) → IsTree (tree_at trees node.tree)
    → is_parent x.kind ≡ true → x.size ≡ 1 → place ≡ min (node.pre + 1) 4294967295 → placed_lent y ≡ (place, row_at (rows (tree_at trees node.tree)) place) → y.kind ≡ Text
    → y.texts.value ≡ string_value (tree_below trees (node_at trees node))
lone_value trees node x y place there read is_tree parent one low below text =
    let t = tree_at trees node.tree in
    let sized = subst (IsSized t node.pre) one (size_read trees node x there read is_tree) in
    let at : place ≡ node.pre + 1 = (let d = (node_of t node.pre sized.is_there).ends in let r = is_tree.room in let s = sized.size in omega (arith, d, r, s, low)) in
    let row : row_lent y ≡ row_at (rows t) (node.pre + 1) = ap (λ (p : ℕ × Row). p.1) below ∙ ap (row_at (rows t)) at in
    parent_value trees node x there read y.texts.value parent
    (ap (λ k. text_of k y.texts.value) (sym text) ∙ one_text t node.pre (row_lent y) sized row)
