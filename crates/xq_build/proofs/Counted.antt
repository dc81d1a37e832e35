-- What a meter shows after rows were read.
use Rattle.std.specs.Prelude.{sum_by}
use Rattle.std.proofs.Common.{◌≡◌, ℕ, ◌+◌, ◌-◌, ◌<◌, ◌≤◌, ◌^◌, min, List, ◌∷◌, length, get_or, drop, map, sym, ◌∙◌, ap, subst, arith}
use Rattle.std.proofs.lemmas.List.{drop_more}
use Rattle.std.proofs.lemmas.List.Sums.{sum_by-cons}
use Rattle.xq_trees.specs.Forest.{count}
use Rattle.xq_trees.specs.Tree.{Tree, nodes}
use Rattle.xq_trees.specs.Order.{place_of, path_at}
use Rattle.xq_trees.specs.Rows.{Row, row_at, rows}
use Rattle.xq_trees.specs.Items.{item_view}
use Rattle.xq_trees.specs.declared.NodeRow.{NodeRow}
use Rattle.xq_trees.specs.declared.items.Node.{Node as Spot}
use Rattle.xq_trees.specs.declared.items.Item.{Item as Held}
use Rattle.xq_trees.specs.declared.items.Item.TheVariants.{Node as NodeItem}
use Rattle.xq_trees.proofs.Paths.{at_place}
use Rattle.xq_trees.proofs.Regions.{row_at-place_of}
use Rattle.xq_sources.specs.Lenders.{IsRun}
use Rattle.xq_sources.specs.Meters.{Readings, with_rows}
use Rattle.xq_sources.specs.Sources.{rows_between, tree_at}
use Rattle.xq_meaning.specs.Items.{Item, tree_below}
use Rattle.xq_meaning.specs.Readings.{item_at, items_at, node_at}
use Rattle.xq_build.specs.Reads.{ReadsAtMost, ReadsItems, rows_below, own_rows}
use Rattle.xq_build.specs.private.Leaves.{IsRowOf}
use Rattle.xq_build.specs.private.Printing.{ReadsItem}
use Rattle.xq_build.proofs.Subtrees.{run_splits}

-- # Runs

-- the rows of a run are counted, and no row after the last place is
pub run_counted : (t : Tree) (low high : ℕ) (run lent : List (ℕ × Row)) (before after : Readings) → IsRun (rows_between t low high) run
    → run ≡ lent → after ≡ with_rows before (length lent) → after.rows + (high + 1 - (low + length run)) ≤ before.rows + (high + 1 - low)
run_counted t low high run lent before after h is e =
    let fits = (run_splits t low high run h).fits in
    let n : length lent ≡ length run = sym (ap length is) in
    let r : after.rows ≡ min (before.rows + length lent) (2 ^ 64 - 1) = ap (λ (m : Readings). m.rows) e in
    omega (arith, fits, n, r)

-- # Items

-- as many rows are below a node as its row says
pub size_below : (trees : List Tree) (n : Spot) (row : NodeRow) → IsRowOf trees n row → row.size ≡ count (tree_below trees (node_at trees n)).below
size_below trees n row is =
    let f = nodes (tree_at trees n.tree) in
    let p = path_at f n.pre in
    let a = at_place f n.pre is.has_node.node_in in
    let d = row_at-place_of 0 f p a.exists in
    let at : row_at (rows (tree_at trees n.tree)) n.pre ≡ row_at (rows (tree_at trees n.tree)) (place_of f p) = ap (row_at (rows (tree_at trees n.tree))) (sym a.place) in
    ap (λ (r : Row). r.size) (is.is_row ∙ at) ∙ d.size

pub nothing_read : (m : Readings) (ranged single : ℕ) → ReadsAtMost m m ranged single
nothing_read m ranged single = record { rows = omega arith; singles = omega arith }

-- the row of a node, and then the rows below it
pub node_read : (trees : List Tree) (x : Held) (n : Spot) (row : NodeRow) (before mid after : Readings) → x ≡ NodeItem n → IsRowOf trees n row
    → mid.rows ≡ before.rows → mid.singles ≤ before.singles + 1 → after.rows ≤ mid.rows + row.size → after.singles ≡ mid.singles
    → ReadsItem trees (item_at trees (item_view x)) before after
node_read trees x n row before mid after is r rows single ranged none =
    let size = size_below trees n row r in
    subst (λ (y : Held). ReadsItem trees (item_at trees (item_view y)) before after) (sym is)
    (record { rows = omega (arith, rows, ranged, size); singles = omega (arith, single, none) })

-- the row of a node alone
pub row_read : (trees : List Tree) (x : Held) (n : Spot) (before after : Readings) → x ≡ NodeItem n → after.rows ≡ before.rows → after.singles ≤ before.singles + 1
    → ReadsItem trees (item_at trees (item_view x)) before after
row_read trees x n before after is rows single =
    subst (λ (y : Held). ReadsItem trees (item_at trees (item_view y)) before after) (sym is)
    (record { rows = omega (arith, rows); singles = omega (arith, single) })

-- an item, and those after it
pub sum_from : (f : Item → ℕ) (trees : List Tree) (items : List Held) (i : ℕ) (x : Held) → i < length items → x ≡ get_or items i x
    → sum_by f (items_at trees (map item_view (drop i items))) ≡ f (item_at trees (item_view x)) + sum_by f (items_at trees (map item_view (drop (i + 1) items)))
sum_from f trees items i x h is =
    ap (λ (ys : List Held). sum_by f (items_at trees (map item_view ys))) (drop_more items i x h ∙ ap (λ (y : Held). y ∷ drop (i + 1) items) (sym is))
    ∙ sum_by-cons f (item_at trees (item_view x)) (items_at trees (map item_view (drop (i + 1) items)))

-- what was read so far, and what may still be read for the items from one on, is within this
pub record Within (trees : List Tree) (items : List Held) (i : ℕ) (now : Readings) (ranged single : ℕ) : Type 0 where
  pub rows : now.rows + sum_by (rows_below trees) (items_at trees (map item_view (drop i items))) ≤ ranged
  pub singles : now.singles + sum_by own_rows (items_at trees (map item_view (drop i items))) ≤ single

pub within_from : (trees : List Tree) (items : List Held) (now : Readings)
    → Within trees items 0 now (now.rows + sum_by (rows_below trees) (items_at trees (map item_view items))) (now.singles + sum_by own_rows (items_at trees (map item_view items)))
within_from trees items now = record { rows = omega arith; singles = omega arith }

pub within_next : (trees same : List Tree) (items : List Held) (i : ℕ) (x : Held) (before after : Readings) (ranged single : ℕ) → same ≡ trees → i < length items → x ≡ get_or items i x
    → Within trees items i before ranged single → ReadsItem same (item_at same (item_view x)) before after → Within trees items (i + 1) after ranged single
within_next trees same items i x before after ranged single e h is w r =
    let here : ReadsItem trees (item_at trees (item_view x)) before after = subst (λ (ts : List Tree). ReadsItem ts (item_at ts (item_view x)) before after) e r in
    let a = sum_from (rows_below trees) trees items i x h is in
    let b = sum_from own_rows trees items i x h is in
    record { rows = omega (arith, a, w.rows, here.rows); singles = omega (arith, b, w.singles, here.singles) }

pub within_read : (trees : List Tree) (items : List Held) (i : ℕ) (before after : Readings)
    → Within trees items i after (before.rows + sum_by (rows_below trees) (items_at trees (map item_view items))) (before.singles + sum_by own_rows (items_at trees (map item_view items)))
    → ReadsItems trees (items_at trees (map item_view items)) before after
within_read trees items i before after w = record { rows = omega (arith, w.rows); singles = omega (arith, w.singles) }

-- the first item, and then the others
pub others_read : (trees now : List Tree) (items others : List Held) (x : Held) (before mid after : Readings) → now ≡ trees → items ≡ x ∷ others
    → ReadsItem trees (item_at trees (item_view x)) before mid → ReadsItems now (items_at now (map item_view others)) mid after
    → ReadsItems trees (items_at trees (map item_view items)) before after
others_read trees now items others x before mid after e is first r =
    let rest : ReadsItems trees (items_at trees (map item_view others)) mid after = subst (λ (ts : List Tree). ReadsItems ts (items_at ts (map item_view others)) mid after) e r in
    let a = sum_by-cons (rows_below trees) (item_at trees (item_view x)) (items_at trees (map item_view others)) in
    let b = sum_by-cons own_rows (item_at trees (item_view x)) (items_at trees (map item_view others)) in
    subst (λ (ys : List Held). ReadsItems trees (items_at trees (map item_view ys)) before after) (sym is)
    (record { rows = omega (arith, a, first.rows, rest.rows); singles = omega (arith, b, first.singles, rest.singles) })

-- the first item alone, where what comes after it is refused
pub first_read : (trees : List Tree) (items others : List Held) (x : Held) (before after : Readings) → items ≡ x ∷ others
    → ReadsItem trees (item_at trees (item_view x)) before after → ReadsItems trees (items_at trees (map item_view items)) before after
first_read trees items others x before after is first =
    let a = sum_by-cons (rows_below trees) (item_at trees (item_view x)) (items_at trees (map item_view others)) in
    let b = sum_by-cons own_rows (item_at trees (item_view x)) (items_at trees (map item_view others)) in
    subst (λ (ys : List Held). ReadsItems trees (items_at trees (map item_view ys)) before after) (sym is)
    (record { rows = omega (arith, a, first.rows); singles = omega (arith, b, first.singles) })
