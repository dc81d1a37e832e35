-- The rows of a node and of all that is below it.
use Rattle.std.proofs.Common.{◌≡◌, ℕ, zero, suc, ◌+◌, ◌-◌, ◌<◌, ◌≤◌, List, [], ◌∷◌, ◌++◌, length, take, drop, map, refl, sym, ◌∙◌, ap, subst, arith, append_assoc}
use Rattle.std.specs.List.{enumerate_from}
use Rattle.std.proofs.lemmas.List.{append-nil, map-append, length-append, length-take, take-append-drop, drop-take, drop-drop, drop-append-le, drop_at, take_at, take-map, drop-map, nil_from_length}
use Rattle.xq_trees.specs.Forest.{Forest, end, node, count}
use Rattle.xq_trees.specs.Tree.{Label, Tree, nodes, no_label}
use Rattle.xq_trees.specs.Node.{HasPath, label_at, below_at}
use Rattle.xq_trees.specs.Order.{place_of, path_at}
use Rattle.xq_trees.specs.Rows.{Row, rows, row_at, row_of, placed_rows}
use Rattle.xq_trees.specs.Levels.{flat}
use Rattle.xq_trees.specs.declared.NodeRow.{NodeRow}
use Rattle.xq_trees.specs.declared.Kind.{Kind}
use Rattle.xq_trees.specs.declared.Kind.TheVariants.{Document, Element, Attribute, Text, Comment, ProcessingInstruction}
use Rattle.xq_trees.specs.declared.items.Node.{Node}
use Rattle.xq_trees.proofs.Printed.{leveled, flat-measured}
use Rattle.xq_trees.proofs.Paths.{place_lt, at_place}
use Rattle.xq_trees.proofs.Regions.{row_at-place_of}
use Rattle.xq_sources.specs.Lent.{unplaced}
use Rattle.xq_sources.specs.Sources.{rows_between, tree_at}
use Rattle.xq_sources.specs.Lenders.{IsRun}
use Rattle.xq_sources.proofs.Intervals.{between-places}
use Rattle.xq_meaning.specs.Items.{tree_below}
use Rattle.xq_meaning.specs.Readings.{node_at}
use Rattle.xq_meaning.specs.Content.{copied}
use Rattle.xq_packed.specs.Changes.{moved}
use Rattle.xq_build.specs.declared.node_copies.NodeShape.{NodeShape}
use Rattle.xq_build.specs.private.Leaves.{Leaf, leaf, leaves, lowered, leaves_between, IsRowOf, IsShapeOf}

-- # Parts of the rows of a tree

leaves-enumerate : (n : ℕ) (rs : List Row) → map leaf (enumerate_from n rs) ≡ map flat rs
leaves-enumerate n [] = refl
leaves-enumerate n (r ∷ rs) = ap (λ l. flat r ∷ l) (leaves-enumerate (n + 1) rs)

-- the rows from a place on, so many of them
part : (t : Tree) (low high : ℕ) → rows_between t low high ≡ take (high + 1 - low) (drop low (placed_rows t))
part t low high = between-places low 0 low high (rows t) (let z : low ≡ 0 + low = omega arith in z)

part_leaves : (t : Tree) (low high : ℕ) → leaves_between t low high ≡ take (high + 1 - low) (drop low (leveled 0 (nodes t)))
part_leaves t low high =
    ap (map leaf) (part t low high) ∙ sym (take-map leaf (high + 1 - low) (drop low (placed_rows t)))
    ∙ ap (take (high + 1 - low)) (sym (drop-map leaf low (placed_rows t)) ∙ ap (drop low) (leaves-enumerate 0 (rows t) ∙ flat-measured 0 (nodes t)))

-- past the last place there are none
pub none_left : (t : Tree) (low high : ℕ) → high < low → leaves_between t low high ≡ []
none_left t low high h =
    let z : high + 1 - low ≡ 0 = omega arith in
    part_leaves t low high ∙ ap (λ n. take n (drop low (leveled 0 (nodes t)))) z

-- an empty run is lent where there are none
pub none_lent : (t : Tree) (low high : ℕ) (run : List (ℕ × Row)) → IsRun (rows_between t low high) run → run ≡ [] → leaves_between t low high ≡ []
none_lent t low high run is e =
    ap (map leaf) (nil_from_length (rows_between t low high) (none (length (rows_between t low high)) (λ h. (let s = is.some h in let n = ap length e in omega (arith, s, n)))))
  where
    none : (n : ℕ) → (0 < n → ⊥) → n ≡ 0
    none zero h = refl
    none (suc n) h = absurd (h (omega arith))

-- what was lent is a run of the tree as it was before the call
pub lent_run : (trees now : List Tree) (tree low high : ℕ) (run lent : List (ℕ × Row)) → now ≡ trees → run ≡ lent
    → IsRun (rows_between (tree_at now tree) low high) lent → IsRun (rows_between (tree_at trees tree) low high) run
lent_run trees now tree low high run lent same is h =
    subst (λ (ts : List Tree). IsRun (rows_between (tree_at ts tree) low high) run) same
    (subst (IsRun (rows_between (tree_at now tree) low high)) (sym is) h)

-- a run, and the rows after it
pub record Splits (t : Tree) (low high : ℕ) (run : List (ℕ × Row)) : Type 0 where
  pub fits : length run ≤ high + 1 - low
  pub is : leaves_between t low high ≡ map leaf run ++ leaves_between t (low + length run) high

pub run_splits : (t : Tree) (low high : ℕ) (run : List (ℕ × Row)) → IsRun (rows_between t low high) run → Splits t low high run
run_splits t low high run is =
    let all = leveled 0 (nodes t) in
    let k = length run in
    let m = high + 1 - low in
    let le : k ≤ m = omega (arith, ap length is.first, length-take k (rows_between t low high), ap length (part t low high), length-take m (drop low (placed_rows t))) in
    let front : map leaf run ≡ take k (leaves_between t low high) = ap (map leaf) is.first ∙ sym (take-map leaf k (rows_between t low high)) in
    let c : m ≡ k + (m - k) = omega arith in
    let c' : m - k ≡ high + 1 - (low + k) = omega arith in
    let rest : drop k (leaves_between t low high) ≡ leaves_between t (low + k) high =
    ap (drop k) (part_leaves t low high ∙ ap (λ i. take i (drop low all)) c) ∙ drop-take k (m - k) (drop low all)
    ∙ ap (take (m - k)) (drop-drop k low all) ∙ ap (λ i. take i (drop (low + k) all)) c' ∙ sym (part_leaves t (low + k) high) in
    record {
      fits = le;
      is = sym (take-append-drop k (leaves_between t low high)) ∙ ap (λ l. l ++ drop k (leaves_between t low high)) (sym front) ∙ ap (λ l. map leaf run ++ l) rest;
    }

-- one run further
pub run_next : (t : Tree) (low high base : ℕ) (run : List (ℕ × Row)) (next : ℕ) (copies copies' whole : List Leaf)
    → IsRun (rows_between t low high) run
    → next ≡ low + length run
    → copies' ≡ copies ++ map (lowered base) (map leaf run)
    → copies ++ map (lowered base) (leaves_between t low high) ≡ whole
    → copies' ++ map (lowered base) (leaves_between t next high) ≡ whole
run_next t low high base run next copies copies' whole is n e h =
    let s = (run_splits t low high run is).is in
    let rest = map (lowered base) (leaves_between t (low + length run) high) in
    ap (λ l. l ++ map (lowered base) (leaves_between t next high)) e
    ∙ ap (λ i. (copies ++ map (lowered base) (map leaf run)) ++ map (lowered base) (leaves_between t i high)) n
    ∙ append_assoc copies (map (lowered base) (map leaf run)) rest
    ∙ ap (λ l. copies ++ l) (sym (map-append (lowered base) (map leaf run) (leaves_between t (low + length run) high)) ∙ ap (map (lowered base)) (sym s))
    ∙ h

-- # A node and what is below it

pub length-leveled : (l : ℕ) (f : Forest Label) → length (leveled l f) ≡ count f
length-leveled l end = refl
length-leveled l (node a below beside) = omega (arith, length-append (leveled (suc l) below) (leveled l beside), length-leveled (suc l) below, length-leveled l beside)

pub lowered-leveled : (base k : ℕ) (f : Forest Label) → map (lowered base) (leveled (base + k) f) ≡ leveled k f
lowered-leveled base k end = refl
lowered-leveled base k (node a below beside) =
    let n : base + k - base ≡ k = omega arith in
    let s : suc (base + k) ≡ base + suc k = omega arith in
    let e : map (lowered base) (leveled (suc (base + k)) below ++ leveled (base + k) beside) ≡ leveled (suc k) below ++ leveled k beside =
    map-append (lowered base) (leveled (suc (base + k)) below) (leveled (base + k) beside)
    ∙ ap (λ l. l ++ map (lowered base) (leveled (base + k) beside)) (ap (λ i. map (lowered base) (leveled i below)) s ∙ lowered-leveled base (suc k) below)
    ∙ ap (λ l. leveled (suc k) below ++ l) (lowered-leveled base k beside) in
    ap (λ i. (i, a) ∷ map (lowered base) (leveled (suc (base + k)) below ++ leveled (base + k) beside)) n ∙ ap (λ l. (k, a) ∷ l) e

-- the leaves from the node at a path on
record From (l : ℕ) (f : Forest Label) (p : List ℕ) : Type 0 where
  level : ℕ
  rest : List Leaf
  is_level : suc level ≡ l + length p
  is : drop (place_of f p) (leveled l f) ≡ (level, label_at no_label f p) ∷ leveled (suc level) (below_at f p) ++ rest

from : (l : ℕ) (f : Forest Label) (p : List ℕ) → HasPath f p → From l f p
from l end p h = absurd h
from l (node a k r) [] h = absurd h
from l (node a k r) (zero ∷ []) h = record { level = l; rest = leveled l r; is_level = omega arith; is = refl }
from l (node a k r) (zero ∷ i ∷ p) h =
    let w = from (suc l) k (i ∷ p) h in
    let le : place_of k (i ∷ p) ≤ length (leveled (suc l) k) = omega (arith, place_lt k (i ∷ p) h, length-leveled (suc l) k) in
    record {
      level = w.level;
      rest = w.rest ++ leveled l r;
      is_level = omega (arith, w.is_level);
      is =
          drop-append-le (place_of k (i ∷ p)) (leveled (suc l) k) (leveled l r) le ∙ ap (λ x. x ++ leveled l r) w.is
          ∙ ap (λ x. (w.level, label_at no_label k (i ∷ p)) ∷ x) (append_assoc (leveled (suc w.level) (below_at k (i ∷ p))) w.rest (leveled l r));
    }
from l (node a k r) (suc i ∷ p) h =
    let w = from l r (i ∷ p) h in
    let n = length-leveled (suc l) k in
    record {
      level = w.level;
      rest = w.rest;
      is_level = omega (arith, w.is_level);
      is =
          sym (drop-drop (place_of r (i ∷ p)) (count k) (leveled (suc l) k ++ leveled l r))
          ∙ ap (drop (place_of r (i ∷ p))) (drop_at (leveled (suc l) k) (leveled l r) (count k) n)
          ∙ w.is;
    }

-- the row of a node, and the leaves below it and from it on
pub record Below (t : Tree) (v : ℕ) : Type 0 where
  pub label : (row_at (rows t) v).label ≡ label_at no_label (nodes t) (path_at (nodes t) v)
  pub is : leaves_between t (v + 1) (v + (row_at (rows t) v).size) ≡ leveled (suc (row_at (rows t) v).level) (below_at (nodes t) (path_at (nodes t) v))
  pub whole : leaves_between t v (v + (row_at (rows t) v).size)
      ≡ ((row_at (rows t) v).level, label_at no_label (nodes t) (path_at (nodes t) v)) ∷ leveled (suc (row_at (rows t) v).level) (below_at (nodes t) (path_at (nodes t) v))

pub below_node : (t : Tree) (v : ℕ) → v < count (nodes t) → Below t v
below_node t v h =
    let f = nodes t in
    let p = path_at f v in
    let a = at_place f v h in
    let r = row_at (rows t) v in
    let w = from 0 f p a.exists in
    let d = row_at-place_of 0 f p a.exists in
    let at : row_at (rows t) (place_of f p) ≡ r = ap (row_at (rows t)) a.place in
    let level : w.level ≡ r.level = omega (arith, w.is_level, d.level, ap (λ (x : Row). x.level) at) in
    let size : r.size ≡ count (below_at f p) = sym (ap (λ (x : Row). x.size) at) ∙ d.size in
    let n : v + r.size + 1 - (v + 1) ≡ r.size = omega arith in
    let m : v + r.size + 1 - v ≡ suc r.size = omega arith in
    let here : drop v (leveled 0 f) ≡ (w.level, label_at no_label f p) ∷ leveled (suc w.level) (below_at f p) ++ w.rest =
    ap (λ i. drop i (leveled 0 f)) (sym a.place) ∙ w.is in
    let one : drop (v + 1) (leveled 0 f) ≡ leveled (suc w.level) (below_at f p) ++ w.rest =
    sym (drop-drop 1 v (leveled 0 f)) ∙ ap (drop 1) here in
    let below : take r.size (leveled (suc w.level) (below_at f p) ++ w.rest) ≡ leveled (suc r.level) (below_at f p) =
    take_at (leveled (suc w.level) (below_at f p)) w.rest r.size (length-leveled (suc w.level) (below_at f p) ∙ sym size)
    ∙ ap (λ i. leveled (suc i) (below_at f p)) level in
    record {
      label = sym (ap (λ (x : Row). x.label) at) ∙ d.label;
      is =
          part_leaves t (v + 1) (v + r.size) ∙ ap (λ i. take i (drop (v + 1) (leveled 0 f))) n ∙ ap (take r.size) one ∙ below;
      whole =
          part_leaves t v (v + r.size) ∙ ap (λ i. take i (drop v (leveled 0 f))) m ∙ ap (take (suc r.size)) here
          ∙ ap (λ (l : List Leaf). (w.level, label_at no_label f p) ∷ l) below
          ∙ ap (λ i. (i, label_at no_label f p) ∷ leveled (suc r.level) (below_at f p)) level;
    }

-- the shape that a row has
abbrev pub shape_of : NodeRow → NodeShape
shape_of row = record { size = row.size; level = row.level; kind = row.kind }

-- that of a node's row is that of the node
pub is_shape : (trees : List Tree) (n : Node) (row : NodeRow) → IsRowOf trees n row → IsShapeOf trees n (shape_of row)
is_shape trees n row is = record {
  has_node = is.has_node;
  is_tree = is.is_tree;
  size = ap (λ (r : Row). r.size) is.is_row;
  level = ap (λ (r : Row). r.level) is.is_row;
  kind = ap (λ (r : Row). r.label.kind) is.is_row;
}

module _ (trees : List Tree) (n : Node) (shape : NodeShape) (is : IsShapeOf trees n shape) where
  abbrev t : Tree
  t = tree_at trees n.tree

  abbrev s : Tree
  s = tree_below trees (node_at trees n)

  below : Below t n.pre
  below = below_node t n.pre is.has_node.node_in

  pub root_kind : shape.kind ≡ (tree_below trees (node_at trees n)).root.kind
  root_kind = is.kind ∙ ap (λ (a : Label). a.kind) below.label

  below_leaves : leaves_between t (n.pre + 1) (n.pre + shape.size) ≡ leveled (suc shape.level) s.below
  below_leaves =
      ap (λ i. leaves_between t (n.pre + 1) (n.pre + i)) is.size ∙ below.is
      ∙ ap (λ i. leveled (suc i) s.below) (sym is.level)

  -- what is below a node, further up
  raised_below : map (lowered shape.level) (leveled (suc shape.level) s.below) ≡ leveled 1 s.below
  raised_below =
      let one : suc shape.level ≡ shape.level + 1 = omega arith in
      ap (λ i. map (lowered shape.level) (leveled i s.below)) one ∙ lowered-leveled shape.level 1 s.below

  -- the node and what is below it
  node_below : (0, s.root) ∷ leveled 1 s.below ≡ leaves (nodes s)
  node_below = ap (λ (l : List Leaf). (0, s.root) ∷ l) (sym (append-nil (leveled 1 s.below))) ∙ sym (flat-measured 0 (nodes s))

  pub root_leaves : (0, (tree_below trees (node_at trees n)).root) ∷ map (lowered shape.level) (leaves_between (tree_at trees n.tree) (n.pre + 1) (n.pre + shape.size))
      ≡ leaves (nodes (tree_below trees (node_at trees n)))
  root_leaves = ap (λ (l : List Leaf). (0, s.root) ∷ l) (ap (map (lowered shape.level)) below_leaves ∙ raised_below) ∙ node_below

  -- the run from the node on
  pub run_leaves : map (lowered shape.level) (leaves_between (tree_at trees n.tree) n.pre (n.pre + shape.size)) ≡ leaves (nodes (tree_below trees (node_at trees n)))
  run_leaves =
      let run : leaves_between t n.pre (n.pre + shape.size) ≡ (shape.level, s.root) ∷ leveled (suc shape.level) s.below =
      ap (λ i. leaves_between t n.pre (n.pre + i)) is.size ∙ below.whole ∙ ap (λ i. (i, s.root) ∷ leveled (suc i) s.below) (sym is.level) in
      let z : shape.level - shape.level ≡ 0 = omega arith in
      ap (map (lowered shape.level)) run
      ∙ ap (λ i. (i, s.root) ∷ map (lowered shape.level) (leveled (suc shape.level) s.below)) z
      ∙ ap (λ (l : List Leaf). (0, s.root) ∷ l) raised_below ∙ node_below

  -- what is below a document
  pub document_leaves : shape.kind ≡ Document → map (lowered (shape.level + 1)) (leaves_between (tree_at trees n.tree) (n.pre + 1) (n.pre + shape.size)) ≡ leaves (copied (tree_below trees (node_at trees n)))
  document_leaves e =
      let one : suc shape.level ≡ shape.level + 1 + 0 = omega arith in
      let k : s.root.kind ≡ Document = sym root_kind ∙ e in
      ap (map (lowered (shape.level + 1))) (below_leaves ∙ ap (λ i. leveled i s.below) one) ∙ lowered-leveled (shape.level + 1) 0 s.below
      ∙ sym (flat-measured 0 s.below) ∙ ap leaves (sym (of_document s k))
    where
      of_document : (u : Tree) → u.root.kind ≡ Document → copied u ≡ u.below
      of_document u k = rw k refl

  -- any other node is copied itself
  pub node_leaves : (shape.kind ≡ Document → ⊥) → leaves (nodes (tree_below trees (node_at trees n))) ≡ leaves (copied (tree_below trees (node_at trees n)))
  node_leaves e = ap leaves (sym (of_node s s.root.kind refl (λ k. e (root_kind ∙ k))))
    where
      of_node : (u : Tree) (k : Kind) → u.root.kind ≡ k → (k ≡ Document → ⊥) → copied u ≡ nodes u
      of_node u Document e other = absurd (other refl)
      of_node u Element e other = rw e refl
      of_node u Attribute e other = rw e refl
      of_node u Text e other = rw e refl
      of_node u Comment e other = rw e refl
      of_node u ProcessingInstruction e other = rw e refl

-- the node of a row, and what is below it further up
pub whole_leaves : (trees : List Tree) (n : Node) (row : NodeRow) → IsRowOf trees n row
    → (0, (row_of row).label) ∷ map (lowered row.level) (leaves_between (tree_at trees n.tree) (n.pre + 1) (n.pre + row.size)) ≡ leaves (nodes (tree_below trees (node_at trees n)))
whole_leaves trees n row is =
    let label : (row_of row).label ≡ (tree_below trees (node_at trees n)).root =
    ap (λ (r : Row). r.label) is.is_row ∙ (below_node (tree_at trees n.tree) n.pre is.has_node.node_in).label in
    ap (λ a. (0, a) ∷ map (lowered row.level) (leaves_between (tree_at trees n.tree) (n.pre + 1) (n.pre + row.size))) label
    ∙ root_leaves trees n (shape_of row) (is_shape trees n row is)

-- # What code does step by step

-- rows whose levels are moved up
pub flat-moved : (base : ℕ) (run : List (ℕ × Row)) → map flat (map (moved base 0) (unplaced run)) ≡ map (lowered base) (map leaf run)
flat-moved base [] = refl
flat-moved base (p ∷ run) =
    let z : p.1.level - base + 0 ≡ p.1.level - base = omega arith in
    ap (λ i. (i, p.1.label) ∷ map flat (map (moved base 0) (unplaced run))) z
    ∙ ap (λ (l : List Leaf). lowered base (leaf p) ∷ l) (flat-moved base run)

-- rows that were added, and then their leaves
pub moved_added : (base : ℕ) (old now : List Row) (run : List (ℕ × Row)) → now ≡ old ++ map (moved base 0) (unplaced run)
    → map flat now ≡ map flat old ++ map (lowered base) (map leaf run)
moved_added base old now run e =
    ap (map flat) e ∙ map-append flat old (map (moved base 0) (unplaced run)) ∙ ap (λ (l : List Leaf). map flat old ++ l) (flat-moved base run)

-- a node that is no document, copied from the same trees
pub whole_copied : (trees same : List Tree) (n : Node) (shape : NodeShape) (before after : List Leaf) → trees ≡ same → IsShapeOf trees n shape → (shape.kind ≡ Document → ⊥)
    → (IsShapeOf same n shape → after ≡ before ++ leaves (nodes (tree_below same (node_at same n))))
    → after ≡ before ++ leaves (copied (tree_below trees (node_at trees n)))
whole_copied trees same n shape before after e is other made =
    made (subst (λ (ts : List Tree). IsShapeOf ts n shape) e is)
    ∙ ap (λ (ts : List Tree). before ++ leaves (nodes (tree_below ts (node_at ts n)))) (sym e)
    ∙ ap (λ (l : List Leaf). before ++ l) (node_leaves trees n shape is other)
