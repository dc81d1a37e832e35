-- What the row of a node says of the rows and nodes below it.
use Rattle.std.proofs.Common.{◌≡◌, ℕ, suc, ◌+◌, ◌<◌, List, [], ◌∷◌, length, take, min, Result, Ok, Err, true, false, refl, sym, ◌∙◌, ap, subst, arith}
use Rattle.std.specs.Prelude.{Some, slice_get, IfOk, OnOk}
use Rattle.std.proofs.lemmas.List.{drop_all, length-take}
use Rattle.xq_trees.specs.declared.Kind.{Kind}
use Rattle.xq_trees.specs.declared.Kind.TheVariants.{Document, Element, Attribute, Text, Comment, ProcessingInstruction}
use Rattle.xq_trees.specs.Forest.{count, labels}
use Rattle.xq_trees.specs.Tree.{Label, Tree, IsTree, nodes}
use Rattle.xq_trees.specs.Node.{HasPath, below_at, subtree}
use Rattle.xq_trees.specs.Order.{place_of, path_at}
use Rattle.xq_trees.specs.Rows.{Row, row_at, rows, measured}
use Rattle.xq_trees.specs.Value.{texts, string_value, string_value_by}
use Rattle.xq_trees.proofs.Paths.{at_place, within}
use Rattle.xq_trees.proofs.Regions.{Describes, row_at-place_of}
use Rattle.xq_sources.specs.declared.lent.LentRow.{LentRow}
use Rattle.xq_trees.specs.declared.items.Node.{Node as Spot}
use Rattle.xq_sources.specs.Lent.{placed_lent, row_lent}
use Rattle.xq_sources.specs.Sources.{tree_at, HasNode}
use Rattle.xq_meaning.specs.Items.{tree_below}
use Rattle.xq_meaning.specs.Readings.{node_at}
use Rattle.xq_axes.specs.Reads.{span, span_end, rows_to, joined_texts, IsSized, is_parent}
use Rattle.xq_axes.proofs.Below.{below_rows, joined_texts-measured}

-- the node at v, as its row describes it
pub record Node (t : Tree) (v : ℕ) : Type 0 where
  pub exists : HasPath (nodes t) (path_at (nodes t) v)
  pub place : place_of (nodes t) (path_at (nodes t) v) ≡ v
  pub size : (row_at (rows t) v).size ≡ count (below_at (nodes t) (path_at (nodes t) v))
  pub level : suc (row_at (rows t) v).level ≡ length (path_at (nodes t) v)
  pub label : (row_at (rows t) v).label ≡ (subtree t (path_at (nodes t) v)).root
  pub ends : v + (row_at (rows t) v).size < count (nodes t)

pub node_of : (t : Tree) (v : ℕ) → v < count (nodes t) → Node t v
node_of t v h =
    let p = path_at (nodes t) v in
    let a = at_place (nodes t) v h in
    let d : Describes (nodes t) 0 p (row_at (rows t) v) = subst (λ n. Describes (nodes t) 0 p (row_at (rows t) n)) a.place (row_at-place_of 0 (nodes t) p a.exists) in
    let w = within (nodes t) p a.exists in
    record {
      exists = a.exists;
      place = a.place;
      size = d.size;
      level = (let l = d.level in omega (arith, l));
      label = d.label;
      ends = (let s = d.size in let q = a.place in omega (arith, w, s, q));
    }

pub rows_to-none : (t : Tree) (low : ℕ) → rows_to (rows t) low low ≡ []
rows_to-none t low = drop_all low (take low (rows t)) (omega (arith, length-take low (rows t)))

-- the span of the rows below v
pub span_end-below : (t : Tree) (v size : ℕ) → v + size < count (nodes t) → span_end t (span (v + 1) (v + size)) ≡ v + 1 + size
span_end-below t v size h = omega (arith, h)

pub rows_below : (t : Tree) (v size : ℕ) → v < count (nodes t) → size ≡ (row_at (rows t) v).size
    → rows_to (rows t) (v + 1) (v + 1 + size) ≡ labels (measured (length (path_at (nodes t) v)) (below_at (nodes t) (path_at (nodes t) v)))
rows_below t v size h e =
    let d = node_of t v h in
    let p = path_at (nodes t) v in
    let z : 0 + length p ≡ length p = omega arith in
    below_rows 0 (nodes t) p (v + 1) (v + 1 + size) d.exists (let q = d.place in omega (arith, q)) (let s = d.size in omega (arith, s, e))
    ∙ ap (λ l. labels (measured l (below_at (nodes t) p))) z

-- the texts of a walk over the rows below v
pub texts_of_walk : (t : Tree) (v size low high : ℕ) (text : List ℕ) → v < count (nodes t) → size ≡ (row_at (rows t) v).size → low ≡ v + 1 → high ≡ v + size → text ≡ joined_texts (rows_to (rows t) low (span_end t (span low high))) → text ≡ texts (below_at (nodes t) (path_at (nodes t) v))
texts_of_walk t v size low high text h is l g e =
    let ends = (node_of t v h).ends in
    let w : v + size < count (nodes t) = omega (arith, ends, is) in
    e ∙ ap (λ n. joined_texts (rows_to (rows t) n (span_end t (span n high)))) l
    ∙ ap (λ n. joined_texts (rows_to (rows t) (v + 1) (span_end t (span (v + 1) n)))) g
    ∙ ap (λ n. joined_texts (rows_to (rows t) (v + 1) n)) (span_end-below t v size w)
    ∙ ap joined_texts (rows_below t v size h is)
    ∙ joined_texts-measured (length (path_at (nodes t) v)) (below_at (nodes t) (path_at (nodes t) v))

-- a lone row that was read
pub one_row : (xs : List (ℕ × Row)) (x p : ℕ × Row) → xs ≡ p ∷ [] → Some x ≡ slice_get xs 0 → x ≡ p
one_row [] x p e h = absurd (cc)
one_row (y ∷ xs) x p e h = cc

pub OnOk-if : {T E : Type 0} (r : Result T E) (P Q : T → Type 0) → ((x : T) → P x → Q x) → IfOk r P → IfOk r Q
OnOk-if (Ok x) P Q f h = f x h
OnOk-if (Err e) P Q f h = tt

pub value_by_parent : (kind : Kind) (value joined : List ℕ) → is_parent kind ≡ true → string_value_by kind value joined ≡ joined
value_by_parent Document value joined h = refl
value_by_parent Element value joined h = refl
value_by_parent Attribute value joined h = absurd (cc)
value_by_parent Text value joined h = absurd (cc)
value_by_parent Comment value joined h = absurd (cc)
value_by_parent ProcessingInstruction value joined h = absurd (cc)

pub value_by_leaf : (kind : Kind) (value joined : List ℕ) → is_parent kind ≡ false → string_value_by kind value joined ≡ value
value_by_leaf Document value joined h = absurd (cc)
value_by_leaf Element value joined h = absurd (cc)
value_by_leaf Attribute value joined h = refl
value_by_leaf Text value joined h = refl
value_by_leaf Comment value joined h = refl
value_by_leaf ProcessingInstruction value joined h = refl

module _ (trees : List Tree) (node : Spot) (x : LentRow) (there : HasNode trees node.tree node.pre) (read : placed_lent x ≡ (node.pre, row_at (rows (tree_at trees node.tree)) node.pre)) where
  pub label_read : (row_lent x).label ≡ (tree_below trees (node_at trees node)).root
  label_read = ap (λ (p : ℕ × Row). p.1.label) read ∙ (node_of (tree_at trees node.tree) node.pre there.node_in).label

  pub size_read : IsTree (tree_at trees node.tree) → IsSized (tree_at trees node.tree) node.pre x.size
  size_read h = record { is_tree = h; is_there = there.node_in; size = ap (λ (p : ℕ × Row). p.1.size) read }

  pub parent_value : (text : List ℕ) → is_parent x.kind ≡ true → text ≡ texts (tree_below trees (node_at trees node)).below → text ≡ string_value (tree_below trees (node_at trees node))
  parent_value text k e =
      let p = tree_below trees (node_at trees node) in
      let h : p.root.kind ≡ x.kind = sym (ap (λ (l : Label). l.kind) label_read) in
      e ∙ sym (value_by_parent p.root.kind p.root.value (texts p.below) (ap is_parent h ∙ k))

  pub leaf_value : (text : List ℕ) → is_parent x.kind ≡ false → text ≡ x.texts.value → text ≡ string_value (tree_below trees (node_at trees node))
  leaf_value text k e =
      let p = tree_below trees (node_at trees node) in
      let h : p.root.kind ≡ x.kind = sym (ap (λ (l : Label). l.kind) label_read) in
      e ∙ ap (λ (l : Label). l.value) label_read ∙ sym (value_by_leaf p.root.kind p.root.value (texts p.below) (ap is_parent h ∙ k))

pub OnOk-then : {T E : Type 0} (r : Result T E) (P Q : Type 0) → (P → Q) → OnOk r P → OnOk r Q
OnOk-then (Ok x) P Q f h = f h
OnOk-then (Err e) P Q f h = tt

-- the span below v, where nothing saturates
pub record IsExact (t : Tree) (v size low high : ℕ) : Type 0 where
  pub low_is : low ≡ v + 1
  pub high_is : high ≡ v + size
  pub end_is : span_end t (span low high) ≡ v + 1 + size

pub exact_span : (t : Tree) (v size low high : ℕ) → IsSized t v size → low ≡ min (v + 1) 4294967295 → high ≡ min (v + size) 4294967295 → IsExact t v size low high
exact_span t v size low high h a b =
    let r = h.is_tree.room in
    let d = (node_of t v h.is_there).ends in
    let s = h.size in
    record {
      low_is = omega (arith, d, s, r, a);
      high_is = omega (arith, d, s, r, b);
      end_is = omega (arith, d, s, r, a, b);
    }
