-- Copied rows are those of the subtree.
use Rattle.std.proofs.Common.{◌≡◌, ℕ, suc, ◌+◌, ◌-◌, ◌<◌, ◌≤◌, List, [], ◌∷◌, ◌++◌, length, map, take, drop, min, refl, sym, ◌∙◌, ap, arith}
use Rattle.std.proofs.Math.Seq.{drop-cons}
use Rattle.std.proofs.lemmas.List.{append-nil, map-append, map_push, length-take, length-drop, get_or-take}
use Rattle.xq_sources.specs.declared.lent.LentRow.{LentRow}
use Rattle.xq_trees.specs.Forest.{Forest, end, node, count, labels}
use Rattle.xq_trees.specs.Tree.{Label, Tree, nodes}
use Rattle.xq_trees.specs.Node.{below_at, subtree}
use Rattle.xq_trees.specs.Order.{path_at}
use Rattle.xq_trees.specs.Rows.{Row, no_row, row_at, rows, measured}
use Rattle.xq_trees.specs.Levels.{flat, sized}
use Rattle.xq_trees.proofs.Injective.{rows-injective}
use Rattle.xq_trees.proofs.Encoding.{length-rows}
use Rattle.xq_trees.proofs.Printed.{flat-measured}
use Rattle.xq_trees.proofs.Sized.{sized-tree}
use Rattle.xq_packed.specs.PackedTrees.{AreLevels}
use Rattle.xq_sources.specs.Lent.{placed_lent, row_lent}
use Rattle.xq_axes.specs.Reads.{Span, span, span_end, IsRowIn, rows_to, lowered, AreCopied, IsSized}
use Rattle.xq_axes.proofs.Runs.{rows_to-more}
use Rattle.xq_axes.proofs.Sizes.{node_of, rows_to-none, rows_below}

pub copied_none : (t : Tree) (s : Span) (level : ℕ) → level ≡ (row_at (rows t) s.low).level → AreCopied t s s.low level []
copied_none t s level e = record { first_level = e; from = omega arith; rows = sym (ap (map (lowered level)) (rows_to-none t s.low)) }

length-rows_to : (t : Tree) (v n : ℕ) → n ≤ count (nodes t) → length (rows_to (rows t) v n) ≡ n - v
length-rows_to t v n h = length-drop v (take n (rows t)) ∙ (let a = length-take n (rows t) in let b = length-rows t in omega (arith, a, b, h))

pub copied_more : (t : Tree) (s : Span) (n level : ℕ) (x : LentRow) (y : Row) (xs : List Row) → IsRowIn t s n (placed_lent x) → AreCopied t s n level xs → y ≡ lowered level (row_lent x) → AreCopied t s (n + 1) level (xs ++ y ∷ [])
copied_more t s n level x y xs r c e =
    let m = rows_to-more (rows t) s.low n c.from (let w = r.is_there in let q = length-rows t in omega arith) in
    record {
      first_level = c.first_level;
      from = (let f = c.from in omega arith);
      rows =
          ap (λ rs. rs ++ y ∷ []) c.rows
          ∙ ap (λ (z : Row). map (lowered level) (rows_to (rows t) s.low n) ++ z ∷ []) (e ∙ ap (lowered level) r.row)
          ∙ sym (map_push (lowered level) (rows_to (rows t) s.low n) (row_at (rows t) n))
          ∙ sym (ap (map (lowered level)) m);
    }

lowered-measured : (d l m : ℕ) (f : Forest Label) → m ≡ l + d → map (lowered d) (labels (measured m f)) ≡ labels (measured l f)
lowered-measured d l m end e = refl
lowered-measured d l m (node a k r) e =
    let z : m - d ≡ l = omega (arith, e) in
    ap (λ x. record { size = count k; level = x; label = a } ∷ map (lowered d) (labels (measured (suc m) k) ++ labels (measured m r))) z
    ∙ ap (λ xs. record { size = count k; level = l; label = a } ∷ xs)
    (map-append (lowered d) (labels (measured (suc m) k)) (labels (measured m r))
    ∙ (let x = lowered-measured d (suc l) (suc m) k (omega (arith, e)) in let y = lowered-measured d l m r e in rw (x, y)))

first_row : (t : Tree) (v n : ℕ) → v < n → n ≤ count (nodes t) → rows_to (rows t) v n ≡ row_at (rows t) v ∷ rows_to (rows t) (v + 1) n
first_row t v n h g =
    let k : v < length (take n (rows t)) = (let a = length-take n (rows t) in let b = length-rows t in omega (arith, a, b, h, g)) in
    let z : suc v ≡ v + 1 = omega arith in
    drop-cons (take n (rows t)) v no_row k
    ∙ ap (λ (r : Row). r ∷ drop (suc v) (take n (rows t))) (get_or-take n (rows t) v no_row h)
    ∙ ap (λ i. row_at (rows t) v ∷ drop i (take n (rows t))) z

-- all rows of a node are those of its subtree
pub copied_rows : (t : Tree) (v size level : ℕ) → IsSized t v size → level ≡ (row_at (rows t) v).level → map (lowered level) (rows_to (rows t) v (v + 1 + size)) ≡ rows (subtree t (path_at (nodes t) v))
copied_rows t v size level h e =
    let d = node_of t v h.is_there in
    let p = path_at (nodes t) v in
    let below = below_at (nodes t) p in
    let r = row_at (rows t) v in
    let w : v + size < count (nodes t) = (let x = d.ends in let s = h.size in omega (arith, x, s)) in
    let z : r.level - level ≡ 0 = omega (arith, e) in
    let m : length p ≡ 1 + level = (let q = d.level in omega (arith, q, e)) in
    ap (map (lowered level)) (first_row t v (v + 1 + size) (omega arith) (omega (arith, w)))
    ∙ ap (λ (rs : List Row). lowered level r ∷ map (lowered level) rs) (rows_below t v size h.is_there h.size)
    ∙ ap (λ (rs : List Row). lowered level r ∷ rs) (lowered-measured level 1 (length p) below m)
    ∙ ap (λ (x : Row). x ∷ labels (measured 1 below)) (same (lowered level r) (count below) 0 (subtree t p).root d.size z d.label)
    ∙ ap (λ (rs : List Row). record { size = count below; level = 0; label = (subtree t p).root } ∷ rs) (sym (append-nil (labels (measured 1 below))))
  where
    same : (x : Row) (s l : ℕ) (a : Label) → x.size ≡ s → x.level ≡ l → x.label ≡ a → ◌≡◌ {A = Row} x (record { size = s; level = l; label = a })
    same x s l a e g i = rw (sym e, sym g, sym i)

-- a tree is told by the levels and the labels of its rows
told : (t u : Tree) → map flat (rows t) ≡ map flat (rows u) → t ≡ u
told t u e =
    rows-injective t u (sym (sized-tree t) ∙ ap sized (sym (flat-measured 0 (nodes t)) ∙ e ∙ flat-measured 0 (nodes u)) ∙ sized-tree u)

pub copied_tree : (t u : Tree) (v size level high : ℕ) (xs : List Row) → IsSized t v size → high ≡ min (v + size) 4294967295 → AreCopied t (span v high) (span_end t (span v high)) level xs → AreLevels xs u → u ≡ subtree t (path_at (nodes t) v)
copied_tree t u v size level high xs h b c levels =
    let d = node_of t v h.is_there in
    let r = h.is_tree.room in
    let w : v + size < count (nodes t) = (let x = d.ends in let s = h.size in omega (arith, x, s)) in
    let g : high ≡ v + size = omega (arith, w, r, b) in
    let n : span_end t (span v high) ≡ v + 1 + size = omega (arith, w, g) in
    let all : xs ≡ rows (subtree t (path_at (nodes t) v)) = c.rows ∙ ap (λ i. map (lowered level) (rows_to (rows t) v i)) n ∙ copied_rows t v size level h c.first_level in
    told u (subtree t (path_at (nodes t) v)) (sym levels ∙ ap (map flat) all)
