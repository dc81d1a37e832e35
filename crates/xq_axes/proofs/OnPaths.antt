-- From places to paths.
use Rattle.std.proofs.Common.{◌≡◌, ℕ, zero, suc, ◌+◌, ◌<◌, List, [], ◌∷◌, ◌++◌, map, Bool, true, false, ◌&&◌, cond, refl, sym, ◌∙◌, ap, arith}
use Rattle.std.specs.Prelude.{filter}
use Rattle.std.specs.List.{range_with_len}
use Rattle.std.proofs.lemmas.List.Elements.{filter-append}
use Rattle.xq_trees.specs.Forest.{count}
use Rattle.xq_trees.specs.Tree.{Label, Tree, nodes}
use Rattle.xq_trees.specs.Order.{path_at}
use Rattle.xq_trees.specs.AxisTests.{on_axis}
use Rattle.xq_trees.specs.RegionTests.{in_region}
use Rattle.xq_trees.specs.Rows.{rows, row_at}
use Rattle.xq_trees.specs.declared.Axis.{Axis}
use Rattle.xq_trees.specs.declared.items.Node.{Node as Spot}
use Rattle.xq_trees.proofs.RegionTable.{region_is_axis}
use Rattle.xq_trees.proofs.AxisTable.{on_axis_is}
use Rattle.xq_sources.specs.Sources.{tree_at, HasNode}
use Rattle.xq_meaning.specs.declared.node_tests.Test.{Test}
use Rattle.xq_meaning.specs.Items.{Place, place, nodes_at}
use Rattle.xq_meaning.specs.Steps.{passes_at, axis_nodes}
use Rattle.xq_meaning.specs.Readings.{node_at}
use Rattle.xq_meaning.proofs.PathLemmas.{map-map, range-split, filter-map, paths-range}
use Rattle.xq_axes.specs.private.Hits.{is_hit, is_wanted, row_passes, below_where}
use Rattle.xq_axes.proofs.Lists.{below_where-agree}
use Rattle.xq_trees.proofs.Lists.{same_test}
use Rattle.xq_axes.proofs.Sizes.{node_of}
use Rattle.xq_axes.proofs.Siblings.{one_hit}

pub filter-filter : {X : Type 0} (p q : X → Bool) (xs : List X) → filter p (filter q xs) ≡ filter (λ x. q x && p x) xs
filter-filter p q [] = refl
filter-filter p q (x ∷ xs) = by (q x) (filter-filter p q xs)
  where
    by : (b : Bool) → filter p (filter q xs) ≡ filter (λ x. q x && p x) xs → filter p (cond b (x ∷ filter q xs) (filter q xs)) ≡ cond (b && p x) (x ∷ filter (λ x. q x && p x) xs) (filter (λ x. q x && p x) xs)
    by true e = ap (λ ys. cond (p x) (x ∷ ys) ys) e
    by false e = e

pub range-filter : (f : ℕ → Bool) (n : ℕ) → filter f (range_with_len 0 n) ≡ below_where f n
range-filter f zero = refl
range-filter f (suc n) =
    let e : suc n ≡ n + 1 = omega arith in
    let z : 0 + n ≡ n = omega arith in
    ap (λ x. filter f (range_with_len 0 x)) e ∙ ap (filter f) (range-split 0 n 1) ∙ filter-append f (range_with_len 0 n) (range_with_len (0 + n) 1)
    ∙ ap (λ x. filter f (range_with_len 0 n) ++ filter f (range_with_len x 1)) z
    ∙ ap (λ xs. xs ++ cond (f n) (n ∷ []) []) (range-filter f n)

-- a place is on an axis by its row where it is by its path
pub region_is_path : (a : Axis) (t : Tree) (v p : ℕ) → v < count (nodes t) → p < count (nodes t) → on_axis a (nodes t) (path_at (nodes t) v) (path_at (nodes t) p) ≡ in_region a (rows t) v p
region_is_path a t v p hv hp =
    let r = region_is_axis a t (rows t) v p (in_region a (rows t) v p) refl hv hp refl in
    let q = on_axis_is a (nodes t) (path_at (nodes t) v) (path_at (nodes t) p) in
    same_test (on_axis a (nodes t) (path_at (nodes t) v) (path_at (nodes t) p)) (in_region a (rows t) v p) (λ e. r.1 (q.0 e)) (λ e. q.1 (r.0 e))

pub passes_row : (trees : List Tree) (test : Test) (n p : ℕ) → p < count (nodes (tree_at trees n)) → passes_at trees test (place n (path_at (nodes_at trees n) p)) ≡ row_passes test (row_at (rows (tree_at trees n)) p)
passes_row trees test n p h = ap (λ (l : Label). row_passes test (record { size = 0; level = 0; label = l })) (sym (node_of (tree_at trees n) p h).label)

-- the nodes on an axis from a node, by their places
pub axis_nodes_of : (trees : List Tree) (a : Axis) (test : Test) (v : Spot) → HasNode trees v.tree v.pre
    → axis_nodes trees a test (node_at trees v) ≡ map (λ p. place v.tree (path_at (nodes_at trees v.tree) p)) (below_where (is_wanted a test (tree_at trees v.tree) (v.pre ∷ [])) (count (nodes_at trees v.tree)))
axis_nodes_of trees a test v h =
    let f = nodes_at trees v.tree in
    let t = tree_at trees v.tree in
    let at : ℕ → Place = λ p. place v.tree (path_at f p) in
    let on : List ℕ → Bool = λ w. on_axis a f (path_at f v.pre) w in
    ap (λ ps. filter (passes_at trees test) (map (place v.tree) (filter on ps))) (paths-range f)
    ∙ ap (λ ps. filter (passes_at trees test) (map (place v.tree) ps)) (filter-map on (path_at f) (range_with_len 0 (count f)))
    ∙ ap (filter (passes_at trees test)) (map-map (place v.tree) (path_at f) (filter (λ p. on (path_at f p)) (range_with_len 0 (count f))))
    ∙ filter-map (passes_at trees test) at (filter (λ p. on (path_at f p)) (range_with_len 0 (count f)))
    ∙ ap (map at) (filter-filter (λ p. passes_at trees test (at p)) (λ p. on (path_at f p)) (range_with_len 0 (count f))
    ∙ range-filter (λ p. on (path_at f p) && passes_at trees test (at p)) (count f)
    ∙ below_where-agree (λ p. on (path_at f p) && passes_at trees test (at p)) (is_wanted a test t (v.pre ∷ [])) (count f) (λ p l.
    ap (λ b. b && passes_at trees test (at p)) (region_is_path a t v.pre p h.node_in l ∙ sym (one_hit a t v.pre p))
    ∙ ap (λ b. is_hit a t (v.pre ∷ []) p && b) (passes_row trees test v.tree p l)))
