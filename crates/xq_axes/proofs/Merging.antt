-- Lists of nodes, merged.
use Rattle.std.proofs.Common.{◌≡◌, ◌↔◌, ℕ, zero, suc, ◌+◌, ◌<◌, ◌≤◌, List, [], ◌∷◌, ◌++◌, length, map, Bool, true, false, ◌&&◌, ◌||◌, cond, inl, inr, refl, sym, ◌∙◌, ap, subst, arith}
use Rattle.std.specs.Prelude.{filter}
use Rattle.std.specs.List.{list_any, range_with_len, Contains}
use Rattle.std.specs.List.Sorted.{IsStrictlySortedBy}
use Rattle.std.specs.declared.cmp.Ordering.TheVariants.{Less}
use Rattle.std.proofs.lemmas.Bool.{and_from, and_parts, eq-eqb, eqb-true}
use Rattle.std.proofs.lemmas.List.{map-append}
use Rattle.std.proofs.lemmas.List.Elements.{Contains-append_left, Contains-append_right, Contains-append_cases}
use Rattle.std.proofs.lemmas.List.Folds.{Any-from_list_any, list_any-from_Any}
use Rattle.std.proofs.lemmas.List.Kept.{IsStrictlySortedBy-filter}
use Rattle.xq_trees.specs.declared.Axis.TheVariants as axis
use Rattle.xq_trees.specs.declared.items.Node.{Node}
use Rattle.xq_trees.specs.Forest.{end, count}
use Rattle.xq_trees.specs.Order.{place_of, path_at}
use Rattle.xq_trees.specs.Tree.{Tree, nodes}
use Rattle.xq_trees.proofs.AxisTable.{on_axis_is}
use Rattle.xq_sources.specs.Sources.{tree_at, HasNode}
use Rattle.xq_meaning.specs.Items.{Place, place, places_from, same_node, is_among, in_document_order}
use Rattle.xq_meaning.specs.Readings.{node_at}
use Rattle.xq_trees.specs.Rising.{document_order, AreRising}
use Rattle.xq_axes.specs.Nodes.{HaveAll}
use Rattle.xq_axes.specs.Many.{spot}
use Rattle.xq_trees.proofs.Lists.{same_test}
use Rattle.xq_trees.proofs.Rising.{same_fields, order_less, same_any, same_rising, from_contains, rising_append}
use Rattle.xq_meaning.proofs.PathLemmas.{map-map, filter-map, paths-range}
use Rattle.xq_axes.proofs.Sizes.{node_of}

-- # All nodes of trees

-- those of trees with numbers from n on
abbrev pub all_nodes : ℕ → List Tree → List Node
all_nodes n [] = []
all_nodes n (t ∷ ts) = map (spot n) (range_with_len 0 (count (nodes t))) ++ all_nodes (suc n) ts

pub places_all : (trees ts : List Tree) (n : ℕ) → ((k : ℕ) → tree_at trees (n + k) ≡ tree_at ts k) → places_from n ts ≡ map (node_at trees) (all_nodes n ts)
places_all trees [] n h = refl
places_all trees (t ∷ ts) n h =
    let c = count (nodes t) in
    let z : n + 0 ≡ n = omega arith in
    let first : tree_at trees n ≡ t = ap (tree_at trees) (sym z) ∙ h 0 in
    let rest = places_all trees ts (suc n) (λ k. (let e : suc n + k ≡ n + suc k = omega arith in ap (tree_at trees) e ∙ h (suc k))) in
    ap (λ ps. map (place n) ps ++ places_from (suc n) ts) (paths-range (nodes t))
    ∙ ap (λ qs. qs ++ places_from (suc n) ts) (map-map (place n) (path_at (nodes t)) (range_with_len 0 c)
    ∙ ap (λ u. map (λ p. place n (path_at (nodes u) p)) (range_with_len 0 c)) (sym first)
    ∙ sym (map-map (node_at trees) (spot n) (range_with_len 0 c)))
    ∙ ap (λ qs. map (node_at trees) (map (spot n) (range_with_len 0 c)) ++ qs) rest
    ∙ sym (map-append (node_at trees) (map (spot n) (range_with_len 0 c)) (all_nodes (suc n) ts))

at_range : (n a c p : ℕ) → p < c → Contains (map (spot n) (range_with_len a c)) (spot n (a + p))
at_range n a zero p h = absurd (omega (arith, h))
at_range n a (suc c) zero h = let e : a ≡ a + 0 = omega arith in (0, omega arith, ap (spot n) e)
at_range n a (suc c) (suc p) h =
    let e : a + 1 + p ≡ a + suc p = omega arith in
    let w = at_range n (a + 1) c p (omega (arith, h)) in
    subst (λ i. Contains (map (spot n) (range_with_len a (suc c))) (spot n i)) e (suc w.0, omega (arith, w.1), w.2)

record InRange (n a c : ℕ) (s : Node) : Type 0 where
  tree : s.tree ≡ n
  low : a ≤ s.pre
  high : s.pre < a + c

from_range : (n a c : ℕ) (s : Node) → Contains (map (spot n) (range_with_len a c)) s → InRange n a c s
from_range n a zero s h = absurd (omega (arith, h.1))
from_range n a (suc c) s (zero, l, e) =
    let t = ap (λ (x : Node). x.tree) e in
    let p = ap (λ (x : Node). x.pre) e in
    record { tree = sym t; low = omega (arith, p); high = omega (arith, p) }
from_range n a (suc c) s (suc k, l, e) =
    let w = from_range n (a + 1) c s (k, omega (arith, l), e) in
    record { tree = w.tree; low = omega (arith, w.low); high = omega (arith, w.high) }

pub has_all : (n : ℕ) (ts : List Tree) (k p : ℕ) → k < length ts → p < count (nodes (tree_at ts k)) → Contains (all_nodes n ts) (spot (n + k) p)
has_all n [] k p h l = absurd (omega (arith, h))
has_all n (t ∷ ts) zero p h l =
    let z : n ≡ n + 0 = omega arith in
    let y : 0 + p ≡ p = omega arith in
    subst (λ i. Contains (all_nodes n (t ∷ ts)) (spot i p)) z
    (Contains-append_left (map (spot n) (range_with_len 0 (count (nodes t)))) (all_nodes (suc n) ts) (spot n p)
    (subst (λ i. Contains (map (spot n) (range_with_len 0 (count (nodes t)))) (spot n i)) y (at_range n 0 (count (nodes t)) p l)))
has_all n (t ∷ ts) (suc k) p h l =
    let z : suc n + k ≡ n + suc k = omega arith in
    subst (λ i. Contains (all_nodes n (t ∷ ts)) (spot i p)) z
    (Contains-append_right (map (spot n) (range_with_len 0 (count (nodes t)))) (all_nodes (suc n) ts) (spot (suc n + k) p) (has_all (suc n) ts k p (omega (arith, h)) l))

record Found (n : ℕ) (ts : List Tree) (s : Node) : Type 0 where
  index : ℕ
  within : index < length ts
  tree : s.tree ≡ n + index
  pre : s.pre < count (nodes (tree_at ts index))

all_has : (n : ℕ) (ts : List Tree) (s : Node) → Contains (all_nodes n ts) s → Found n ts s
all_has n [] s h = absurd (omega (arith, h.1))
all_has n (t ∷ ts) s h =
    elim (Contains-append_cases (map (spot n) (range_with_len 0 (count (nodes t)))) (all_nodes (suc n) ts) s h) [
      | inl c ↦ (let w = from_range n 0 (count (nodes t)) s c in record { index = 0; within = omega arith; tree = omega (arith, w.tree); pre = omega (arith, w.high) })
      | inr c ↦ (let w = all_has (suc n) ts s c in record { index = suc w.index; within = omega (arith, w.within); tree = omega (arith, w.tree); pre = w.pre })
    ]

rising_range : (n a c : ℕ) → AreRising (map (spot n) (range_with_len a c))
unfolding IsStrictlySortedBy
rising_range n a zero = tt
rising_range n a (suc c) = (
  from_contains (λ y. document_order (spot n a) y ≡ Less) (map (spot n) (range_with_len (a + 1) c)) (λ y m. (
      let w = from_range n (a + 1) c y m in
      order_less (spot n a) y (inr (sym w.tree, omega (arith, w.low))))),
  rising_range n (a + 1) c,
)

rising_all : (n : ℕ) (ts : List Tree) → AreRising (all_nodes n ts)
unfolding IsStrictlySortedBy
rising_all n [] = tt
rising_all n (t ∷ ts) = rising_append (map (spot n) (range_with_len 0 (count (nodes t)))) (all_nodes (suc n) ts) (rising_range n 0 (count (nodes t))) (rising_all (suc n) ts)
    (λ x y c d. (
    let a = from_range n 0 (count (nodes t)) x c in
    let b = all_has (suc n) ts y d in
    order_less x y (inl (omega (arith, a.tree, b.tree)))))

-- # Nodes and their paths

pub same_itself : (p : Place) → same_node p p ≡ true
same_itself p = and_from _ _ (eq-eqb p.tree p.tree refl) ((on_axis_is axis.SelfNode end p.path p.path).1 refl)

-- a path is that of one node
pub same_spots : (trees : List Tree) (x y : Node) → HasNode trees x.tree x.pre → HasNode trees y.tree y.pre → same_node (node_at trees x) (node_at trees y) ≡ true → x ≡ y
same_spots trees x y hx hy e =
    let w = and_parts _ _ e in
    let t = eqb-true x.tree y.tree w.0 in
    let tree = tree_at trees x.tree in
    let there : y.pre < count (nodes tree) = subst (λ n. y.pre < count (nodes (tree_at trees n))) (sym t) hy.node_in in
    let same : path_at (nodes tree) x.pre ≡ path_at (nodes tree) y.pre = (on_axis_is axis.SelfNode end (node_at trees x).path (node_at trees y).path).0 w.1 ∙ ap (λ n. path_at (nodes (tree_at trees n)) y.pre) (sym t) in
    same_fields x y t (sym (node_of tree x.pre hx.node_in).place ∙ ap (place_of (nodes tree)) same ∙ (node_of tree y.pre there).place)

pub have_one : (trees : List Tree) (ns : List Node) (x : Node) → HaveAll trees ns → Contains ns x → HasNode trees x.tree x.pre
have_one trees [] x h c = absurd (omega (arith, c.1))
have_one trees (n ∷ ns) x h (zero, l, e) = subst (λ (y : Node). HasNode trees y.tree y.pre) e h.0
have_one trees (n ∷ ns) x h (suc k, l, e) = have_one trees ns x h.1 (k, omega (arith, l), e)

-- # Tests of some elements

pub any_filter : {X : Type 0} (p g : X → Bool) (xs : List X) → list_any p (filter g xs) ≡ list_any (λ x. g x && p x) xs
any_filter p g [] = refl
any_filter p g (x ∷ xs) = by (g x) (any_filter p g xs)
  where
    by : (b : Bool) → list_any p (filter g xs) ≡ list_any (λ y. g y && p y) xs → list_any p (cond b (x ∷ filter g xs) (filter g xs)) ≡ ((b && p x) || list_any (λ y. g y && p y) xs)
    by true e = ap (λ r. p x || r) e
    by false e = e

pub any_map : {X Y : Type 0} (p : Y → Bool) (f : X → Y) (xs : List X) → list_any p (map f xs) ≡ list_any (λ x. p (f x)) xs
any_map p f [] = refl
any_map p f (x ∷ xs) = let e = any_map p f xs in rw e

pub any_here : {X : Type 0} (p : X → Bool) (xs : List X) (x : X) → Contains xs x → p x ≡ true → list_any p xs ≡ true
any_here p xs x c e = list_any-from_Any p xs (c.0, x, c.1, c.2, e)

-- # A merge

module _ (trees : List Tree) (ns : List Node) (have : HaveAll trees ns) where
  -- the node is one of the list
  is_one : Node → Bool
  is_one s = is_among (map (node_at trees) ns) (node_at trees s)

  listed : (s : Node) → is_one s ≡ list_any (λ n. same_node (node_at trees s) (node_at trees n)) ns
  unfolding is_one
  listed s = any_map (same_node (node_at trees s)) (node_at trees) ns

  same_listed : (p : Node → Bool) → list_any p ns ≡ list_any p (filter is_one (all_nodes 0 trees))
  same_listed p = same_test (list_any p ns) (list_any p (filter is_one (all_nodes 0 trees)))
      (λ e. (
      let a = Any-from_list_any p ns e in
      let c : Contains ns a.1 = (a.0, a.2, a.3) in
      let h = have_one trees ns a.1 have c in
      let here = has_all 0 trees a.1.tree a.1.pre h.tree_in h.node_in in
      let z : 0 + a.1.tree ≡ a.1.tree = omega arith in
      let there : Contains (all_nodes 0 trees) a.1 = subst (λ i. Contains (all_nodes 0 trees) (spot i a.1.pre)) z here in
      let g : is_one a.1 ≡ true = listed a.1 ∙ any_here (λ n. same_node (node_at trees a.1) (node_at trees n)) ns a.1 c (same_itself (node_at trees a.1)) in
      any_filter p is_one (all_nodes 0 trees) ∙ any_here (λ s. is_one s && p s) (all_nodes 0 trees) a.1 there (and_from _ _ g a.4)))
      (λ e. (
      let a = Any-from_list_any (λ s. is_one s && p s) (all_nodes 0 trees) (sym (any_filter p is_one (all_nodes 0 trees)) ∙ e) in
      let w = and_parts _ _ a.4 in
      let f = all_has 0 trees a.1 (a.0, a.2, a.3) in
      let t : f.index ≡ a.1.tree = (let q = f.tree in omega arith) in
      let h : HasNode trees a.1.tree a.1.pre = record { tree_in = (let q = f.within in omega (arith, t)); node_in = subst (λ i. a.1.pre < count (nodes (tree_at trees i))) t f.pre } in
      let b = Any-from_list_any (λ n. same_node (node_at trees a.1) (node_at trees n)) ns (sym (listed a.1) ∙ w.0) in
      let c : Contains ns b.1 = (b.0, b.2, b.3) in
      let same = same_spots trees a.1 b.1 h (have_one trees ns b.1 have c) b.4 in
      any_here p ns b.1 c (ap p (sym same) ∙ w.1)))

  pub merged : (xs : List Node) → AreRising xs → ((n : Node) → Contains xs n ↔ Contains ns n) → map (node_at trees) xs ≡ in_document_order trees (map (node_at trees) ns)
  unfolding is_one
  merged xs up h =
      let all = all_nodes 0 trees in
      let ps = map (node_at trees) ns in
      let sorted = IsStrictlySortedBy-filter document_order is_one all (rising_all 0 trees) in
      ap (map (node_at trees)) (same_rising xs (filter is_one all) up sorted (λ p. same_any p xs ns h ∙ same_listed p))
      ∙ sym (filter-map (is_among ps) (node_at trees) all)
      ∙ ap (filter (is_among ps)) (sym (places_all trees trees 0 (λ k. (let z : 0 + k ≡ k = omega arith in ap (tree_at trees) z))))
