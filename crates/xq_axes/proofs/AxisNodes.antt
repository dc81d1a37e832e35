-- Which nodes are on an axis, one by one: a node is among those that a step leads to where its path
-- is on the axis and its label passes the test.
use Rattle.std.proofs.Common.{◌≡◌, ℕ, zero, suc, ◌+◌, ◌<◌, List, [], ◌∷◌, ◌++◌, length, map, Bool, true, ◌&&◌, inl, inr, refl, sym, ◌∙◌, ap, subst, arith}
use Rattle.std.specs.Prelude.{filter}
use Rattle.std.specs.List.{list_any, AllByRecursion}
use Rattle.std.proofs.lemmas.Bool.{or_cases, or_left, or_right, and_from, and_parts, eq-eqb, eqb-true}
use Rattle.std.proofs.lemmas.List.Folds.{list_any-append}
use Rattle.xq_trees.specs.declared.Axis.{Axis}
use Rattle.xq_trees.specs.declared.Axis.TheVariants as axis
use Rattle.xq_trees.specs.Axis.{IsOnAxis}
use Rattle.xq_trees.specs.AxisTests.{on_axis, is_same}
use Rattle.xq_trees.specs.Forest.{Forest, end, node}
use Rattle.xq_trees.specs.Node.{HasPath}
use Rattle.xq_trees.specs.Order.{step_down, step_right}
use Rattle.xq_trees.specs.Tree.{Tree, nodes}
use Rattle.xq_trees.proofs.AxisTable.{on_axis_is}
use Rattle.xq_trees.proofs.Paths.{down, right}
use Rattle.xq_sources.specs.Sources.{tree_at}
use Rattle.xq_meaning.specs.declared.node_tests.Test.{Test}
use Rattle.xq_meaning.specs.Items.{Place, place, paths, nodes_at, places_from, same_node, is_among}
use Rattle.xq_meaning.specs.Steps.{passes_at, axis_nodes}
use Rattle.xq_axes.proofs.Merging.{any_map, any_filter}

-- # Some of a list

pub record SomeOf {X : Type 0} (P : X → Type 0) (f : X → Bool) (xs : List X) : Type 0 where
  pub item : X
  pub has : P item
  pub passes : f item ≡ true
  pub counts : (g : X → Bool) → g item ≡ true → list_any g xs ≡ true

pub some_of : {X : Type 0} (P : X → Type 0) (f : X → Bool) (xs : List X) → AllByRecursion P xs → list_any f xs ≡ true → SomeOf P f xs
some_of P f [] h e = absurd (cc)
some_of P f (x ∷ xs) h e = elim (or_cases (f x) (list_any f xs) e) [
  | inl t ↦ record { item = x; has = h.0; passes = t; counts = λ g s. or_left (g x) (list_any g xs) s }
  | inr t ↦ (let w = some_of P f xs h.1 t in record { item = w.item; has = w.has; passes = w.passes; counts = λ g s. or_right (g x) (list_any g xs) (w.counts g s) })
]

pub filter_agree : {X : Type 0} (f g : X → Bool) (xs : List X) → ((x : X) → f x ≡ g x) → filter f xs ≡ filter g xs
filter_agree f g [] e = refl
filter_agree f g (x ∷ xs) e = let u = e x in let v = filter_agree f g xs e in rw (u, v)

-- # The paths of a forest

pub path_of : {A : Type 0} (h : List ℕ → Bool) (f : Forest A) → list_any h (paths f) ≡ true → (w : List ℕ) × HasPath f w × (h w ≡ true)
path_of h end e = absurd (cc)
path_of h (node a b r) e = elim (or_cases (h (zero ∷ [])) (list_any h (map step_down (paths b) ++ map step_right (paths r))) e) [
  | inl t ↦ (zero ∷ [], tt, t)
  | inr t ↦ elim (or_cases (list_any h (map step_down (paths b))) (list_any h (map step_right (paths r))) (sym (list_any-append h (map step_down (paths b)) (map step_right (paths r))) ∙ t)) [
    | inl u ↦ (let w = path_of (λ p. h (step_down p)) b (sym (any_map h step_down (paths b)) ∙ u) in (step_down w.0, (down a b r w.0 w.1).0, w.2))
    | inr u ↦ (let w = path_of (λ p. h (step_right p)) r (sym (any_map h step_right (paths r)) ∙ u) in (step_right w.0, (right a b r w.0 w.1).0, w.2))
  ]
]

pub has_path : {A : Type 0} (h : List ℕ → Bool) (f : Forest A) (w : List ℕ) → HasPath f w → h w ≡ true → list_any h (paths f) ≡ true
has_path h end w p e = absurd p
has_path h (node a b r) [] p e = absurd p
has_path h (node a b r) (zero ∷ []) p e = or_left _ _ e
has_path h (node a b r) (zero ∷ i ∷ w) p e =
    or_right (h (zero ∷ [])) _ (list_any-append h (map step_down (paths b)) (map step_right (paths r))
    ∙ or_left _ _ (any_map h step_down (paths b) ∙ has_path (λ p. h (step_down p)) b (i ∷ w) p e))
has_path h (node a b r) (suc i ∷ w) p e =
    or_right (h (zero ∷ [])) _ (list_any-append h (map step_down (paths b)) (map step_right (paths r))
    ∙ or_right (list_any h (map step_down (paths b))) _ (any_map h step_right (paths r) ∙ has_path (λ p. h (step_right p)) r (i ∷ w) p e))

pub has_place : (h : Place → Bool) (n : ℕ) (ts : List Tree) (k : ℕ) (w : List ℕ) → k < length ts → HasPath (nodes (tree_at ts k)) w → h (place (n + k) w) ≡ true → list_any h (places_from n ts) ≡ true
has_place h n [] k w l p e = absurd (omega (arith, l))
has_place h n (t ∷ ts) zero w l p e =
    let z : n + 0 ≡ n = omega arith in
    list_any-append h (map (place n) (paths (nodes t))) (places_from (suc n) ts)
    ∙ or_left _ _ (any_map h (place n) (paths (nodes t)) ∙ has_path (λ w. h (place n w)) (nodes t) w p (subst (λ i. h (place i w) ≡ true) z e))
has_place h n (t ∷ ts) (suc k) w l p e =
    let z : n + suc k ≡ suc n + k = omega arith in
    list_any-append h (map (place n) (paths (nodes t))) (places_from (suc n) ts)
    ∙ or_right (list_any h (map (place n) (paths (nodes t)))) _ (has_place h (suc n) ts k w (omega (arith, l)) p (subst (λ i. h (place i w) ≡ true) z e))

-- # The nodes on an axis

pub record On (trees : List Tree) (a : Axis) (test : Test) (p q : Place) : Type 0 where
  pub tree : q.tree ≡ p.tree
  pub path : HasPath (nodes_at trees p.tree) q.path
  pub on : IsOnAxis a (nodes_at trees p.tree) p.path q.path
  pub passes : passes_at trees test q ≡ true

pub same_place : (q : Place) (n : ℕ) (w : List ℕ) → q.tree ≡ n → q.path ≡ w → q ≡ place n w
same_place q n w a b = λ i. record { tree = a i; path = b i }

same_path : (v w : List ℕ) → is_same v w ≡ true → v ≡ w
same_path v w = (on_axis_is axis.SelfNode end v w).0

pub path_itself : (w : List ℕ) → is_same w w ≡ true
path_itself w = (on_axis_is axis.SelfNode end w w).1 refl

module _ (trees : List Tree) (a : Axis) (test : Test) (p q : Place) where
  private_test : List ℕ → Bool
  private_test w = on_axis a (nodes_at trees p.tree) p.path w && (passes_at trees test (place p.tree w) && same_node q (place p.tree w))

  axis_any : is_among (axis_nodes trees a test p) q ≡ list_any private_test (paths (nodes_at trees p.tree))
  unfolding private_test
  axis_any =
      let f = nodes_at trees p.tree in
      let on : List ℕ → Bool = on_axis a f p.path in
      any_filter (same_node q) (passes_at trees test) (map (place p.tree) (filter on (paths f)))
      ∙ any_map (λ x. passes_at trees test x && same_node q x) (place p.tree) (filter on (paths f))
      ∙ any_filter (λ w. passes_at trees test (place p.tree w) && same_node q (place p.tree w)) on (paths f)

  pub from_axis : is_among (axis_nodes trees a test p) q ≡ true → On trees a test p q
  unfolding private_test
  from_axis e =
      let f = nodes_at trees p.tree in
      let w = path_of private_test f (sym axis_any ∙ e) in
      let x = and_parts _ _ w.2 in
      let y = and_parts _ _ x.1 in
      let z = and_parts _ _ y.1 in
      let tree : q.tree ≡ p.tree = eqb-true q.tree p.tree z.0 in
      let path : q.path ≡ w.0 = same_path q.path w.0 z.1 in
      record {
        tree = tree;
        path = subst (λ v. HasPath f v) (sym path) w.1;
        on = subst (λ v. IsOnAxis a f p.path v) (sym path) ((on_axis_is a f p.path w.0).0 x.0);
        passes = ap (passes_at trees test) (same_place q p.tree w.0 tree path) ∙ y.0;
      }

  pub to_axis : On trees a test p q → is_among (axis_nodes trees a test p) q ≡ true
  unfolding private_test
  to_axis h =
      let f = nodes_at trees p.tree in
      let is : q ≡ place p.tree q.path = same_place q p.tree q.path h.tree refl in
      axis_any ∙ has_path private_test f q.path h.path
      (and_from _ _ ((on_axis_is a f p.path q.path).1 h.on) (and_from _ _ (ap (passes_at trees test) (sym is) ∙ h.passes) (and_from _ _ (eq-eqb q.tree p.tree h.tree) (path_itself q.path))))
