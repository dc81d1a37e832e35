-- The order of places is the order of paths.
use Rattle.std.proofs.Common.{◌≡◌, ℕ, ◌<◌, List, [], ◌∷◌, Bool, true, false, ◌&&◌, ◌||◌, ◌==◌, ltb, nat_eq, ◌↔◌, Ok, refl, sym, ap, ◌∙◌, subst, inl, inr, ⊎_elim}
use Rattle.std.proofs.lemmas.Bool.{eqb-true, eq-eqb, ltb-true, lt-ltb, false≢true, and_parts, and_from, or_cases, or_left, or_right}
use Rattle.xq_expressions.specs.declared.operators.NodeComparison.{NodeComparison}
use Rattle.xq_expressions.specs.declared.operators.NodeComparison.TheVariants.{Is, Precedes, Follows}
use Rattle.xq_trees.specs.declared.items.Node.{Node as Spot}
use Rattle.xq_trees.specs.Forest.{count}
use Rattle.xq_trees.specs.Tree.{Tree, nodes}
use Rattle.xq_trees.specs.Order.{IsBefore, path_at, place_of}
use Rattle.xq_trees.specs.AxisTests.{is_above, is_left_of, is_same}
use Rattle.xq_trees.specs.Items.{ItemView, Place, Value}
use Rattle.xq_trees.proofs.Paths.{at_place}
use Rattle.xq_trees.proofs.RegionTable.{order_is_places}
use Rattle.xq_sources.specs.Sources.{HasNode, tree_at}
use Rattle.xq_meaning.specs.Items.{comes_first, nodes_at}
use Rattle.xq_meaning.specs.Readings.{items_at, node_at, AreIn}
use Rattle.xq_meaning.specs.Arguments.{boolean}
use Rattle.xq_meaning.specs.Operators.{by_nodes, stand}
use Rattle.xq_functions.specs.private.Nodes as places
use Rattle.xq_trees.proofs.Lists.{same_test}

first_is : (p q : List ℕ) → (comes_first p q ≡ true) ↔ IsBefore p q
first_is [] [] = (λ e. absurd (false≢true e), λ h. absurd h)
first_is [] (j ∷ q) = (λ e. tt, λ h. refl)
first_is (i ∷ p) [] = (λ e. absurd (false≢true e), λ h. absurd h)
first_is (i ∷ p) (j ∷ q) =
    let ih = first_is p q in (
      λ e. ⊎_elim
          (λ above. let w = and_parts (nat_eq i j) (is_above p q) above in inr (eqb-true i j w.0, ih.0 (or_left (is_above p q) (is_left_of p q) w.1)))
          (λ left. ⊎_elim
          (λ less. inl (ltb-true i j less))
          (λ later. let w = and_parts (nat_eq i j) (is_left_of p q) later in inr (eqb-true i j w.0, ih.0 (or_right (is_above p q) (is_left_of p q) w.1)))
          (or_cases (ltb i j) (nat_eq i j && is_left_of p q) left))
          (or_cases (nat_eq i j && is_above p q) (ltb i j || (nat_eq i j && is_left_of p q)) e),
      λ h. ⊎_elim
          (λ less. or_right (nat_eq i j && is_above p q) (ltb i j || (nat_eq i j && is_left_of p q)) (or_left (ltb i j) (nat_eq i j && is_left_of p q) (lt-ltb i j less)))
          (λ same. ⊎_elim
          (λ above. or_left (nat_eq i j && is_above p q) (ltb i j || (nat_eq i j && is_left_of p q)) (and_from (nat_eq i j) (is_above p q) (eq-eqb i j same.0) above))
          (λ left. or_right (nat_eq i j && is_above p q) (ltb i j || (nat_eq i j && is_left_of p q)) (or_right (ltb i j) (nat_eq i j && is_left_of p q) (and_from (nat_eq i j) (is_left_of p q) (eq-eqb i j same.0) left)))
          (or_cases (is_above p q) (is_left_of p q) (ih.1 same.1)))
          h,
    )

same_from : (p q : List ℕ) → is_same p q ≡ true → p ≡ q
same_from [] [] e = refl
same_from [] (j ∷ q) e = absurd (false≢true e)
same_from (i ∷ p) [] e = absurd (false≢true e)
same_from (i ∷ p) (j ∷ q) e = let w = and_parts (nat_eq i j) (is_same p q) e in λ k. eqb-true i j w.0 k ∷ same_from p q w.1 k

same_self : (p : List ℕ) → is_same p p ≡ true
same_self [] = refl
same_self (i ∷ p) = and_from (nat_eq i i) (is_same p p) (eq-eqb i i refl) (same_self p)

-- two tests that are true together are equal
before_places : (t : Tree) (p q : ℕ) → p < count (nodes t) → q < count (nodes t) → comes_first (path_at (nodes t) p) (path_at (nodes t) q) ≡ ltb p q
before_places t p q hp hq =
    let first = first_is (path_at (nodes t) p) (path_at (nodes t) q) in
    let order = order_is_places t p q (ltb p q) hp hq refl in
    same_test (comes_first (path_at (nodes t) p) (path_at (nodes t) q)) (ltb p q) (λ e. order.1 (first.0 e)) (λ e. first.1 (order.0 e))

same_places : (t : Tree) (p q : ℕ) → p < count (nodes t) → q < count (nodes t) → is_same (path_at (nodes t) p) (path_at (nodes t) q) ≡ (p == q)
same_places t p q hp hq =
    let f = nodes t in
    same_test (is_same (path_at f p) (path_at f q)) (p == q)
    (λ e. eq-eqb p q (sym (at_place f p hp).place ∙ ap (place_of f) (same_from (path_at f p) (path_at f q) e) ∙ (at_place f q hq).place))
    (λ e. ap (λ n. is_same (path_at f p) (path_at f n)) (sym (eqb-true p q e)) ∙ same_self (path_at f p))

-- of nodes of one tree, whatever tests them
in_one_tree : (trees : List Tree) (test : List ℕ → List ℕ → Bool) (by_place : ℕ → ℕ → Bool) → ((t : Tree) (p q : ℕ) → p < count (nodes t) → q < count (nodes t) → test (path_at (nodes t) p) (path_at (nodes t) q) ≡ by_place p q)
    → (m n p q : ℕ) → HasNode trees m p → HasNode trees n q → (b : Bool) → (m == n) ≡ b → (b && test (path_at (nodes_at trees m) p) (path_at (nodes_at trees n) q)) ≡ (b && by_place p q)
in_one_tree trees test by_place law m n p q hp hq false e = refl
in_one_tree trees test by_place law m n p q hp hq true e =
    let same = eqb-true m n e in
    ap (λ k. test (path_at (nodes_at trees m) p) (path_at (nodes_at trees k) q)) (sym same) ∙ law (tree_at trees m) p q hp.node_in (subst (λ k. HasNode trees k q) (sym same) hq).node_in

pub stands-same : (trees : List Tree) (op : NodeComparison) (p q : Spot) → HasNode trees p.tree p.pre → HasNode trees q.tree q.pre → stand op (node_at trees p) (node_at trees q) ≡ places.stands op p q
stands-same trees Is p q hp hq = in_one_tree trees is_same nat_eq same_places p.tree q.tree p.pre q.pre hp hq (p.tree == q.tree) refl
stands-same trees Precedes p q hp hq = ap (λ b. ltb p.tree q.tree || b) (in_one_tree trees comes_first ltb before_places p.tree q.tree p.pre q.pre hp hq (p.tree == q.tree) refl)
stands-same trees Follows p q hp hq = ap (λ b. ltb q.tree p.tree || b) (in_one_tree trees comes_first ltb before_places q.tree p.tree q.pre p.pre hq hp (q.tree == p.tree) refl)

pub by_nodes-places : (trees : List Tree) (op : NodeComparison) (xs ys : List ItemView) → AreIn trees xs → AreIn trees ys → by_nodes op (items_at trees xs) (items_at trees ys) ≡ places.by_places op xs ys
by_nodes-places trees op [] ys hx hy = refl
by_nodes-places trees op (x ∷ xs) [] hx hy = refl
by_nodes-places trees op (Value a ∷ []) (y ∷ ys) hx hy = refl
by_nodes-places trees op (Value a ∷ x ∷ xs) (y ∷ ys) hx hy = refl
by_nodes-places trees op (Place p ∷ x ∷ xs) (y ∷ ys) hx hy = refl
by_nodes-places trees op (Place p ∷ []) (Value a ∷ []) hx hy = refl
by_nodes-places trees op (Place p ∷ []) (Value a ∷ y ∷ ys) hx hy = refl
by_nodes-places trees op (Place p ∷ []) (Place q ∷ y ∷ ys) hx hy = refl
by_nodes-places trees op (Place p ∷ []) (Place q ∷ []) hx hy = ap (λ b. Ok (boolean b)) (stands-same trees op p q hx.0 hy.0)
