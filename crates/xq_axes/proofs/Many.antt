-- What is found from many nodes.
use Rattle.std.proofs.Common.{◌≡◌, ◌↔◌, ℕ, zero, suc, ◌+◌, ◌<◌, ◌≤◌, List, [], ◌∷◌, ◌++◌, length, get_or, map, take, Bool, true, false, ◌&&◌, ◌||◌, cond, inl, inr, refl, sym, ◌∙◌, ap, subst, arith}
use Rattle.std.specs.Prelude.{filter}
use Rattle.std.specs.List.{list_any, flat_map, Contains}
use Rattle.std.specs.declared.cmp.Ordering.TheVariants.{Less}
use Rattle.std.proofs.lemmas.Bool.{cases_lt}
use Rattle.std.proofs.lemmas.List.{take_all, get_or_append_left, get_or-append-add, length-append, map-append}
use Rattle.std.proofs.lemmas.List.Elements.{Contains-append_cases}
use Rattle.std.proofs.lemmas.List.Folds.{list_any-append, list_any_more, Any-from_list_any}
use Rattle.std.proofs.lemmas.Map.Keys.{Less-from_sorted}
use Rattle.xq_trees.specs.declared.Axis.{Axis}
use Rattle.xq_trees.specs.declared.items.Node.{Node}
use Rattle.xq_trees.specs.Forest.{count}
use Rattle.xq_trees.specs.Order.{path_at}
use Rattle.xq_trees.specs.RegionTests.{in_region}
use Rattle.xq_trees.specs.Rows.{rows, row_at}
use Rattle.xq_trees.specs.Tree.{Tree, nodes}
use Rattle.xq_sources.specs.Sources.{tree_at, HasNode}
use Rattle.xq_meaning.specs.declared.node_tests.Test.{Test}
use Rattle.xq_meaning.specs.Items.{Place, place, nodes_at, places_from as places_of, same_node, is_among as is_among_places, in_document_order}
use Rattle.xq_meaning.specs.Steps.{axis_nodes}
use Rattle.xq_meaning.specs.Readings.{node_at}
use Rattle.xq_trees.specs.Rising.{document_order, AreRising}
use Rattle.xq_axes.specs.Nodes.{HaveAll, AreOnAxis}
use Rattle.xq_axes.specs.private.Hits.{is_hit, is_wanted, row_passes, below_where, IsRising}
use Rattle.xq_axes.specs.Many.{spot, AreThere, places_from, is_found_from, IsNext, IsGathered}
use Rattle.xq_axes.proofs.Lists.{any_and, any_or}
use Rattle.xq_axes.proofs.Merging.{any_map, any_here, have_one, merged}
use Rattle.xq_axes.proofs.OnPaths.{axis_nodes_of}
use Rattle.xq_meaning.proofs.PathLemmas.{map-map}
use Rattle.xq_trees.specs.Items.{ItemView, Place as NodeAt}
use Rattle.xq_trees.proofs.Rising.{same_any, from_contains, order_parts, order_less, is_one_node, one_node, node_itself, rising_none, rising_more, rising_append}
use Rattle.xq_axes.proofs.Siblings.{one_hit}

-- # Tests of some elements

or_none : (b : Bool) → (b || false) ≡ b
or_none true = refl
or_none false = refl

or_shift : (a b c : Bool) → ((a || b) || c) ≡ (a || (b || c))
or_shift true b c = refl
or_shift false b c = refl

any_same : {X : Type 0} (f g : X → Bool) (xs : List X) → ((x : X) → f x ≡ g x) → list_any f xs ≡ list_any g xs
any_same f g [] h = refl
any_same f g (x ∷ xs) h = let a = h x in let b = any_same f g xs h in rw (a, b)

any_never : {X : Type 0} (xs : List X) → list_any (λ (x : X). false) xs ≡ false
any_never [] = refl
any_never (x ∷ xs) = any_never xs

pub any_flat : {X Y : Type 0} (p : Y → Bool) (f : X → List Y) (xs : List X) → list_any p (flat_map f xs) ≡ list_any (λ x. list_any p (f x)) xs
any_flat p f [] = refl
any_flat p f (x ∷ xs) = list_any-append p (f x) (flat_map f xs) ∙ ap (λ b. list_any p (f x) || b) (any_flat p f xs)

any_cond : (p : ℕ → Bool) (b : Bool) (n : ℕ) → list_any p (cond b (n ∷ []) []) ≡ (b && p n)
any_cond p true n = or_none (p n)
any_cond p false n = refl

any_last : (p f : ℕ → Bool) (n : ℕ) → list_any p (below_where f (suc n)) ≡ (list_any p (below_where f n) || (f n && p n))
any_last p f n = list_any-append p (below_where f n) (cond (f n) (n ∷ []) []) ∙ ap (λ b. list_any p (below_where f n) || b) (any_cond p (f n) n)

wanted_each : (a : Axis) (test : Test) (t : Tree) (vs : List ℕ) (n : ℕ) → list_any (λ v. is_wanted a test t (v ∷ []) n) vs ≡ is_wanted a test t vs n
wanted_each a test t vs n =
    let r = row_passes test (row_at (rows t) n) in
    any_and (λ v. is_hit a t (v ∷ []) n) r vs ∙ ap (λ b. b && r) (any_same (λ v. is_hit a t (v ∷ []) n) (λ v. in_region a (rows t) v n) vs (λ v. one_hit a t v n))

-- what is found from many nodes is found from one of them
pub any_each : (a : Axis) (test : Test) (t : Tree) (vs : List ℕ) (n : ℕ) (p : ℕ → Bool) → list_any p (below_where (is_wanted a test t vs) n) ≡ list_any (λ v. list_any p (below_where (is_wanted a test t (v ∷ [])) n)) vs
any_each a test t vs zero p = sym (any_never vs)
any_each a test t vs (suc n) p =
    let many = is_wanted a test t vs in
    let old : ℕ → Bool = λ v. list_any p (below_where (is_wanted a test t (v ∷ [])) n) in
    let new : ℕ → Bool = λ v. is_wanted a test t (v ∷ []) n && p n in
    any_last p many n
    ∙ ap (λ b. b || (many n && p n)) (any_each a test t vs n p)
    ∙ ap (λ b. list_any old vs || (b && p n)) (sym (wanted_each a test t vs n))
    ∙ ap (λ b. list_any old vs || b) (sym (any_and (λ v. is_wanted a test t (v ∷ []) n) (p n) vs))
    ∙ sym (any_or old new vs)
    ∙ any_same (λ v. old v || new v) (λ v. list_any p (below_where (is_wanted a test t (v ∷ [])) (suc n))) vs (λ v. sym (any_last p (is_wanted a test t (v ∷ [])) n))

-- # The contexts of one tree

pub added : (trees : List Tree) (a : Axis) (test : Test) (tree : ℕ) (vs ps : List ℕ) (found new : List Node) → ps ≡ below_where (is_wanted a test (tree_at trees tree) vs) (count (nodes (tree_at trees tree))) → new ≡ found ++ map (spot tree) ps
    → (p : Node → Bool) → list_any p new ≡ (list_any p found || list_any (is_found_from trees a test p) (map (spot tree) vs))
added trees a test tree vs ps found new e m p =
    let t = tree_at trees tree in
    let at : ℕ → Bool = λ k. p (spot tree k) in
    ap (list_any p) m ∙ list_any-append p found (map (spot tree) ps)
    ∙ ap (λ b. list_any p found || b) (any_map p (spot tree) ps ∙ ap (list_any at) e ∙ any_each a test t vs (count (nodes t)) at
    ∙ any_same (λ v. list_any at (places_from a test t v)) (λ v. is_found_from trees a test p (spot tree v)) vs (λ v. sym (any_map p (spot tree) (places_from a test t v)))
    ∙ sym (any_map (is_found_from trees a test p) (spot tree) vs))

pub gathered_none : (trees : List Tree) (a : Axis) (test : Test) (contexts : List Node) → IsGathered trees a test contexts 0 0 [] []
gathered_none trees a test contexts = record {
  rising = λ i j h l. absurd (omega (arith, l));
  there = λ i l. absurd (omega (arith, l));
  later = λ j n h l e i k. absurd (omega (arith, k));
  is_found = λ p. refl;
}

-- the contexts of one tree are done with
pub gathered_empty : (trees : List Tree) (a : Axis) (test : Test) (contexts : List Node) (index tree next : ℕ) (places : List ℕ) (found new : List Node)
    → ((p : Node → Bool) → list_any p new ≡ (list_any p found || list_any (is_found_from trees a test p) (map (spot tree) places)))
    → IsGathered trees a test contexts index tree places found → IsGathered trees a test contexts index next [] new
gathered_empty trees a test contexts index tree next places found new h g = record {
  rising = λ i j l k. absurd (omega (arith, k));
  there = λ i l. absurd (omega (arith, l));
  later = λ j n l k e i m. absurd (omega (arith, m));
  is_found = λ p. or_none (list_any p new) ∙ h p ∙ g.is_found p;
}

last_one : (xs : List ℕ) (x i : ℕ) → i < length (xs ++ x ∷ []) → length xs ≤ i → get_or (xs ++ x ∷ []) i 0 ≡ x
last_one xs x i l h =
    let n = length-append xs (x ∷ []) in
    let e : length xs + 0 ≡ i = omega (arith, n, l, h) in
    ap (λ k. get_or (xs ++ x ∷ []) k 0) (sym e) ∙ get_or-append-add xs (x ∷ []) 0 0

pub default_at : (ns : List Node) (i : ℕ) (c d : Node) → i < length ns → get_or ns i c ≡ get_or ns i d
default_at [] i c d l = absurd (omega (arith, l))
default_at (n ∷ ns) zero c d l = refl
default_at (n ∷ ns) (suc i) c d l = default_at ns i c d (omega (arith, l))

-- one context more of the tree
pub gathered_more : (trees : List Tree) (a : Axis) (test : Test) (contexts : List Node) (index : ℕ) (x : Node) (tree : ℕ) (places new : List ℕ) (found : List Node)
    → IsNext trees contexts index x → x.tree ≡ tree → new ≡ places ++ x.pre ∷ [] → IsGathered trees a test contexts index tree places found → IsGathered trees a test contexts (index + 1) tree new found
gathered_more trees a test contexts index x tree places new found h same e g = subst (λ ps. IsGathered trees a test contexts (index + 1) tree ps found) (sym e) grown
  where
    longer : length (places ++ x.pre ∷ []) ≡ length places + 1
    longer = length-append places (x.pre ∷ [])

    old : (i : ℕ) → i < length places → get_or (places ++ x.pre ∷ []) i 0 ≡ get_or places i 0
    old i l = get_or_append_left places (x.pre ∷ []) 0 i l

    last : (i : ℕ) → i < length (places ++ x.pre ∷ []) → length places ≤ i → get_or (places ++ x.pre ∷ []) i 0 ≡ x.pre
    last i l k = last_one places x.pre i l k

    below : (i : ℕ) → i < length places → get_or places i 0 < x.pre
    below i l = subst (λ (n : Node). get_or places i 0 < n.pre) (sym h.is) (g.later index x (omega arith) h.within (ap (λ (n : Node). n.tree) (sym h.is) ∙ same) i l)

    follows : (j : ℕ) (n : Node) → index + 1 ≤ j → j < length contexts → (get_or contexts j n).tree ≡ tree → x.pre < (get_or contexts j n).pre
    follows j n k l t =
        let d = default_at contexts index x n h.within in
        let r = Less-from_sorted document_order contexts index j n h.rising (omega (arith, k)) l in
        let r_x = subst (λ y. document_order y (get_or contexts j n) ≡ Less) (sym (h.is ∙ d)) r in
        elim (order_parts x (get_or contexts j n) r_x) [
          | inl q ↦ absurd (omega (arith, q, same, t))
          | inr q ↦ q.1
        ]

    grown : IsGathered trees a test contexts (index + 1) tree (places ++ x.pre ∷ []) found
    grown = record {
      rising = λ i j l k. elim (cases_lt j (length places)) [
        | inl m ↦ (let b = g.rising i j l m in let u = old i (omega (arith, l, m)) in let v = old j m in omega (arith, b, u, v))
        | inr m ↦ (
            let n = longer in
            let s : i < length places = omega (arith, l, k, n) in
            let b = below i s in
            let u = old i s in
            let v = last j k m in
            omega (arith, b, u, v))
      ];
      there = λ i l. elim (cases_lt i (length places)) [
        | inl m ↦ subst (λ p. HasNode trees tree p) (sym (old i m)) (g.there i m)
        | inr m ↦ subst (λ p. HasNode trees tree p) (sym (last i l m)) (subst (λ n. HasNode trees n x.pre) same (have_one trees contexts x h.there (index, h.within, sym h.is)))
      ];
      later = λ j n l k t i m. elim (cases_lt i (length places)) [
        | inl s ↦ (let b = g.later j n (omega (arith, l)) k t i s in let u = old i s in omega (arith, b, u))
        | inr s ↦ (let b = follows j n l k t in let u = last i m s in omega (arith, b, u))
      ];
      is_found = λ p. (
          let f = is_found_from trees a test p in
          let one : list_any f (map (spot tree) (x.pre ∷ [])) ≡ f x = or_none (f (spot tree x.pre)) ∙ ap (λ n. f (spot n x.pre)) (sym same) in
          ap (λ b. list_any p found || b) (any_map f (spot tree) (places ++ x.pre ∷ []) ∙ list_any-append (λ v. f (spot tree v)) places (x.pre ∷ []) ∙ ap (λ b. b || list_any (λ v. f (spot tree v)) (x.pre ∷ [])) (sym (any_map f (spot tree) places)) ∙ ap (λ b. list_any f (map (spot tree) places) || b) one)
          ∙ sym (or_shift (list_any p found) (list_any f (map (spot tree) places)) (f x))
          ∙ ap (λ b. b || f x) (g.is_found p)
          ∙ ap (λ n. list_any f (take index contexts) || f n) h.is
          ∙ sym (list_any_more f contexts index x h.within));
    }

-- # A whole step

pub one_there : (trees : List Tree) (tree v : ℕ) → HasNode trees tree v → AreThere trees tree (v ∷ [])
one_there trees tree v h zero l = h
one_there trees tree v h (suc i) l = absurd (omega (arith, l))

pub one_rises : (v : ℕ) → IsRising (v ∷ [])
one_rises v i j h l = absurd (omega (arith, h, l))

pub step_found : (trees : List Tree) (a : Axis) (test : Test) (ns contexts found new : List Node) (index tree : ℕ) (places : List ℕ) → length contexts ≤ index → IsGathered trees a test contexts index tree places found
    → ((p : Node → Bool) → list_any p new ≡ (list_any p found || list_any (is_found_from trees a test p) (map (spot tree) places)))
    → ((n : Node) → Contains contexts n ↔ Contains ns n) → (p : Node → Bool) → list_any p new ≡ list_any (is_found_from trees a test p) ns
step_found trees a test ns contexts found new index tree places l g h m p =
    let f = is_found_from trees a test p in
    h p ∙ g.is_found p ∙ ap (list_any f) (take_all index contexts l) ∙ same_any f contexts ns m

pub have_same : (trees : List Tree) (ns ms : List Node) → HaveAll trees ns → ((n : Node) → Contains ms n → Contains ns n) → HaveAll trees ms
have_same trees ns ms h m = from_contains (λ n. HasNode trees n.tree n.pre) ms (λ n c. have_one trees ns n h (m n c))

below_less : (f : ℕ → Bool) (n q : ℕ) → Contains (below_where f n) q → q < n
below_less f zero q c = absurd (omega (arith, c.1))
below_less f (suc n) q c =
    elim (Contains-append_cases (below_where f n) (cond (f n) (n ∷ []) []) q c) [
      | inl l ↦ omega (arith, below_less f n q l)
      | inr l ↦ (let e = only (f n) l in omega (arith, e))
    ]
  where
    only : (b : Bool) → Contains (cond b (n ∷ []) []) q → q ≡ n
    only true (zero, l, e) = sym e
    only true (suc k, l, e) = absurd (omega (arith, l))
    only false (k, l, e) = absurd (omega (arith, l))

module _ (trees : List Tree) (a : Axis) (test : Test) (ns found : List Node) (have : HaveAll trees ns) (h : (p : Node → Bool) → list_any p found ≡ list_any (is_found_from trees a test p) ns) where
  pub step_there : HaveAll trees found
  step_there = from_contains (λ n. HasNode trees n.tree n.pre) found (λ x c. (
      let e = sym (h (is_one_node x)) ∙ any_here (is_one_node x) found x c (node_itself x) in
      let b = Any-from_list_any (is_found_from trees a test (is_one_node x)) ns e in
      let n = b.1 in
      let ps = places_from a test (tree_at trees n.tree) n.pre in
      let w = Any-from_list_any (λ k. is_one_node x (spot n.tree k)) ps (sym (any_map (is_one_node x) (spot n.tree) ps) ∙ b.4) in
      let same = one_node x (spot n.tree w.1) w.4 in
      let l = below_less (is_wanted a test (tree_at trees n.tree) (n.pre ∷ [])) (count (nodes (tree_at trees n.tree))) w.1 (w.0, w.2, w.3) in
      let there : HasNode trees n.tree w.1 = record { tree_in = (have_one trees ns n have (b.0, b.2, b.3)).tree_in; node_in = l } in
      subst (λ (y : Node). HasNode trees y.tree y.pre) (sym same) there))

  any_have : (f g : Node → Bool) (xs : List Node) → HaveAll trees xs → ((n : Node) → HasNode trees n.tree n.pre → f n ≡ g n) → list_any f xs ≡ list_any g xs
  any_have f g [] k e = refl
  any_have f g (x ∷ xs) k e = let u = e x k.0 in let v = any_have f g xs k.1 e in rw (u, v)

  filter_same : (f g : Place → Bool) (xs : List Place) → ((q : Place) → f q ≡ g q) → filter f xs ≡ filter g xs
  filter_same f g [] e = refl
  filter_same f g (x ∷ xs) e = let u = e x in let v = filter_same f g xs e in rw (u, v)

  same_places : (q : Place) → is_among_places (map (node_at trees) found) q ≡ is_among_places (flat_map (axis_nodes trees a test) (map (node_at trees) ns)) q
  same_places q =
      let p : Node → Bool = λ n. same_node q (node_at trees n) in
      let each : Place → Bool = λ y. list_any (same_node q) (axis_nodes trees a test y) in
      any_map (same_node q) (node_at trees) found ∙ h p
      ∙ any_have (is_found_from trees a test p) (λ n. each (node_at trees n)) ns have (λ n k. (
      let ps = places_from a test (tree_at trees n.tree) n.pre in
      any_map p (spot n.tree) ps ∙ sym (any_map (same_node q) (λ i. place n.tree (path_at (nodes_at trees n.tree) i)) ps) ∙ ap (list_any (same_node q)) (sym (axis_nodes_of trees a test n k))))
      ∙ sym (any_map each (node_at trees) ns) ∙ sym (any_flat (same_node q) (axis_nodes trees a test) (map (node_at trees) ns))

  pub step_nodes : in_document_order trees (map (node_at trees) found) ≡ in_document_order trees (flat_map (axis_nodes trees a test) (map (node_at trees) ns))
  step_nodes = filter_same (is_among_places (map (node_at trees) found)) (is_among_places (flat_map (axis_nodes trees a test) (map (node_at trees) ns))) (places_of 0 trees) same_places

-- the nodes on an axis from one node are there
pub axis_there : (trees : List Tree) (a : Axis) (test : Test) (n : Node) (found : List Node) → HasNode trees n.tree n.pre → found ≡ map (spot n.tree) (places_from a test (tree_at trees n.tree) n.pre) → HaveAll trees found
axis_there trees a test n found h e = step_there trees a test (n ∷ []) found (h, tt) (λ p. ap (list_any p) e ∙ sym (or_none (is_found_from trees a test p n)))

-- # A step from one node

record IsBelow (tree n : ℕ) (x : Node) : Type 0 where
  of_tree : x.tree ≡ tree
  before : x.pre < n

last_below : (tree n : ℕ) (b : Bool) (x : Node) → Contains (map (spot tree) (cond b (n ∷ []) [])) x → (x.tree ≡ tree) × (x.pre ≡ n)
last_below tree n true x (zero, l, e) = (ap (λ (y : Node). y.tree) (sym e), ap (λ (y : Node). y.pre) (sym e))
last_below tree n true x (suc k, l, e) = absurd (omega (arith, l))
last_below tree n false x (k, l, e) = absurd (omega (arith, l))

spots_below : (tree : ℕ) (f : ℕ → Bool) (n : ℕ) (x : Node) → Contains (map (spot tree) (below_where f n)) x → IsBelow tree n x
spots_below tree f zero x c = absurd (omega (arith, c.1))
spots_below tree f (suc n) x c =
    let parts = subst (λ xs. Contains xs x) (map-append (spot tree) (below_where f n) (cond (f n) (n ∷ []) [])) c in
    elim (Contains-append_cases (map (spot tree) (below_where f n)) (map (spot tree) (cond (f n) (n ∷ []) [])) x parts) [
      | inl l ↦ (let w = spots_below tree f n x l in record { of_tree = w.of_tree; before = (let b = w.before in omega (arith, b)) })
      | inr l ↦ (let w = last_below tree n (f n) x l in record { of_tree = w.0; before = (let e = w.1 in omega (arith, e)) })
    ]

-- places below a bound, in order, are nodes in document order
pub spots_rise : (tree : ℕ) (f : ℕ → Bool) (n : ℕ) → AreRising (map (spot tree) (below_where f n))
spots_rise tree f zero = rising_none
spots_rise tree f (suc n) =
    subst AreRising (sym (map-append (spot tree) (below_where f n) (cond (f n) (n ∷ []) [])))
    (rising_append (map (spot tree) (below_where f n)) (map (spot tree) (cond (f n) (n ∷ []) [])) (spots_rise tree f n) (one (f n)) (λ x y c d.
    let a = spots_below tree f n x c in
    let b = last_below tree n (f n) y d in
    let before = a.before in
    let at = b.1 in
    order_less x y (inr (a.of_tree ∙ sym b.0, omega (arith, before, at)))))
  where
    one : (b : Bool) → AreRising (map (spot tree) (cond b (n ∷ []) []))
    one true = rising_more [] (spot tree n) (spot tree n) rising_none (λ i e. absurd (omega (arith, e)))
    one false = rising_none

pub from_one : (trees : List Tree) (a : Axis) (test : Test) (n : Node) (ps : List ℕ) (items : List ItemView) → HasNode trees n.tree n.pre → ps ≡ places_from a test (tree_at trees n.tree) n.pre → items ≡ map (λ p. NodeAt (spot n.tree p)) ps → AreOnAxis trees a test n items
from_one trees a test n ps items h e are =
    let t = tree_at trees n.tree in
    let found = map (spot n.tree) (places_from a test t n.pre) in
    let here : (p : Node → Bool) → list_any p found ≡ list_any (is_found_from trees a test p) (n ∷ []) = λ p. sym (or_none (is_found_from trees a test p n)) in
    let there = step_there trees a test (n ∷ []) found (h, tt) here in
    let rising = spots_rise n.tree (is_wanted a test t (n.pre ∷ [])) (count (nodes t)) in
    record {
      nodes = found;
      are = are ∙ ap (map (λ p. NodeAt (spot n.tree p))) e ∙ sym (map-map NodeAt (spot n.tree) (places_from a test t n.pre));
      on_axis = map-map (node_at trees) (spot n.tree) (places_from a test t n.pre) ∙ sym (axis_nodes_of trees a test n h);
      in_order = merged trees found there found rising (λ m. (λ k. k, λ k. k)) ∙ step_nodes trees a test (n ∷ []) found (h, tt) here;
      there = there;
      rising = rising;
    }
