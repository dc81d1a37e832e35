-- The first of the places that pass a test.
use Rattle.std.proofs.Common.{◌≡◌, ℕ, zero, suc, ◌-◌, ◌<◌, ◌≤◌, List, [], ◌∷◌, ◌++◌, length, map, take, drop, Bool, cond, inl, inr, refl, sym, ◌∙◌, ap, subst, arith, append_assoc, take_all}
use Rattle.std.specs.List.{AllByRecursion}
use Rattle.std.proofs.lemmas.Bool.{cases_lt}
use Rattle.std.proofs.lemmas.List.{append-nil, drop-map, length-append, length-map, take-append-le, take-map}
use Rattle.xq_trees.specs.declared.items.Node.{Node}
use Rattle.xq_trees.specs.Items.{ItemView, Place as NodeAt}
use Rattle.xq_trees.specs.Tree.{Tree}
use Rattle.xq_trees.specs.declared.Axis.{Axis}
use Rattle.xq_sources.specs.Sources.{tree_at, HasNode}
use Rattle.xq_meaning.specs.declared.node_tests.Test.{Test}
use Rattle.xq_meaning.specs.Items.{Place}
use Rattle.xq_meaning.specs.Readings.{node_at}
use Rattle.xq_meaning.specs.Steps.{axis_nodes}
use Rattle.xq_axes.specs.Many.{spot, places_from}
use Rattle.xq_axes.specs.Nodes.{HaveAll, AreFirstOnAxis, IsLastOnAxis, last_of}
use Rattle.xq_axes.specs.private.Hits.{below_where}
use Rattle.xq_axes.specs.private.Near.{AreFirst}
use Rattle.xq_axes.proofs.Many.{from_one}

-- nothing was looked at
pub first_none : (most : ℕ) → AreFirst most [] most []
first_none most = record { found = sym (take_all most [] (omega arith)); left = omega arith }

-- those up to a greater bound go on from these
goes_on : (f : ℕ → Bool) (n m : ℕ) → n ≤ m → (rest : List ℕ) × (below_where f m ≡ below_where f n ++ rest)
goes_on f n zero l = (let e : 0 ≡ n = omega (arith, l) in ([], ap (below_where f) e ∙ sym (append-nil (below_where f n))))
goes_on f n (suc m) l = elim (cases_lt n (suc m)) [
  | inl h ↦ (
      let w = goes_on f n m (omega (arith, h)) in
      let last = cond (f m) (m ∷ []) [] in
      (w.0 ++ last, ap (λ ns. ns ++ last) w.1 ∙ append_assoc (below_where f n) w.0 last))
  | inr h ↦ (let e : suc m ≡ n = omega (arith, l, h) in ([], ap (below_where f) e ∙ sym (append-nil (below_where f n))))
]

-- as many as are wanted were found
pub first_full : (f : ℕ → Bool) (n m most : ℕ) (found : List ℕ) → n ≤ m → AreFirst most (below_where f n) 0 found → AreFirst most (below_where f m) 0 found
first_full f n m most found l first =
    let w = goes_on f n m l in
    let left = first.left in
    let enough : most ≤ length (below_where f n) = omega (arith, left) in
    let long = length-append (below_where f n) w.0 in
    record {
      found = first.found ∙ sym (take-append-le most (below_where f n) w.0 enough) ∙ ap (take most) (sym w.1);
      left = omega (arith, enough, long, ap length w.1);
    }

-- one more was found
pub first_added : (all found new : List ℕ) (n most left next : ℕ) → 0 < left → AreFirst most all left found → new ≡ found ++ n ∷ [] → next ≡ left - 1 → AreFirst most (all ++ n ∷ []) next new
first_added all found new n most left next some first is less =
    let before = first.left in
    let long = length-append all (n ∷ []) in
    let fits : length all ≤ most = omega (arith, before, some) in
    record {
      found = is ∙ ap (λ ns. ns ++ n ∷ []) (first.found ∙ take_all most all fits) ∙ sym (take_all most (all ++ n ∷ []) (omega (arith, before, some, long)));
      left = omega (arith, before, some, long, less);
    }

-- the same of equal lists
pub first_same : (most left : ℕ) (all other found : List ℕ) → all ≡ other → AreFirst most all left found → AreFirst most other left found
first_same most left all other found e first = subst (λ ns. AreFirst most ns left found) e first

-- # Some of the nodes that a step leads to

-- a part of a list, by the places of its elements alone
record IsPart (part : (A : Type 0) → List A → List A) : Type 1 where
  maps : (A B : Type 0) (f : A → B) (xs : List A) → part B (map f xs) ≡ map f (part A xs)
  holds : (A : Type 0) (P : A → Type 0) (xs : List A) → AllByRecursion P xs → AllByRecursion P (part A xs)

part_from_one : (part : (A : Type 0) → List A → List A) → IsPart part → (trees : List Tree) (a : Axis) (test : Test) (n : Node) (ps : List ℕ) (items : List ItemView) → HasNode trees n.tree n.pre → ps ≡ part ℕ (places_from a test (tree_at trees n.tree) n.pre)
    → items ≡ map (λ p. NodeAt (spot n.tree p)) ps
    → (found : List Node) × (items ≡ map NodeAt found) × (map (node_at trees) found ≡ part Place (axis_nodes trees a test (node_at trees n))) × HaveAll trees found
part_from_one part is trees a test n ps items h e are =
    let all = places_from a test (tree_at trees n.tree) n.pre in
    let whole = from_one trees a test n all (map (λ p. NodeAt (spot n.tree p)) all) h refl refl in (
      part Node whole.nodes,
      are ∙ ap (map (λ p. NodeAt (spot n.tree p))) e ∙ sym (is.maps ℕ ItemView (λ p. NodeAt (spot n.tree p)) all) ∙ ap (part ItemView) whole.are ∙ is.maps Node ItemView NodeAt whole.nodes,
      sym (is.maps Node Place (node_at trees) whole.nodes) ∙ ap (part Place) whole.on_axis,
      is.holds Node (λ m. HasNode trees m.tree m.pre) whole.nodes whole.there,
    )

take_in : {A : Type 0} (P : A → Type 0) (n : ℕ) (xs : List A) → AllByRecursion P xs → AllByRecursion P (take n xs)
take_in P zero xs h = tt
take_in P (suc n) [] h = tt
take_in P (suc n) (x ∷ xs) h = (h.0, take_in P n xs h.1)

-- the first of them
pub first_from_one : (trees : List Tree) (a : Axis) (test : Test) (n : Node) (most : ℕ) (ps : List ℕ) (items : List ItemView) → HasNode trees n.tree n.pre → ps ≡ take most (places_from a test (tree_at trees n.tree) n.pre)
    → items ≡ map (λ p. NodeAt (spot n.tree p)) ps → AreFirstOnAxis trees a test n most items
first_from_one trees a test n most ps items h e are =
    let found = part_from_one (λ A xs. take most xs) (record { maps = λ A B f xs. take-map f most xs; holds = λ A P xs. take_in P most xs }) trees a test n ps items h e are in
    record { nodes = found.0; are = found.1; on_axis = found.2; there = found.3 }

drop_in : {A : Type 0} (P : A → Type 0) (n : ℕ) (xs : List A) → AllByRecursion P xs → AllByRecursion P (drop n xs)
drop_in P zero xs h = h
drop_in P (suc n) [] h = tt
drop_in P (suc n) (x ∷ xs) h = drop_in P n xs h.1

last-map : {A B : Type 0} (f : A → B) (xs : List A) → last_of (map f xs) ≡ map f (last_of xs)
last-map f xs = ap (λ n. drop (n - 1) (map f xs)) (length-map xs f) ∙ drop-map f (length xs - 1) xs

-- the last of them
pub last_from_one : (trees : List Tree) (a : Axis) (test : Test) (n : Node) (ps : List ℕ) (items : List ItemView) → HasNode trees n.tree n.pre → ps ≡ last_of (places_from a test (tree_at trees n.tree) n.pre)
    → items ≡ map (λ p. NodeAt (spot n.tree p)) ps → IsLastOnAxis trees a test n items
last_from_one trees a test n ps items h e are =
    let found = part_from_one (λ A xs. last_of xs) (record { maps = λ A B f xs. last-map f xs; holds = λ A P xs. drop_in P (length xs - 1) xs }) trees a test n ps items h e are in
    record { nodes = found.0; are = found.1; on_axis = found.2; there = found.3 }
