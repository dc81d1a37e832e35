-- Set operations by places.
use Rattle.std.proofs.Common.{◌≡◌, ℕ, zero, suc, ◌+◌, ◌<◌, ◌≤◌, List, [], ◌∷◌, ◌++◌, map, length, Bool, true, false, ◌&&◌, ◌||◌, not, cond, Ok, Err, refl, sym, ap, ◌∙◌, subst, arith, ⊎_elim}
use Rattle.std.specs.Prelude.{filter}
use Rattle.std.specs.List.{AllByRecursion, range_with_len}
use Rattle.std.specs.List.Sorted.{IsStrictlySortedBy}
use Rattle.std.specs.declared.cmp.Ordering.TheVariants.{Less}
use Rattle.std.proofs.lemmas.List.{map-append}
use Rattle.std.proofs.lemmas.List.Folds.{list_any-append}
use Rattle.std.proofs.lemmas.List.Kept.{IsStrictlySortedBy-filter}
use Rattle.std.proofs.lemmas.Bool.{false≢true, or_cases, or_left, or_right, and_from, and_right}
use Rattle.xq_atoms.specs.declared.refusals.Code.{Code}
use Rattle.xq_atoms.specs.declared.refusals.Code.TheVariants.{XPTY0004, XPTY0018}
use Rattle.xq_atoms.specs.Judged.{Judged, ◌>>=◌}
use Rattle.xq_expressions.specs.declared.operators.NodeComparison.TheVariants.{Is}
use Rattle.xq_expressions.specs.declared.operators.SetOperator.{SetOperator}
use Rattle.xq_expressions.specs.declared.operators.SetOperator.TheVariants.{Intersect, Except}
use Rattle.xq_trees.specs.declared.items.Node.{Node as CodeNode}
use Rattle.xq_trees.specs.Forest.{count}
use Rattle.xq_trees.specs.Tree.{Tree, nodes}
use Rattle.xq_trees.specs.Order.{path_at}
use Rattle.xq_trees.specs.Items.{ItemView, Place as NodeAt, Value}
use Rattle.xq_sources.specs.Sources.{HasNode, tree_at}
use Rattle.xq_meaning.specs.Items.{Place, Node, place, paths, places_from, is_among as has_place, in_document_order}
use Rattle.xq_meaning.specs.Readings.{item_at, items_at, AreIn}
use Rattle.xq_meaning.specs.Arguments.{all_nodes}
use Rattle.xq_meaning.specs.Operators.{from_nodes, in_order, set_of, gathered, nodes_or_atoms, are_atoms, all_atoms}
use Rattle.xq_trees.specs.declared.items.Node.{Node as Spot}
use Rattle.xq_trees.specs.Rising.{document_order, AreRising}
use Rattle.xq_functions.specs.private.Places.{view, place_at, all_spots, SpotsAreIn, same_spot, is_among, IsInOrder, takes, united, selected}
use Rattle.xq_functions.proofs.NodeLemmas.{stands-same}
use Rattle.xq_meaning.proofs.PathLemmas.{map-map, filter-map, paths-range}
use Rattle.xq_functions.proofs.PlaceLemmas.{spot, run, unique, among-filter, run-beyond, run-rises, run-among, same-from}
use Rattle.xq_trees.proofs.Lists.{all_append, all_weaker, all_filter}

-- # All places

abbrev spots_from : ℕ → List Tree → List Spot
spots_from n [] = []
spots_from n (t ∷ ts) = run n 0 (count (nodes t)) ++ spots_from (suc n) ts

from-beyond : (m b n : ℕ) (ts : List Tree) → m < n → AllByRecursion (λ y. document_order (spot m b) y ≡ Less) (spots_from n ts)
from-beyond m b n [] h = tt
from-beyond m b n (t ∷ ts) h = all_append (λ y. document_order (spot m b) y ≡ Less) (run n 0 (count (nodes t))) (spots_from (suc n) ts) (run-beyond m b n 0 (count (nodes t)) h) (from-beyond m b (suc n) ts (omega (arith, h)))

from-rises : (n : ℕ) (ts : List Tree) → AreRising (spots_from n ts)
unfolding IsStrictlySortedBy
from-rises n [] = tt
from-rises n (t ∷ ts) = run-rises n 0 (count (nodes t)) (spots_from (suc n) ts) (λ b. from-beyond n b (suc n) ts (omega arith)) (from-rises (suc n) ts)

from-among : (n : ℕ) (ts : List Tree) (i p : ℕ) → i < length ts → p < count (nodes (tree_at ts i)) → is_among (spots_from n ts) (spot (n + i) p) ≡ true
from-among n [] i p h k = absurd (omega (arith, h))
from-among n (t ∷ ts) zero p h k =
    let here = run n 0 (count (nodes t)) in
    let later = spots_from (suc n) ts in
    let s = spot (n + 0) p in
    let e : n + 0 ≡ n = omega arith in
    let z : p ≡ 0 + p = omega arith in
    list_any-append (same_spot s) here later ∙ or_left (is_among here s) (is_among later s) (ap (λ m. is_among here (spot m p)) e ∙ ap (λ q. is_among here (spot n q)) z ∙ run-among n 0 (count (nodes t)) p k)
from-among n (t ∷ ts) (suc i) p h k =
    let here = run n 0 (count (nodes t)) in
    let later = spots_from (suc n) ts in
    let s = spot (n + suc i) p in
    let e : n + suc i ≡ suc n + i = omega arith in
    list_any-append (same_spot s) here later ∙ or_right (is_among here s) (is_among later s) (ap (λ m. is_among later (spot m p)) e ∙ from-among (suc n) ts i p (omega (arith, h)) k)

-- the trees from n on are these
abbrev StandAt : List Tree → List Tree → ℕ → Type 0
StandAt trees ts n = (i : ℕ) → i < length ts → (n + i < length trees) × (tree_at trees (n + i) ≡ tree_at ts i)

stand-first : (trees : List Tree) (t : Tree) (ts : List Tree) (n : ℕ) → StandAt trees (t ∷ ts) n → (n < length trees) × (tree_at trees n ≡ t)
stand-first trees t ts n stand =
    let w = stand 0 (omega arith) in
    let e : n ≡ n + 0 = omega arith in
    (omega (arith, w.0), ap (tree_at trees) e ∙ w.1)

stand-next : (trees : List Tree) (t : Tree) (ts : List Tree) (n : ℕ) → StandAt trees (t ∷ ts) n → StandAt trees ts (suc n)
stand-next trees t ts n stand i h =
    let w = stand (suc i) (omega (arith, h)) in
    let e : suc n + i ≡ n + suc i = omega arith in
    (omega (arith, w.0), ap (tree_at trees) e ∙ w.1)

run-in : (trees : List Tree) (n a k : ℕ) → n < length trees → a + k ≤ count (nodes (tree_at trees n)) → SpotsAreIn trees (run n a k)
run-in trees n a zero h l = tt
run-in trees n a (suc k) h l = (record { tree_in = h; node_in = omega (arith, l) }, run-in trees n (a + 1) k h (omega (arith, l)))

from-in : (trees ts : List Tree) (n : ℕ) → StandAt trees ts n → SpotsAreIn trees (spots_from n ts)
from-in trees [] n stand = tt
from-in trees (t ∷ ts) n stand =
    let w = stand-first trees t ts n stand in
    let c = ap (λ u. count (nodes u)) w.1 in
    all_append (λ s. HasNode trees s.tree s.pre) (run n 0 (count (nodes t))) (spots_from (suc n) ts) (run-in trees n 0 (count (nodes t)) w.0 (omega (arith, c))) (from-in trees ts (suc n) (stand-next trees t ts n stand))

run-places : (trees : List Tree) (n : ℕ) (t : Tree) → tree_at trees n ≡ t → map (place_at trees) (run n 0 (count (nodes t))) ≡ map (place n) (paths (nodes t))
run-places trees n t e =
    let r = range_with_len 0 (count (nodes t)) in
    map-map (place_at trees) (spot n) r ∙ ap (λ u. map (λ p. place n (path_at (nodes u) p)) r) e ∙ sym (map-map (place n) (path_at (nodes t)) r) ∙ ap (map (place n)) (sym (paths-range (nodes t)))

from-places : (trees ts : List Tree) (n : ℕ) → StandAt trees ts n → map (place_at trees) (spots_from n ts) ≡ places_from n ts
from-places trees [] n stand = refl
from-places trees (t ∷ ts) n stand =
    let later = spots_from (suc n) ts in
    map-append (place_at trees) (run n 0 (count (nodes t))) later
    ∙ ap (λ ps. ps ++ map (place_at trees) later) (run-places trees n t (stand-first trees t ts n stand).1)
    ∙ ap (λ ps. map (place n) (paths (nodes t)) ++ ps) (from-places trees ts (suc n) (stand-next trees t ts n stand))

stand-all : (trees : List Tree) → StandAt trees trees 0
stand-all trees i h = let e : 0 + i ≡ i = omega arith in (omega (arith, h), ap (tree_at trees) e)

-- # Tests of places

filter-same : {X : Type 0} (f g : X → Bool) (xs : List X) → AllByRecursion (λ x. f x ≡ g x) xs → filter f xs ≡ filter g xs
filter-same f g [] h = refl
filter-same f g (x ∷ xs) h = let later = filter-same f g xs h.1 in λ i. cond (h.0 i) (x ∷ later i) (later i)

among-places : (trees : List Tree) (zs : List Spot) → SpotsAreIn trees zs → (s : Spot) → HasNode trees s.tree s.pre → has_place (map (place_at trees) zs) (place_at trees s) ≡ is_among zs s
among-places trees [] hz s hs = refl
among-places trees (z ∷ zs) hz s hs =
    let p : CodeNode = record { tree = s.tree; pre = s.pre } in
    let q : CodeNode = record { tree = z.tree; pre = z.pre } in
    let one = stands-same trees Is p q hs hz.0 in
    let later = among-places trees zs hz.1 s hs in
    λ i. one i || later i

among-in : (trees : List Tree) (zs : List Spot) → SpotsAreIn trees zs → (s : Spot) → is_among zs s ≡ true → HasNode trees s.tree s.pre
among-in trees [] h s e = absurd (false≢true e)
among-in trees (z ∷ zs) h s e = ⊎_elim
    (λ same. subst (λ (u : Spot). HasNode trees u.tree u.pre) (sym (same-from s z same)) h.0)
    (λ later. among-in trees zs h.1 s later)
    (or_cases (same_spot s z) (is_among zs s) e)

among-all : (trees : List Tree) (s : Spot) → HasNode trees s.tree s.pre → is_among (spots_from 0 trees) s ≡ true
among-all trees s h =
    let e : s.tree ≡ 0 + s.tree = omega arith in
    ap (λ m. is_among (spots_from 0 trees) (spot m s.pre)) e ∙ from-among 0 trees s.tree s.pre h.tree_in h.node_in

and_known : (a b : Bool) → (b ≡ true → a ≡ true) → (a && b) ≡ b
and_known a true h = and_from a true (h refl) refl
and_known a false h = and_right a false refl

-- # Document order

pub in_document_order-spots : (trees : List Tree) (spots sorted : List Spot) → SpotsAreIn trees spots → IsInOrder spots sorted → in_document_order trees (map (place_at trees) spots) ≡ map (place_at trees) sorted
in_document_order-spots trees spots sorted inside ordered =
    let all = spots_from 0 trees in
    let test = has_place (map (place_at trees) spots) in
    let chosen = filter (is_among spots) all in
    ap (filter test) (sym (from-places trees trees 0 (stand-all trees)))
    ∙ filter-map test (place_at trees) all
    ∙ ap (map (place_at trees)) (filter-same (λ s. test (place_at trees s)) (is_among spots) all (all_weaker (λ s. HasNode trees s.tree s.pre) (λ s. test (place_at trees s) ≡ is_among spots s) (among-places trees spots inside) all (from-in trees trees 0 (stand-all trees))))
    ∙ ap (map (place_at trees)) (unique chosen sorted (IsStrictlySortedBy-filter document_order (is_among spots) all (from-rises 0 trees)) ordered.rises
    (λ s. among-filter (is_among spots) all s ∙ and_known (is_among all s) (is_among spots s) (λ e. among-all trees s (among-in trees spots inside s e)) ∙ sym (ordered.same s)))

pub in_order-spots : (trees : List Tree) (spots sorted : List Spot) → SpotsAreIn trees spots → IsInOrder spots sorted → items_at trees (map view sorted) ≡ in_order trees (map (place_at trees) spots)
in_order-spots trees spots sorted inside ordered =
    map-map (item_at trees) view sorted ∙ sym (map-map Node (place_at trees) sorted) ∙ ap (map Node) (sym (in_document_order-spots trees spots sorted inside ordered))

-- # Operands

nodes-spots : (code : Code) (trees : List Tree) (views : List ItemView) → all_nodes code (items_at trees views) ≡ (all_spots code views >>= λ s. Ok (map (place_at trees) s))
nodes-spots code trees [] = refl
nodes-spots code trees (Value a ∷ views) = refl
nodes-spots code trees (NodeAt n ∷ views) =
    let p = spot n.tree n.pre in
    ap (λ r. r >>= λ ps. Ok (place_at trees p ∷ ps)) (nodes-spots code trees views) ∙ by p (all_spots code views)
  where
    by : (p : Spot) (r : Judged (List Spot)) → ((r >>= λ s. Ok (map (place_at trees) s)) >>= λ ps. Ok (place_at trees p ∷ ps)) ≡ ((r >>= λ s. Ok (p ∷ s)) >>= λ s. Ok (map (place_at trees) s))
    by p (Ok s) = refl
    by p (Err other) = refl

pub gathered-nodes : (trees : List Tree) (views : List ItemView) (s : List Spot) → all_spots XPTY0018 views ≡ Ok s → gathered trees (items_at trees views) ≡ Ok (in_order trees (map (place_at trees) s))
gathered-nodes trees views s e = ap (nodes_or_atoms trees (items_at trees views)) (nodes-spots XPTY0018 trees views ∙ ap (λ r. r >>= λ s. Ok (map (place_at trees) s)) e)

pub gathered-others : (trees : List Tree) (views : List ItemView) (code : Code) → all_spots XPTY0018 views ≡ Err code → (b : Bool) → b ≡ are_atoms (items_at trees views) → gathered trees (items_at trees views) ≡ all_atoms b (items_at trees views)
gathered-others trees views code e b is = ap (nodes_or_atoms trees (items_at trees views)) (nodes-spots XPTY0018 trees views ∙ ap (λ r. r >>= λ s. Ok (map (place_at trees) s)) e) ∙ ap (λ b. all_atoms b (items_at trees views)) (sym is)

-- the places, if there are any, are those of nodes
abbrev pub InResult : List Tree → Judged (List Spot) → Type 0
InResult trees (Ok s) = SpotsAreIn trees s
InResult trees (Err code) = Unit {0}

spots-in : (code : Code) (trees : List Tree) (views : List ItemView) → AreIn trees views → InResult trees (all_spots code views)
spots-in code trees [] h = tt
spots-in code trees (Value a ∷ views) h = tt
spots-in code trees (NodeAt n ∷ views) h = by (all_spots code views) (spots-in code trees views h.1)
  where
    by : (r : Judged (List Spot)) → InResult trees r → InResult trees (r >>= λ s. Ok (spot n.tree n.pre ∷ s))
    by (Ok s) inside = (h.0, inside)
    by (Err other) inside = tt

-- # Operators

pub nodes-in : (code : Code) (trees : List Tree) (views : List ItemView) (s : List Spot) → AreIn trees views → all_spots code views ≡ Ok s → SpotsAreIn trees s
nodes-in code trees views s h e = subst (InResult trees) e (spots-in code trees views h)

pub united-in : (trees : List Tree) (xs ys : List ItemView) → AreIn trees xs → AreIn trees ys → InResult trees (united xs ys)
united-in trees xs ys hx hy = by (all_spots XPTY0004 xs) (all_spots XPTY0004 ys) (spots-in XPTY0004 trees xs hx) (spots-in XPTY0004 trees ys hy)
  where
    by : (r q : Judged (List Spot)) → InResult trees r → InResult trees q → InResult trees (r >>= λ s. q >>= λ o. Ok (s ++ o))
    by (Ok s) (Ok o) hr hq = all_append (λ (u : Spot). HasNode trees u.tree u.pre) s o hr hq
    by (Ok s) (Err code) hr hq = tt
    by (Err code) q hr hq = tt

pub selected-in : (trees : List Tree) (op : SetOperator) (xs ys : List ItemView) → AreIn trees xs → InResult trees (selected op xs ys)
selected-in trees op xs ys hx = by (all_spots XPTY0004 xs) (all_spots XPTY0004 ys) (spots-in XPTY0004 trees xs hx)
  where
    by : (r q : Judged (List Spot)) → InResult trees r → InResult trees (r >>= λ s. q >>= λ o. Ok (filter (takes op o) s))
    by (Ok s) (Ok o) hr = all_filter (λ (u : Spot). HasNode trees u.tree u.pre) (takes op o) s hr
    by (Ok s) (Err code) hr = tt
    by (Err code) q hr = tt

from_nodes-spots : (trees : List Tree) (result : List Place → List Place → List Place) (xs ys : List ItemView) → from_nodes result trees (items_at trees xs) (items_at trees ys) ≡ ((all_spots XPTY0004 xs >>= λ s. Ok (map (place_at trees) s)) >>= λ ps. (all_spots XPTY0004 ys >>= λ s. Ok (map (place_at trees) s)) >>= λ qs. Ok (in_order trees (result ps qs)))
from_nodes-spots trees result xs ys = λ i. nodes-spots XPTY0004 trees xs i >>= λ ps. nodes-spots XPTY0004 trees ys i >>= λ qs. Ok (in_order trees (result ps qs))

pub unite-spots : (trees : List Tree) (xs ys : List ItemView) → from_nodes (λ ps qs. ps ++ qs) trees (items_at trees xs) (items_at trees ys) ≡ (united xs ys >>= λ s. Ok (in_order trees (map (place_at trees) s)))
unite-spots trees xs ys = from_nodes-spots trees (λ ps qs. ps ++ qs) xs ys ∙ by (all_spots XPTY0004 xs) (all_spots XPTY0004 ys)
  where
    by : (r q : Judged (List Spot)) → ((r >>= λ s. Ok (map (place_at trees) s)) >>= λ ps. (q >>= λ s. Ok (map (place_at trees) s)) >>= λ qs. Ok (in_order trees (ps ++ qs))) ≡ ((r >>= λ s. q >>= λ o. Ok (s ++ o)) >>= λ s. Ok (in_order trees (map (place_at trees) s)))
    by (Ok s) (Ok o) = ap (λ ps. Ok (in_order trees ps)) (sym (map-append (place_at trees) s o))
    by (Ok s) (Err code) = refl
    by (Err code) q = refl

set_of-spots : (trees : List Tree) (op : SetOperator) (s o : List Spot) → SpotsAreIn trees s → SpotsAreIn trees o → set_of op (map (place_at trees) s) (map (place_at trees) o) ≡ map (place_at trees) (filter (takes op o) s)
set_of-spots trees Intersect s o hs ho =
    let test = has_place (map (place_at trees) o) in
    filter-map test (place_at trees) s ∙ ap (map (place_at trees)) (filter-same (λ u. test (place_at trees u)) (is_among o) s (all_weaker (λ (u : Spot). HasNode trees u.tree u.pre) (λ u. test (place_at trees u) ≡ is_among o u) (among-places trees o ho) s hs))
set_of-spots trees Except s o hs ho =
    let test = has_place (map (place_at trees) o) in
    filter-map (λ p. not (test p)) (place_at trees) s ∙ ap (map (place_at trees)) (filter-same (λ u. not (test (place_at trees u))) (λ u. not (is_among o u)) s (all_weaker (λ (u : Spot). HasNode trees u.tree u.pre) (λ u. not (test (place_at trees u)) ≡ not (is_among o u)) (λ u h. ap not (among-places trees o ho u h)) s hs))

pub select-spots : (trees : List Tree) (op : SetOperator) (xs ys : List ItemView) → AreIn trees xs → AreIn trees ys → from_nodes (set_of op) trees (items_at trees xs) (items_at trees ys) ≡ (selected op xs ys >>= λ s. Ok (in_order trees (map (place_at trees) s)))
select-spots trees op xs ys hx hy = from_nodes-spots trees (set_of op) xs ys ∙ by (all_spots XPTY0004 xs) (all_spots XPTY0004 ys) (spots-in XPTY0004 trees xs hx) (spots-in XPTY0004 trees ys hy)
  where
    by : (r q : Judged (List Spot)) → InResult trees r → InResult trees q → ((r >>= λ s. Ok (map (place_at trees) s)) >>= λ ps. (q >>= λ s. Ok (map (place_at trees) s)) >>= λ qs. Ok (in_order trees (set_of op ps qs))) ≡ ((r >>= λ s. q >>= λ o. Ok (filter (takes op o) s)) >>= λ s. Ok (in_order trees (map (place_at trees) s)))
    by (Ok s) (Ok o) hr hq = ap (λ ps. Ok (in_order trees ps)) (set_of-spots trees op s o hr hq)
    by (Ok s) (Err code) hr hq = refl
    by (Err code) q hr hq = refl
