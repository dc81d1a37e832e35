-- How many rows a step looks at: those of its region, or all of the tree in a search.
use Rattle.std.proofs.Common.{◌≡◌, ◌↔◌, ℕ, zero, suc, ◌+◌, ◌<◌, ◌≤◌, List, [], ◌∷◌, length, cond, inl, inr, Bool, true, false, refl, ap, arith, length-append}
use Rattle.std.specs.List.{Contains}
use Rattle.std.proofs.lemmas.Bool.{cases_lt}
use Rattle.std.proofs.lemmas.List.{length-map}
use Rattle.xq_trees.specs.Forest.{count}
use Rattle.xq_trees.specs.Tree.{Tree, nodes}
use Rattle.xq_trees.specs.declared.Axis.{Axis}
use Rattle.xq_trees.specs.declared.items.Node.{Node}
use Rattle.xq_sources.specs.Meters.{Readings, SeesAtMost}
use Rattle.xq_sources.specs.Sources.{tree_at}
use Rattle.xq_axes.specs.Many.{AreKept}
use Rattle.xq_axes.specs.Scans.{region, rows_from, places_of, AreOf}
use Rattle.xq_axes.specs.private.Hits.{below_where}
use Rattle.xq_axes.proofs.Scans.{in_some, region_length, region_none, kept_tree, some_same}

-- of the numbers below a bound no more pass than there are
below_few : (f : ℕ → Bool) (n : ℕ) → length (below_where f n) ≤ n
below_few f zero = omega arith
below_few f (suc n) =
    let many = length-append (below_where f n) (cond (f n) (n ∷ []) []) in
    let one : (b : Bool) → length (cond b (n ∷ []) []) ≤ 1 = λ b. elim b as (λ x. length (cond x (n ∷ []) []) ≤ 1) [ true ↦ omega arith | false ↦ omega arith ] in
    let last = one (f n) in
    let front = below_few f n in
    omega (arith, many, last, front)

-- a region has rows of the tree
pub region_few : (a : Axis) (t : Tree) (vs : List ℕ) → length (region a t vs) ≤ rows_from t vs
region_few a t [] = let none = region_none a t [] refl in omega (arith, none)
region_few a t (v ∷ vs) =
    let same = region_length a t (v ∷ vs) in
    let few = below_few (in_some a t (v ∷ vs)) (count (nodes t)) in
    omega (arith, same, few)

pub rows_from_some : (t : Tree) (vs : List ℕ) → 0 < length vs → rows_from t vs ≡ count (nodes t)
rows_from_some t [] h = absurd (omega (arith, h))
rows_from_some t (v ∷ vs) h = omega arith

pub rows_from_none : (t : Tree) (vs : List ℕ) → length vs ≡ 0 → rows_from t vs ≡ 0
rows_from_none t [] e = omega arith
rows_from_none t (v ∷ vs) e = absurd (omega (arith, e))

rows_from_few : (t : Tree) (vs : List ℕ) → rows_from t vs ≤ count (nodes t)
rows_from_few t [] = omega arith
rows_from_few t (v ∷ vs) = omega arith

-- a region was read, and no row was looked at
pub seen_region : (a : Axis) (t : Tree) (vs : List ℕ) (before after : Readings) → after.rows ≤ before.rows + length (region a t vs) → after.looks ≡ before.looks → SeesAtMost before after (rows_from t vs)
seen_region a t vs before after rows looks = let few = region_few a t vs in omega (arith, rows, looks, few)

-- the same of the region from one of them
pub seen_one : (a : Axis) (t : Tree) (v : ℕ) (vs : List ℕ) (before after : Readings) → 0 < length vs → after.rows ≤ before.rows + length (region a t (v ∷ [])) → after.looks ≡ before.looks → SeesAtMost before after (rows_from t vs)
seen_one a t v vs before after some rows looks =
    let few = region_few a t (v ∷ []) in
    let all = rows_from_some t vs some in
    omega (arith, rows, looks, few, all)

-- and where nothing was seen before
pub seen_after : (a : Axis) (t : Tree) (vs : List ℕ) (before now after : Readings) → now.rows ≡ before.rows → now.looks ≡ before.looks → after.rows ≤ now.rows + length (region a t vs) → after.looks ≡ now.looks
    → SeesAtMost before after (rows_from t vs)
seen_after a t vs before now after same unseen rows looks = let few = region_few a t vs in omega (arith, same, unseen, rows, looks, few)

-- nothing is seen from no context
pub none_seen : (t : Tree) (vs : List ℕ) (before after : Readings) → length vs ≡ 0 → SeesAtMost before after (rows_from t vs) → SeesAtMost before after 0
none_seen t vs before after e seen = let none = rows_from_none t vs e in omega (arith, seen, none)

-- from the contexts of one tree that were gathered
pub kept_seen : (contexts : List Node) (index tree : ℕ) (kept : List ℕ) → AreKept contexts index tree kept → (trees : List Tree) (one : ℕ) (ns : List Node) → AreOf one ns → ((n : Node) → Contains contexts n ↔ Contains ns n)
    → rows_from (tree_at trees tree) kept ≤ rows_from (tree_at trees one) (places_of ns)
kept_seen contexts index tree kept are trees one ns all m = elim (cases_lt 0 (length kept)) [
  | inl l ↦ (
      let same = kept_tree contexts index tree kept are one ns all m l in
      let here = some_same contexts index tree kept are ns m l in
      let places = length-map ns (λ (n : Node). n.pre) in
      let whole = rows_from_some (tree_at trees one) (places_of ns) (omega (arith, here, places)) in
      let few = rows_from_few (tree_at trees tree) kept in
      let tree_is : count (nodes (tree_at trees tree)) ≡ count (nodes (tree_at trees one)) = ap (λ n. count (nodes (tree_at trees n))) same in
      omega (arith, few, whole, tree_is))
  | inr l ↦ (let none = rows_from_none (tree_at trees tree) kept (omega (arith, l)) in omega (arith, none))
]
