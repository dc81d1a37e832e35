-- The first rows of a tree: what they lend, and what is read on.
use Rattle.std.proofs.Common.{◌≡◌, ◌+◌, ◌-◌, ◌≤◌, ◌<◌, ℕ, zero, suc, List, [], ◌∷◌, ◌++◌, length, map, take, drop, min, inl, inr, append_assoc, get_or, set, length-append, length-drop, Result, Ok, Err, OnOk, OnErr, refl, sym, ap, subst, ◌∙◌, arith}
use Rattle.std.specs.Global.{Vec}
use Rattle.std.specs.HashMap.{get_by_text}
use Rattle.std.specs.List.{enumerate_from, AllByRecursion}
use Rattle.std.specs.Prelude.{slice_get, slice_range, Option, Some, IfSome}
use Rattle.std.proofs.lemmas.List.FromFn.{length-enumerate_from}
use Rattle.std.proofs.lemmas.List.{map-append, take-append-drop, take-append-le, take-take}
use Rattle.xq_trees.specs.Forest.{count}
use Rattle.xq_trees.specs.Tree.{Tree, nodes}
use Rattle.xq_trees.specs.Rows.{Row, rows, row_at, measured, placed, placed_rows, row_of}
use Rattle.xq_trees.specs.Nesting.{count-measured}
use Rattle.xq_trees.specs.declared.NodeRow.{NodeRow}
use Rattle.xq_packed.specs.Changes.{moved}
use Rattle.xq_packed.specs.Packed.{Packed}
use Rattle.xq_packed.specs.PackedTrees.{Packs}
use Rattle.xq_sources.specs.Lenders.{IsRun}
use Rattle.xq_sources.specs.Names.{named}
use Rattle.xq_sources.specs.Sources.{rows_between, tree_at}
use Rattle.xq_sources.proofs.Intervals.{between-places}
use Rattle.xq_sources.proofs.Planting.{stays}
use Rattle.xq_tables.proofs.Loads.{length-labels}
use Rattle.xq_store.proofs.ViewLaws.{one_placed}
use Rattle.xq_store.specs.declared.shelves.CachedDocument.{CachedDocument}
use Rattle.xq_store.specs.private.Shelves.{AreFronts, HasReached, IsFront, IsFrontOf, Reaches, front_at, kept_rows, run_of}

-- # Lists

-- none of nothing
nothing : {X : Type 0} (k : ℕ) → ◌≡◌ {A = List X} [] (take k [])
nothing zero = refl
nothing (suc k) = refl

-- a part of the first elements
drop-first : {X : Type 0} (l n k : ℕ) (xs : List X) → k ≡ n - l → drop l (take n xs) ≡ take k (drop l xs)
drop-first zero n k xs e = let same : n ≡ k = omega (arith, e) in ap (λ j. take j xs) same
drop-first (suc l) zero k [] e = nothing k
drop-first (suc l) zero zero (x ∷ xs) e = refl
drop-first (suc l) zero (suc k) (x ∷ xs) e = absurd (omega (arith, e))
drop-first (suc l) (suc n) k [] e = nothing k
drop-first (suc l) (suc n) k (x ∷ xs) e = drop-first l n k xs (omega (arith, e))

-- the first of the first are some of the first
first-first : {X : Type 0} (k j : ℕ) (xs : List X) → take k (take j xs) ≡ take (length (take k (take j xs))) (take k xs)
first-first zero j xs = refl
first-first (suc k) zero [] = refl
first-first (suc k) zero (x ∷ xs) = refl
first-first (suc k) (suc j) [] = refl
first-first (suc k) (suc j) (x ∷ xs) = ap (λ ys. x ∷ ys) (first-first k j xs)

some-first : {X : Type 0} (k j : ℕ) (xs : List X) → 0 < length (take k xs) → 0 < j → 0 < length (take k (take j xs))
some-first zero j xs h more = h
some-first (suc k) zero xs h more = absurd (omega (arith, more))
some-first (suc k) (suc j) [] h more = h
some-first (suc k) (suc j) (x ∷ xs) h more = omega arith

-- there is one past so many
some-past : {X : Type 0} (k l : ℕ) (xs : List X) → 0 < length (take k (drop l xs)) → l < length xs
some-past zero l xs h = absurd (omega (arith, h))
some-past (suc k) zero [] h = h
some-past (suc k) (suc l) [] h = absurd (omega (arith, h))
some-past (suc k) zero (x ∷ xs) h = omega arith
some-past (suc k) (suc l) (x ∷ xs) h = let more = some-past (suc k) l xs h in omega (arith, more)

none-past : {X : Type 0} (k l : ℕ) (xs : List X) → take (suc k) (drop l xs) ≡ [] → length xs ≤ l
none-past k l [] h = omega arith
none-past k zero (x ∷ xs) h = absurd cc
none-past k (suc l) (x ∷ xs) h = let more = none-past k l xs h in omega (arith, more)

-- the first, and then some of the next
own-length : {X : Type 0} (k : ℕ) (xs : List X) → take k xs ≡ take (length (take k xs)) xs
own-length zero xs = refl
own-length (suc k) [] = refl
own-length (suc k) (x ∷ xs) = ap (λ ys. x ∷ ys) (own-length k xs)

first-next : {X : Type 0} (n k m : ℕ) (xs : List X) → m ≡ n + length (take k (drop n xs)) → take n xs ++ take k (drop n xs) ≡ take m xs
first-next zero k m xs e = let same : length (take k xs) ≡ m = omega (arith, e) in own-length k xs ∙ ap (λ j. take j xs) same
first-next (suc n) k m [] e = sym (nothing k) ∙ nothing m
first-next (suc n) k zero (x ∷ xs) e = absurd (omega (arith, e))
first-next (suc n) k (suc m) (x ∷ xs) e = ap (λ ys. x ∷ ys) (first-next n k m xs (omega (arith, e)))

length-first : {X : Type 0} (n : ℕ) (xs : List X) → length (take n xs) ≤ length xs
length-first zero xs = omega arith
length-first (suc n) [] = omega arith
length-first (suc n) (x ∷ xs) = let more = length-first n xs in omega (arith, more)

pub all-first : {X : Type 0} (n : ℕ) (xs : List X) → length xs ≤ n → take n xs ≡ xs
all-first zero [] h = refl
all-first zero (x ∷ xs) h = absurd (omega (arith, h))
all-first (suc n) [] h = refl
all-first (suc n) (x ∷ xs) h = ap (λ ys. x ∷ ys) (all-first n xs (omega (arith, h)))

-- numbered from a place on, and then from the next place on
numbered-both : (n : ℕ) (xs ys : List Row) → enumerate_from n (xs ++ ys) ≡ enumerate_from n xs ++ enumerate_from (n + length xs) ys
numbered-both n [] ys = (let e : n ≡ n + 0 = omega arith in ap (λ k. enumerate_from k ys) e)
numbered-both n (x ∷ xs) ys = (let e : n + 1 + length xs ≡ n + suc (length xs) = omega arith in ap (λ l. (n, x) ∷ l) (numbered-both (n + 1) xs ys ∙ ap (λ k. enumerate_from (n + 1) xs ++ enumerate_from k ys) e))

first-numbered : (k n : ℕ) (rs : List Row) → take k (enumerate_from n rs) ≡ enumerate_from n (take k rs)
first-numbered zero n rs = refl
first-numbered (suc k) n [] = refl
first-numbered (suc k) n (r ∷ rs) = ap (λ l. (n, r) ∷ l) (first-numbered k (n + 1) rs)

past-numbered : (low n : ℕ) (rs : List Row) → drop low (enumerate_from n rs) ≡ enumerate_from (n + low) (drop low rs)
past-numbered zero n rs = (let e : n ≡ n + 0 = omega arith in ap (λ k. enumerate_from k rs) e)
past-numbered (suc low) n [] = refl
past-numbered (suc low) n (r ∷ rs) = (let e : n + 1 + low ≡ n + suc low = omega arith in past-numbered low (n + 1) rs ∙ ap (λ k. enumerate_from k (drop low rs)) e)

numbers-off : (n : ℕ) (rs : List Row) → map (λ (p : ℕ × Row). p.1) (enumerate_from n rs) ≡ rs
numbers-off n [] = refl
numbers-off n (r ∷ rs) = ap (λ l. r ∷ l) (numbers-off (n + 1) rs)

rows-placed : (xs : List NodeRow) → map (λ (p : ℕ × Row). p.1) (map placed xs) ≡ map row_of xs
rows-placed [] = refl
rows-placed (x ∷ xs) = ap (λ l. row_of x ∷ l) (rows-placed xs)

-- a part of a tree's rows is numbered from its first place on
part-numbered : (t : Tree) (low high : ℕ) (found : List NodeRow) → map placed found ≡ take (high + 1 - low) (drop low (placed_rows t)) → enumerate_from low (map row_of found) ≡ map placed found
part-numbered t low high found are =
    let k = high + 1 - low in
    let z : 0 + low ≡ low = omega arith in
    let part : take k (drop low (placed_rows t)) ≡ enumerate_from low (take k (drop low (rows t))) =
    ap (take k) (past-numbered low 0 (rows t) ∙ ap (λ i. enumerate_from i (drop low (rows t))) z) ∙ first-numbered k low (drop low (rows t)) in
    let off : map row_of found ≡ take k (drop low (rows t)) =
    sym (rows-placed found) ∙ ap (map (λ (p : ℕ × Row). p.1)) (are ∙ part) ∙ numbers-off low (take k (drop low (rows t))) in
    ap (enumerate_from low) off ∙ sym part ∙ sym are

-- the first rows of a tree, numbered
pub first_kept : (t : Tree) (k : ℕ) → IsFront t (enumerate_from 0 (take k (rows t)))
first_kept t k =
    let is : take k (placed_rows t) ≡ enumerate_from 0 (take k (rows t)) = first-numbered k 0 (rows t) in
    subst (IsFront t) is (own-length k (placed_rows t))

-- one of them alone
pub one-alone : (v : ℕ) (xs : List (ℕ × Row)) → v < length xs → length (run_of xs v v) ≡ 1
one-alone v xs h =
    let one : v + 1 - v ≡ 1 = omega arith in
    ap (λ m. length (take m (drop v xs))) one ∙ first (drop v xs) (omega (arith, h, length-drop v xs))
  where
    first : (ys : List (ℕ × Row)) → 0 < length ys → length (take 1 ys) ≡ 1
    first [] h = absurd (omega (arith, h))
    first (y ∷ ys) h = refl

-- # The first rows of a tree

between : (t : Tree) (low high : ℕ) → rows_between t low high ≡ take (high + 1 - low) (drop low (placed_rows t))
between t low high = between-places low 0 low high (rows t) (let z : low ≡ 0 + low = omega arith in z)

sized : (t : Tree) → length (placed_rows t) ≡ count (nodes t)
sized t = numbered 0 (rows t) ∙ length-labels (measured 0 (nodes t)) ∙ count-measured 0 (nodes t)
  where
    numbered : (n : ℕ) (rs : List Row) → length (enumerate_from n rs) ≡ length rs
    numbered n [] = refl
    numbered n (r ∷ rs) = ap suc (numbered (n + 1) rs)

module _ (t : Tree) (kept : List (ℕ × Row)) (front : IsFront t kept) where
  -- what a run of them shows
  shown : (low high : ℕ) → run_of kept low high ≡ take (high + 1 - low) (take (length kept - low) (drop low (placed_rows t)))
  shown low high =
      ap (take (high + 1 - low)) (ap (drop low) front ∙ drop-first low (length kept) (length kept - low) (placed_rows t) refl)

  pub lends : (low high : ℕ) → Reaches t low kept → IsRun (rows_between t low high) (run_of kept low high)
  lends low high reaches =
      let all = drop low (placed_rows t) in
      let k = high + 1 - low in
      let j = length kept - low in
      let is = shown low high in
      record {
        first = subst (λ xs. xs ≡ take (length xs) (rows_between t low high)) (sym is) (first-first k j all ∙ ap (take (length (take k (take j all)))) (sym (between t low high)));
        some = λ h. (
            let some : 0 < length (take k all) = subst (λ xs. 0 < length xs) (between t low high) h in
            let past = some-past k low (placed_rows t) some in
            let within : 0 < j = elim reaches [ inl in_it ↦ omega (arith, in_it) | inr whole ↦ omega (arith, whole, past) ] in
            subst (λ xs. 0 < length xs) (sym is) (some-first k j all some within));
      }

  within : length kept ≤ length (placed_rows t)
  within = let l : length kept ≡ length (take (length kept) (placed_rows t)) = ap length front in
      let m = length-first (length kept) (placed_rows t) in omega (arith, l, m)

  -- one row alone
  pub lends_one : (v : ℕ) → v < length kept → run_of kept v v ≡ (v, row_at (rows t) v) ∷ []
  lends_one v h =
      let one : v + 1 - v ≡ 1 = omega arith in
      let more = within in
      let low : v < length (rows t) = omega (arith, h, more, sized t, length-labels (measured 0 (nodes t)), count-measured 0 (nodes t)) in
      let z : 0 + v ≡ v = omega arith in
      shown v v ∙ ap (λ m. take m (take (length kept - v) (drop v (placed_rows t)))) one ∙ head (length kept - v) (drop v (placed_rows t)) (omega (arith, h)) ∙ one_placed 0 v (rows t) low ∙ ap (λ k. (k, row_at (rows t) v) ∷ []) z
    where
      head : {X : Type 0} (j : ℕ) (xs : List X) → 0 < j → take 1 (take j xs) ≡ take 1 xs
      head zero xs h = absurd (omega (arith, h))
      head (suc j) [] h = refl
      head (suc j) (x ∷ xs) h = refl

  pub has_node : (v : ℕ) → v < length kept → v < count (nodes t)
  has_node v h = let more = within in omega (arith, h, more, sized t)

  -- a part that was read follows them
  module _ (low high : ℕ) (found : List (ℕ × Row)) (at : low ≡ length kept) (past : low ≤ high) (are : found ≡ rows_between t low high) where
    read : found ≡ take (high + 1 - low) (drop (length kept) (placed_rows t))
    read = are ∙ between t low high ∙ ap (λ n. take (high + 1 - low) (drop n (placed_rows t))) at

    pub read_more : IsFront t (kept ++ found)
    read_more =
        let n = length kept in
        let rest = take (high + 1 - low) (drop n (placed_rows t)) in
        let l : length rest ≡ length found = ap length (sym read) in
        let m : length (kept ++ found) ≡ n + length rest = length-append kept found ∙ ap (λ k. n + k) (sym l) in
        ap (λ xs. xs ++ found) front ∙ ap (λ xs. take n (placed_rows t) ++ xs) read ∙ first-next n (high + 1 - low) (length (kept ++ found)) (placed_rows t) m

    pub read_all : found ≡ [] → length (placed_rows t) ≤ length kept
    read_all none =
        let n = length kept in
        let k : high + 1 - low ≡ suc (high - low) = omega (arith, past) in
        none-past (high - low) n (placed_rows t) (ap (λ k. take k (drop n (placed_rows t))) (sym k) ∙ sym read ∙ none)

-- a part that was read and packed follows them
module _ (t : Tree) (rs : List Row) (front : IsFront t (enumerate_from 0 rs)) (low high : ℕ) (found : List NodeRow) (at : low ≡ length rs) (past : low ≤ high) (are : map placed found ≡ rows_between t low high) where
  at_all : low ≡ length (enumerate_from 0 rs)
  at_all = at ∙ sym (length-enumerate_from 0 rs)

  pub packed_more : IsFront t (enumerate_from 0 (rs ++ map row_of found))
  packed_more =
      let z : 0 + length rs ≡ low = omega (arith, at) in
      let own : enumerate_from (0 + length rs) (map row_of found) ≡ map placed found =
      ap (λ k. enumerate_from k (map row_of found)) z ∙ part-numbered t low high found (are ∙ between t low high) in
      subst (IsFront t) (sym (numbered-both 0 rs (map row_of found) ∙ ap (λ l. enumerate_from 0 rs ++ l) own))
      (read_more t (enumerate_from 0 rs) front low high (map placed found) at_all past are)

  pub packed_all : found ≡ [] → length (placed_rows t) ≤ length (enumerate_from 0 rs)
  packed_all none = read_all t (enumerate_from 0 rs) front low high (map placed found) at_all past are (ap (map placed) none)

-- the packed rows of a tree are its first
pub packed_front : (t : Tree) (p : Packed) → Packs p t → IsFront t (enumerate_from 0 p.rows)
packed_front t p is =
    subst (λ rs. IsFront t (enumerate_from 0 rs)) (sym (is.rows ∙ sym (all-first (length (rows t)) (rows t) (omega arith)))) (first_kept t (length (rows t)))

-- and so do the first rows of it
first-of-front : (t : Tree) (ps qs : List (ℕ × Row)) → IsFront t (ps ++ qs) → IsFront t ps
first-of-front t ps qs front =
    let n = length ps in
    let all = placed_rows t in
    let fewer : min n (length (ps ++ qs)) ≡ n = omega (arith, length-append ps qs) in
    sym (take-append-le n ps qs (omega arith) ∙ all-first n ps (omega arith)) ∙ ap (take n) front ∙ take-take n (length (ps ++ qs)) all (omega (arith, length-append ps qs))

pub packed_some : (t : Tree) (rs : List Row) (found : List NodeRow) (count : ℕ) → IsFront t (enumerate_from 0 (rs ++ map row_of found)) → IsFront t (enumerate_from 0 (rs ++ map row_of (take count found)))
packed_some t rs found count front =
    let some = map row_of (take count found) in
    let others = map row_of (drop count found) in
    let parts : rs ++ map row_of found ≡ (rs ++ some) ++ others =
    ap (λ xs. rs ++ map row_of xs) (sym (take-append-drop count found)) ∙ ap (λ xs. rs ++ xs) (map-append row_of (take count found) (drop count found)) ∙ sym (append_assoc rs some others) in
    first-of-front t (enumerate_from 0 (rs ++ some)) (enumerate_from (0 + length (rs ++ some)) others)
    (subst (λ xs. IsFront t xs) (ap (enumerate_from 0) parts ∙ numbered-both 0 (rs ++ some) others) front)

-- some of the first rows of a tree are its first
pub fewer_first : (t : Tree) (k : ℕ) (ps : List (ℕ × Row)) → IsFront t ps → IsFront t (take k ps)
fewer_first t k ps front = first-of-front t (take k ps) (drop k ps) (subst (IsFront t) (sym (take-append-drop k ps)) front)

-- and so are a copy of them, and none
pub copied_first : {E : Type 0} (t : Tree) (old rs new : List Row) (k : ℕ) (r : Result (Unit {0}) E) → old ≡ [] → IsFront t (enumerate_from 0 rs) → OnOk r (new ≡ old ++ map (moved 0 0) (slice_range rs 0 k)) → OnErr r (new ≡ old) → IsFront t (enumerate_from 0 new)
copied_first t old rs new k (Ok done) none front copied kept =
    let some = slice_range rs 0 k in
    let whole : k - 0 ≡ k = omega arith in
    let first : some ≡ take k rs = ap (λ n. take n rs) whole in
    let is : new ≡ take k rs = copied ∙ ap (λ l. l ++ map (moved 0 0) some) none ∙ stays some ∙ first in
    subst (λ l. IsFront t (enumerate_from 0 l)) (sym is) (subst (IsFront t) (first-numbered k 0 rs) (fewer_first t k (enumerate_from 0 rs) front))
copied_first t old rs new k (Err want) none front copied kept = subst (λ l. IsFront t (enumerate_from 0 l)) (sym (kept ∙ none)) (first_kept t 0)

-- # All rows of a tree

abbrev first_size : List (ℕ × Row) → ℕ
first_size [] = 0
first_size (p ∷ ps) = p.1.size

-- the first tells how many there are
pub whole_rows : (t : Tree) (kept : List (ℕ × Row)) (root : ℕ × Row) → Some root ≡ slice_get kept 0 → root.1.size + 1 ≡ length kept → IsFront t kept → kept ≡ placed_rows t
whole_rows t [] root first n front = absurd cc
whole_rows t (r ∷ rs) root first n front =
    let is : r ≡ root = cc in
    let size : r.1.size ≡ root.1.size = ap (λ (x : ℕ × Row). x.1.size) is in
    let below : r.1.size ≡ count t.below = ap first_size front in
    let many = sized t in
    front ∙ all-first (length (r ∷ rs)) (placed_rows t) (omega (arith, n, size, below, many))

-- the places that are kept of a name
pub names_told : (t : Tree) (front : CachedDocument) (name : List ℕ) (places : Option (Vec ℕ)) → places ≡ get_by_text front.names name → IsFrontOf t front → IfSome places (λ found. found.items ≡ named (placed_rows t) name)
names_told t front name places e is = subst (λ o. IfSome o (λ (found : Vec ℕ). found.items ≡ named (placed_rows t) name)) (sym e) (is.names name)

-- # The first rows of each tree

pub front_is : (trees : List Tree) (fronts : List CachedDocument) (i : ℕ) → AreFronts trees fronts → i < length fronts → IsFront (tree_at trees i) (front_at fronts i)
front_is [] [] i are h = absurd (omega (arith, h))
front_is [] (f ∷ fronts) i are h = elim are [ ]
front_is (t ∷ trees) [] i are h = elim are [ ]
front_is (t ∷ trees) (f ∷ fronts) zero are h = are.0.rows
front_is (t ∷ trees) (f ∷ fronts) (suc i) are h = front_is trees fronts i are.1 (omega (arith, h))

-- that of a list which was looked up
pub its_front : (trees : List Tree) (fronts : List CachedDocument) (i : ℕ) (v : CachedDocument) → AreFronts trees fronts → i < length fronts → v ≡ get_or fronts i v → IsFrontOf (tree_at trees i) v
its_front [] [] i v are h e = absurd (omega (arith, h))
its_front [] (f ∷ fronts) i v are h e = elim are [ ]
its_front (t ∷ trees) [] i v are h e = elim are [ ]
its_front (t ∷ trees) (f ∷ fronts) zero v are h e = subst (λ (v : CachedDocument). IsFrontOf t v) (sym e) are.0
its_front (t ∷ trees) (f ∷ fronts) (suc i) v are h e = its_front trees fronts i v are.1 (omega (arith, h)) e

pub as_many : (trees : List Tree) (fronts : List CachedDocument) → AreFronts trees fronts → length fronts ≡ length trees
as_many [] [] are = refl
as_many [] (f ∷ fronts) are = elim are [ ]
as_many (t ∷ trees) [] are = elim are [ ]
as_many (t ∷ trees) (f ∷ fronts) are = ap suc (as_many trees fronts are.1)

-- a tree is there where rows of it are kept
pub has_front : (fronts : List CachedDocument) (tree place : ℕ) → place < length (front_at fronts tree) → tree < length fronts
has_front [] tree place h = absurd (omega (arith, h))
has_front (front ∷ fronts) zero place h = omega arith
has_front (front ∷ fronts) (suc tree) place h = let more = has_front fronts tree place h in omega (arith, more)

pub reached_in : (trees : List Tree) (fronts : List CachedDocument) (tree place : ℕ) → AreFronts trees fronts → place < length (front_at fronts tree) → HasReached trees fronts tree place
reached_in trees fronts tree place are h = record {
  tree_in = let many = as_many trees fronts are in let there = has_front fronts tree place h in omega (arith, many, there);
  reaches = inl h;
}

pub empty_fronts : (trees : List Tree) (fronts : List CachedDocument) → length trees ≡ length fronts → AllByRecursion (λ (v : CachedDocument). (t : Tree) → IsFrontOf t v) fronts → AreFronts trees fronts
empty_fronts [] [] n h = tt
empty_fronts [] (f ∷ fronts) n h = absurd (omega (arith, n))
empty_fronts (t ∷ trees) [] n h = absurd (omega (arith, n))
empty_fronts (t ∷ trees) (f ∷ fronts) n h = (h.0 t, empty_fronts trees fronts (omega (arith, n)) h.1)

pub all_pushed : {X : Type 0} (P : X → Type 0) (xs : List X) (x : X) → AllByRecursion P xs → P x → AllByRecursion P (xs ++ x ∷ [])
all_pushed P [] x all h = (h, tt)
all_pushed P (y ∷ xs) x all h = (all.0, all_pushed P xs x all.1 h)

-- one list is another
pub fronts_set : (trees : List Tree) (fronts : List CachedDocument) (i : ℕ) (v : CachedDocument) → AreFronts trees fronts → IsFrontOf (tree_at trees i) v → AreFronts trees (set fronts i v)
fronts_set [] [] i v are h = are
fronts_set [] (f ∷ fronts) i v are h = elim are [ ]
fronts_set (t ∷ trees) [] i v are h = elim are [ ]
fronts_set (t ∷ trees) (f ∷ fronts) zero v are h = (h, are.1)
fronts_set (t ∷ trees) (f ∷ fronts) (suc i) v are h = (are.0, fronts_set trees fronts i v are.1 h)

pub front_set : (fronts : List CachedDocument) (i : ℕ) (v : CachedDocument) → i < length fronts → front_at (set fronts i v) i ≡ kept_rows v
front_set [] i v h = absurd (omega (arith, h))
front_set (f ∷ fronts) zero v h = refl
front_set (f ∷ fronts) (suc i) v h = front_set fronts i v (omega (arith, h))

pub on_ok_then : {A B : Type 0} (P Q : Type 0) (r : Result A B) → (P → Q) → OnOk r P → OnOk r Q
on_ok_then P Q (Ok x) f h = f h
on_ok_then P Q (Err e) f h = tt

pub empty_items : {X : Type 0} (items : List X) → {n : ℕ} → n ≡ 0 → n ≡ length items → items ≡ []
empty_items [] none e = refl
empty_items (x ∷ items) none e = absurd (omega (arith, none, e))
