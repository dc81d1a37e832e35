-- How many rows are in a region.
use Rattle.std.proofs.Common.{◌≡◌, ◌≢◌, ◌↔◌, ℕ, zero, suc, ◌+◌, ◌-◌, ◌<◌, ◌≤◌, List, [], ◌∷◌, ◌++◌, length, map, take, get_or, min, Bool, true, false, cond, nat_eq, nat_le, inl, inr, refl, sym, ◌∙◌, ap, subst, arith}
use Rattle.std.specs.Prelude.{filter}
use Rattle.std.specs.List.{list_any, range_with_len, Contains}
use Rattle.std.specs.declared.cmp.Ordering.TheVariants.{Less}
use Rattle.std.proofs.lemmas.Bool.{le-leb, lt-ltb, cases_lt, or_right}
use Rattle.std.proofs.lemmas.List.{length-append, length-map, length-take, get_or-map, get_or-take, map-append, take_more, take_all}
use Rattle.std.proofs.lemmas.List.Elements.{Contains-get_or}
use Rattle.std.proofs.lemmas.Map.Keys.{Less-from_sorted}
use Rattle.xq_trees.specs.Forest.{count}
use Rattle.xq_trees.specs.RegionTests.{inside}
use Rattle.xq_trees.specs.Tree.{Tree, nodes}
use Rattle.xq_trees.specs.Rows.{Row, row_at, rows}
use Rattle.xq_trees.specs.declared.Axis.{Axis}
use Rattle.xq_trees.specs.declared.Axis.TheVariants as axis
use Rattle.xq_trees.specs.declared.items.Node.{Node}
use Rattle.xq_sources.specs.Sources.{tree_at}
use Rattle.xq_trees.specs.Rising.{document_order, AreRising}
use Rattle.xq_axes.specs.Scans.{in_scan, region, places_of, AreOf}
use Rattle.xq_axes.specs.private.Hits.{below_where, IsRising}
use Rattle.xq_axes.specs.Reads.{span, span_end}
use Rattle.xq_axes.specs.private.Downward.{axis_of, end_of, ReadsBelow}
use Rattle.xq_axes.specs.private.Passing.{axis_above, IsLast, IsLeastEnd}
use Rattle.xq_axes.specs.private.Waiting.{axis_back}
use Rattle.xq_axes.specs.declared.backward.Backward.{Backward}
use Rattle.xq_axes.specs.declared.backward.Backward.TheVariants.{PrecedingSibling}
use Rattle.xq_axes.specs.declared.backward.Backward.TheVariants as back
use Rattle.xq_axes.specs.Many.{spot, IsAt, AreKept}
use Rattle.xq_axes.specs.declared.downward.Downward.{Downward}
use Rattle.xq_axes.specs.declared.downward.Downward.TheVariants.{Child, Attribute, Descendant, DescendantOrSelf}
use Rattle.xq_axes.proofs.Lists.{any_from}
use Rattle.xq_axes.proofs.Merging.{any_map}
use Rattle.xq_axes.proofs.OnPaths.{range-filter}
use Rattle.xq_trees.proofs.Rising.{from_contains, same_any, order_parts}
use Rattle.xq_axes.proofs.Sizes.{node_of}

-- the numbers from low to before m all pass
pub passing_from : (f : ℕ → Bool) (low m : ℕ) → ((p : ℕ) → low ≤ p → p < m → f p ≡ true) → m - low ≤ length (below_where f m)
passing_from f low zero h = omega arith
passing_from f low (suc m) h =
    let n = length-append (below_where f m) (cond (f m) (m ∷ []) []) in
    let r = passing_from f low m (λ p a b. h p a (omega (arith, b))) in
    elim (cases_lt m low) [
      | inl l ↦ omega (arith, l)
      | inr l ↦ (let e : length (cond (f m) (m ∷ []) []) ≡ 1 = ap (λ b. length (cond b (m ∷ []) [])) (h m l (omega arith)) in omega (arith, n, r, e, l))
    ]

-- a bound that is less keeps fewer
pub passing_more : (f : ℕ → Bool) (n m : ℕ) → n ≤ m → length (below_where f n) ≤ length (below_where f m)
passing_more f n zero h = (let e : n ≡ 0 = omega arith in subst (λ k. length (below_where f k) ≤ 0) (sym e) (omega arith))
passing_more f n (suc m) h =
    elim (cases_lt m n) [
      | inl l ↦ (let e : n ≡ suc m = omega (arith, h, l) in subst (λ k. length (below_where f n) ≤ length (below_where f k)) e (omega arith))
      | inr l ↦ (let a = passing_more f n m l in let b = length-append (below_where f m) (cond (f m) (m ∷ []) []) in omega (arith, a, b))
    ]

-- the row is in the region of the axis from one of the places
abbrev pub in_some : Axis → Tree → List ℕ → ℕ → Bool
in_some a t vs p = list_any (λ v. in_scan a (rows t) v p) vs

pub region_length : (a : Axis) (t : Tree) (vs : List ℕ) → length (below_where (in_some a t vs) (count (nodes t))) ≡ length (region a t vs)
region_length a t vs = ap length (sym (range-filter (λ p. list_any (λ v. in_scan a (rows t) v p) vs) (count (nodes t))))

pub before_bound : (t : Tree) (vs : List ℕ) (last : ℕ) → IsLast vs last → 0 < last → span_end t (span 0 (last - 1)) - 0 ≤ length (region axis.Preceding t vs)
before_bound t vs last l h =
    let m = span_end t (span 0 (last - 1)) in
    let f = in_some axis.Preceding t vs in
    let n = region_length axis.Preceding t vs in
    let a = passing_from f 0 m (λ p x y. any_from (λ v. in_scan axis.Preceding (rows t) v p) vs l.index 0 l.within (le-leb (suc p) (get_or vs l.index 0) (let e = l.is in omega (arith, y, e, h)))) in
    let b = passing_more f m (count (nodes t)) (omega arith) in
    omega (arith, a, b, n)

pub after_bound : (t : Tree) (vs : List ℕ) (least high : ℕ) → IsLeastEnd t vs least → span_end t (span (least + 1) high) - (least + 1) ≤ length (region axis.Following t vs)
after_bound t vs least high l =
    let m = span_end t (span (least + 1) high) in
    let f = in_some axis.Following t vs in
    let n = region_length axis.Following t vs in
    let there = l.is_there in
    let a = passing_from f (least + 1) m (λ p x y. any_from (λ v. in_scan axis.Following (rows t) v p) vs l.index 0 l.within (le-leb (suc (end_of t (get_or vs l.index 0))) p (let e = l.is in omega (arith, x, e)))) in
    let b = passing_more f m (count (nodes t)) (omega (arith, there)) in
    omega (arith, a, b, n)

above_scan : (or_self : Bool) (t : Tree) (v p : ℕ) → in_scan (axis_above or_self) (rows t) v p ≡ nat_le p v
above_scan true t v p = refl
above_scan false t v p = refl

pub above_bound : (or_self : Bool) (t : Tree) (vs : List ℕ) (last : ℕ) → IsLast vs last → span_end t (span 0 last) - 0 ≤ length (region (axis_above or_self) t vs)
above_bound or_self t vs last l =
    let m = span_end t (span 0 last) in
    let a = axis_above or_self in
    let f = in_some a t vs in
    let n = region_length a t vs in
    let low = passing_from f 0 m (λ p x y. any_from (λ v. in_scan a (rows t) v p) vs l.index 0 l.within (above_scan or_self t (get_or vs l.index 0) p ∙ le-leb p (get_or vs l.index 0) (let e = l.is in omega (arith, y, e)))) in
    let high = passing_more f m (count (nodes t)) (omega arith) in
    omega (arith, low, high, n)

back_scan : (d : Backward) (t : Tree) (v p : ℕ) → in_scan (axis_back d) (rows t) v p ≡ nat_le p v
back_scan back.Parent t v p = refl
back_scan PrecedingSibling t v p = refl

pub back_bound : (d : Backward) (t : Tree) (vs : List ℕ) (last : ℕ) → IsLast vs last → min (suc last) (count (nodes t)) ≤ length (region (axis_back d) t vs)
back_bound d t vs last l =
    let m = min (suc last) (count (nodes t)) in
    let a = axis_back d in
    let f = in_some a t vs in
    let n = region_length a t vs in
    let low = passing_from f 0 m (λ p x y. any_from (λ v. in_scan a (rows t) v p) vs l.index 0 l.within (back_scan d t (get_or vs l.index 0) p ∙ le-leb p (get_or vs l.index 0) (let e = l.is in omega (arith, y, e)))) in
    let high = passing_more f m (count (nodes t)) (omega arith) in
    omega (arith, low, high, n)

pub onward_bound : (t : Tree) (vs : List ℕ) → 0 < length vs → count (nodes t) - get_or vs 0 0 ≤ length (region axis.FollowingSibling t vs)
onward_bound t vs some =
    let f = in_some axis.FollowingSibling t vs in
    let n = region_length axis.FollowingSibling t vs in
    let a = passing_from f (get_or vs 0 0) (count (nodes t)) (λ p x y. any_from (λ v. in_scan axis.FollowingSibling (rows t) v p) vs 0 0 some (le-leb (get_or vs 0 0) p x)) in
    omega (arith, a, n)

-- # The rows below one node after another

-- the numbers from low on, so many of them, all pass
pub passing_up : (f : ℕ → Bool) (n low k : ℕ) → n ≤ low → ((p : ℕ) → low ≤ p → p < low + k → f p ≡ true) → length (below_where f n) + k ≤ length (below_where f (low + k))
passing_up f n low zero h all = let e : low ≡ low + 0 = omega arith in let a = passing_more f n low h in subst (λ m. length (below_where f n) + 0 ≤ length (below_where f m)) e (omega (arith, a))
passing_up f n low (suc k) h all =
    let e : suc (low + k) ≡ low + suc k = omega arith in
    let r = passing_up f n low k h (λ p a b. all p a (omega (arith, b))) in
    let here = length-append (below_where f (low + k)) (cond (f (low + k)) ((low + k) ∷ []) []) in
    let one : length (cond (f (low + k)) ((low + k) ∷ []) []) ≡ 1 = ap (λ b. length (cond b ((low + k) ∷ []) [])) (all (low + k) (omega arith) (omega arith)) in
    subst (λ m. length (below_where f n) + suc k ≤ length (below_where f m)) e (omega (arith, r, here, one))

below_scan : (d : Downward) (rs : List Row) (v p : ℕ) → inside rs v p ≡ true → in_scan (axis_of d) rs v p ≡ true
below_scan Child rs v p h = h
below_scan Attribute rs v p h = h
below_scan Descendant rs v p h = h
below_scan DescendantOrSelf rs v p h = or_right (nat_eq v p) (inside rs v p) h

pub is_inside : (t : Tree) (v p : ℕ) → v < p → p ≤ end_of t v → inside (rows t) v p ≡ true
is_inside t v p a b = let low = lt-ltb v p a in let high = le-leb p (end_of t v) b in rw (low, high)

module _ (d : Downward) (t : Tree) (vs : List ℕ) where
  abbrev here : ℕ → Bool
  here = in_some (axis_of d) t vs

  -- the rows below one more node
  below_more : (i next : ℕ) → i < length vs → next ≤ get_or vs i 0 → length (below_where here next) + (row_at (rows t) (get_or vs i 0)).size ≤ length (below_where here (end_of t (get_or vs i 0) + 1))
  below_more i next l h =
      let v = get_or vs i 0 in
      let size = (row_at (rows t) v).size in
      let e : v + 1 + size ≡ end_of t v + 1 = omega arith in
      let r = passing_up here next (v + 1) size (omega (arith, h)) (λ p a b. any_from (λ w. in_scan (axis_of d) (rows t) w p) vs i 0 l (below_scan d (rows t) v p (is_inside t v p (omega (arith, a)) (omega (arith, b))))) in
      subst (λ m. length (below_where here next) + size ≤ length (below_where here m)) e r

  all_of : (next : ℕ) → next ≤ count (nodes t) → length (below_where here next) ≤ length (region (axis_of d) t vs)
  all_of next h = let a = passing_more here next (count (nodes t)) h in let n = region_length (axis_of d) t vs in omega (arith, a, n)

  -- where the search ends
  pub below_ends : (next old now : ℕ) → next ≤ count (nodes t) → now ≤ old + length (below_where here next) → now ≤ old + length (region (axis_of d) t vs)
  below_ends next old now w h = let a = all_of next w in omega (arith, h, a)

  -- where it stops at a node
  pub below_stops : (i next old now new : ℕ) → i < length vs → next ≤ get_or vs i 0 → next ≤ count (nodes t) → now ≤ old + length (below_where here next) → ReadsBelow t (get_or vs i 0) now new
      → new ≤ old + length (region (axis_of d) t vs)
  below_stops i next old now new l h w so r = elim r [
    | inl same ↦ (let a = all_of next w in omega (arith, so, a, same))
    | inr more ↦ (
        let v = get_or vs i 0 in
        let ends = (node_of t v more.0).ends in
        let a = below_more i next l h in
        let b = all_of (end_of t v + 1) (omega (arith, ends)) in
        let c = more.1 in
        omega (arith, so, a, b, c))
  ]

  -- where it goes on after the rows below a node
  pub below_goes_on : (i next old now new after : ℕ) → i < length vs → next ≤ get_or vs i 0 → now ≤ old + length (below_where here next) → ReadsBelow t (get_or vs i 0) now new
      → after ≡ end_of t (get_or vs i 0) + 1 → new ≤ old + length (below_where here after)
  below_goes_on i next old now new after l h so r e =
      let v = get_or vs i 0 in
      subst (λ m. new ≤ old + length (below_where here m)) (sym e) (elim r [
        | inl same ↦ (let a = passing_more here next (end_of t v + 1) (omega (arith, h)) in omega (arith, so, a, same))
        | inr more ↦ (let a = below_more i next l h in let c = more.1 in omega (arith, so, a, c))
      ])

-- # From the contexts of one tree

none_pass : (xs : List ℕ) → length (filter (λ (p : ℕ). false) xs) ≡ 0
none_pass [] = refl
none_pass (x ∷ xs) = none_pass xs

same_filter : (f g : ℕ → Bool) → ((p : ℕ) → f p ≡ g p) → (xs : List ℕ) → filter f xs ≡ filter g xs
same_filter f g h [] = refl
same_filter f g h (x ∷ xs) = let a = h x in let b = same_filter f g h xs in rw (a, b)

region_same : (a : Axis) (t : Tree) (vs ws : List ℕ) → ((p : ℕ → Bool) → list_any p vs ≡ list_any p ws) → region a t vs ≡ region a t ws
region_same a t vs ws h = same_filter (λ p. list_any (λ v. in_scan a (rows t) v p) vs) (λ p. list_any (λ v. in_scan a (rows t) v p) ws) (λ p. h (λ v. in_scan a (rows t) v p)) (range_with_len 0 (count (nodes t)))

pub region_none : (a : Axis) (t : Tree) (vs : List ℕ) → length vs ≡ 0 → length (region a t vs) ≡ 0
region_none a t [] e = none_pass (range_with_len 0 (count (nodes t)))
region_none a t (v ∷ vs) e = absurd (omega (arith, e))

one_tree : (one : ℕ) (ns : List Node) (i : ℕ) (d : Node) → AreOf one ns → i < length ns → (get_or ns i d).tree ≡ one
one_tree one [] i d all l = absurd (omega (arith, l))
one_tree one (n ∷ ns) zero d all l = all.0
one_tree one (n ∷ ns) (suc i) d all l = one_tree one ns i d all.1 (omega (arith, l))

one_of : (one : ℕ) (ns : List Node) (n : Node) → AreOf one ns → Contains ns n → n.tree ≡ one
one_of one ns n all (i, l, e) = ap (λ (x : Node). x.tree) (sym e) ∙ one_tree one ns i n all l

pub still_one : (one : ℕ) (ns ms : List Node) → AreOf one ns → ((n : Node) → Contains ms n → Contains ns n) → AreOf one ms
still_one one ns ms all m = from_contains (λ (n : Node). n.tree ≡ one) ms (λ n c. one_of one ns n all (m n c))

-- the contexts that were gathered
module _ (contexts : List Node) (index tree : ℕ) (kept : List ℕ) (are : AreKept contexts index tree kept) where
  sizes : length kept ≡ min index (length contexts)
  sizes = sym (length-map kept (spot tree)) ∙ ap length are ∙ length-take index contexts

  none : Node
  none = record { tree = 0; pre = 0 }

  each : (i : ℕ) → i < length kept → spot tree (get_or kept i 0) ≡ get_or contexts i none
  each i l = (let s = sizes in sym (get_or-map (spot tree) kept i 0 none l) ∙ ap (λ xs. get_or xs i none) are ∙ get_or-take index contexts i none (omega (arith, s, l)))

  pub kept_rises : AreRising contexts → IsRising kept
  kept_rises up i j h l =
      let s = sizes in
      let r = Less-from_sorted document_order contexts i j none up h (omega (arith, s, l)) in
      let r_i = subst (λ x. document_order x (get_or contexts j none) ≡ Less) (sym (each i (omega (arith, h, l)))) r in
      let r_j = subst (λ x. document_order (spot tree (get_or kept i 0)) x ≡ Less) (sym (each j l)) r_i in
      elim (order_parts (spot tree (get_or kept i 0)) (spot tree (get_or kept j 0)) r_j) [
        | inl a ↦ absurd (omega (arith, a))
        | inr b ↦ b.1
      ]

  -- where another tree comes, nothing was gathered yet
  pub none_kept : (one : ℕ) (x : Node) → AreOf one contexts → IsAt contexts index x → x.tree ≢ tree → length kept ≡ 0
  none_kept one x all at other = elim (cases_lt 0 (length kept)) [
    | inl l ↦ absurd (
        let s = sizes in
        let within = at.within in
        let first : tree ≡ one = ap (λ (n : Node). n.tree) (each 0 l) ∙ one_tree one contexts 0 none all (omega (arith, s, l)) in
        let here : x.tree ≡ one = ap (λ (n : Node). n.tree) at.is ∙ one_tree one contexts index x all within in
        other (here ∙ sym first))
    | inr l ↦ omega (arith, l)
  ]

  pub kept_more : (x : Node) (new : List ℕ) → IsAt contexts index x → x.tree ≡ tree → new ≡ kept ++ x.pre ∷ [] → AreKept contexts (index + 1) tree new
  kept_more x new at same e =
      let one : spot tree x.pre ≡ x = ap (λ n. spot n x.pre) (sym same) in
      ap (map (spot tree)) e ∙ map-append (spot tree) kept (x.pre ∷ []) ∙ ap (λ xs. xs ++ spot tree x.pre ∷ []) are ∙ ap (λ n. take index contexts ++ n ∷ []) (one ∙ at.is)
      ∙ sym (take_more contexts index x at.within)

  -- where some were gathered, they are of that tree
  pub kept_tree : (one : ℕ) (ns : List Node) → AreOf one ns → ((n : Node) → Contains contexts n ↔ Contains ns n) → 0 < length kept → tree ≡ one
  kept_tree one ns all m l =
      let s = sizes in
      ap (λ (n : Node). n.tree) (each 0 l) ∙ one_tree one contexts 0 none (still_one one ns contexts all (λ n. (m n).0)) (omega (arith, s, l))

  -- and a list of the same nodes has some
  pub some_same : (ns : List Node) → ((n : Node) → Contains contexts n ↔ Contains ns n) → 0 < length kept → 0 < length ns
  some_same ns m l =
      let s = sizes in
      let other = (m (get_or contexts 0 none)).0 (Contains-get_or contexts 0 none (omega (arith, s, l))) in
      let within = other.1 in
      omega (arith, within)

  -- the region of all
  pub kept_region : (a : Axis) (trees : List Tree) (one : ℕ) (ns : List Node) → length contexts ≤ index → AreOf one ns → ((n : Node) → Contains contexts n ↔ Contains ns n)
      → length (region a (tree_at trees tree) kept) ≤ length (region a (tree_at trees one) (places_of ns))
  kept_region a trees one ns done all m = elim (cases_lt 0 (length kept)) [
    | inl l ↦ (
        let s = sizes in
        let first : tree ≡ one = ap (λ (n : Node). n.tree) (each 0 l) ∙ one_tree one contexts 0 none (still_one one ns contexts all (λ n. (m n).0)) (omega (arith, s, l)) in
        let whole : map (spot tree) kept ≡ contexts = are ∙ take_all index contexts done in
        let same : (p : ℕ → Bool) → list_any p kept ≡ list_any p (places_of ns) = λ p. (
        let at : Node → Bool = λ n. p n.pre in
        sym (any_map at (spot tree) kept) ∙ ap (list_any at) whole ∙ same_any at contexts ns m ∙ sym (any_map p (λ (n : Node). n.pre) ns)) in
        let e : length (region a (tree_at trees tree) kept) ≡ length (region a (tree_at trees one) (places_of ns)) = ap (λ n. length (region a (tree_at trees n) kept)) first ∙ ap length (region_same a (tree_at trees one) kept (places_of ns) same) in
        omega (arith, e))
    | inr l ↦ (let e = region_none a (tree_at trees tree) kept (omega (arith, l)) in omega (arith, e))
  ]

pub kept_first : (contexts : List Node) (index : ℕ) (x : Node) (tree : ℕ) (kept new : List ℕ) → AreKept contexts index tree kept → length kept ≡ 0 → IsAt contexts index x → new ≡ x.pre ∷ [] → AreKept contexts (index + 1) x.tree new
kept_first contexts index x tree kept new are empty at e =
    let s = sizes contexts index tree kept are in
    let within = at.within in
    let zero_is : index ≡ 0 = omega (arith, s, empty, within) in
    let begin : AreKept contexts index x.tree [] = ap (λ i. take i contexts) (sym zero_is) in
    kept_more contexts index x.tree [] begin x new at refl e

pub none_rises : (kept : List ℕ) → length kept ≡ 0 → IsRising kept
none_rises kept e i j h l = absurd (omega (arith, e, h, l))

-- nothing is read from no context
pub none_read : (a : Axis) (t : Tree) (kept : List ℕ) (old new : ℕ) → length kept ≡ 0 → new ≤ old + length (region a t kept) → new ≤ old
none_read a t kept old new e h = let z = region_none a t kept e in omega (arith, h, z)
