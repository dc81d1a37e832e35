-- The places of elements with a name are the numbers of the rows that pass a node_test.
use Rattle.std.proofs.Common.{◌≡◌, ℕ, zero, suc, ◌+◌, ◌<◌, ◌≤◌, List, [], ◌∷◌, ◌++◌, length, map, take, drop, get_or, nat_lt, Bool, true, false, not, ◌&&◌, cond, inl, inr, refl, sym, ◌∙◌, ap, subst, append_assoc, arith}
use Rattle.std.specs.Prelude.{filter, Some}
use Rattle.std.specs.List.{enumerate_from}
use Rattle.std.proofs.Math.Seq.{get_or-append_seam, drop-append_seam}
use Rattle.std.specs.List.Sorted.{IsPartitionedBy, IsPartitionPoint}
use Rattle.std.proofs.lemmas.Bool.{cases_lt, lt-ltb, ltb-true, ltb-false}
use Rattle.std.proofs.lemmas.List.{append-nil, length-append, get_or_append_left, get_or_default, take-append-le, take-append-drop, take_all, take_more, map-append}
use Rattle.std.proofs.lemmas.List.Elements.{filter-append}
use Rattle.std.proofs.lemmas.List.FromFn.{length-enumerate_from, get_or-enumerate_from}
use Rattle.xq_atoms.specs.Text.{Text, text_eq}
use Rattle.xq_trees.specs.Forest.{count}
use Rattle.xq_trees.specs.Tree.{Tree, nodes, is_attribute}
use Rattle.xq_trees.specs.Rows.{Row, no_row, row_at, rows, placed_rows}
use Rattle.xq_trees.specs.declared.Kind.{Kind}
use Rattle.xq_trees.specs.declared.Kind.TheVariants as kind
use Rattle.xq_trees.proofs.Encoding.{length-rows}
use Rattle.xq_sources.specs.Names.{is_element, is_named, named}
use Rattle.xq_meaning.specs.declared.node_tests.Test.{Test}
use Rattle.xq_meaning.specs.declared.node_tests.Test.TheVariants as tests
use Rattle.xq_meaning.specs.Steps.{passes}
use Rattle.xq_axes.specs.private.Hits.{row_passes, below_where, IsRising, IsReached}
use Rattle.xq_axes.specs.private.Named.{IsPlainTest}
use Rattle.xq_axes.specs.private.Hits.{is_wanted}
use Rattle.xq_axes.specs.private.Downward.{IsJudged}
use Rattle.xq_axes.specs.Reads.{Span}
use Rattle.xq_axes.specs.declared.downward.Downward.TheVariants.{Descendant}
use Rattle.xq_trees.specs.RegionTests.{plain_row}
use Rattle.xq_trees.specs.declared.Axis.TheVariants as axis
use Rattle.xq_axes.proofs.Clusters.{descendant}
use Rattle.xq_axes.proofs.Sizes.{node_of}

-- # Numbers that pass a node_test rise

last_less : (xs : List ℕ) (n i : ℕ) (b : Bool) → ((j : ℕ) → j < length xs → get_or xs j 0 < n) → i < length (xs ++ cond b (n ∷ []) []) → get_or (xs ++ cond b (n ∷ []) []) i 0 < suc n
last_less xs n i false all h =
    let e = append-nil xs in
    let l = all i (subst (λ ys. i < length ys) e h) in
    subst (λ ys. get_or ys i 0 < suc n) (sym e) (omega (arith, l))
last_less xs n i true all h =
    let many = length-append xs (n ∷ []) in
    elim (cases_lt i (length xs)) [
      | inl l ↦ (let e = get_or_append_left xs (n ∷ []) 0 i l in let a = all i l in omega (arith, e, a))
      | inr l ↦ (
          let same : i ≡ length xs = omega (arith, h, l, many) in
          let e : get_or (xs ++ n ∷ []) i 0 ≡ n = ap (λ k. get_or (xs ++ n ∷ []) k 0) same ∙ get_or-append_seam xs n [] 0 in
          omega (arith, e))
    ]

pub below_less : (f : ℕ → Bool) (n i : ℕ) → i < length (below_where f n) → get_or (below_where f n) i 0 < n
below_less f zero i h = absurd (omega (arith, h))
below_less f (suc n) i h = last_less (below_where f n) n i (f n) (below_less f n) h

last_rises : (xs : List ℕ) (n : ℕ) (b : Bool) → IsRising xs → ((j : ℕ) → j < length xs → get_or xs j 0 < n) → IsRising (xs ++ cond b (n ∷ []) [])
last_rises xs n false up all = subst IsRising (sym (append-nil xs)) up
last_rises xs n true up all = λ i j l h. (
    let many = length-append xs (n ∷ []) in
    elim (cases_lt j (length xs)) [
      | inl k ↦ (
          let a = get_or_append_left xs (n ∷ []) 0 i (omega (arith, l, k)) in
          let b = get_or_append_left xs (n ∷ []) 0 j k in
          let u = up i j l k in
          omega (arith, a, b, u))
      | inr k ↦ (
          let same : j ≡ length xs = omega (arith, h, k, many) in
          let e : get_or (xs ++ n ∷ []) j 0 ≡ n = ap (λ m. get_or (xs ++ n ∷ []) m 0) same ∙ get_or-append_seam xs n [] 0 in
          let il : i < length xs = omega (arith, l, same) in
          let a = get_or_append_left xs (n ∷ []) 0 i il in
          let u = all i il in
          omega (arith, a, e, u))
    ])

pub below_rises : (f : ℕ → Bool) (n : ℕ) → IsRising (below_where f n)
below_rises f zero = λ i j l h. absurd (omega (arith, h))
below_rises f (suc n) = last_rises (below_where f n) n (f n) (below_rises f n) (below_less f n)

-- # Those before a number that is reached are those below it

within_last : (xs : List ℕ) (n m i : ℕ) (b : Bool) → n ≤ m → IsReached (xs ++ cond b (m ∷ []) []) i n → i ≤ length xs
within_last xs n m i false h r = subst (λ ys. i ≤ length ys) (append-nil xs) r.within
within_last xs n m i true h r =
    elim (cases_lt (length xs) i) [
      | inl l ↦ (let b = r.before (length xs) l in let e = get_or-append_seam xs m [] 0 in absurd (omega (arith, b, e, h)))
      | inr l ↦ l
    ]

front_reached : (xs ys : List ℕ) (n i : ℕ) → i ≤ length xs → IsReached (xs ++ ys) i n → IsReached xs i n
front_reached xs ys n i h r = record {
  within = h;
  before = λ k l. (let e = get_or_append_left xs ys 0 k (omega (arith, l, h)) in let b = r.before k l in omega (arith, e, b));
  others = λ k l m. (let e = get_or_append_left xs ys 0 k m in let many = length-append xs ys in let b = r.others k l (omega (arith, m, many)) in omega (arith, e, b));
}

pub reached_take : (f : ℕ → Bool) (m n i : ℕ) → n ≤ m → IsReached (below_where f m) i n → take i (below_where f m) ≡ below_where f n
reached_take f zero n i h r =
    let e : n ≡ 0 = omega (arith, h) in
    take_all i [] (omega arith) ∙ ap (below_where f) (sym e)
reached_take f (suc m) n i h r =
    elim (cases_lt n (suc m)) [
      | inl l ↦ (
          let xs = below_where f m in
          let ys = cond (f m) (m ∷ []) [] in
          let k : n ≤ m = omega (arith, l) in
          let w = within_last xs n m i (f m) k r in
          take-append-le i xs ys w ∙ reached_take f m n i k (front_reached xs ys n i w r))
      | inr l ↦ (
          let e : n ≡ suc m = omega (arith, h, l) in
          let xs = below_where f (suc m) in
          let all : length xs ≤ i = elim (cases_lt i (length xs)) [
            | inl k ↦ (let a = r.others i (omega arith) k in let b = below_less f (suc m) i k in absurd (omega (arith, a, b, e)))
            | inr k ↦ k
          ] in
          take_all i xs all ∙ ap (below_where f) (sym e))
    ]

pub reached_split : (f : ℕ → Bool) (m n i : ℕ) → n ≤ m → IsReached (below_where f m) i n → below_where f m ≡ below_where f n ++ drop i (below_where f m)
reached_split f m n i h r = sym (take-append-drop i (below_where f m)) ∙ ap (λ ys. ys ++ drop i (below_where f m)) (reached_take f m n i h r)

-- # Where two tests agree, the same pass

record Parts (f g : ℕ → Bool) (n m : ℕ) : Type 0 where
  pub part : List ℕ
  pub first : below_where f m ≡ below_where f n ++ part
  pub second : below_where g m ≡ below_where g n ++ part

parts : (f g : ℕ → Bool) (n m : ℕ) → n ≤ m → ((p : ℕ) → n ≤ p → p < m → f p ≡ g p) → Parts f g n m
parts f g n zero h a =
    let e : 0 ≡ n = omega (arith, h) in
    record { part = []; first = ap (below_where f) e ∙ sym (append-nil (below_where f n)); second = ap (below_where g) e ∙ sym (append-nil (below_where g n)) }
parts f g n (suc m) h a =
    elim (cases_lt n (suc m)) [
      | inl l ↦ (
          let k : n ≤ m = omega (arith, l) in
          let r = parts f g n m k (λ p x y. a p x (omega (arith, y))) in
          let last = cond (g m) (m ∷ []) [] in
          record {
            part = r.part ++ last;
            first = ap (λ b. below_where f m ++ cond b (m ∷ []) []) (a m k (omega arith)) ∙ ap (λ xs. xs ++ last) r.first ∙ append_assoc (below_where f n) r.part last;
            second = ap (λ xs. xs ++ last) r.second ∙ append_assoc (below_where g n) r.part last;
          })
      | inr l ↦ (
          let e : suc m ≡ n = omega (arith, h, l) in
          record { part = []; first = ap (below_where f) e ∙ sym (append-nil (below_where f n)); second = ap (below_where g) e ∙ sym (append-nil (below_where g n)) })
    ]

pub same_part : (f g : ℕ → Bool) (n m : ℕ) (part : List ℕ) → n ≤ m → ((p : ℕ) → n ≤ p → p < m → f p ≡ g p) → below_where g m ≡ below_where g n ++ part → below_where f m ≡ below_where f n ++ part
same_part f g n m part h a e =
    let r = parts f g n m h a in
    let front = below_where g n in
    let same : r.part ≡ part = sym (drop-append_seam front r.part) ∙ ap (drop (length front)) (sym r.second ∙ e) ∙ drop-append_seam front part in
    r.first ∙ ap (λ ys. below_where f n ++ ys) same

-- # The places of rows that pass a node_test

one_place : (q : ℕ × Row → Bool) (n : ℕ) (r : Row) → map (λ (p : ℕ × Row). p.0) (filter q ((n, r) ∷ [])) ≡ cond (q (n, r)) (n ∷ []) []
one_place q n r = by (q (n, r))
  where
    by : (b : Bool) → map (λ (p : ℕ × Row). p.0) (cond b ((n, r) ∷ []) []) ≡ cond b (n ∷ []) []
    by true = refl
    by false = refl

pub front_places : (q : ℕ × Row → Bool) (rs : List Row) (n : ℕ) → n ≤ length rs → map (λ (p : ℕ × Row). p.0) (filter q (take n (enumerate_from 0 rs))) ≡ below_where (λ k. q (k, row_at rs k)) n
front_places q rs zero h = refl
front_places q rs (suc n) h =
    let ps = enumerate_from 0 rs in
    let row = row_at rs n in
    let s : suc n ≡ n + 1 = omega arith in
    let many = length-enumerate_from 0 rs in
    let z : 0 + n ≡ n = omega arith in
    let here : get_or ps n (n, no_row) ≡ (n, row) = get_or-enumerate_from 0 rs n (n, no_row) (omega (arith, h)) ∙ ap (λ (k : ℕ). (k, row)) z in
    let more : take (suc n) ps ≡ take n ps ++ (n, row) ∷ [] = ap (λ k. take k ps) s ∙ take_more ps n (n, no_row) (omega (arith, h, many)) ∙ ap (λ (p : ℕ × Row). take n ps ++ p ∷ []) here in
    ap (λ xs. map (λ (p : ℕ × Row). p.0) (filter q xs)) more
    ∙ ap (map (λ (p : ℕ × Row). p.0)) (filter-append q (take n ps) ((n, row) ∷ []))
    ∙ map-append (λ (p : ℕ × Row). p.0) (filter q (take n ps)) (filter q ((n, row) ∷ []))
    ∙ ap (λ xs. xs ++ map (λ (p : ℕ × Row). p.0) (filter q ((n, row) ∷ []))) (front_places q rs n (omega (arith, h)))
    ∙ ap (λ xs. below_where (λ k. q (k, row_at rs k)) n ++ xs) (one_place q n row)

-- the row at this place is that of an element with the name
abbrev pub is_named_at : Tree → Text → ℕ → Bool
is_named_at t name p = is_named name (p, row_at (rows t) p)

pub named_below : (t : Tree) (name : Text) → named (placed_rows t) name ≡ below_where (is_named_at t name) (count (nodes t))
named_below t name =
    let ps = placed_rows t in
    let many = length-enumerate_from 0 (rows t) in
    let length : length (rows t) ≡ count (nodes t) = length-rows t in
    ap (λ xs. map (λ (p : ℕ × Row). p.0) (filter (is_named name) xs)) (sym (take_all (count (nodes t)) ps (omega (arith, many, length))))
    ∙ front_places (is_named name) (rows t) (count (nodes t)) (omega (arith, length))

-- # Elements with a name

pub named_passes : (name : Text) (k : Kind) (of : Text) → (not (is_attribute k) && passes (tests.Element (Some name)) k of) ≡ (is_element k && text_eq name of)
named_passes name kind.Document of = refl
named_passes name kind.Element of = refl
named_passes name kind.Attribute of = refl
named_passes name kind.Text of = refl
named_passes name kind.Comment of = refl
named_passes name kind.ProcessingInstruction of = refl

pub named_is_plain : (t : Tree) (node_test : Test) (name : Text) (wanted : ℕ → Bool) (low high : ℕ) → node_test ≡ tests.Element (Some name) → IsPlainTest wanted node_test t low high → (p : ℕ) → low ≤ p → p < high + 1 → wanted p ≡ is_named_at t name p
named_is_plain t node_test name wanted low high e is p a b =
    let r = row_at (rows t) p in
    is p a (omega (arith, b)) ∙ ap (λ k. not (is_attribute r.label.kind) && row_passes k r) e ∙ named_passes name r.label.kind r.label.name

-- what is told from low to high is added to what was found before
pub told : (t : Tree) (node_test : Test) (name : Text) (wanted : ℕ → Bool) (low high : ℕ) (old part : List ℕ) → node_test ≡ tests.Element (Some name) → IsPlainTest wanted node_test t low high → low ≤ high + 1 → old ≡ below_where wanted low → below_where (is_named_at t name) (high + 1) ≡ below_where (is_named_at t name) low ++ part → old ++ part ≡ below_where wanted (high + 1)
told t node_test name wanted low high old part e is h o b =
    ap (λ xs. xs ++ part) o ∙ sym (same_part wanted (is_named_at t name) low (high + 1) part h (named_is_plain t node_test name wanted low high e is) b)

-- # A search by halves

-- those that come before a place are followed by those that don't
pub parted_before : (vs : List ℕ) (place : ℕ) → IsRising vs → IsPartitionedBy (λ v. nat_lt v place) vs
parted_before vs place up = λ i j d le inside e.
    let first = get_or_default vs i 0 d (omega (arith, le, inside)) in
    let second = get_or_default vs j 0 d inside in
    let less = ltb-true (get_or vs j d) place e in
    lt-ltb (get_or vs i d) place (elim (cases_lt i j) [
      | inl l ↦ (let u = up i j l inside in omega (arith, u, less, first, second))
      | inr l ↦ (let same : j ≡ i = omega (arith, le, l) in subst (λ k. get_or vs k d < place) same less)
    ])

-- so many of them come before it
pub reached_parted : (vs : List ℕ) (place index : ℕ) → index ≤ length vs → IsPartitionPoint (λ v. nat_lt v place ≡ true) (λ v. nat_lt v place ≡ false) vs index → IsReached vs index place
reached_parted vs place index within parted = record {
  within = within;
  before = λ i h. ltb-true (get_or vs i 0) place (parted.0 i 0 (omega arith) h);
  others = λ i l h. ltb-false (get_or vs i 0) place (parted.1 i 0 l h);
}

-- # The rows below a context

module _ (t : Tree) (vs : List ℕ) (s : Span) (met : ℕ) (marks : List Bool) (is_open : Bool) where
  pub judged_on : (n m : ℕ) → IsJudged Descendant t vs s n met marks is_open → n ≤ m → IsJudged Descendant t vs s m met marks is_open
  judged_on n m j h = record {
    is_tree = j.is_tree;
    rising = j.rising;
    reached = tt;
    top = j.top;
    cluster = j.cluster;
    is_context = j.is_context;
    from = (let f = j.from in omega (arith, f, h));
    levels = j.levels;
    is_known = tt;
  }

  -- there is a row at each place of the span
  pub all_there : (n : ℕ) → IsJudged Descendant t vs s n met marks is_open → (s.low ≤ s.high + 1) × (s.high < count (nodes t))
  all_there n j =
      let c = j.cluster in
      let low = c.low in
      let high = c.high in (
        omega (arith, low, high),
        subst (λ x. x < count (nodes t)) (sym high) (node_of t j.top c.is_there).ends,
      )

  -- those that are no attributes are descendants
  pub plain_below : (node_test : Test) → IsJudged Descendant t vs s s.low met marks is_open → IsPlainTest (is_wanted axis.Descendant node_test t vs) node_test t s.low s.high
  plain_below node_test j = λ p a b. (
      let all = (all_there s.low j).1 in
      let w = descendant t vs s p met marks is_open (plain_row (rows t) p) (judged_on s.low p j a) (omega (arith, all, b)) a b refl in
      ap (λ x. x && row_passes node_test (row_at (rows t) p)) (sym w.is_right))
