-- Attributes that a source counts at once.
use Rattle.std.proofs.Common.{◌≡◌, ◌≢◌, ℕ, suc, ◌+◌, ◌-◌, ◌<◌, ◌≤◌, List, [], ◌∷◌, ◌++◌, length, get_or, max, min, Bool, true, false, not, inl, inr, refl, sym, ◌∙◌, ap, subst, arith}
use Rattle.std.proofs.Math.Seq.{get_or-append_seam}
use Rattle.std.proofs.lemmas.List.{get_or_append_left, length-append}
use Rattle.std.proofs.lemmas.Bool.{cases_lt, cases_order, and_parts, eq-eqb, eqb-true}
use Rattle.xq_trees.specs.Forest.{count}
use Rattle.xq_trees.specs.Tree.{Tree, IsTree, nodes}
use Rattle.xq_trees.specs.Rows.{rows}
use Rattle.xq_trees.specs.Regions.{IsInside}
use Rattle.xq_trees.specs.RegionTests.{plain_row, inside, in_region}
use Rattle.xq_trees.specs.declared.Axis.TheVariants as axis
use Rattle.xq_trees.proofs.Encoding.{length-rows}
use Rattle.xq_sources.specs.AttributeRows.{AreAttributeRows}
use Rattle.xq_meaning.specs.declared.node_tests.Test.{Test}
use Rattle.xq_axes.specs.Reads.{span, span_end}
use Rattle.xq_axes.specs.private.Hits.{is_hit, is_wanted, below_where, AreUnhit, IsRising}
use Rattle.xq_axes.specs.private.Downward.{level_of}
use Rattle.xq_axes.specs.private.Waiting.{IsParent}
use Rattle.xq_axes.specs.private.Counted.{AreCounted, AreHits}
use Rattle.xq_axes.specs.declared.attributes.Counted.{Counted}
use Rattle.xq_axes.proofs.Lists.{any_from, any_none}
use Rattle.xq_axes.proofs.Sizes.{node_of}
use Rattle.xq_axes.proofs.Trees.{inside_deeper, parent_of}
use Rattle.xq_axes.proofs.Clusters.{true_inside}
use Rattle.xq_axes.proofs.Picking.{picked_over}
use Rattle.xq_axes.proofs.AttributeRows.{attribute_run, first_attribute}
use Rattle.xq_axes.proofs.Scans.{in_some, passing_up, is_inside}

true_not_false : (b : Bool) → b ≡ true → b ≡ false → ⊥
true_not_false true a e = absurd (cc)
true_not_false false a e = absurd (cc)

not_true : (b : Bool) → not b ≡ true → b ≡ false
not_true true e = absurd (cc)
not_true false e = refl

-- # The attributes of a node are the rows that were counted

module _ (t : Tree) (is : IsTree t) (v number : ℕ) (are : AreAttributeRows (rows t) v number) where
  pub counted_end : v + number < count (nodes t)
  counted_end = let h = are.there in let n = length-rows t in omega (arith, h, n)

  -- each of its attributes is one of them
  pub among_counted : (p : ℕ) → in_region axis.Attributes (rows t) v p ≡ true → (v < p) × (p ≤ v + number)
  among_counted p e =
      let w = and_parts _ _ e in
      let x = and_parts _ _ w.1 in
      let i = true_inside (rows t) v p w.0 in
      let i0 = i.0 in
      let i1 = i.1 in
      let d = (node_of t v (let l = counted_end in omega (arith, l))).ends in
      let hp : p < count (nodes t) = omega (arith, i1, d) in
      let own : IsParent t v p = record { inside = i; level = eqb-true (level_of t p) (suc (level_of t v)) x.0 } in
      let none = not_true (plain_row (rows t) p) x.1 in
      let run = attribute_run t is v p hp own none in
      elim (cases_lt (v + number) p) [
        | inl over ↦ absurd (
            let after = are.after (omega (arith, over, i1)) in
            elim (cases_order (v + number + 1) p) [
              | inl same ↦ true_not_false (plain_row (rows t) p) (subst (λ q. plain_row (rows t) q ≡ true) same after.1) none
              | inr apart ↦ elim apart [
                | inl less ↦ true_not_false (plain_row (rows t) (v + number + 1)) after.1 (run.between (v + number + 1) (omega arith) less)
                | inr more ↦ absurd (omega (arith, over, more))
              ]
            ])
        | inr within ↦ (i0, omega (arith, within))
      ]

  -- the node is no attribute, if there is one of them
  has_some : 0 < number → plain_row (rows t) v ≡ true
  has_some some =
      let e = counted_end in
      let first : plain_row (rows t) (suc v) ≡ false = are.are (suc v) (omega arith) (omega (arith, some)) in
      let b = are.below in
      first_attribute t is v (omega (arith, some, e)) first (inside_deeper t v (suc v) (omega (arith, e)) (omega (arith, some, e)) (omega arith, omega (arith, some, b)))

  -- each of them is one of its attributes
  pub counted_are : (p : ℕ) → v < p → p ≤ v + number → in_region axis.Attributes (rows t) v p ≡ true
  counted_are p a b =
      let e = counted_end in
      let below = are.below in
      let hp : p < count (nodes t) = omega (arith, e, b) in
      let i : IsInside (rows t) v p = (a, omega (arith, b, below)) in
      let deeper = inside_deeper t v p (omega (arith, e)) hp i in
      let none = are.are p a b in
      let parent = parent_of t p hp (omega (arith, deeper)) in
      let w = parent.parent in
      let run = attribute_run t is w p hp parent.is none in
      let less = parent.is.inside.0 in
      let same : w ≡ v = elim (cases_order w v) [
        | inl k ↦ k
        | inr apart ↦ elim apart [
          | inl k ↦ absurd (true_not_false (plain_row (rows t) v) (has_some (omega (arith, a, b))) (run.between v k a))
          | inr k ↦ absurd (true_not_false (plain_row (rows t) w) run.parent (are.are w k (omega (arith, less, b))))
        ]
      ] in
      let level : level_of t p ≡ suc (level_of t v) = parent.is.level ∙ ap (λ q. suc (level_of t q)) same in
      let x = is_inside t v p a (omega (arith, b, below)) in
      let y = eq-eqb (level_of t p) (suc (level_of t v)) level in
      let z = ap not none in
      rw (x, y, z)

-- # The rows of a node's attributes

-- the rows that are read of a node with attributes, but for those that were read before, and the one after them
pub record IsAsked (t : Tree) (vs : List ℕ) (index next number low high after : ℕ) : Type 0 where
  pub is_tree : IsTree t
  pub here : index < length vs
  pub are : AreAttributeRows (rows t) (get_or vs index 0) number
  pub low_is : low ≡ max next (get_or vs index 0 + 1)
  pub high_is : high ≡ get_or vs index 0 + number
  pub after_is : after ≡ max next (high + 1)
  pub some : 0 < number
  pub within : after ≤ count (nodes t)

pub asked : (t : Tree) (vs : List ℕ) (counted : List Counted) (index next first last low high after : ℕ) → AreCounted t vs counted → length counted ≡ length vs → index < length counted
    → let x = get_or counted index (record { place = 0; number = 0 }) in
    x.number ≢ 0 → first ≡ min (x.place + 1) 4294967295 → low ≡ max next first → high ≡ min (x.place + x.number) 4294967295 → last ≡ min (high + 1) 4294967295 → after ≡ max next last → next ≤ count (nodes t)
    → IsAsked t vs index next x.number low high after
asked t vs counted index next first last low high after c n l some a b d e f w =
    let none : Counted = record { place = 0; number = 0 } in
    let x = get_or counted index none in
    let at : x.place ≡ get_or vs index 0 = c.place index none l in
    let is = c.is_tree (omega (arith, l)) in
    let are = subst (λ v. AreAttributeRows (rows t) v x.number) at (c.number index none l) in
    let end = counted_end t is (get_or vs index 0) x.number are in
    let room = is.room in
    record {
      is_tree = is;
      here = omega (arith, l, n);
      are = are;
      low_is = omega (arith, a, b, at, end, room);
      high_is = omega (arith, d, at, end, room);
      after_is = omega (arith, d, e, f, at, end, room);
      some = omega (arith, some);
      within = omega (arith, d, e, f, w, at, end, room);
    }

pub all_hit : (t : Tree) (vs : List ℕ) (index next number low high after : ℕ) → IsAsked t vs index next number low high after → (p : ℕ) → low ≤ p → p ≤ high → is_hit axis.Attributes t vs p ≡ true
all_hit t vs index next number low high after r p a b =
    let x = r.low_is in
    let y = r.high_is in
    any_from (λ w. in_region axis.Attributes (rows t) w p) vs index 0 r.here (counted_are t r.is_tree (get_or vs index 0) number r.are p (omega (arith, a, x)) (omega (arith, b, y)))

pub are_hits : (t : Tree) (vs : List ℕ) (index next number low high after : ℕ) → IsAsked t vs index next number low high after → AreHits t vs low high
are_hits t vs index next number low high after r =
    let x = r.low_is in
    let y = r.high_is in
    record {
      there = λ _. (let e = counted_end t r.is_tree (get_or vs index 0) number r.are in omega (arith, e, y));
      hits = all_hit t vs index next number low high after r;
      none_plain = λ p a b. r.are.are p (omega (arith, a, x)) (omega (arith, b, y));
    }

pub asked_end : (t : Tree) (vs : List ℕ) (index next number low high after : ℕ) → IsAsked t vs index next number low high after → max low (high + 1) ≡ after
asked_end t vs index next number low high after r =
    let x = r.low_is in
    let y = r.high_is in
    let z = r.after_is in
    let s = r.some in
    omega (arith, x, y, z, s)

read_end : (t : Tree) (vs : List ℕ) (index next number low high after : ℕ) → IsAsked t vs index next number low high after → span_end t (span low high) ≡ after
read_end t vs index next number low high after r =
    let x = r.low_is in
    let y = r.high_is in
    let z = r.after_is in
    let e = counted_end t r.is_tree (get_or vs index 0) number r.are in
    let s = r.some in
    omega (arith, x, y, z, e, s)

-- # From one node to the next

-- what is found of the attributes of the first nodes: all that is before `next`, and none of them is after it
pub record IsSoFar (test : Test) (t : Tree) (vs : List ℕ) (index next : ℕ) (found : List ℕ) : Type 0 where
  pub within : next ≤ count (nodes t)
  pub done : (i : ℕ) → i < index → i < length vs → (p : ℕ) → in_region axis.Attributes (rows t) (get_or vs i 0) p ≡ true → p < next
  pub is_found : found ≡ below_where (is_wanted axis.Attributes test t vs) next

pub none_yet : (test : Test) (t : Tree) (vs : List ℕ) (found : List ℕ) → found ≡ [] → IsSoFar test t vs 0 0 found
none_yet test t vs found e = record { within = omega arith; done = λ i a l p h. absurd (omega (arith, a)); is_found = e }

-- an attribute comes after its node
after_node : (t : Tree) (v p : ℕ) → in_region axis.Attributes (rows t) v p ≡ true → v < p
after_node t v p e = (true_inside (rows t) v p (and_parts _ _ e).0).0

module _ (test : Test) (t : Tree) (vs : List ℕ) (index next : ℕ) (found : List ℕ) (up : IsRising vs) (so : IsSoFar test t vs index next found) where
  -- no row from there to the next node is an attribute of one
  pub unhit_before : index < length vs → AreUnhit (is_hit axis.Attributes t vs) next (get_or vs index 0 + 1)
  unhit_before l p a b = any_none (λ v. in_region axis.Attributes (rows t) v p) vs 0 (λ i m e. elim (cases_lt i index) [
    | inl k ↦ (let d = so.done i k m p e in omega (arith, a, d))
    | inr k ↦ (
        let x = after_node t (get_or vs i 0) p e in
        elim (cases_lt index i) [
          | inl j ↦ (let y = up index i j m in omega (arith, x, y, b))
          | inr j ↦ (let same : i ≡ index = omega (arith, k, j) in let y : get_or vs i 0 ≡ get_or vs index 0 = ap (λ q. get_or vs q 0) same in omega (arith, x, y, b))
        ])
  ])

  pub unhit_after : length vs ≤ index → AreUnhit (is_hit axis.Attributes t vs) next (count (nodes t))
  unhit_after l p a b = any_none (λ v. in_region axis.Attributes (rows t) v p) vs 0 (λ i m e. (let d = so.done i (omega (arith, m, l)) m p e in omega (arith, a, d)))

  pub all_so_far : length vs ≤ index → found ≡ below_where (is_wanted axis.Attributes test t vs) (count (nodes t))
  all_so_far l = picked_over axis.Attributes test t vs next (count (nodes t)) found so.within (unhit_after l) so.is_found

  module _ (is : IsTree t) (l : index < length vs) (number : ℕ) (are : AreAttributeRows (rows t) (get_or vs index 0) number) where
    v : ℕ
    v = get_or vs index 0

    -- a node without attributes
    pub none_more : number ≡ 0 → IsSoFar test t vs (index + 1) next found
    none_more e = record {
      within = so.within;
      done = λ i a m p h. elim (cases_lt i index) [
        | inl k ↦ so.done i k m p h
        | inr k ↦ absurd (
            let same : i ≡ index = omega (arith, a, k) in
            let w = among_counted t is (get_or vs index 0) number are p (subst (λ q. in_region axis.Attributes (rows t) (get_or vs q 0) p ≡ true) same h) in
            let w0 = w.0 in
            let w1 = w.1 in
            omega (arith, e, w0, w1))
      ];
      is_found = so.is_found;
    }

    -- its attributes were read
    pub goes_on : (low high after : ℕ) (new : List ℕ) → IsAsked t vs index next number low high after → new ≡ below_where (is_wanted axis.Attributes test t vs) after → IsSoFar test t vs (index + 1) after new
    goes_on low high after new r f =
        let y = r.high_is in
        let e = r.after_is in
        record {
          within = r.within;
          done = λ i a m p h. elim (cases_lt i index) [
            | inl k ↦ (let d = so.done i k m p h in omega (arith, d, e))
            | inr k ↦ (
                let same : i ≡ index = omega (arith, a, k) in
                let w = among_counted t is (get_or vs index 0) number are p (subst (λ q. in_region axis.Attributes (rows t) (get_or vs q 0) p ≡ true) same h) in
                let w1 = w.1 in
                omega (arith, w1, y, e))
          ];
          is_found = f;
        }

  -- up to the rows that are read next
  pub begins : (number low high after : ℕ) → IsAsked t vs index next number low high after → found ≡ below_where (is_wanted axis.Attributes test t vs) low
  begins number low high after r =
      let a = r.low_is in
      picked_over axis.Attributes test t vs next low found (omega (arith, a)) (λ p x y. elim (cases_lt p (get_or vs index 0 + 1)) [
        | inl k ↦ unhit_before r.here p x k
        | inr k ↦ absurd (omega (arith, x, y, k, a))
      ]) so.is_found

-- # What is read

-- the rows that are read of one node more are in the region
pub read_rows : (t : Tree) (vs : List ℕ) (index next number low high after : ℕ) → IsAsked t vs index next number low high after
    → length (below_where (in_some axis.Attributes t vs) next) + (span_end t (span low high) - low) ≤ length (below_where (in_some axis.Attributes t vs) after)
read_rows t vs index next number low high after r =
    let v = get_or vs index 0 in
    let x = r.low_is in
    let y = r.high_is in
    let below = r.are.below in
    let m = span_end t (span low high) in
    let k = m - low in
    let e : low + k ≡ m = omega arith in
    let up = passing_up (in_some axis.Attributes t vs) next low k (omega (arith, x)) (λ p a b. any_from (λ w. inside (rows t) w p) vs index 0 r.here (is_inside t v p (omega (arith, a, x)) (omega (arith, b, y, below)))) in
    subst (λ q. length (below_where (in_some axis.Attributes t vs) next) + k ≤ length (below_where (in_some axis.Attributes t vs) q)) (e ∙ read_end t vs index next number low high after r) up

-- # One node after another is asked for

pub none_counted : (t : Tree) (vs : List ℕ) (counted : List Counted) → counted ≡ [] → AreCounted t vs counted
none_counted t vs counted e = subst (AreCounted t vs) (sym e) (record {
  is_tree = λ some. absurd (omega (arith, some));
  place = λ i d l. absurd (omega (arith, l));
  number = λ i d l. absurd (omega (arith, l));
})

module _ (t : Tree) (vs : List ℕ) (counted : List Counted) (one : Counted) where
  longer : length (counted ++ one ∷ []) ≡ length counted + 1
  longer = length-append counted (one ∷ [])

  -- the same of the last as of those before it
  each : (P : ℕ → Counted → Type 0) → ((i : ℕ) (d : Counted) → i < length counted → P i (get_or counted i d)) → P (length counted) one
      → (i : ℕ) (d : Counted) → i < length (counted ++ one ∷ []) → P i (get_or (counted ++ one ∷ []) i d)
  each P before last i d l =
      let n = longer in
      elim (cases_lt i (length counted)) [
        | inl k ↦ subst (P i) (sym (get_or_append_left counted (one ∷ []) d i k)) (before i d k)
        | inr k ↦ (
            let same : length counted ≡ i = omega (arith, k, l, n) in
            subst (λ j. P j (get_or (counted ++ one ∷ []) j d)) same (subst (P (length counted)) (sym (get_or-append_seam counted one [] d)) last))
      ]

  pub counted_more : (i : ℕ) (new : List Counted) → AreCounted t vs counted → length counted ≡ i → one.place ≡ get_or vs i 0 → IsTree t → AreAttributeRows (rows t) one.place one.number → new ≡ counted ++ one ∷ [] → AreCounted t vs new
  counted_more i new are n place is number e = subst (AreCounted t vs) (sym e) (record {
    is_tree = λ _. is;
    place = each (λ j c. c.place ≡ get_or vs j 0) are.place (place ∙ ap (λ j. get_or vs j 0) (sym n));
    number = each (λ j c. AreAttributeRows (rows t) c.place c.number) are.number number;
  })

-- a node for which no attribute was counted
pub none_counted_of : (test : Test) (t : Tree) (vs : List ℕ) (counted : List Counted) (index next : ℕ) (found : List ℕ) → IsRising vs → IsSoFar test t vs index next found → AreCounted t vs counted → length counted ≡ length vs → index < length counted
    → (get_or counted index (record { place = 0; number = 0 })).number ≡ 0 → IsSoFar test t vs (index + 1) next found
none_counted_of test t vs counted index next found up so c n l e =
    let none : Counted = record { place = 0; number = 0 } in
    let x = get_or counted index none in
    let are = subst (λ v. AreAttributeRows (rows t) v x.number) (c.place index none l) (c.number index none l) in
    none_more test t vs index next found up so (c.is_tree (omega (arith, l))) (omega (arith, l, n)) x.number are e
