-- Children and attributes of one node, judged row by row.
use Rattle.std.proofs.Common.{◌≡◌, ℕ, suc, ◌+◌, ◌-◌, ◌<◌, ◌≤◌, [], ◌∷◌, length, min, Bool, true, false, not, ◌&&◌, ◌||◌, nat_eq, refl, sym, ◌∙◌, ap, subst, arith}
use Rattle.std.proofs.lemmas.Bool.{eqb-true, and_parts, false_from_ne_true}
use Rattle.xq_trees.specs.Forest.{count}
use Rattle.xq_trees.specs.Tree.{Tree, nodes}
use Rattle.xq_trees.specs.Rows.{rows, row_at}
use Rattle.xq_trees.specs.Regions.{IsInside}
use Rattle.xq_trees.specs.RegionTests.{inside, one_below, plain_row, in_region}
use Rattle.xq_trees.specs.declared.Axis.{Axis}
use Rattle.xq_trees.specs.declared.Axis.TheVariants as axis
use Rattle.xq_meaning.specs.declared.node_tests.Test.{Test}
use Rattle.xq_axes.specs.Reads.{Span, span, span_end, IsSized}
use Rattle.xq_axes.specs.Scans.{in_scan, region}
use Rattle.xq_axes.specs.private.Hits.{is_hit, is_wanted, below_where, AreUnhit}
use Rattle.xq_axes.specs.private.Downward.{level_of, end_of}
use Rattle.xq_axes.specs.private.Near.{IsOwner, AreBelow}
use Rattle.xq_axes.specs.declared.near.Owner.{Owner}
use Rattle.xq_axes.proofs.AttributeRows.{attribute_run}
use Rattle.xq_axes.proofs.Clusters.{inside_true, true_inside}
use Rattle.xq_axes.proofs.Lists.{any_from}
use Rattle.xq_axes.proofs.Ranges.{unwanted}
use Rattle.xq_axes.proofs.Scans.{in_some, passing_from, passing_more, region_length}
use Rattle.xq_axes.proofs.Sizes.{node_of}
use Rattle.xq_axes.proofs.Trees.{inside_deeper, inside_ends}

or_false : (b : Bool) → (b || false) ≡ b
or_false true = refl
or_false false = refl

and_true : (b : Bool) → (b && true) ≡ b
and_true true = refl
and_true false = refl

different : (a : Bool) → a ≡ true → a ≡ false → ⊥
different a h g = (let z : true ≡ false = sym h ∙ g in absurd (cc))

no_plain : (b : Bool) → not b ≡ true → b ≡ false
no_plain true h = absurd (cc)
no_plain false h = refl

-- a place is on an axis from one node alone as it is in its region
one_hit : (a : Axis) (t : Tree) (v p : ℕ) → is_hit a t (v ∷ []) p ≡ in_region a (rows t) v p
one_hit a t v p = or_false (in_region a (rows t) v p)

module _ (t : Tree) (s : Span) (owner : Owner) (below : AreBelow t s owner) (n : ℕ) (hn : n < count (nodes t)) (from : s.low ≤ n) (to : n ≤ s.high) where
  is_below : IsInside (rows t) owner.place n
  is_below =
      let low = below.low in
      let high = below.high in
      let last = below.is.last in
      (omega (arith, low, from), omega (arith, high, last, to))

  level_is : (level : ℕ) → level ≡ level_of t n → nat_eq level (owner.level + 1) ≡ one_below (rows t) owner.place n
  level_is level e =
      let own = below.is.level in
      let more : owner.level + 1 ≡ suc (level_of t owner.place) = omega (arith, own) in
      ap (λ l. nat_eq l (owner.level + 1)) e ∙ ap (nat_eq (level_of t n)) more

  -- # Children

  pub child_hit : (level : ℕ) (plain : Bool) → level ≡ level_of t n → plain ≡ plain_row (rows t) n → (nat_eq level (owner.level + 1) && plain) ≡ is_hit axis.Child t (owner.place ∷ []) n
  child_hit level plain e p =
      ap (λ b. b && plain) (level_is level e)
      ∙ ap (λ b. one_below (rows t) owner.place n && b) p
      ∙ sym (one_hit axis.Child t owner.place n ∙ ap (λ b. b && (one_below (rows t) owner.place n && plain_row (rows t) n)) (inside_true (rows t) owner.place n is_below))

  pub child_within : (over : ℕ) → over ≡ (row_at (rows t) n).size → n + 1 + over ≤ span_end t s
  child_within over e =
      let ends = (node_of t n hn).ends in
      let outer = inside_ends t owner.place n hn is_below in
      let high = below.high in
      let last = below.is.last in
      omega (arith, ends, outer, high, last, e, from)

  -- what is below a child is too deep
  pub child_over : (over : ℕ) → over ≡ (row_at (rows t) n).size → AreUnhit (is_hit axis.Child t (owner.place ∷ [])) (n + 1) (n + 1 + over)
  child_over over e q a b =
      let ends = (node_of t n hn).ends in
      let hq : q < count (nodes t) = omega (arith, b, ends, e) in
      one_hit axis.Child t owner.place q ∙ false_from_ne_true (in_region axis.Child (rows t) owner.place q) (λ h. (
      let level : level_of t q ≡ suc (level_of t owner.place) = eqb-true (level_of t q) (suc (level_of t owner.place)) (and_parts _ _ (and_parts _ _ h).1).0 in
      let outer = inside_deeper t owner.place n below.is.is_there hn is_below in
      let inner = inside_deeper t n q hn hq (omega (arith, a), omega (arith, b, e)) in
      omega (arith, outer, inner, level)))

  -- what is left of the rows below the node
  pub rest_within : (over : ℕ) → over ≡ owner.last - n → n + 1 + over ≤ span_end t s
  rest_within over e =
      let ends = (node_of t owner.place below.is.is_there).ends in
      let high = below.high in
      let last = below.is.last in
      omega (arith, ends, high, last, e, from, to)

  -- # Attributes

  pub attribute_hit : (level : ℕ) → level ≡ level_of t n → plain_row (rows t) n ≡ false → nat_eq level (owner.level + 1) ≡ is_hit axis.Attributes t (owner.place ∷ []) n
  attribute_hit level e p =
      level_is level e
      ∙ sym (one_hit axis.Attributes t owner.place n
      ∙ ap (λ b. b && (one_below (rows t) owner.place n && not (plain_row (rows t) n))) (inside_true (rows t) owner.place n is_below)
      ∙ ap (λ b. one_below (rows t) owner.place n && not b) p
      ∙ and_true (one_below (rows t) owner.place n))

  module _ (plain : plain_row (rows t) n ≡ true) where
    pub plain_unhit : false ≡ is_hit axis.Attributes t (owner.place ∷ []) n
    plain_unhit = sym (one_hit axis.Attributes t owner.place n ∙ false_from_ne_true (in_region axis.Attributes (rows t) owner.place n) (λ h.
        different (plain_row (rows t) n) plain (no_plain (plain_row (rows t) n) (and_parts _ _ (and_parts _ _ h).1).1)))

    -- attributes come before all others
    pub plain_over : (over : ℕ) → over ≡ owner.last - n → AreUnhit (is_hit axis.Attributes t (owner.place ∷ [])) (n + 1) (n + 1 + over)
    plain_over over e q a b =
        let ends = (node_of t owner.place below.is.is_there).ends in
        let last = below.is.last in
        let high = below.high in
        let hq : q < count (nodes t) = omega (arith, b, ends, e, last, high, to) in
        one_hit axis.Attributes t owner.place q ∙ false_from_ne_true (in_region axis.Attributes (rows t) owner.place q) (λ h. (
        let p = and_parts _ _ h in
        let r = and_parts _ _ p.1 in
        let level : level_of t q ≡ suc (level_of t owner.place) = eqb-true (level_of t q) (suc (level_of t owner.place)) r.0 in
        let run = attribute_run t below.is.is_tree owner.place q hq (record { inside = true_inside (rows t) owner.place q p.0; level = level }) (no_plain (plain_row (rows t) q) r.1) in
        different (plain_row (rows t) n) plain (run.between n is_below.0 (omega (arith, a)))))

-- # Whole searches

-- an axis that leads to what is below a node alone, and reads no more
pub record IsDownward (a : Axis) : Type 0 where
  pub region_is : (t : Tree) (v p : ℕ) → in_region a (rows t) v p ≡ true → IsInside (rows t) v p
  pub scan_is : (t : Tree) (v p : ℕ) → in_scan a (rows t) v p ≡ inside (rows t) v p

pub to_children : IsDownward axis.Child
to_children = record { region_is = λ t v p h. true_inside (rows t) v p (and_parts _ _ h).0; scan_is = λ t v p. refl }

pub to_attributes : IsDownward axis.Attributes
to_attributes = record { region_is = λ t v p h. true_inside (rows t) v p (and_parts _ _ h).0; scan_is = λ t v p. refl }

module _ (a : Axis) (down : IsDownward a) (t : Tree) (s : Span) (owner : Owner) (below : AreBelow t s owner) where
  pub none_before : (test : Test) → below_where (is_wanted a test t (owner.place ∷ [])) s.low ≡ []
  none_before test = unwanted a test t (owner.place ∷ []) 0 s.low (omega arith) (λ p x y. one_hit a t owner.place p ∙ false_from_ne_true (in_region a (rows t) owner.place p) (λ h. (
      let i = (down.region_is t owner.place p h).0 in
      let low = below.low in
      omega (arith, i, y, low))))

  pub none_after : (test : Test) → below_where (is_wanted a test t (owner.place ∷ [])) (span_end t s) ≡ below_where (is_wanted a test t (owner.place ∷ [])) (count (nodes t))
  none_after test =
      let there = below.is.is_there in
      let low = below.low in
      let high = below.high in
      let last = below.is.last in
      let ends = (node_of t owner.place there).ends in
      sym (unwanted a test t (owner.place ∷ []) (span_end t s) (count (nodes t)) (omega (arith, there, low)) (λ p x y. one_hit a t owner.place p ∙ false_from_ne_true (in_region a (rows t) owner.place p) (λ h. (
      let i = (down.region_is t owner.place p h).1 in
      omega (arith, i, x, y, low, high, last, ends)))))

  pub read_bound : span_end t s - s.low ≤ length (region a t (owner.place ∷ []))
  read_bound =
      let there = below.is.is_there in
      let low = below.low in
      let high = below.high in
      let last = below.is.last in
      let ends = (node_of t owner.place there).ends in
      let f = in_some a t (owner.place ∷ []) in
      let n = region_length a t (owner.place ∷ []) in
      let from = passing_from f s.low (span_end t s) (λ p x y. any_from (λ v. in_scan a (rows t) v p) (owner.place ∷ []) 0 0 (omega arith) (down.scan_is t owner.place p ∙ inside_true (rows t) owner.place p (omega (arith, x, low), omega (arith, y, low, high, last, ends)))) in
      let up = passing_more f (span_end t s) (count (nodes t)) (omega (arith, there, low)) in
      omega (arith, from, up, n)

-- # The places of a node's rows

pub starts_there : (t : Tree) (owner : Owner) (low : ℕ) → IsOwner t owner → low ≡ min (owner.place + 1) 4294967295 → low ≡ suc owner.place
starts_there t owner low is e =
    let size : IsSized t owner.place (row_at (rows t) owner.place).size = record { is_tree = is.is_tree; is_there = is.is_there; size = refl } in
    let there = is.is_there in
    let room = is.is_tree.room in
    omega (arith, e, there, room)

pub ends_there : (t : Tree) (v size last : ℕ) → IsSized t v size → last ≡ min (v + size) 4294967295 → last ≡ end_of t v
ends_there t v size last sized e =
    let ends = (node_of t v sized.is_there).ends in
    let room = sized.is_tree.room in
    let s = sized.size in
    omega (arith, e, ends, room, s)

-- what a search below one node reads
pub read_below : (a : Axis) → IsDownward a → (t u : Tree) (owner : Owner) (place low before now after : ℕ) → u ≡ t → owner.place ≡ place → IsOwner t owner → low ≡ min (place + 1) 4294967295 → now ≡ before → after ≤ now + (span_end u (span low owner.last) - low) → after ≤ before + length (region a t (place ∷ []))
read_below a down t u owner place low before now after same at is e none read =
    let s = span low owner.last in
    let from = starts_there t owner low is (e ∙ ap (λ p. min (p + 1) 4294967295) (sym at)) in
    let bound = subst (λ p. span_end t s - low ≤ length (region a t (p ∷ []))) at (read_bound a down t s owner (record { is = is; low = from; high = refl })) in
    let there = subst (λ z. after ≤ now + (span_end z s - low)) same read in
    omega (arith, bound, there, none)
