-- Children of many nodes, by the places of a name.
use Rattle.std.proofs.Common.{◌≡◌, ℕ, zero, suc, ◌+◌, ◌<◌, ◌≤◌, List, [], ◌∷◌, ◌++◌, length, take, get_or, Bool, true, false, ◌&&◌, cond, inl, inr, refl, sym, ◌∙◌, ap, subst, arith}
use Rattle.std.specs.Prelude.{filter, Some}
use Rattle.std.proofs.lemmas.Bool.{cases_lt}
use Rattle.std.proofs.lemmas.List.{append-nil, take_all, take_more}
use Rattle.std.proofs.lemmas.List.Elements.{filter-append}
use Rattle.xq_atoms.specs.Text.{Text}
use Rattle.xq_trees.specs.Forest.{count}
use Rattle.xq_trees.specs.Tree.{Tree, nodes}
use Rattle.xq_trees.specs.Rows.{rows, row_at}
use Rattle.xq_trees.specs.RegionTests.{inside, one_below, plain_row, in_region}
use Rattle.xq_trees.specs.declared.Axis.TheVariants as axis
use Rattle.xq_trees.proofs.Encoding.{length-rows}
use Rattle.xq_sources.specs.Parents.{IsParentRow}
use Rattle.xq_meaning.specs.declared.node_tests.Test.{Test}
use Rattle.xq_meaning.specs.declared.node_tests.Test.TheVariants as tests
use Rattle.xq_axes.specs.private.Hits.{is_among, is_hit, is_wanted, row_passes, below_where, IsRising}
use Rattle.xq_axes.specs.private.Named.{is_below_one}
use Rattle.xq_axes.proofs.Clusters.{child_of_some}
use Rattle.xq_axes.proofs.Lists.{any_agree, any_and, below_where-agree, not_among}
use Rattle.xq_axes.proofs.Named.{is_named_at, named_is_plain}

-- # Places that a parent's place decides

-- where the parent of a place is told
pub below_told : (t : Tree) (vs : List ℕ) (u p : ℕ) → IsParentRow (rows t) u p → is_below_one t vs p ≡ is_among vs u
below_told t vs u p is =
    let there = is.there in
    let many = length-rows t in
    child_of_some t vs p (omega (arith, there, many)) u (record { inside = is.inside; level = is.level })

-- one place more is kept or not
pub kept_more : (g : ℕ → Bool) (ps found : List ℕ) (i : ℕ) → i < length ps → g (get_or ps i 0) ≡ true → found ≡ filter g (take i ps) → found ++ get_or ps i 0 ∷ [] ≡ filter g (take (i + 1) ps)
kept_more g ps found i h holds e =
    let p = get_or ps i 0 in
    ap (λ xs. xs ++ p ∷ []) e
    ∙ ap (λ b. filter g (take i ps) ++ cond b (p ∷ []) []) (sym holds)
    ∙ sym (filter-append g (take i ps) (p ∷ []))
    ∙ ap (filter g) (sym (take_more ps i 0 h))

pub left_more : (g : ℕ → Bool) (ps found : List ℕ) (i : ℕ) → i < length ps → g (get_or ps i 0) ≡ false → found ≡ filter g (take i ps) → found ≡ filter g (take (i + 1) ps)
left_more g ps found i h fails e =
    let p = get_or ps i 0 in
    e
    ∙ sym (append-nil (filter g (take i ps)))
    ∙ ap (λ b. filter g (take i ps) ++ cond b (p ∷ []) []) (sym fails)
    ∙ sym (filter-append g (take i ps) (p ∷ []))
    ∙ ap (filter g) (sym (take_more ps i 0 h))

pub all_kept : (g : ℕ → Bool) (ps found : List ℕ) (i : ℕ) → length ps ≤ i → found ≡ filter g (take i ps) → found ≡ filter g ps
all_kept g ps found i h e = e ∙ ap (filter g) (take_all i ps h)

-- # Children among the places of a name

filter_below : (f g : ℕ → Bool) (n : ℕ) → filter g (below_where f n) ≡ below_where (λ p. f p && g p) n
filter_below f g zero = refl
filter_below f g (suc n) =
    filter-append g (below_where f n) (cond (f n) (n ∷ []) [])
    ∙ ap (λ xs. xs ++ filter g (cond (f n) (n ∷ []) [])) (filter_below f g n)
    ∙ ap (λ xs. below_where (λ p. f p && g p) n ++ xs) (one (f n))
  where
    one : (b : Bool) → filter g (cond b (n ∷ []) []) ≡ cond (b && g n) (n ∷ []) []
    one true = refl
    one false = refl

shuffle : (a b c : Bool) → (a && (b && c)) ≡ ((a && b) && c)
shuffle true b c = refl
shuffle false b c = refl

turned : (g plain passes : Bool) → ((plain && passes) && g) ≡ ((g && plain) && passes)
turned true true true = refl
turned true true false = refl
turned true false passes = refl
turned false true true = refl
turned false true false = refl
turned false false passes = refl

child_wanted : (t : Tree) (vs : List ℕ) (node_test : Test) (name : Text) (p : ℕ) → node_test ≡ tests.Element (Some name) → (is_named_at t name p && is_below_one t vs p) ≡ is_wanted axis.Child node_test t vs p
child_wanted t vs node_test name p e =
    let plain = plain_row (rows t) p in
    let passes = row_passes node_test (row_at (rows t) p) in
    let below = is_below_one t vs p in
    let named = named_is_plain t node_test name (λ q. plain_row (rows t) q && row_passes node_test (row_at (rows t) q)) 0 p e (λ q a b. refl) p (omega arith) (omega arith) in
    let hit : is_hit axis.Child t vs p ≡ (below && plain) =
    any_agree (λ v. in_region axis.Child (rows t) v p) (λ v. (inside (rows t) v p && one_below (rows t) v p) && plain) vs 0 (λ i l. shuffle (inside (rows t) (get_or vs i 0) p) (one_below (rows t) (get_or vs i 0) p) plain)
    ∙ any_and (λ v. inside (rows t) v p && one_below (rows t) v p) plain vs in
    ap (λ b. b && below) (sym named) ∙ turned below plain passes ∙ ap (λ b. b && passes) (sym hit)

-- of the places of a name below a bound those at which such children lie
pub children_named : (t : Tree) (vs : List ℕ) (node_test : Test) (name : Text) (n : ℕ) → node_test ≡ tests.Element (Some name) → filter (is_below_one t vs) (below_where (is_named_at t name) n) ≡ below_where (is_wanted axis.Child node_test t vs) n
children_named t vs node_test name n e =
    filter_below (is_named_at t name) (is_below_one t vs) n
    ∙ below_where-agree (λ p. is_named_at t name p && is_below_one t vs p) (is_wanted axis.Child node_test t vs) n (λ p l. child_wanted t vs node_test name p e)

-- all children that pass the test are among the places of its name
pub named_children : (t : Tree) (vs places found : List ℕ) (node_test : Test) (name : Text) → node_test ≡ tests.Element (Some name) → places ≡ below_where (is_named_at t name) (count (nodes t)) → found ≡ filter (is_below_one t vs) places → found ≡ below_where (is_wanted axis.Child node_test t vs) (count (nodes t))
named_children t vs places found node_test name e all is =
    is ∙ ap (filter (is_below_one t vs)) all ∙ children_named t vs node_test name (count (nodes t)) e

-- # One node

pub one_place : (vs : List ℕ) (v : ℕ) → length vs ≡ 1 → v ≡ get_or vs 0 0 → (v ∷ []) ≡ vs
one_place [] v h e = absurd (omega (arith, h))
one_place (u ∷ []) v h e = ap (λ n. n ∷ []) e
one_place (u ∷ w ∷ ws) v h e = absurd (omega (arith, h))

-- # Places that rise

pub flat : (us : List ℕ) → IsRising us → (i j : ℕ) → i ≤ j → j < length us → get_or us i 0 ≤ get_or us j 0
flat us up i j a b = elim (cases_lt i j) [
  | inl l ↦ (let z = up i j l b in omega (arith, z))
  | inr l ↦ (let same : i ≡ j = omega (arith, a, l) in subst (λ k. get_or us i 0 ≤ get_or us k 0) same (omega arith))
]

-- none of them lies between one and the next
pub none_beside : (vs : List ℕ) (i n : ℕ) → IsRising vs → i < length vs → get_or vs i 0 < n → (i + 1 < length vs → n < get_or vs (i + 1) 0) → is_among vs n ≡ false
none_beside vs i n up within low high = not_among vs n (λ j l same. elim (cases_lt i j) [
  | inl later ↦ (let next = high (omega (arith, later, l)) in let f = flat vs up (i + 1) j (omega (arith, later)) l in omega (arith, next, f, same))
  | inr until ↦ (let f = flat vs up j i until within in omega (arith, f, low, same))
])
