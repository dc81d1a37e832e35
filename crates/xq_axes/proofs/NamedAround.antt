-- Elements with a name before and after a node.
use Rattle.std.proofs.Common.{◌≡◌, ℕ, zero, suc, ◌+◌, ◌<◌, ◌≤◌, List, [], ◌∷◌, ◌++◌, length, get_or, take, Bool, true, false, not, ◌&&◌, nat_lt, cond, inl, inr, refl, sym, ◌∙◌, ap, arith}
use Rattle.std.specs.Prelude.{Some, filter}
use Rattle.std.proofs.lemmas.Bool.{cases_lt, ltb-true, lt-ltb, false_from_ne_true}
use Rattle.std.proofs.lemmas.List.{take_more}
use Rattle.std.proofs.lemmas.List.Elements.{filter-append}
use Rattle.xq_atoms.specs.Text.{Text}
use Rattle.xq_trees.specs.Forest.{count}
use Rattle.xq_trees.specs.Tree.{Tree, nodes, is_attribute}
use Rattle.xq_trees.specs.Rows.{rows, row_at}
use Rattle.xq_trees.specs.RegionTests.{inside, plain_row}
use Rattle.xq_trees.specs.declared.Axis.TheVariants as axis
use Rattle.xq_trees.proofs.Lists.{same_test}
use Rattle.xq_meaning.specs.declared.node_tests.Test.{Test}
use Rattle.xq_meaning.specs.declared.node_tests.Test.TheVariants as tests
use Rattle.xq_axes.specs.private.Hits.{is_among, is_wanted, row_passes, below_where}
use Rattle.xq_axes.specs.private.Downward.{end_of}
use Rattle.xq_axes.specs.private.Named.{IsPlainTest}
use Rattle.xq_axes.specs.private.Passing.{IsLast, IsLeastEnd, is_before_node, places_above}
use Rattle.xq_axes.proofs.Ancestors.{among_below}
use Rattle.xq_axes.proofs.Clusters.{inside_true, true_inside}
use Rattle.xq_axes.proofs.Lists.{below_where-agree}
use Rattle.xq_axes.proofs.Named.{is_named_at, named_passes, named_is_plain, same_part}
use Rattle.xq_axes.proofs.Ranges.{preceding_hit, preceding_none, following_hit, unwanted}

-- # Those that pass a second test as well

one_more : (g : ℕ → Bool) (a : Bool) (n : ℕ) → filter g (cond a (n ∷ []) []) ≡ cond (a && g n) (n ∷ []) []
one_more g true n = by (g n)
  where
    by : (b : Bool) → cond b (n ∷ []) [] ≡ cond b (n ∷ []) []
    by b = refl
one_more g false n = refl

pub filter_below : (f g : ℕ → Bool) (n : ℕ) → filter g (below_where f n) ≡ below_where (λ p. f p && g p) n
filter_below f g zero = refl
filter_below f g (suc n) =
    filter-append g (below_where f n) (cond (f n) (n ∷ []) [])
    ∙ ap (λ xs. xs ++ filter g (cond (f n) (n ∷ []) [])) (filter_below f g n)
    ∙ ap (λ ys. below_where (λ p. f p && g p) n ++ ys) (one_more g (f n) n)

-- one place more is tried
pub tried_more : (h : ℕ → Bool) (xs : List ℕ) (i x : ℕ) → i < length xs → x ≡ get_or xs i x → filter h (take (i + 1) xs) ≡ filter h (take i xs) ++ cond (h x) (x ∷ []) []
tried_more h xs i x there is =
    ap (filter h) (take_more xs i x there ∙ ap (λ y. take i xs ++ y ∷ []) (sym is))
    ∙ filter-append h (take i xs) (x ∷ [])

-- # After a node

pub named_after : (t : Tree) (test : Test) (name : Text) (wanted : ℕ → Bool) (low : ℕ) (part : List ℕ) → test ≡ tests.Element (Some name) → low ≤ count (nodes t) → IsPlainTest wanted test t low (count (nodes t)) → below_where wanted low ≡ [] → below_where (is_named_at t name) (count (nodes t)) ≡ below_where (is_named_at t name) low ++ part → part ≡ below_where wanted (count (nodes t))
named_after t test name wanted low part e h is none b =
    ap (λ xs. xs ++ part) (sym none)
    ∙ sym (same_part wanted (is_named_at t name) low (count (nodes t)) part h (λ p x y. named_is_plain t test name wanted low (count (nodes t)) e is p x (omega (arith, y))) b)

pub plain_after : (t : Tree) (vs : List ℕ) (test : Test) (least high : ℕ) → IsLeastEnd t vs least → IsPlainTest (is_wanted axis.Following test t vs) test t (least + 1) high
plain_after t vs test least high l = λ p a b. ap (λ x. x && row_passes test (row_at (rows t) p)) (sym (following_hit t vs least p l (omega (arith, a))))

-- # Before a node

ends_before : (t : Tree) (v p : ℕ) → p < v → not (inside (rows t) p v) ≡ nat_lt (end_of t p) v
ends_before t v p l = same_test (not (inside (rows t) p v)) (nat_lt (end_of t p) v)
    (λ h. elim (cases_lt (end_of t p) v) [
      | inl less ↦ lt-ltb (end_of t p) v less
      | inr more ↦ absurd (let e : inside (rows t) p v ≡ true = inside_true (rows t) p v (l, more) in let z : true ≡ false = sym h ∙ ap not e in cc)
    ])
    (λ h. (
    let less = ltb-true (end_of t p) v h in
    ap not (false_from_ne_true (inside (rows t) p v) (λ e. (let x = (true_inside (rows t) p v e).1 in omega (arith, x, less))))))

turned : (a b c : Bool) → ((a && b) && c) ≡ ((c && a) && b)
turned true true true = refl
turned true true false = refl
turned true false true = refl
turned true false false = refl
turned false b true = refl
turned false b false = refl

before_node_is : (t : Tree) (test : Test) (name : Text) (v p : ℕ) → test ≡ tests.Element (Some name) → p < v → (is_named_at t name p && not (inside (rows t) p v)) ≡ is_before_node test t v p
before_node_is t test name v p e l =
    let r = row_at (rows t) p in
    let named : is_named_at t name p ≡ (plain_row (rows t) p && row_passes test r) = sym (ap (λ k. not (is_attribute r.label.kind) && row_passes k r) e ∙ named_passes name r.label.kind r.label.name) in
    ap (λ b. b && not (inside (rows t) p v)) named
    ∙ ap (λ b. (plain_row (rows t) p && row_passes test r) && b) (ends_before t v p l)
    ∙ turned (plain_row (rows t) p) (row_passes test r) (nat_lt (end_of t p) v)

-- of the elements with the name those that don't hold the node
pub named_apart : (t : Tree) (test : Test) (name : Text) (v : ℕ) (above kept : List ℕ) → test ≡ tests.Element (Some name) → above ≡ places_above t v → kept ≡ filter (λ p. not (is_among above p)) (below_where (is_named_at t name) v) → kept ≡ below_where (is_before_node test t v) v
named_apart t test name v above kept e a k =
    let named : ℕ → Bool = is_named_at t name in
    let apart : ℕ → Bool = λ p. not (is_among above p) in
    let both : ℕ → Bool = λ p. named p && apart p in
    k ∙ filter_below named apart v
    ∙ below_where-agree both (is_before_node test t v) v (λ p l.
    ap (λ b. named p && not b) (ap (λ xs. is_among xs p) a ∙ among_below (λ q. inside (rows t) q v) v p l)
    ∙ before_node_is t test name v p e l)

pub before_all : (t : Tree) (vs : List ℕ) (test : Test) (last : ℕ) → IsLast vs last → last ≤ count (nodes t) → below_where (is_before_node test t last) last ≡ below_where (is_wanted axis.Preceding test t vs) (count (nodes t))
before_all t vs test last l h =
    below_where-agree (is_before_node test t last) (is_wanted axis.Preceding test t vs) last (λ p x. ap (λ b. b && row_passes test (row_at (rows t) p)) (preceding_hit t vs last p l))
    ∙ sym (unwanted axis.Preceding test t vs last (count (nodes t)) h (λ p x y. preceding_none t vs last p l x))
