-- Steps from nodes of one tree: how much they read of it, and that they stay in it.
use Rattle.std.proofs.Common.{◌≡◌, ℕ, ◌+◌, ◌*◌, ◌<◌, ◌≤◌, List, [], ◌∷◌, map, filter, length, Bool, true, false, cond, refl, sym, ◌∙◌, ap, subst, arith, inl, inr}
use Rattle.std.specs.Prelude.{◌||◌, ◌==◌}
use Rattle.std.specs.List.{AllByRecursion, flat_map, list_any, range_with_len}
use Rattle.std.specs.List.Sorted.{IsStrictlySortedBy}
use Rattle.std.proofs.lemmas.Bool.{and_parts, eqb-true}
use Rattle.std.proofs.lemmas.List.{length-map}
use Rattle.std.proofs.lemmas.List.Concat.{flat_map-cons}
use Rattle.std.proofs.lemmas.List.FromFn.{length-range_with_len}
use Rattle.std.proofs.lemmas.List.Sums.{length-filter, count_by-le-length}
use Rattle.xq_axes.specs.DoubleSlash.{after_double_slash}
use Rattle.xq_axes.specs.Nodes.{HaveAll}
use Rattle.xq_axes.specs.Scans.{in_scan, region, rows_from, places_of, AreOf as AreAllOf}
use Rattle.xq_trees.specs.Forest.{count}
use Rattle.xq_trees.specs.declared.Axis.{Axis}
use Rattle.xq_trees.specs.declared.Axis.TheVariants.{Child, Descendant, DescendantOrSelf}
use Rattle.xq_trees.specs.declared.items.Node.{Node as Spot}
use Rattle.xq_trees.specs.Items.{ItemView, Place as NodeAt, Value}
use Rattle.xq_trees.specs.Rising.{AreRising}
use Rattle.xq_trees.specs.Rows.{rows}
use Rattle.xq_trees.specs.Tree.{Tree, nodes}
use Rattle.xq_trees.proofs.Lists.{all_append, all_filter}
use Rattle.xq_trees.proofs.Rising.{order_parts}
use Rattle.xq_sources.specs.Meters.{Readings, SeesAtMost}
use Rattle.xq_sources.specs.Sources.{tree_at, HasTree}
use Rattle.xq_meaning.specs.declared.node_tests.Test.{Test}
use Rattle.xq_meaning.specs.declared.node_tests.Test.TheVariants.{Any}
use Rattle.xq_meaning.specs.Items.{Place, place, places_from, in_document_order, is_among, same_node}
use Rattle.xq_meaning.specs.Readings.{node_at, AreIn}
use Rattle.xq_meaning.specs.Steps.{axis_nodes, on_axis_from, passes_at}
use Rattle.xq_operators.specs.Reads.{rows_of, IsOf, AreOf, HasGrown}
use Rattle.xq_operators.specs.Nodes.{nodes_among}
use Rattle.xq_operators.proofs.NodeLemmas.{among_in}

-- # The contexts

pub among_of : (trees : List Tree) (tree : ℕ) (views : List ItemView) → AllByRecursion (IsOf trees tree) views → AreAllOf tree (nodes_among views)
among_of trees tree [] h = tt
among_of trees tree (NodeAt n ∷ views) h = (h.0.0, among_of trees tree views h.1)
among_of trees tree (Value a ∷ views) h = absurd h.0

pub among-length : (trees : List Tree) (tree : ℕ) (views : List ItemView) → AllByRecursion (IsOf trees tree) views → length (nodes_among views) ≡ length views
among-length trees tree [] h = refl
among-length trees tree (NodeAt n ∷ views) h = (let e = among-length trees tree views h.1 in omega arith)
among-length trees tree (Value a ∷ views) h = absurd h.0

pub of_in : (trees : List Tree) (tree : ℕ) (views : List ItemView) → HasTree trees tree → AllByRecursion (IsOf trees tree) views → AreIn trees views
of_in trees tree [] there h = tt
of_in trees tree (NodeAt n ∷ views) there h = (
  record {
    tree_in = subst (λ m. m < length trees) (sym h.0.0) there;
    node_in = subst (λ m. n.pre < rows_of trees m) (sym h.0.0) h.0.1;
  },
  of_in trees tree views there h.1,
)
of_in trees tree (Value a ∷ views) there h = absurd h.0

-- # What is found

all_placed : (tree : ℕ) (paths : List (List ℕ)) → AllByRecursion (λ (p : Place). p.tree ≡ tree) (map (place tree) paths)
all_placed tree [] = tt
all_placed tree (p ∷ ps) = (refl, all_placed tree ps)

-- a filter keeps what passes it
kept_all : {A : Type 0} (P : A → Type 0) (test : A → Bool) → ((x : A) → test x ≡ true → P x) → (xs : List A) → AllByRecursion P (filter test xs)
kept_all P test h [] = tt
kept_all P test h (x ∷ xs) = by (test x) refl (kept_all P test h xs)
  where
    by : (b : Bool) → test x ≡ b → AllByRecursion P (filter test xs) → AllByRecursion P (cond b (x ∷ filter test xs) (filter test xs))
    by true e rest = (h x e, rest)
    by false e rest = rest

-- nodes among those of a tree are of it
same_tree : (tree : ℕ) (qs : List Place) → AllByRecursion (λ (q : Place). q.tree ≡ tree) qs → (p : Place) → is_among qs p ≡ true → p.tree ≡ tree
same_tree tree [] h p e = absurd (cc)
same_tree tree (q ∷ qs) h p e = by (same_node p q) refl (same_tree tree qs h.1 p) e
  where
    by : (b : Bool) → same_node p q ≡ b → (is_among qs p ≡ true → p.tree ≡ tree) → (b || is_among qs p) ≡ true → p.tree ≡ tree
    by true here later e' = eqb-true p.tree q.tree (and_parts (p.tree == q.tree) _ here).0 ∙ h.0
    by false not_here later e' = later e'

ordered_of : (f : List Tree) (tree : ℕ) (qs : List Place) → AllByRecursion (λ (q : Place). q.tree ≡ tree) qs → AllByRecursion (λ (q : Place). q.tree ≡ tree) (in_document_order f qs)
ordered_of f tree qs h = kept_all _ (is_among qs) (same_tree tree qs h) (places_from 0 f)

from_all : (f : List Tree) (tree : ℕ) (axis : Axis) (test : Test) (ps : List Place) → AllByRecursion (λ (p : Place). p.tree ≡ tree) ps → AllByRecursion (λ (q : Place). q.tree ≡ tree) (flat_map (axis_nodes f axis test) ps)
from_all f tree axis test [] h = tt
from_all f tree axis test (p ∷ ps) h =
    subst (AllByRecursion (λ (q : Place). q.tree ≡ tree)) (sym (flat_map-cons (axis_nodes f axis test) p ps))
    (all_append _ (axis_nodes f axis test p) (flat_map (axis_nodes f axis test) ps)
    (subst (λ t. AllByRecursion (λ (q : Place). q.tree ≡ t) (axis_nodes f axis test p)) h.0 (all_filter _ (passes_at f test) (on_axis_from f axis p) (all_placed p.tree _)))
    (from_all f tree axis test ps h.1))

-- the steps that lead on in one tree
pub step_of : (f : List Tree) (tree : ℕ) (axis : Axis) (test : Test) (ps : List Place) → AllByRecursion (λ (p : Place). p.tree ≡ tree) ps → AllByRecursion (λ (q : Place). q.tree ≡ tree) (in_document_order f (flat_map (axis_nodes f axis test) ps))
step_of f tree axis test ps h = ordered_of f tree _ (from_all f tree axis test ps h)

pub all_nodes_of : (f : List Tree) (tree : ℕ) (ns : List Spot) → AreAllOf tree ns → AllByRecursion (λ (p : Place). p.tree ≡ tree) (map (node_at f) ns)
all_nodes_of f tree [] h = tt
all_nodes_of f tree (n ∷ ns) h = (h.0, all_nodes_of f tree ns h.1)

pub of_all_nodes : (f : List Tree) (tree : ℕ) (ns : List Spot) → AllByRecursion (λ (p : Place). p.tree ≡ tree) (map (node_at f) ns) → HaveAll f ns → AllByRecursion (IsOf f tree) (map NodeAt ns)
of_all_nodes f tree [] h k = tt
of_all_nodes f tree (n ∷ ns) h k = ((h.0, subst (λ m. n.pre < rows_of f m) h.0 k.0.node_in), of_all_nodes f tree ns h.1 k.1)

-- # How many

-- nodes of one tree that rise
rising_few : (f : List Tree) (tree : ℕ) (n : Spot) (ns : List Spot) → AreRising (n ∷ ns) → AllByRecursion (IsOf f tree) (map NodeAt (n ∷ ns)) → n.pre + length (n ∷ ns) ≤ rows_of f tree
unfolding IsStrictlySortedBy
rising_few f tree n [] r h = omega (arith, h.0.1)
rising_few f tree n (m ∷ ns) r h =
    let rest = rising_few f tree m ns r.1 h.1 in
    elim (order_parts n m r.0.0) [
      | inl apart ↦ absurd (omega (arith, h.0.0, h.1.0.0, apart))
      | inr later ↦ omega (arith, rest, later.1)
    ]

few : (f : List Tree) (tree : ℕ) (ns : List Spot) → AreRising ns → AllByRecursion (IsOf f tree) (map NodeAt ns) → length (map NodeAt ns) ≤ rows_of f tree
few f tree [] r h = omega arith
few f tree (n ∷ ns) r h = (let e = length-map (n ∷ ns) NodeAt in let m = rising_few f tree n ns r h in omega arith)

pub found_of : (f : List Tree) (tree : ℕ) (ns : List Spot) → HasTree f tree → AllByRecursion (λ (p : Place). p.tree ≡ tree) (map (node_at f) ns) → HaveAll f ns → AreRising ns → AreOf f tree (map NodeAt ns)
found_of f tree ns there of_tree have rising =
    let all = of_all_nodes f tree ns of_tree have in
    record { has_tree = there; of_tree = all; few = few f tree ns rising all }

pub region_few : (axis : Axis) (t : Tree) (vs : List ℕ) → length (region axis t vs) ≤ count (nodes t)
region_few axis t vs =
    let all = range_with_len 0 (count (nodes t)) in
    let found = λ (p : ℕ). list_any (λ v. in_scan axis (rows t) v p) vs in
    let e = length-filter found all in
    let most = count_by-le-length found all in
    let many = length-range_with_len 0 (count (nodes t)) in
    omega arith

rows_few : (t : Tree) (vs : List ℕ) → rows_from t vs ≤ count (nodes t)
rows_few t [] = omega arith
rows_few t (v ∷ vs) = omega arith

-- # What a call reads

pub not_grown : (readings : Readings) (most : ℕ) → HasGrown readings readings most
not_grown readings most = record { rows = omega arith; singles = omega arith; sees = omega arith }

module _ (f : List Tree) (tree : ℕ) (views : List ItemView) (contexts : List Spot) (is : contexts ≡ nodes_among views) (h : AreOf f tree views) where
  pub contexts_of : AreAllOf tree contexts
  contexts_of = subst (AreAllOf tree) (sym is) (among_of f tree views h.of_tree)

  pub contexts_few : length contexts ≤ rows_of f tree
  contexts_few = (let a = ap length is in let b = among-length f tree views h.of_tree in let c = h.few in omega arith)

  pub contexts_have : HaveAll f contexts
  contexts_have = subst (HaveAll f) (sym is) (among_in f views (of_in f tree views h.has_tree h.of_tree))

  -- a step from them
  pub step_grown : (axis : Axis) (before after : Readings)
      → after.rows ≤ before.rows + length (region axis (tree_at f tree) (places_of contexts)) → after.singles ≤ before.singles + length contexts
      → SeesAtMost before after (rows_from (tree_at f tree) (places_of contexts)) → HasGrown before after (rows_of f tree)
  step_grown axis before after rows singles sees = record {
    rows = (let few = region_few axis (tree_at f tree) (places_of contexts) in omega arith);
    singles = (let few = contexts_few in omega arith);
    sees = (let few = rows_few (tree_at f tree) (places_of contexts) in omega arith);
  }

  -- `//` and a step to children from them
  pub double_slash_grown : (before after : Readings)
      → after.rows ≤ before.rows + length (region Descendant (tree_at f tree) (places_of contexts)) → after.singles ≤ before.singles + 2 * length contexts
      → SeesAtMost before after (rows_from (tree_at f tree) (places_of contexts)) → HasGrown before after (2 * rows_of f tree)
  double_slash_grown before after rows singles sees = record {
    rows = (let few = region_few Descendant (tree_at f tree) (places_of contexts) in omega arith);
    singles = (let few = contexts_few in omega arith);
    sees = (let few = rows_few (tree_at f tree) (places_of contexts) in omega arith);
  }

  pub step_found : (axis : Axis) (test : Test) (nodes : List Spot) (found : List ItemView)
      → map (node_at f) nodes ≡ in_document_order f (flat_map (axis_nodes f axis test) (map (node_at f) contexts)) → HaveAll f nodes → AreRising nodes → found ≡ map NodeAt nodes
      → AreOf f tree found
  step_found axis test nodes found are have rising is_found =
      subst (AreOf f tree) (sym is_found)
      (found_of f tree nodes h.has_tree (subst (AllByRecursion (λ (p : Place). p.tree ≡ tree)) (sym are) (step_of f tree axis test (map (node_at f) contexts) (all_nodes_of f tree contexts contexts_of))) have rising)

  pub double_slash_found : (test : Test) (nodes : List Spot) (found : List ItemView)
      → map (node_at f) nodes ≡ after_double_slash f test (map (node_at f) contexts) → HaveAll f nodes → AreRising nodes → found ≡ map NodeAt nodes
      → AreOf f tree found
  double_slash_found test nodes found are have rising is_found =
      subst (AreOf f tree) (sym is_found)
      (found_of f tree nodes h.has_tree (subst (AllByRecursion (λ (p : Place). p.tree ≡ tree)) (sym are) (step_of f tree Child test _ (step_of f tree DescendantOrSelf Any (map (node_at f) contexts) (all_nodes_of f tree contexts contexts_of)))) have rising)
