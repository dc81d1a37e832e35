-- Descendants with a name, of one context that stands in no other after another, by their places.
use Rattle.std.proofs.Common.{◌≡◌, ℕ, ◌+◌, ◌<◌, ◌≤◌, List, [], ◌++◌, length, get_or, min, replicate, Bool, true, false, refl, sym, ◌∙◌, ap, subst, arith}
use Rattle.std.specs.Prelude.{Some}
use Rattle.std.proofs.lemmas.Bool.{and_left}
use Rattle.std.proofs.lemmas.List.{append-nil, length-replicate}
use Rattle.xq_atoms.specs.Text.{Text}
use Rattle.xq_trees.specs.Forest.{count}
use Rattle.xq_trees.specs.Tree.{Tree, nodes}
use Rattle.xq_trees.specs.Rows.{placed_rows, row_at, rows}
use Rattle.xq_trees.specs.declared.Axis.TheVariants as axis
use Rattle.xq_sources.specs.Names.{named}
use Rattle.xq_meaning.specs.declared.node_tests.Test.TheVariants as tests
use Rattle.xq_axes.specs.Reads.{span, IsSized}
use Rattle.xq_axes.specs.private.Hits.{is_hit, is_wanted, row_passes, below_where, IsRising}
use Rattle.xq_axes.specs.private.Downward.{end_of, IsJudged, IsSearched, IsNext}
use Rattle.xq_axes.specs.private.Passing.{IsEnd}
use Rattle.xq_axes.specs.declared.downward.Downward.TheVariants.{Descendant}
use Rattle.xq_axes.proofs.Named.{is_named_at, named_below, plain_below, told}
use Rattle.xq_axes.proofs.Picking.{picked}
use Rattle.xq_axes.proofs.Searching.{found_before, own_is_hit, stands_in_none, searched, searched_none, searched_all}
use Rattle.xq_axes.proofs.Sizes.{exact_span}

-- the descendants before n were found
abbrev pub IsFound : Text → Tree → List ℕ → ℕ → List ℕ → Type 0
IsFound name t vs n found = IsSearched Descendant (tests.Element (Some name)) t vs n 0 101 found

-- none yet
pub none_found : (name : Text) (t : Tree) (vs : List ℕ) → IsRising vs → IsFound name t vs 0 []
none_found name t vs up = searched_none Descendant (tests.Element (Some name)) t vs 101 up refl

-- all of them
pub all_found : (name : Text) (t : Tree) (vs : List ℕ) (n : ℕ) (found : List ℕ) → IsFound name t vs n found → ((j : ℕ) → j < length vs → get_or vs j 0 < n) → found ≡ below_where (is_wanted axis.Descendant (tests.Element (Some name)) t vs) (count (nodes t))
all_found name t vs n found f b = searched_all Descendant (tests.Element (Some name)) t vs n 0 101 found f b

module _ (name : Text) (t : Tree) (vs : List ℕ) (n v last : ℕ) (found : List ℕ) (before : IsFound name t vs n found) (after : n ≤ v) (next : IsNext vs n v) (end : IsEnd t v last) where
  there : v < count (nodes t)
  there = let w = end.within in let e = end.is in omega (arith, w, e)

  sized : IsSized t v (row_at (rows t) v).size
  sized = record { is_tree = end.is_tree; is_there = there; size = refl }

  -- the rows below the context were judged
  judged : (m : ℕ) → v < m → IsJudged Descendant t vs (span (v + 1) (end_of t v)) m 0 (replicate 101 false) true
  judged m h = record {
    is_tree = end.is_tree;
    rising = before.rising;
    reached = tt;
    top = v;
    cluster = record { low = omega arith; high = refl; is_there = there; is_top = stands_in_none Descendant (tests.Element (Some name)) t vs n v 0 101 found before after next };
    is_context = next.is_context;
    from = h;
    levels = length-replicate 101 false;
    is_known = tt;
  }

  abbrev wanted : ℕ → Bool
  wanted = is_wanted axis.Descendant (tests.Element (Some name)) t vs

  -- the context itself is none of its descendants
  up_to : found ≡ below_where wanted (v + 1)
  up_to =
      sym (append-nil found)
      ∙ picked wanted v found false (found_before Descendant (tests.Element (Some name)) t vs n v 0 101 found before after next)
      (sym (and_left (is_hit axis.Descendant t vs v) (row_passes (tests.Element (Some name)) (row_at (rows t) v)) (sym (own_is_hit Descendant (tests.Element (Some name)) t vs n v 0 101 found before after next))))

  -- those of its name between it and its last row are added
  pub found_below : (part new : List ℕ) → below_where (is_named_at t name) (last + 1) ≡ below_where (is_named_at t name) (v + 1) ++ part → new ≡ found ++ part → IsFound name t vs (last + 1) new
  found_below part new e is =
      let size = (row_at (rows t) v).size in
      let ends = end.is in
      let plain = plain_below t vs (span (v + 1) (end_of t v)) 0 (replicate 101 false) true (tests.Element (Some name)) (judged (v + 1) (omega arith)) in
      let here : below_where (is_named_at t name) (end_of t v + 1) ≡ below_where (is_named_at t name) (v + 1) ++ part = ap (λ m. below_where (is_named_at t name) (m + 1)) (sym ends) ∙ e in
      let all = told t (tests.Element (Some name)) name wanted (v + 1) (end_of t v) found part refl plain (omega arith) up_to here in
      let order : end_of t v + 1 ≡ v + 1 + size = omega arith in
      let done = searched Descendant (tests.Element (Some name)) t vs n v 0 101 found before after next size 0 (replicate 101 false) true new sized (judged (v + 1 + size) (omega arith)) (is ∙ all ∙ ap (below_where wanted) order) in
      let next_is : v + 1 + size ≡ last + 1 = omega (arith, ends) in
      subst (λ m. IsFound name t vs m new) next_is (subst (λ k. IsSearched Descendant (tests.Element (Some name)) t vs (v + 1 + size) 0 k new) (length-replicate 101 false) done)

  pub last_there : last < count (nodes t)
  last_there = end.within

  pub low_is : (low : ℕ) → low ≡ min (v + 1) 4294967295 → low ≡ v + 1
  low_is low e = (exact_span t v (row_at (rows t) v).size low (min (end_of t v) 4294967295) sized e refl).low_is

  pub after_it : v + 1 ≤ last + 1
  after_it = let e = end.is in omega (arith, e)

-- the places of all elements with the name
pub named_is : (name : Text) (t : Tree) (places : List ℕ) → places ≡ named (placed_rows t) name → places ≡ below_where (is_named_at t name) (count (nodes t))
named_is name t places e = e ∙ named_below t name
