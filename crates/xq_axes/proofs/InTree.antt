-- Steps from places to places in one tree.
use Rattle.std.proofs.Common.{◌≡◌, ℕ, zero, suc, ◌≤◌, List, [], ◌∷◌, length, map, Bool, refl, sym, ◌∙◌, subst, arith}
use Rattle.std.specs.List.{list_any}
use Rattle.std.proofs.lemmas.List.{take_all}
use Rattle.xq_trees.specs.declared.Axis.{Axis}
use Rattle.xq_trees.specs.declared.items.Node.{Node}
use Rattle.xq_trees.specs.Forest.{count}
use Rattle.xq_trees.specs.Rising.{AreRising}
use Rattle.xq_trees.specs.Tree.{Tree, nodes}
use Rattle.xq_sources.specs.Sources.{tree_at}
use Rattle.xq_meaning.specs.declared.node_tests.Test.{Test}
use Rattle.xq_axes.specs.Nodes.{HaveAll}
use Rattle.xq_axes.specs.private.Hits.{is_wanted, below_where, IsRising}
use Rattle.xq_axes.specs.Many.{spot, is_found_from, AreThere, AreReached}
use Rattle.xq_axes.proofs.Many.{added, step_there, step_nodes, spots_rise}
use Rattle.xq_axes.proofs.Merging.{merged}
use Rattle.xq_axes.proofs.Scans.{kept_rises}

pub places_there : (trees : List Tree) (tree : ℕ) (vs : List ℕ) → HaveAll trees (map (spot tree) vs) → AreThere trees tree vs
places_there trees tree [] h i l = absurd (omega (arith, l))
places_there trees tree (v ∷ vs) h zero l = h.0
places_there trees tree (v ∷ vs) h (suc i) l = places_there trees tree vs h.1 i (omega (arith, l))

pub places_rise : (tree : ℕ) (vs : List ℕ) → AreRising (map (spot tree) vs) → IsRising vs
places_rise tree vs up =
    let ns = map (spot tree) vs in
    let same : length ns ≤ length ns = omega arith in
    kept_rises ns (length ns) tree vs (sym (take_all (length ns) ns same)) up

-- what a search finds
pub reached : (trees : List Tree) (a : Axis) (test : Test) (tree : ℕ) (vs ps : List ℕ) → HaveAll trees (map (spot tree) vs)
    → ps ≡ below_where (is_wanted a test (tree_at trees tree) vs) (count (nodes (tree_at trees tree))) → AreReached trees a test tree vs ps
reached trees a test tree vs ps have e =
    let t = tree_at trees tree in
    let ns = map (spot tree) vs in
    let found = map (spot tree) ps in
    let here : (p : Node → Bool) → list_any p found ≡ list_any (is_found_from trees a test p) ns = added trees a test tree vs ps [] found e refl in
    let there = step_there trees a test ns found have here in
    let rising = subst (λ qs. AreRising (map (spot tree) qs)) (sym e) (spots_rise tree (is_wanted a test t vs) (count (nodes t))) in
    record {
      in_order = merged trees found there found rising (λ m. (λ k. k, λ k. k)) ∙ step_nodes trees a test ns found have here;
      there = there;
      rising = rising;
    }
