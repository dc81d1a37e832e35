use Rattle.std.proofs.Common.{◌≡◌, ◌+◌, ◌∙◌, ap, sym, subst, arith, map, drop, List}
use Rattle.std.specs.List.{flat_map}
use Rattle.std.proofs.lemmas.List.{drop_all}
use Rattle.xq_axes.specs.Nodes.{HaveAll}
use Rattle.xq_trees.specs.Tree.{Tree}
use Rattle.xq_meaning.specs.Items.{in_document_order}
use Rattle.xq_meaning.specs.Readings.{node_at}
use Rattle.xq_meaning.specs.Steps.{axis_nodes}
use Rattle.xq_joins.specs.private.Keys.{nodes_after}
use Rattle.xq_joins.proofs.Lists.{left_first}
use Rattle.xq_joins.proofs.join_keys.nodes_after.Goals as goal

pub loop-axis-preserved : goal.loop-axis-preserved
loop-axis-preserved g c =
    let i = c.loop-axis.invariant in
    let old = g.L.TreeSource.forest c.args.source.now in
    let n = c.loop-axis.axis-index in
    let scans = c.args.scans.now in
    let s = c.loop-axis-item.result in
    let before = c.loop-axis.nodes.items in
    let given = c.deref.result.now in
    let after = c.in_ok-nodes.nodes.items in
    let left = left_first scans n s (omega arith) c.loop-axis-item.is in
    let there : g.L.TreeSource.is_clean c.step.new.source → HaveAll old c.args.start.items → HaveAll (g.L.TreeSource.forest c.loop-axis.source) given = λ k have. subst (λ (f : List Tree). HaveAll f given) (sym i.keeps) (subst (HaveAll old) (sym c.deref.ensures.value) (i.there (c.step.ensures.was_clean k) have)) in
    record {
      keeps = c.step.ensures.keeps ∙ i.keeps;
      was_clean = λ k. i.was_clean (c.step.ensures.was_clean k);
      there = λ k have. subst (λ (f : List Tree). HaveAll f after) i.keeps (c.in_ok-nodes.ensures.there k (there k have));
      nodes = λ k have.
          let one : map (node_at old) after ≡ in_document_order old (flat_map (axis_nodes old s.0 s.1) (map (node_at old) before)) =
          subst (λ (f : List Tree). map (node_at f) after ≡ in_document_order f (flat_map (axis_nodes f s.0 s.1) (map (node_at f) given))) i.keeps (c.in_ok-nodes.ensures.nodes k (there k have))
          ∙ ap (λ ns. in_document_order old (flat_map (axis_nodes old s.0 s.1) (map (node_at old) ns))) c.deref.ensures.value in
          ap (nodes_after old (drop (n + 1) scans)) one
          ∙ ap (λ l. nodes_after old l (map (node_at old) before)) (sym left)
          ∙ i.nodes (c.step.ensures.was_clean k) have;
    }

pub returns-clause-nodes : goal.returns-clause-nodes
returns-clause-nodes g c = λ k have.
    let i = c.loop-axis.invariant in
    let old = g.L.TreeSource.forest c.args.source.now in
    let scans = c.args.scans.now in
    sym (ap (λ l. nodes_after old l (map (node_at old) c.loop-axis.nodes.items)) (drop_all c.loop-axis.axis-index scans (omega arith)))
    ∙ i.nodes k have
