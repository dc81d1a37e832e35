use Rattle.std.proofs.Common.{◌≡◌, ◌+◌, ◌∙◌, ap, sym, subst, arith, map, drop, List}
use Rattle.std.specs.List.{flat_map}
use Rattle.std.proofs.lemmas.List.{drop_all}
use Rattle.xq_axes.specs.Nodes.{HaveAll}
use Rattle.xq_trees.specs.Tree.{Tree}
use Rattle.xq_meaning.specs.Items.{in_document_order}
use Rattle.xq_meaning.specs.Readings.{node_at}
use Rattle.xq_meaning.specs.Steps.{axis_nodes}
use Rattle.xq_joins.specs.private.Keys.{scans, nodes_after}
use Rattle.xq_joins.proofs.Lists.{left_first}
use Rattle.xq_joins.proofs.Walks.{walked, skipped}
use Rattle.xq_joins.proofs.keys.nodes_after.Goals as goal
use Rattle.xq_joins.proofs.keys.nodes_after.Goals.{in-Scan+in_ok-nodes, in_default}

pub loop-step-preserved : goal.loop-step-preserved
loop-step-preserved g c =
    let i = c.loop-step.invariant in
    let old = g.L.TreeSource.forest c.args.source.now in
    let n = c.loop-step.step-index in
    let steps = c.args.steps.now in
    let s = c.step-item.result in
    let before = c.loop-step.nodes.items in
    let left = left_first steps n s (omega arith) c.step-item.is in
    elim c.match-step.branch [
      | in-Scan+in_ok-nodes w ↦ (
          let given = w.deref.result.now in
          let after = w.in_ok-nodes.nodes.items in
          let axis = w.in-Scan.axis in
          let test = w.in-Scan.test in
          let there : g.L.TreeSource.is_clean w.step.new.source → HaveAll old c.args.start.items → HaveAll (g.L.TreeSource.forest c.loop-step.source) given = λ k have. subst (λ (f : List Tree). HaveAll f given) (sym i.keeps) (subst (HaveAll old) (sym w.deref.ensures.value) (i.there (w.step.ensures.was_clean k) have)) in
          rw (w.source-is, w.nodes-is) (record {
            keeps = w.step.ensures.keeps ∙ i.keeps;
            was_clean = λ k. i.was_clean (w.step.ensures.was_clean k);
            there = λ k have. subst (λ (f : List Tree). HaveAll f after) i.keeps (w.in_ok-nodes.ensures.there k (there k have));
            nodes = λ k have.
                let one : map (node_at old) after ≡ in_document_order old (flat_map (axis_nodes old axis test) (map (node_at old) before)) =
                subst (λ (f : List Tree). map (node_at f) after ≡ in_document_order f (flat_map (axis_nodes f axis test) (map (node_at f) given))) i.keeps (w.in_ok-nodes.ensures.nodes k (there k have))
                ∙ ap (λ ns. in_document_order old (flat_map (axis_nodes old axis test) (map (node_at old) ns))) w.deref.ensures.value in
                walked old (drop n steps) (drop (n + 1) steps) s (axis, test, w.in-Scan.is) (map (node_at old) before) (map (node_at old) after) left one
                ∙ i.nodes (w.step.ensures.was_clean k) have;
          }))
      | in_default w ↦
          rw (w.source-is, w.nodes-is) (record {
            keeps = i.keeps;
            was_clean = i.was_clean;
            there = i.there;
            nodes = λ k have. skipped old (drop n steps) (drop (n + 1) steps) s w.in_default.field-0 (map (node_at old) before) left w.in_default.is ∙ i.nodes k have;
          })
    ]

pub returns-clause-nodes : goal.returns-clause-nodes
returns-clause-nodes g c = λ k have.
    let i = c.loop-step.invariant in
    let old = g.L.TreeSource.forest c.args.source.now in
    let steps = c.args.steps.now in
    sym (ap (λ l. nodes_after old (scans l) (map (node_at old) c.loop-step.nodes.items)) (drop_all c.loop-step.step-index steps (omega arith)))
    ∙ i.nodes k have
