-- The texts of the nodes to which the scans of a key lead.
use Rattle.std.specs.Prelude.{List, [], ◌∷◌, ◌++◌, map, flat_map}
use Rattle.xq_atoms.specs.Text.{Text}
use Rattle.xq_trees.specs.declared.Axis.{Axis}
use Rattle.xq_trees.specs.Items.{ItemView, Place as NodeAt, Value}
use Rattle.xq_trees.specs.Tree.{Tree}
use Rattle.xq_meaning.specs.declared.node_tests.Test.{Test}
use Rattle.xq_meaning.specs.declared.plans.Plan.{Plan}
use Rattle.xq_meaning.specs.declared.plans.Plan.TheOpen.{PlanStep-F}
use Rattle.xq_meaning.specs.declared.plans.PlanClause.{PlanClause}
use Rattle.xq_meaning.specs.declared.plans.PlanStep.{PlanStep, out-PlanStep}
use Rattle.xq_meaning.specs.Items.{Place, in_document_order}
use Rattle.xq_meaning.specs.Readings.{node_at}
use Rattle.xq_meaning.specs.Steps.{axis_nodes}
use Rattle.xq_joins.specs.Keys.{text_at}

-- the axis and the test of a step, where it is a scan
abbrev pub scan_in : PlanStep-F Plan PlanClause PlanStep → List (Axis × Test)
scan_in (PlanStep-F.Scan axis test) = (axis, test) ∷ []
scan_in (PlanStep-F.Each part) = []

-- those of the scans among the steps
abbrev pub scans : List PlanStep → List (Axis × Test)
scans [] = []
scans (s ∷ ss) = scan_in (out-PlanStep s) ++ scans ss

-- XQuery 3.1, 3.3: the nodes to which one scan after another leads
abbrev pub nodes_after : List Tree → List (Axis × Test) → List Place → List Place
nodes_after trees [] ps = ps
nodes_after trees (s ∷ ss) ps =
    nodes_after trees ss (in_document_order trees (flat_map (axis_nodes trees s.0 s.1) ps))

-- the texts of the nodes to which scans lead from these
abbrev pub key_texts : List Tree → List (Axis × Test) → List Place → List Text
key_texts trees ss ps = map (text_at trees) (nodes_after trees ss ps)

-- the places of the nodes among the items
abbrev pub places_among : List Tree → List ItemView → List Place
places_among trees [] = []
places_among trees (NodeAt n ∷ xs) = node_at trees n ∷ places_among trees xs
places_among trees (Value a ∷ xs) = places_among trees xs

-- the texts of the nodes to which the scans among the steps lead from those items that are nodes
abbrev pub texts_from : List Tree → List PlanStep → List ItemView → List Text
texts_from trees steps xs = key_texts trees (scans steps) (places_among trees xs)
