-- Items that are kept for the text of an attribute: the parents of all attributes with the text.
use Rattle.std.proofs.Common.{◌≡◌, List, [], ◌∷◌, cond, refl, sym, ◌∙◌, ap}
use Rattle.std.specs.Prelude.{filter, Some}
use Rattle.xq_atoms.specs.Text.{Text}
use Rattle.xq_trees.specs.Items.{ItemView, Place as NodeAt, Value}
use Rattle.xq_trees.specs.Tree.{Tree}
use Rattle.xq_trees.specs.declared.Axis.TheVariants as axis
use Rattle.xq_meaning.specs.Readings.{node_at, IsIn, AreIn}
use Rattle.xq_meaning.specs.Steps.{axis_nodes}
use Rattle.xq_meaning.specs.declared.node_tests.Test.TheVariants as tests
use Rattle.xq_axes.specs.Owners.{has_valued}
use Rattle.xq_axes.proofs.Owned.{step_owned}
use Rattle.xq_joins.specs.Equalities.{have_text, passes_text}
use Rattle.xq_joins.specs.declared.equalities.TextTest.{TextTest}

module _ (trees : List Tree) (found : TextTest) (name : Text) (axis_is : found.axis ≡ axis.Attributes) (test_is : found.test.now ≡ tests.Attribute (Some name)) where
  one_valued : (x : ItemView) → IsIn trees x → has_valued trees name found.text.now x ≡ passes_text trees found x
  one_valued (NodeAt n) there =
      sym (ap (λ a. have_text trees found.text.now (axis_nodes trees a found.test.now (node_at trees n))) axis_is
      ∙ ap (λ t. have_text trees found.text.now (axis_nodes trees axis.Attributes t (node_at trees n))) test_is
      ∙ step_owned trees n there name found.text.now)
  one_valued (Value a) there = refl

  pub valued_pass : (xs : List ItemView) → AreIn trees xs → filter (has_valued trees name found.text.now) xs ≡ filter (passes_text trees found) xs
  valued_pass [] inside = refl
  valued_pass (x ∷ xs) inside =
      ap (λ b. cond b (x ∷ filter (has_valued trees name found.text.now) xs) (filter (has_valued trees name found.text.now) xs)) (one_valued x inside.0)
      ∙ ap (λ l. cond (passes_text trees found x) (x ∷ l) l) (valued_pass xs inside.1)
