use Rattle.std.proofs.Common.{ap, ◌∙◌}
use Rattle.xq_meaning.specs.Arguments.{as_boolean}
use Rattle.xq_meaning.specs.Functions as Functions
use Rattle.xq_operators.specs.Views.{nodes_in}
use Rattle.xq_operators.proofs.NodePlaces.{are_true, are_false}
use Rattle.xq_operators.proofs.told.counted.Goals as goal

pub returns-in-Boolean-clause-tells : goal.returns-in-Boolean-clause-tells
returns-in-Boolean-clause-tells c trees addresses tree =
    ap (λ f. Functions.of_one f trees addresses (nodes_in trees tree c.args.places.now)) c.in-Boolean.is ∙ ap as_boolean (are_true trees tree c.args.places.now c.is_empty-in-Boolean.result c.is_empty-in-Boolean.ensures)

pub returns-in-Not-clause-tells : goal.returns-in-Not-clause-tells
returns-in-Not-clause-tells c trees addresses tree =
    ap (λ f. Functions.of_one f trees addresses (nodes_in trees tree c.args.places.now)) c.in-Not.is ∙ are_false trees tree c.args.places.now c.is_empty-in-Not.result c.is_empty-in-Not.ensures
