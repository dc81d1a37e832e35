use Rattle.std.proofs.Common.{map, ap, sym, ◌∙◌}
use Rattle.xq_trees.specs.Items.{item_view}
use Rattle.xq_meaning.specs.Operators as Operators
use Rattle.xq_meaning.specs.Readings.{items_at}
use Rattle.xq_eval.specs.private.Positions.{value_there}
use Rattle.xq_eval.proofs.positions.passes.Goals as goal

pub returns-in-Same : goal.returns-in-Same
returns-in-Same c = λ trees.
    c.keeps.ensures trees ∙ ap (λ vs. Operators.keeps c.args.position (items_at trees (map item_view vs))) c.deref.ensures.value
    ∙ ap (λ v. Operators.keeps c.args.position (items_at trees (value_there v c.args.position))) (sym c.in-Same.is)
