use Rattle.std.proofs.Common.{◌++◌, ◌∷◌, [], ap, ◌∙◌}
use Rattle.xq_plan.proofs.Walks.{count_clause}
use Rattle.xq_plan.proofs.walk.count.Goals as goal

pub returns-clause-planned : goal.returns-clause-planned
returns-clause-planned c =
    count_clause c.args.start c.args.scope.now c.requires c.args.variable.now c.bind.new.self
    (c.in_ok-bind.ensures.bound ∙ ap (λ v. c.args.scope.now ++ v ∷ []) c.as_str-number.ensures)
