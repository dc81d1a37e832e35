use Rattle.std.proofs.Common.{◌≡◌, ap, sym, subst, ◌∙◌}
use Rattle.xq_expressions.specs.declared.operators.ComparisonOperator.TheVariants.{Node}
use Rattle.xq_atoms.specs.Answers.{Gives}
use Rattle.xq_functions.specs.Answers as Answers
use Rattle.xq_meaning.specs.Operators.{operated}
use Rattle.xq_meaning.specs.declared.operators.Operator.TheVariants.{Comparison}
use Rattle.xq_operators.proofs.operators.operate_on_nodes.Goals as goal

pub returns-in-Comparison-Node : goal.returns-in-Comparison-Node
returns-in-Comparison-Node c = λ off trees l r.
    let inner : c.in-Comparison-Node.field-0 ≡ Node c.in-Comparison-Node.comparison = rw c.in-Comparison-Node.is at c.in-Comparison-Node.field-0-is in
    subst (λ o. Gives (Answers.items_of trees) (operated o trees (Answers.lent_items trees c.args.left.now) (Answers.lent_items trees c.args.right.now)) c.compare_nodes.result)
    (sym (c.in-Comparison-Node.is ∙ ap Comparison inner)) (c.compare_nodes.ensures trees l r)

pub returns-in-Union : goal.returns-in-Union
returns-in-Union c = λ off trees l r.
    subst (λ o. Gives (Answers.items_of trees) (operated o trees (Answers.lent_items trees c.args.left.now) (Answers.lent_items trees c.args.right.now)) c.unite_nodes.result)
    (sym c.in-Union.is) (c.unite_nodes.ensures trees l r)

pub returns-in-SetOperation : goal.returns-in-SetOperation
returns-in-SetOperation c = λ off trees l r.
    subst (λ o. Gives (Answers.items_of trees) (operated o trees (Answers.lent_items trees c.args.left.now) (Answers.lent_items trees c.args.right.now)) c.select_nodes.result)
    (sym c.in-SetOperation.is) (c.select_nodes.ensures trees l r)
