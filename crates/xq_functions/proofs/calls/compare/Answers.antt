use Rattle.xq_meaning.specs.declared.operators.Operator.TheVariants.{Comparison}
use Rattle.std.proofs.Common.{ap}
use Rattle.xq_meaning.specs.Operators as Operators
use Rattle.xq_functions.specs.Answers.{atomics, items_of}
use Rattle.xq_functions.specs.private.Calls as Calls
use Rattle.xq_functions.proofs.AnswerLemmas.{Gives-same}
use Rattle.xq_functions.proofs.calls.compare.Goals as goal

pub returns-in-Value : goal.returns-in-Value
returns-in-Value c trees = Gives-same (items_of trees) (Calls.atoms_operated (Comparison c.args.comparison) (atomics c.args.left.now) (atomics c.args.right.now)) (Calls.unless_empty (atomics c.args.left.now) (atomics c.args.right.now) (Calls.values_compared (Operators.related_by c.in-Value.relation) (atomics c.args.left.now) (atomics c.args.right.now))) c.compare_there.result (ap (λ o. Calls.atoms_operated (Comparison o) (atomics c.args.left.now) (atomics c.args.right.now)) c.in-Value.is) (c.compare_there.ensures trees)

pub returns-in-General : goal.returns-in-General
returns-in-General c trees = Gives-same (items_of trees) (Calls.atoms_operated (Comparison c.args.comparison) (atomics c.args.left.now) (atomics c.args.right.now)) (Operators.by_pairs (Operators.related_by c.in-General.relation) (atomics c.args.left.now) (atomics c.args.right.now)) c.compare_pairs.result (ap (λ o. Calls.atoms_operated (Comparison o) (atomics c.args.left.now) (atomics c.args.right.now)) c.in-General.is) (c.compare_pairs.ensures trees)
