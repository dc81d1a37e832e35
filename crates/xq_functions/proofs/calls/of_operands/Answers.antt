use Rattle.xq_meaning.specs.declared.operators.Operator.TheVariants.{Comparison}
use Rattle.std.proofs.Common.{ap}
use Rattle.xq_functions.specs.Answers.{atomics, items_of}
use Rattle.xq_functions.specs.private.Calls as Calls
use Rattle.xq_functions.proofs.AnswerLemmas.{Gives-same}
use Rattle.xq_functions.proofs.CallLemmas as lemmas
use Rattle.xq_functions.proofs.calls.of_operands.Goals as goal

pub returns-in-Concat : goal.returns-in-Concat
returns-in-Concat c trees = Gives-same (items_of trees) (Calls.atoms_operated c.args.operator (atomics c.args.left.now) (atomics c.args.right.now)) (Calls.texts_concatenated (atomics c.args.left.now) (atomics c.args.right.now)) c.concatenated.result (ap (λ o. Calls.atoms_operated o (atomics c.args.left.now) (atomics c.args.right.now)) c.in-Concat.is) (c.concatenated.ensures trees)

pub returns-in-Comparison : goal.returns-in-Comparison
returns-in-Comparison c trees = Gives-same (items_of trees) (Calls.atoms_operated c.args.operator (atomics c.args.left.now) (atomics c.args.right.now)) (Calls.atoms_operated (Comparison c.in-Comparison.comparison) (atomics c.args.left.now) (atomics c.args.right.now)) c.compare.result (ap (λ o. Calls.atoms_operated o (atomics c.args.left.now) (atomics c.args.right.now)) c.in-Comparison.is) (c.compare.ensures trees)

pub returns-in_default : goal.returns-in_default
returns-in_default c trees = Gives-same (items_of trees) (Calls.atoms_operated c.args.operator (atomics c.args.left.now) (atomics c.args.right.now)) (Calls.unless_empty (atomics c.args.left.now) (atomics c.args.right.now) (Calls.both_operated c.args.operator (atomics c.args.left.now) (atomics c.args.right.now))) c.unless_empty.result (lemmas.operated-others c.args.operator (atomics c.args.left.now) (atomics c.args.right.now) c.in_default.not-Concat c.in_default.not-Comparison) (c.unless_empty.ensures trees)
