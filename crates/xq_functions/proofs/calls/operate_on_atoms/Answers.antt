use Rattle.std.proofs.Common.{◌∙◌}
use Rattle.xq_meaning.specs.Operators as Operators
use Rattle.xq_functions.specs.Answers.{atomics, items_of}
use Rattle.xq_functions.specs.private.Calls as Calls
use Rattle.xq_functions.proofs.AnswerLemmas.{Gives-same}
use Rattle.xq_functions.proofs.CallLemmas as lemmas
use Rattle.xq_functions.proofs.calls.operate_on_atoms.Goals as goal

pub returns : goal.returns
returns c on trees xs ys left right =
    Gives-same (items_of trees) (Operators.operated c.args.operator trees xs ys) (Calls.atoms_operated c.args.operator (atomics c.args.left.now) (atomics c.args.right.now)) c.of_operands.result
    (lemmas.operated-atoms c.args.operator trees xs ys on ∙ (λ i. Calls.atoms_operated c.args.operator (left i) (right i))) (c.of_operands.ensures trees)
