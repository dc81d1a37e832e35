use Rattle.std.proofs.Common.{ap}
use Rattle.xq_meaning.specs.Operators as Operators
use Rattle.xq_functions.specs.Answers.{atomics, items_of}
use Rattle.xq_functions.specs.private.Calls as Calls
use Rattle.xq_functions.proofs.AnswerLemmas.{Gives-same}
use Rattle.xq_functions.proofs.calls.of_both.Goals as goal

pub returns-in-Sum : goal.returns-in-Sum
returns-in-Sum c trees = Gives-same (items_of trees) (Calls.both_operated c.args.operator (atomics c.args.left.now) (atomics c.args.right.now)) (Calls.on_numbers (Operators.sum_of c.in-Sum.sign) (atomics c.args.left.now) (atomics c.args.right.now)) c.sums.result (ap (λ o. Calls.both_operated o (atomics c.args.left.now) (atomics c.args.right.now)) c.in-Sum.is) (c.sums.ensures trees)

pub returns-in-Product : goal.returns-in-Product
returns-in-Product c trees = Gives-same (items_of trees) (Calls.both_operated c.args.operator (atomics c.args.left.now) (atomics c.args.right.now)) (Calls.on_numbers (Operators.product_of c.in-Product.operator) (atomics c.args.left.now) (atomics c.args.right.now)) c.products.result (ap (λ o. Calls.both_operated o (atomics c.args.left.now) (atomics c.args.right.now)) c.in-Product.is) (c.products.ensures trees)

pub returns-in-Range : goal.returns-in-Range
returns-in-Range c trees = Gives-same (items_of trees) (Calls.both_operated c.args.operator (atomics c.args.left.now) (atomics c.args.right.now)) (Calls.on_both Operators.one_bound Operators.integers (atomics c.args.left.now) (atomics c.args.right.now)) c.range.result (ap (λ o. Calls.both_operated o (atomics c.args.left.now) (atomics c.args.right.now)) c.in-Range.is) (c.range.ensures trees)
