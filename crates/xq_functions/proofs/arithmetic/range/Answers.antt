use Rattle.std.proofs.Common.{ap, sym, ◌∙◌, rules}
use Rattle.xq_atoms.specs.Judged.{◌>>=◌}
use Rattle.xq_meaning.specs.Operators.{one_bound, integers}
use Rattle.xq_functions.specs.Answers.{atomics, items_of}
use Rattle.xq_atoms.specs.Answers.{Gives}
use Rattle.xq_functions.specs.private.Calls.{on_both}
use Rattle.xq_functions.proofs.AnswerLemmas.{Gives-same}
use Rattle.xq_functions.proofs.arithmetic.range.Goals as goal

pub returns : goal.returns
returns c trees =
    let left = atomics c.args.left.now in
    let right = atomics c.args.right.now in
    let first = c.in_ok-first.first in
    let last = c.in_ok-last.last in
    let given : Gives (items_of trees) (integers first last) c.integers.result = search (rules, c.integers.ensures trees) in
    Gives-same (items_of trees) (on_both one_bound integers left right) (integers first last) c.integers.result
    (ap (λ j. j >>= (λ a. one_bound right >>= (λ b. integers a b))) (sym c.in_ok-first.ensures) ∙ ap (λ j. j >>= (λ b. integers first b)) (sym c.in_ok-last.ensures)) given
