use Rattle.std.proofs.Common.{ap, ◌∙◌}
use Rattle.xq_expressions.specs.declared.signatures.Function.TheVariants as f
use Rattle.xq_meaning.specs.Functions as Functions
use Rattle.xq_functions.specs.Answers.{atomics, items_of}
use Rattle.xq_functions.specs.private.Calls as Calls
use Rattle.xq_functions.proofs.AnswerLemmas.{Gives-same}
use Rattle.xq_functions.proofs.CallLemmas as lemmas
use Rattle.xq_functions.proofs.calls.of_three.Goals as goal

pub returns-in-Substring : goal.returns-in-Substring
returns-in-Substring c trees = Gives-same (items_of trees) (Functions.of_three c.args.function (atomics c.args.first.now) (atomics c.args.second.now) (atomics c.args.third.now)) (Functions.of_three f.Substring (atomics c.args.first.now) (atomics c.args.second.now) (atomics c.args.third.now)) c.substring.result (ap (λ f. Functions.of_three f (atomics c.args.first.now) (atomics c.args.second.now) (atomics c.args.third.now)) c.in-Substring.is) (c.substring.ensures trees)

pub returns-in-Concat : goal.returns-in-Concat
returns-in-Concat c trees = Gives-same (items_of trees) (Functions.of_three c.args.function (atomics c.args.first.now) (atomics c.args.second.now) (atomics c.args.third.now)) (Calls.three_concatenated (atomics c.args.first.now) (atomics c.args.second.now) (atomics c.args.third.now)) c.concat_three.result (ap (λ f. Functions.of_three f (atomics c.args.first.now) (atomics c.args.second.now) (atomics c.args.third.now)) c.in-Concat.is ∙ lemmas.concatenated-three (atomics c.args.first.now) (atomics c.args.second.now) (atomics c.args.third.now)) (c.concat_three.ensures trees)
