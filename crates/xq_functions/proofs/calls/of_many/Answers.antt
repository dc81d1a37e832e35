use Rattle.std.proofs.Common.{map, ap}
use Rattle.xq_expressions.specs.declared.signatures.Function.TheVariants as f
use Rattle.xq_meaning.specs.Functions as Functions
use Rattle.xq_functions.specs.Answers.{atomics, items_of}
use Rattle.xq_functions.proofs.AnswerLemmas.{Gives-same}
use Rattle.xq_functions.proofs.calls.of_many.Goals as goal

pub returns-in-Concat : goal.returns-in-Concat
returns-in-Concat c trees = Gives-same (items_of trees) (Functions.of_many c.args.function (map (λ list. atomics list.items) c.args.lists.now)) (Functions.of_many f.Concat (map (λ list. atomics list.items) c.args.lists.now)) c.concat.result (ap (λ f. Functions.of_many f (map (λ list. atomics list.items) c.args.lists.now)) c.in-Concat.is) (c.concat.ensures trees)
