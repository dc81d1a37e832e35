use Rattle.std.proofs.Common.{map, ap, ◌∙◌}
use Rattle.xq_meaning.specs.Functions as Functions
use Rattle.xq_functions.specs.Answers.{atomics, items_of}
use Rattle.xq_functions.specs.private.Calls as Calls
use Rattle.xq_functions.proofs.AnswerLemmas.{Gives-same}
use Rattle.xq_functions.proofs.CallLemmas as lemmas
use Rattle.xq_functions.proofs.calls.call_on_lists.Goals as goal

pub returns : goal.returns
returns c trees addresses focus values many is =
    Gives-same (items_of trees) (Functions.called c.args.function trees addresses focus values) (Calls.of_lists c.args.function (map (λ list. atomics list.items) c.args.lists.now)) c.of_lists.result
    (lemmas.called-lists c.args.function trees addresses focus values many ∙ ap (Calls.of_lists c.args.function) is) (c.of_lists.ensures trees)
