use Rattle.std.proofs.Common.{ap, ◌∙◌}
use Rattle.xq_meaning.specs.Functions as Functions
use Rattle.xq_functions.specs.Answers.{atomics, items_of}
use Rattle.xq_functions.specs.private.Calls as Calls
use Rattle.xq_functions.proofs.AnswerLemmas.{Gives-same}
use Rattle.xq_functions.proofs.CallLemmas as lemmas
use Rattle.xq_functions.proofs.calls.call_on_atoms.Goals as goal

pub returns-clause-atoms : goal.returns-clause-atoms
returns-clause-atoms c on trees addresses xs is =
    Gives-same (items_of trees) (Functions.of_one c.args.function trees addresses xs) (Calls.of_atoms c.args.function (atomics c.args.atoms.now)) c.of_atoms.result
    (lemmas.of_one-atoms c.args.function trees addresses xs on ∙ ap (Calls.of_atoms c.args.function) is) (c.of_atoms.ensures trees)
