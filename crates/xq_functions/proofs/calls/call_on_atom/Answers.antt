use Rattle.std.proofs.Common.{ap, sym, subst, ◌∙◌}
use Rattle.xq_functions.specs.Answers.{TellsAtom}
use Rattle.xq_functions.specs.private.Calls as Calls
use Rattle.xq_functions.proofs.CallLemmas as lemmas
use Rattle.xq_functions.proofs.calls.call_on_atom.Goals as goal

pub returns : goal.returns
returns c on trees addresses xs is =
    subst (λ j. TellsAtom j c.converted.result) (sym (lemmas.of_one-atoms c.args.function trees addresses xs on ∙ ap (Calls.of_atoms c.args.function) is)) c.converted.ensures
