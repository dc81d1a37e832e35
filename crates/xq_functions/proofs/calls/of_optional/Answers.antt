use Rattle.std.specs.Option.{option_map}
use Rattle.xq_atoms.specs.declared.atoms.Atom.{Atom}
use Rattle.std.proofs.Common.{Bor, ap, sym, ◌∙◌, Ok}
use Rattle.xq_atoms.specs.Atom.{atomic_of}
use Rattle.xq_functions.specs.Answers.{atomics, items_of}
use Rattle.xq_functions.specs.private.Calls as Calls
use Rattle.xq_functions.proofs.AnswerLemmas.{Gives-same}
use Rattle.xq_functions.proofs.CallLemmas as lemmas
use Rattle.xq_functions.proofs.calls.of_optional.Goals as goal

pub returns-in-Some : goal.returns-in-Some
returns-in-Some c trees =
    Gives-same (items_of trees) (Calls.of_optional c.args.function (atomics c.args.atoms.now)) (Calls.of_atom c.args.function (atomic_of c.in-Some.atom.now)) c.of_atom.result
    (lemmas.of_some c.args.function (atomics c.args.atoms.now) (atomic_of c.in-Some.atom.now) (ap (λ o. Ok (option_map (λ (atom : Bor Atom). atomic_of atom.now) o)) (sym c.in-Some.is) ∙ c.in_ok-atom.ensures)) (c.of_atom.ensures trees)
