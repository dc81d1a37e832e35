use Rattle.std.proofs.Common.{◌∙◌, sym}
use Rattle.xq_functions.specs.Answers.{items_of}
use Rattle.xq_meaning.specs.Functions as Functions
use Rattle.xq_operators.proofs.Giving.{told}
use Rattle.xq_operators.proofs.calls.on_atoms.Goals as goal

pub returns-clause-gives : goal.returns-clause-gives
returns-clause-gives g c = λ k is addresses.
    let old = g.L.TreeSource.forest c.args.source.now in
    let xs = items_of old c.args.items in
    let read = c.atoms.ensures ∙ c.in_ok-operand.ensures.value k in
    told (items_of old) (Functions.of_one c.args.function old addresses xs) c.call_on_atoms.result (c.call_on_atoms.ensures.atoms is old addresses xs (sym read))
