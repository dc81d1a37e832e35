use Rattle.std.proofs.Common.{sym, ◌∙◌}
use Rattle.xq_atoms.specs.Atom.{atomic_of}
use Rattle.xq_meaning.specs.Operators as Operators
use Rattle.xq_functions.specs.Answers.{atomics, items_of}
use Rattle.xq_functions.specs.private.Calls as Calls
use Rattle.xq_functions.proofs.AnswerLemmas.{Gives-same}
use Rattle.xq_functions.proofs.CallLemmas as lemmas
use Rattle.xq_functions.proofs.calls.compare_there.Goals as goal

pub returns : goal.returns
returns c trees =
    Gives-same (items_of trees) (Calls.unless_empty (atomics c.args.left.now) (atomics c.args.right.now) (Calls.values_compared (Operators.related_by c.args.relation) (atomics c.args.left.now) (atomics c.args.right.now))) (Calls.values_compared (Operators.related_by c.args.relation) (atomics c.args.left.now) (atomics c.args.right.now)) c.compare_values.result
    (lemmas.unless_empty-there (atomics c.args.left.now) (atomics c.args.right.now) (Calls.values_compared (Operators.related_by c.args.relation) (atomics c.args.left.now) (atomics c.args.right.now)) (lemmas.not_empty-map atomic_of c.args.left.now (sym c.is_empty.ensures ∙ c.if-is_empty.false)) (lemmas.not_empty-map atomic_of c.args.right.now (sym c.is_empty-else-is_empty.ensures ∙ c.if-is_empty-2.false))) (c.compare_values.ensures trees)
