use Rattle.std.proofs.Common.{ap, sym, ◌∙◌, Ok}
use Rattle.xq_meaning.specs.Arguments.{text}
use Rattle.xq_meaning.specs.Readings.{items_at}
use Rattle.xq_functions.specs.Answers.{atomics}
use Rattle.xq_functions.proofs.TextLemmas.{joined-texts}
use Rattle.xq_functions.proofs.texts.string_join.Goals as goal

pub returns : goal.returns
returns c trees =
    ap (λ t. Ok (text t)) (sym (c.in_ok-joined.ensures.text ∙ joined-texts (atomics c.args.atoms.now))) ∙ ap (λ views. Ok (items_at trees views)) (sym c.in_ok-one.ensures.value)
