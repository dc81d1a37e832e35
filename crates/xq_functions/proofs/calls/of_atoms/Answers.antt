use Rattle.std.proofs.Common.{ap, ◌∙◌, Ok}
use Rattle.xq_expressions.specs.declared.signatures.Function.TheVariants as f
use Rattle.xq_functions.specs.Answers.{atomics, items_of}
use Rattle.xq_functions.specs.private.Calls as Calls
use Rattle.xq_functions.proofs.AnswerLemmas.{Gives-same}
use Rattle.xq_functions.proofs.CallLemmas as lemmas
use Rattle.xq_functions.proofs.calls.of_atoms.Goals as goal

pub returns-in-StringLength : goal.returns-in-StringLength
returns-in-StringLength c trees = Gives-same (items_of trees) (Calls.of_atoms c.args.function (atomics c.args.atoms.now)) (Calls.of_atoms f.StringLength (atomics c.args.atoms.now)) c.string_length.result (ap (λ f. Calls.of_atoms f (atomics c.args.atoms.now)) c.in-StringLength.is) (c.string_length.ensures trees)

pub returns-in-NormalizeSpace : goal.returns-in-NormalizeSpace
returns-in-NormalizeSpace c trees = Gives-same (items_of trees) (Calls.of_atoms c.args.function (atomics c.args.atoms.now)) (Calls.of_atoms f.NormalizeSpace (atomics c.args.atoms.now)) c.normalize_space.result (ap (λ f. Calls.of_atoms f (atomics c.args.atoms.now)) c.in-NormalizeSpace.is) (c.normalize_space.ensures trees)

pub returns-in-StringJoin : goal.returns-in-StringJoin
returns-in-StringJoin c trees = Gives-same (items_of trees) (Calls.of_atoms c.args.function (atomics c.args.atoms.now)) (Calls.of_atoms f.StringJoin (atomics c.args.atoms.now)) c.string_join.result (ap (λ f. Calls.of_atoms f (atomics c.args.atoms.now)) c.in-StringJoin.is) (c.string_join.ensures trees)

pub returns-in-Sum : goal.returns-in-Sum
returns-in-Sum c trees = Gives-same (items_of trees) (Calls.of_atoms c.args.function (atomics c.args.atoms.now)) (Calls.of_atoms f.Sum (atomics c.args.atoms.now)) c.sum.result (ap (λ f. Calls.of_atoms f (atomics c.args.atoms.now)) c.in-Sum.is) (c.sum.ensures trees)

pub returns-in-Min : goal.returns-in-Min
returns-in-Min c trees = Gives-same (items_of trees) (Calls.of_atoms c.args.function (atomics c.args.atoms.now)) (Calls.of_atoms f.Min (atomics c.args.atoms.now)) c.min.result (ap (λ f. Calls.of_atoms f (atomics c.args.atoms.now)) c.in-Min.is) (c.min.ensures trees)

pub returns-in-Max : goal.returns-in-Max
returns-in-Max c trees = Gives-same (items_of trees) (Calls.of_atoms c.args.function (atomics c.args.atoms.now)) (Calls.of_atoms f.Max (atomics c.args.atoms.now)) c.max.result (ap (λ f. Calls.of_atoms f (atomics c.args.atoms.now)) c.in-Max.is) (c.max.ensures trees)

pub returns-in_ok-distinct_values-in-DistinctValues : goal.returns-in_ok-distinct_values-in-DistinctValues
returns-in_ok-distinct_values-in-DistinctValues c trees = ap (λ f. Calls.of_atoms f (atomics c.args.atoms.now)) c.in-DistinctValues.is ∙ ap Ok (lemmas.distinct-items trees (atomics c.args.atoms.now) c.in_ok-distinct_values-in-DistinctValues.field-0 c.in_ok-distinct_values-in-DistinctValues.ensures.values)

pub returns-in_default : goal.returns-in_default
returns-in_default c trees =
    let atoms = atomics c.args.atoms.now in
    let d = c.in_default in
    Gives-same (items_of trees) (Calls.of_atoms c.args.function atoms) (Calls.of_optional c.args.function atoms) c.of_optional.result
    (lemmas.of_atoms-others c.args.function atoms d.not-StringLength d.not-NormalizeSpace d.not-StringJoin d.not-DistinctValues d.not-Sum d.not-Min d.not-Max) (c.of_optional.ensures trees)
