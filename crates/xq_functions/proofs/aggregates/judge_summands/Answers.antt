use Rattle.std.proofs.Common.{◌≡◌, ◌+◌, take, drop, Ok, Err, sym, ap, ◌∙◌, arith, rules, take_all}
use Rattle.xq_atoms.specs.Atom.{atomic_of}
use Rattle.xq_meaning.specs.Arguments.{each}
use Rattle.xq_meaning.specs.Functions.{summand}
use Rattle.xq_functions.specs.Answers.{atomics}
use Rattle.xq_functions.specs.Judgements.{judged_as}
use Rattle.xq_functions.proofs.ListLemmas.{each-push, each-err, around, to_here}
use Rattle.xq_functions.proofs.aggregates.judge_summands.Goals as goal

pub loop-atom-preserved : goal.loop-atom-preserved
loop-atom-preserved c =
    let i = c.loop-atom.atom-index in
    let atoms = c.args.atoms.now in
    let atom = c.atom-item.result in
    let here = to_here atomic_of atoms i atom (omega arith) c.atom-item.is in
    ap (each summand) here ∙ each-push summand (atomics (take i atoms)) (atomics (take i atoms)) (atomic_of atom) (atomic_of atom) c.loop-atom.invariant (sym c.in_ok-judge_summand.ensures) ∙ ap Ok (sym here)

pub returns-in_err-judge_summand : goal.returns-in_err-judge_summand
returns-in_err-judge_summand c =
    let i = c.loop-atom.atom-index in
    let atoms = c.args.atoms.now in
    let atom = c.atom-item.result in
    let is : c.from_residual.result ≡ Err c.in_err-judge_summand.field-0.0 = search rules in
    ap (judged_as (λ _. atomics atoms)) is
    ∙ sym (ap (each summand) (around atomic_of atoms i atom (omega arith) c.atom-item.is)
    ∙ each-err summand (atomics (take i atoms)) (atomics (take i atoms)) (atomic_of atom) (atomics (drop (i + 1) atoms)) c.in_err-judge_summand.field-0.0 c.loop-atom.invariant (sym c.in_err-judge_summand.ensures))

pub returns : goal.returns
returns c =
    let i = c.loop-atom.atom-index in
    let atoms = c.args.atoms.now in
    let all = take_all i atoms (omega arith) in
    sym (ap (λ xs. each summand (atomics xs)) (sym all) ∙ c.loop-atom.invariant ∙ ap (λ xs. Ok (atomics xs)) all)
