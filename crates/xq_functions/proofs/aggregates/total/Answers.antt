use Rattle.std.proofs.Common.{◌≡◌, ◌+◌, drop, Err, sym, ap, ◌∙◌, arith, rules}
use Rattle.std.proofs.lemmas.List.{drop_all}
use Rattle.xq_atoms.specs.Judged.{◌>>=◌}
use Rattle.xq_atoms.specs.Atom.{atomic_of, judged_of}
use Rattle.xq_meaning.specs.Functions.{added}
use Rattle.xq_functions.specs.Answers.{atomics}
use Rattle.xq_functions.proofs.ListLemmas.{from_here}
use Rattle.xq_functions.proofs.aggregates.total.Goals as goal

pub loop-atom-preserved : goal.loop-atom-preserved
loop-atom-preserved c =
    let i = c.loop-atom.atom-index in
    let atoms = c.args.atoms.now in
    let here = from_here atomic_of atoms i c.atom-item.result (omega arith) c.atom-item.is in
    ap (λ j. j >>= (λ next. added next (atomics (drop (i + 1) atoms)))) c.in_ok-total.ensures ∙ ap (added (atomic_of c.loop-atom.total)) (sym here) ∙ c.loop-atom.invariant

pub returns-in_err-total : goal.returns-in_err-total
returns-in_err-total c =
    let i = c.loop-atom.atom-index in
    let atoms = c.args.atoms.now in
    let here = from_here atomic_of atoms i c.atom-item.result (omega arith) c.atom-item.is in
    let is : c.from_residual.result ≡ Err c.in_err-total.field-0.0 = search rules in
    ap judged_of is ∙ ap (λ j. j >>= (λ next. added next (atomics (drop (i + 1) atoms)))) c.in_err-total.ensures ∙ ap (added (atomic_of c.loop-atom.total)) (sym here) ∙ c.loop-atom.invariant

pub returns : goal.returns
returns c = ap (λ xs. added (atomic_of c.loop-atom.total) (atomics xs)) (sym (drop_all c.loop-atom.atom-index c.args.atoms.now (omega arith))) ∙ c.loop-atom.invariant
