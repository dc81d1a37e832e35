use Rattle.std.proofs.Common.{◌≡◌, ◌+◌, drop, Err, sym, ap, ◌∙◌, arith, rules}
use Rattle.xq_atoms.specs.Judged.{◌>>=◌}
use Rattle.xq_atoms.specs.Atom.{atomic_of}
use Rattle.xq_meaning.specs.Operators.{some_with, or_rest}
use Rattle.xq_functions.specs.Answers.{atomics}
use Rattle.xq_functions.proofs.ListLemmas.{from_here}
use Rattle.xq_functions.proofs.comparisons.some_with.Goals as goal

pub loop-atom-preserved : goal.loop-atom-preserved
loop-atom-preserved c =
    let i = c.loop-atom.atom-index in
    let right = c.args.right.now in
    let here = from_here atomic_of right i c.atom-item.result (omega arith) c.atom-item.is in
    let op = c.args.op in
    let left = atomic_of c.args.left.now in
    let rest = some_with op left (atomics (drop (i + 1) right)) in
    let e = ap (λ b. or_rest b rest) (sym c.if-compares.false) in
    e ∙ ap (λ j. j >>= (λ answer. or_rest answer rest)) c.in_ok-compares.ensures ∙ ap (some_with op left) (sym here) ∙ c.loop-atom.invariant

pub returns-then-compares : goal.returns-then-compares
returns-then-compares c =
    let i = c.loop-atom.atom-index in
    let right = c.args.right.now in
    let here = from_here atomic_of right i c.atom-item.result (omega arith) c.atom-item.is in
    let op = c.args.op in
    let left = atomic_of c.args.left.now in
    let rest = some_with op left (atomics (drop (i + 1) right)) in
    let e = ap (λ b. or_rest b rest) (sym c.if-compares.true) in
    e ∙ ap (λ j. j >>= (λ answer. or_rest answer rest)) c.in_ok-compares.ensures ∙ ap (some_with op left) (sym here) ∙ c.loop-atom.invariant

pub returns-in_err-compares : goal.returns-in_err-compares
returns-in_err-compares c =
    let i = c.loop-atom.atom-index in
    let right = c.args.right.now in
    let here = from_here atomic_of right i c.atom-item.result (omega arith) c.atom-item.is in
    let op = c.args.op in
    let left = atomic_of c.args.left.now in
    let rest = some_with op left (atomics (drop (i + 1) right)) in
    let is : c.from_residual.result ≡ Err c.in_err-compares.field-0.0 = search rules in
    is ∙ ap (λ j. j >>= (λ answer. or_rest answer rest)) c.in_err-compares.ensures ∙ ap (some_with op left) (sym here) ∙ c.loop-atom.invariant
