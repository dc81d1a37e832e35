use Rattle.std.proofs.Common.{◌≡◌, ◌++◌, ◌∷◌, [], Err, ap, sym, ◌∙◌, rules}
use Rattle.xq_atoms.specs.Judged.{◌>>=◌}
use Rattle.xq_atoms.specs.Atom.{atomic_of, judged_of}
use Rattle.xq_meaning.specs.Operators.{with_signs}
use Rattle.xq_functions.proofs.NumberLemmas.{with_signs-last}
use Rattle.xq_functions.proofs.arithmetic.with_signs.Goals as goal

pub loop-sign-preserved : goal.loop-sign-preserved
loop-sign-preserved c =
    let before = c.in-Some.before.now in
    let sign = c.in-Some.sign.now in
    let value = atomic_of c.loop-sign.value in
    let is : c.loop-sign.rest.now ≡ before ++ sign ∷ [] = search rules in
    ap (λ j. j >>= with_signs before) c.in_ok-value.ensures ∙ sym (with_signs-last before sign value) ∙ ap (λ signs. with_signs signs value) (sym is) ∙ c.loop-sign.invariant

pub returns-in_err-value : goal.returns-in_err-value
returns-in_err-value c =
    let before = c.in-Some.before.now in
    let sign = c.in-Some.sign.now in
    let value = atomic_of c.loop-sign.value in
    let is : c.loop-sign.rest.now ≡ before ++ sign ∷ [] = search rules in
    let result : c.from_residual.result ≡ Err c.in_err-value.field-0.0 = search rules in
    ap judged_of result ∙ ap (λ j. j >>= with_signs before) c.in_err-value.ensures ∙ sym (with_signs-last before sign value) ∙ ap (λ signs. with_signs signs value) (sym is) ∙ c.loop-sign.invariant
