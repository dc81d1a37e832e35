-- Tests of all elements of a list, and refusals.
use Rattle.std.proofs.Common.{◌≡◌, Bool, false, Ok, Err, ap, sym, ◌∙◌}
use Rattle.xq_atoms.specs.declared.refusals.Fault.{Fault}
use Rattle.xq_atoms.specs.declared.refusals.Fault.TheVariants.{Code as OfCode, Want as OfWant}
use Rattle.std.specs.Prelude.{if◌then◌else◌}
use Rattle.xq_atoms.specs.declared.refusals.Code.TheVariants.{XPTY0004}
use Rattle.xq_atoms.specs.Answers.{IsRefusal, RefusesFor}

pub Refuses-weaker : {P Q : Type 0} (fault : Fault) → RefusesFor XPTY0004 P fault → (P → Q) → RefusesFor XPTY0004 Q fault
Refuses-weaker (OfCode other) h f = (h.0, f h.1)
Refuses-weaker (OfWant want) h f = h

-- a judgement by a test
pub IsRefusal-judged : {A : Type 0} (test : Bool) (v : A) (fault : Fault) → RefusesFor XPTY0004 (test ≡ false) fault → IsRefusal (if test then Ok v else Err XPTY0004) fault
IsRefusal-judged test v (OfCode code) h = ap (λ b. if b then Ok v else Err XPTY0004) h.1 ∙ ap Err (sym h.0)
IsRefusal-judged test v (OfWant want) h = h
