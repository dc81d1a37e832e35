-- From what a call gave to what its caller gives.
use Rattle.std.proofs.Common.{◌≡◌, Err, Result, sym, subst}
use Rattle.xq_atoms.specs.declared.refusals.Code.{Code}
use Rattle.xq_atoms.specs.declared.refusals.Fault.{Fault}
use Rattle.xq_atoms.specs.declared.refusals.Fault.TheVariants.{Code as OfCode, Want as OfWant}
use Rattle.xq_atoms.specs.Judged.{Judged}
use Rattle.xq_atoms.specs.Answers.{Gives}

-- another call's fault, where its code is this call's too
pub Gives-fault : {A B C D : Type 0} (view : A → B) (judged : Judged B) (other : C → D) (outcome : Judged D) (fault : Fault) (r : Result A Fault) → r ≡ Err fault → Gives other outcome (Err fault) → ((code : Code) → outcome ≡ Err code → judged ≡ Err code) → Gives view judged r
Gives-fault view judged other outcome (OfCode code) r is gives same = subst (Gives view judged) (sym is) (same code gives)
Gives-fault view judged other outcome (OfWant want) r is gives same = subst (Gives view judged) (sym is) gives

-- the same outcome
pub Gives-same : {A B : Type 0} (view : A → B) (judged other : Judged B) (r : Result A Fault) → judged ≡ other → Gives view other r → Gives view judged r
Gives-same view judged other r is gives = subst (λ j. Gives view j r) (sym is) gives

-- a code
pub Gives-code : {A B : Type 0} (view : A → B) (judged : Judged B) (code : Code) (r : Result A Fault) → r ≡ Err (OfCode code) → judged ≡ Err code → Gives view judged r
Gives-code view judged code r is e = subst (Gives view judged) (sym is) e
