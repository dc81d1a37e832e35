-- What a call answers, by what a definition judges: its value, seen as the definition sees it; its
-- code; or a want, which no definition speaks of.
use Rattle.std.specs.Prelude.{◌≡◌, Result, Ok, Err}
use Rattle.xq_atoms.specs.declared.refusals.Code.{Code}
use Rattle.xq_atoms.specs.declared.refusals.Fault.{Fault}
use Rattle.xq_atoms.specs.declared.refusals.Fault.TheVariants.{Code as OfCode, Want as OfWant}
use Rattle.xq_atoms.specs.declared.refusals.Want.{Want}
use Rattle.xq_atoms.specs.declared.refusals.Want.TheVariants.{Memory}
use Rattle.xq_atoms.specs.Judged.{Judged}

-- the code that is judged; of a want something is told
abbrev pub IsRefusalOr : {Y : Type 0} → (Want → Type 0) → Judged Y → Fault → Type 0
IsRefusalOr tells judged (OfCode code) = judged ≡ Err code
IsRefusalOr tells judged (OfWant want) = tells want

-- the value or the code that is judged; of a want something is told
abbrev pub GivesOr : {X Y : Type 0} → (Want → Type 0) → (X → Y) → Judged Y → Result X Fault → Type 0
GivesOr tells view judged (Ok x) = judged ≡ Ok (view x)
GivesOr tells view judged (Err fault) = IsRefusalOr tells judged fault

-- nothing but memory is wanting
abbrev pub IsRefusal : {Y : Type 0} → Judged Y → Fault → Type 0
IsRefusal judged fault = IsRefusalOr (λ want. want ≡ Memory) judged fault

-- the value or the code that is judged; nothing but memory is wanting
abbrev pub Gives : {X Y : Type 0} → (X → Y) → Judged Y → Result X Fault → Type 0
Gives view judged result = GivesOr (λ want. want ≡ Memory) view judged result

-- this code, and then the cause holds, or nothing but memory is wanting
abbrev pub RefusesFor : Code → Type 0 → Fault → Type 0
RefusesFor code cause (OfCode other) = (other ≡ code) × cause
RefusesFor code cause (OfWant want) = want ≡ Memory

-- a want tells nothing: it is of memory, or of what rows are read from
abbrev pub GivesUnlessWanting : {X Y : Type 0} → (X → Y) → Judged Y → Result X Fault → Type 0
GivesUnlessWanting view judged result = GivesOr (λ want. Unit {0}) view judged result
