-- One step: the answer, or want of memory or of the store, which changes nothing.
use Rattle.std.specs.Prelude.{◌≡◌, ℕ, List, ◌⊎◌}
use Rattle.xq_atoms.specs.Code.{want_text}
use Rattle.xq_atoms.specs.declared.refusals.Code.{Code}
use Rattle.xq_atoms.specs.declared.refusals.Code.TheVariants.{ProfFrame, ProfAddress, ProfUtf8}
use Rattle.xq_atoms.specs.declared.refusals.Want.{Want}
use Rattle.xq_atoms.specs.declared.refusals.Want.TheVariants.{Memory, Store}
use Rattle.xq_tables.specs.Documents.{Map}
use Rattle.xq_frame.specs.Request.{RequestMeaning}
use Rattle.xq_server.specs.Answer.{RefusesRequest, Answers}

-- these codes are found without memory
abbrev pub IsFree : Code → Type 0
IsFree code = (code ≡ ProfFrame) ⊎ (code ≡ ProfAddress) ⊎ (code ≡ ProfUtf8)

-- memory is never wanted in place of one of these codes, and the store in place of none that comes
-- before the documents matter
abbrev pub MayWant : RequestMeaning → Want → Type 0
MayWant asked Memory = (code : Code) → RefusesRequest asked code → ¬ (IsFree code)
MayWant asked Store = (code : Code) → ¬ (RefusesRequest asked code)

-- over the documents m the request may have this outcome: documents, status, text
abbrev pub Step : Map → RequestMeaning → Map → ℕ → List ℕ → Type 0
Step m asked new status text = Answers m asked
    (record { documents = new; status = status; text = text })
    ⊎ ((want : Want) × MayWant asked want × (status ≡ 2) × (text ≡ want_text want) × (new ≡ m))
