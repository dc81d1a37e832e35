-- What a statement leaves that cannot be compiled.
use Rattle.std.proofs.Common.{◌≡◌, ℕ, List, inl, inr, IsTrue, sym, ◌∙◌}
use Rattle.sqlite_value.specs.Order.{Row}
use Rattle.sqlite.specs.declared.error.Error.{Error}
use Rattle.sqlite.specs.State.{State, IsNotRun}

-- the database is as it was, and was open where it is
pub not_run : (old new : State) (sql : List ℕ) (params : Row) (e : Error) → (IsTrue old.is_open → old.now ≡ old.committed) → IsTrue new.is_open → IsNotRun old new sql params e → (new.now ≡ old.now) × IsTrue old.is_open
unfolding IsNotRun
not_run old new sql params e settled up (inl h) = (h.1.0.now_is, h.1.0.was_open)
not_run old new sql params e settled up (inr h) = let was = h.3.was_open up in ((h.3.undone up).0 ∙ sym (settled was), was)
