-- A reading of an answer, one row at a time.
use Rattle.std.proofs.Common.{◌≡◌, ◌≤◌, ◌+◌, inl, inr, ℕ, List, [], ◌∷◌, ◌++◌, length, length-append, false, Some, None, Ok, IsTrue, refl, sym, subst, ◌∙◌, arith}
use Rattle.sqlite_value.specs.Order.{Row}
use Rattle.sqlite_trees.specs.View.{doubt}
use Rattle.sqlite_trees.specs.declared.store.Store.{Ghosts}
use Rattle.sqlite.specs.Effect.{Database}
use Rattle.sqlite.specs.Given.{HasGiven, HasBegun, Advances}
use Rattle.sqlite.specs.Held.{Held, state}
use Rattle.sqlite.specs.Listing.{understood, IsSourceOf, reads_listing}
use Rattle.sqlite.specs.Clock.{timed}
use Rattle.sqlite.specs.State.{State, HasCleanDisk, IsUnchanged, Shown, ShowsRows}
use Rattle.sqlite.proofs.Callers.{IsPlain, begun_plain, unchanged_then}
use Rattle.xq_tables.specs.Documents.{IsReady}
use Rattle.xq_tables.proofs.Selects.{shown_opens}
use Rattle.xq_tables.specs.private.Streams.{BeginsWith, GivesRows, Stays}

pub unchanged_itself : (s : State) → IsTrue s.is_open → IsUnchanged s s
unchanged_itself s up = (record { was_open = up; is_open = up; now_is = refl; committed_is = refl; mode = refl }, record { changes = refl; last_rowid = refl }, refl)

-- one row more is counted
pub one_longer : (count : ℕ) (rows : List Row) (row : Row) → count ≡ length rows → count + 1 ≡ length (rows ++ row ∷ [])
one_longer count rows row e = (let n = length-append rows (row ∷ []) in omega (arith, e, n))

-- an answer of a connection is one of that which it was before, where that is unchanged
pub shown_since : (sql : List ℕ) (params : Row) (old mid new : State) (rows : List Row) → IsPlain (understood old.now.schema sql) → IsUnchanged old mid → Shown sql params mid new rows → Shown sql params old new rows
unfolding Shown
shown_since sql params old mid new rows plain same h =
    let now : mid.now ≡ old.now = same.0.now_is in
    let is = subst (λ (d : Database). understood d.schema sql ≡ Ok h.0) now h.1.is in
    let none = (subst IsPlain is plain).0 in
    let it = rw none at h.2 in (
      h.0,
      record { is = is; whole = h.1.whole; given = h.1.given; now = h.1.now },
      subst (ShowsRows old new sql h.0 (timed params h.0.formats h.1.now) rows) (sym none) (it.0, subst (λ (d : Database). IsSourceOf (reads_listing d.schema sql) d it.0) now it.1, it.2, unchanged_then old mid new same it.3),
    )

module _ {S : Type 0} (g : Ghosts S) where
  -- a reading that had given no row has now given rows that have a property
  pub record IsUnderWay (first now : Held S) (P : List Row → Type 0) : Type 0 where
    pub mode : first.in_transaction ≡ false → now.in_transaction ≡ false
    pub clean : doubt (state g first).is_clean ≤ doubt (state g now).is_clean
    pub same : IsReady (state g now) → IsUnchanged (state g first) (state g now)
    pub given : HasCleanDisk (state g now) → (sql : List ℕ) → (params : Row) → HasGiven g sql params first [] → (rows : List Row) × HasGiven g sql params now rows × P rows

  pub at_first : (h : Held S) (P : List Row → Type 0) → P [] → IsUnderWay h h P
  at_first h P none = record {
    mode = λ outside. outside;
    clean = omega arith;
    same = λ up. unchanged_itself (state g h) up.1;
    given = λ clean sql params it. ([], it, none);
  }

  -- it may give more
  pub so_far : (first now : Held S) (P : List Row → Type 0) → IsUnderWay first now P → IsReady (state g now) → BeginsWith g first now P
  so_far first now P it ready = record { same = it.same ready; given = it.given ready.0 }

  pub gives_then : (first now : Held S) (P Q : List Row → Type 0) → ((rows : List Row) → P rows → Q rows) → GivesRows g first now P → GivesRows g first now Q
  gives_then first now P Q then gives sql params plain began = let all = gives sql params plain began in (all.0, all.1, then all.0 all.2)

  module _ (first mid now : Held S) (P : List Row → Type 0) (it : IsUnderWay first mid P) (clean : doubt (state g mid).is_clean ≤ doubt (state g now).is_clean)
      (same : HasCleanDisk (state g now) → IsUnchanged (state g mid) (state g now)) where
    -- one row more
    pub one_more : (row : Row) (Q : List Row → Type 0) → (mid.in_transaction ≡ false → now.in_transaction ≡ false) → (HasCleanDisk (state g now) → Advances g mid now (Some row)) → ((rows : List Row) → P rows → Q (rows ++ row ∷ []))
        → IsUnderWay first now Q
    one_more row Q mode moved more = record {
      mode = λ outside. mode (it.mode outside);
      clean = omega (arith, it.clean, clean);
      same = λ up. let step = same up.0 in unchanged_then (state g first) (state g mid) (state g now) (it.same (omega (arith, up.0, clean), step.0.was_open)) step;
      given = λ late sql params began. let so_far = it.given (omega (arith, late, clean)) sql params began in (so_far.0 ++ row ∷ [], moved late sql params so_far.0 so_far.1, more so_far.0 so_far.2);
    }

    -- past the last row
    pub at_end : HasCleanDisk (state g now) → Advances g mid now None → GivesRows g first now P
    at_end late moved sql params plain began =
        let early : HasCleanDisk (state g mid) = omega (arith, late, clean) in
        let so_far = it.given early sql params began in
        (so_far.0, shown_since sql params (state g first) (state g mid) (state g now) so_far.0 plain (it.same (early, (same late).0.was_open)) (moved sql params so_far.0 so_far.1), so_far.2)

  module _ (sql : List ℕ) (params : Row) (old begun : Held S) (it : HasBegun g sql params old begun) where
    pub begun_opens : IsTrue (state g begun).is_open → IsTrue (state g old).is_open
    begun_opens up = go it
      where
        go : HasBegun g sql params old begun → IsTrue (state g old).is_open
        go (inl h) = h.1.0.was_open
        go (inr h) = shown_opens (state g old) (state g begun) sql params _ h.1

    module _ (plain : IsPlain (understood old.schema sql)) (new : Held S) where
      -- what has nothing that waits for a commit is as it was
      pub stays_same : (IsTrue (state g old).is_open → (state g old).now ≡ (state g old).committed) → Stays (state g begun) (state g new) → (state g new).now ≡ (state g old).now
      stays_same settled (up, saw) =
          let same = (begun_plain g sql params old begun plain it).1.0 in
          elim saw [
            | inl now ↦ now ∙ same.now_is
            | inr committed ↦ committed ∙ same.committed_is ∙ sym (settled same.was_open)
          ]

      -- the whole answer
      pub gives_shown : (P : List Row → Type 0) → GivesRows g begun new P → (rows : List Row) × Shown sql params (state g old) (state g new) rows × P rows
      gives_shown P gives =
          let first = begun_plain g sql params old begun plain it in
          let there = subst (λ (d : Database). IsPlain (understood d.schema sql)) (sym first.1.0.now_is) plain in
          let all = gives sql params there first.0 in
          (all.0, shown_since sql params (state g old) (state g begun) (state g new) all.0 plain first.1 all.1, all.2)
