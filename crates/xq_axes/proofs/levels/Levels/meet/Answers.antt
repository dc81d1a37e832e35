use Rattle.std.proofs.Common.{◌≡◌, ℕ, List, ◌-◌, [], ◌∷◌, Bool, true, false, ◌&&◌, ◌||◌, eqb, nat_le, length, sym, ap, subst, ◌∙◌}
use Rattle.std.specs.Prelude.{slice_get}
use Rattle.std.proofs.lemmas.List.Folds.{list_any-append}
use Rattle.xq_axes.specs.private.Hits.{is_among, IsRising}
use Rattle.xq_axes.specs.private.Waiting.{is_level}
use Rattle.xq_axes.proofs.Deepest.{ends_kept, own_kept, less_kept, rising_more, or_none, already}
use Rattle.xq_axes.proofs.levels.Levels.meet.Goals.{else-waits-via-then-waits+else-not-is_awaited, else-waits-via-else-waits}
use Rattle.xq_axes.proofs.levels.Levels.meet.Goals as goal

-- whether the levels that are left end at the level
is_last : (old left seen : List ℕ) (level : ℕ) (b : Bool) → IsRising left → ((m : ℕ) → is_among left m ≡ (is_among old m && nat_le m level)) → seen ≡ left → b ≡ is_level (slice_get seen (length seen - 1)) level → b ≡ is_among old level
is_last old left seen level b up kept e h = h ∙ ap (λ xs. is_level (slice_get xs (length xs - 1)) level) e ∙ ends_kept old left level kept up

pub invariant_of-self-then-not-is_awaited : goal.invariant_of-self-then-not-is_awaited
invariant_of-self-then-not-is_awaited c =
    let old = c.self.inside.list.items in
    let left = c.leave_deeper.new.levels.items in
    let level = c.args.level in
    let up = c.leave_deeper.ensures.rising c.self.invariant in
    let kept = c.leave_deeper.ensures.kept c.self.invariant in
    let none : is_among old level ≡ false = sym (is_last old left c.deref.result.now level c.ends_at-is_awaited.result up kept c.deref.ensures.value c.ends_at-is_awaited.ensures) ∙ c.if-not-is_awaited.true in
    subst (λ xs. IsRising xs) (sym c.in_ok-push.ensures.items) (rising_more left level up (less_kept old left level kept none))

pub returns-in_ok-push-clause-awaited : goal.returns-in_ok-push-clause-awaited
returns-in_ok-push-clause-awaited c =
    is_last c.self.inside.list.items c.leave_deeper.new.levels.items c.deref.result.now c.args.level c.ends_at-is_awaited.result (c.leave_deeper.ensures.rising c.self.invariant) (c.leave_deeper.ensures.kept c.self.invariant) c.deref.ensures.value c.ends_at-is_awaited.ensures
    ∙ ap (λ xs. is_among xs c.args.level) c.self.view_is

pub returns-in_ok-push-clause-levels : goal.returns-in_ok-push-clause-levels
returns-in_ok-push-clause-levels c = λ m. (
    let left = c.leave_deeper.new.levels.items in
    let level = c.args.level in
    let kept = c.leave_deeper.ensures.kept c.self.invariant m ∙ ap (λ xs. is_among xs m && nat_le m level) c.self.view_is in
    ap (λ xs. is_among xs m) c.in_ok-push.ensures.items ∙ list_any-append (λ v. eqb v m) left (level ∷ []) ∙ ap (λ b. b || (eqb level m || false)) kept
    ∙ ap (λ b. (is_among c.args.self.now m && nat_le m level) || b) (or_none (eqb level m) ∙ ap (λ w. w && eqb level m) (sym c.if-waits.true)))

pub returns-else-waits-clause-awaited : goal.returns-else-waits-clause-awaited
returns-else-waits-clause-awaited c =
    is_last c.self.inside.list.items c.leave_deeper.new.levels.items c.deref.result.now c.args.level c.ends_at-is_awaited.result (c.leave_deeper.ensures.rising c.self.invariant) (c.leave_deeper.ensures.kept c.self.invariant) c.deref.ensures.value c.ends_at-is_awaited.ensures
    ∙ ap (λ xs. is_among xs c.args.level) c.self.view_is

pub returns-else-waits-clause-levels : goal.returns-else-waits-clause-levels
returns-else-waits-clause-levels c = λ m. (
    let old = c.self.inside.list.items in
    let left = c.leave_deeper.new.levels.items in
    let level = c.args.level in
    let all = c.leave_deeper.ensures.kept c.self.invariant in
    let kept = all m ∙ ap (λ xs. is_among xs m && nat_le m level) c.self.view_is in
    let awaited = is_last old left c.deref.result.now level c.ends_at-is_awaited.result (c.leave_deeper.ensures.rising c.self.invariant) all c.deref.ensures.value c.ends_at-is_awaited.ensures in
    elim c.else-waits.branch [
      | else-waits-via-then-waits+else-not-is_awaited w ↦ (
          let here : is_among left level ≡ true = own_kept old left level all ∙ sym awaited ∙ w.if-not-is_awaited.false in
          ap (λ xs. is_among xs m) w.self-is ∙ already left level m c.args.waits here ∙ ap (λ b. b || (c.args.waits && eqb level m)) kept)
      | else-waits-via-else-waits w ↦
          ap (λ xs. is_among xs m) w.self-is ∙ kept ∙ sym (or_none (is_among c.args.self.now m && nat_le m level)) ∙ ap (λ b. (is_among c.args.self.now m && nat_le m level) || (b && eqb level m)) (sym w.if-waits.false)
    ])
