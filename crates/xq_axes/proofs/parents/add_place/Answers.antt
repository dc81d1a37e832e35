use Rattle.std.proofs.Common.{◌≡◌, ℕ, ◌<◌, ◌≤◌, List, length, get_or, nat_cmp, Ok, Err, inl, inr, sym, ap, subst, ◌∙◌, arith}
use Rattle.std.specs.List.Sorted.{IsBinarySearchResult}
use Rattle.std.proofs.lemmas.Bool.{cases_lt}
use Rattle.std.proofs.lemmas.List.Sorted.{searched}
use Rattle.xq_axes.specs.private.Hits.{is_among, IsRising}
use Rattle.xq_axes.proofs.Lists.{among_at}
use Rattle.xq_axes.proofs.KnownParents.{IsBetween, rising_between, among_between, among_same}
use Rattle.xq_axes.proofs.parents.add_place.Goals as goal

flat : (us : List ℕ) → IsRising us → (i j : ℕ) → i ≤ j → j < length us → get_or us i 0 ≤ get_or us j 0
flat us up i j a b = elim (cases_lt i j) [
  | inl l ↦ (let z = up i j l b in omega (arith, z))
  | inr l ↦ (let same : i ≡ j = omega (arith, a, l) in subst (λ k. get_or us i 0 ≤ get_or us k 0) same (omega arith))
]

between : (us seen : List ℕ) (u index : ℕ) → seen ≡ us → IsBinarySearchResult (λ y. nat_cmp y u) seen (Err index) → IsRising us → IsBetween us index u
between us seen u index e h up =
    let w = searched us u (Err index) (subst (λ xs. IsBinarySearchResult (λ y. nat_cmp y u) xs (Err index)) e h) (flat us up) in
    record { within = w.0; before = w.1; after = w.2 }

pub returns-in_ok-insert-clause-rising : goal.returns-in_ok-insert-clause-rising
returns-in_ok-insert-clause-rising c = λ up. (
    let us = c.args.places.now.items in
    let at = between us c.deref-3.result.now c.args.place c.in-Err.index c.deref-3.ensures.value c.in-Err.ensures.position up in
    subst (λ xs. IsRising xs) (sym c.in_ok-insert.ensures.items) (rising_between us c.in-Err.index c.args.place at up))

pub returns-in_ok-insert-clause-among : goal.returns-in_ok-insert-clause-among
returns-in_ok-insert-clause-among c = λ up n. (
    let us = c.args.places.now.items in
    let at = between us c.deref-3.result.now c.args.place c.in-Err.index c.deref-3.ensures.value c.in-Err.ensures.position up in
    ap (λ xs. is_among xs n) c.in_ok-insert.ensures.items ∙ among_between us c.in-Err.index c.args.place at n)

pub returns-in_default-clause-among : goal.returns-in_default-clause-among
returns-in_default-clause-among c = λ up n. (
    let us = c.args.places.now.items in
    let u = c.args.place in
    let w = searched us u (Ok c.in_default.field-0) (subst (λ xs. IsBinarySearchResult (λ y. nat_cmp y u) xs (Ok c.in_default.field-0)) c.deref-3.ensures.value c.in_default.ensures.position) (flat us up) in
    among_same us u n (among_at us c.in_default.field-0 u w.0 w.1))
