-- Names and slots: what a name stands for is the value of its last slot.
use Rattle.std.proofs.Common.{◌≡◌, ℕ, suc, ◌+◌, ◌-◌, ◌≤◌, List, [], ◌∷◌, ◌++◌, length, Bool, true, false, Option, Some, None, refl, sym, ap, ◌∙◌, arith, if◌then◌else◌}
use Rattle.std.specs.Prelude.{bytes_eq}
use Rattle.std.specs.Option.{option_or}
use Rattle.std.specs.List.{zip}
use Rattle.std.proofs.lemmas.List.{length-append}
use Rattle.xq_atoms.specs.Text.{Text}
use Rattle.xq_trees.specs.Tuples.{value_at}
use Rattle.xq_meaning.specs.Items.{Item}
use Rattle.xq_meaning.specs.Meaning.{Environment, bind, bind_all, no_variable}
use Rattle.xq_meaning.specs.PlanMeaning.{Slots}
use Rattle.xq_meaning.specs.Same.{environment}
use Rattle.xq_expressions.specs.Scopes.{last_place}

abbrev Late : ℕ → Option ℕ → Type 0
Late start None = Unit {0}
Late start (Some n) = start ≤ n

late_step : (test : Bool) (later : Option ℕ) (start : ℕ) → Late (start + 1) later →
    Late start (option_or later (if test then Some start else None))
late_step true None start h = omega arith
late_step false None start h = tt
late_step test (Some n) start h = omega (arith, h)

late : (v : Text) (start : ℕ) (names : List Text) → Late start (last_place v start names)
late v start [] = tt
late v start (w ∷ ws) =
    late_step (bytes_eq v w) (last_place v (start + 1) ws) start (late v (start + 1) ws)

-- the value at a place that is counted from a number
abbrev pub found_at : ℕ → Slots → List Item → Option ℕ → List Item
found_at start slots other None = other
found_at start slots other (Some n) = value_at (n - start) slots

lookup_step : (test : Bool) (later : Option ℕ) (start : ℕ) (x : List Item) (xs : Slots) (other : List Item) →
    Late (start + 1) later →
    found_at (start + 1) xs (if test then x else other) later
    ≡ found_at start (x ∷ xs) other (option_or later (if test then Some start else None))
lookup_step true None start x xs other h =
    let e : 0 ≡ start - start = omega arith in
    ap (λ k. value_at k (x ∷ xs)) e
lookup_step false None start x xs other h = refl
lookup_step test (Some n) start x xs other h =
    let e : suc (n - (start + 1)) ≡ n - start = omega (arith, h) in
    ap (λ k. value_at k (x ∷ xs)) e

pub lookup : (v : Text) (start : ℕ) (names : List Text) (slots : Slots) (env : Environment) →
    length slots ≡ length names →
    bind_all env (zip names slots) v ≡ found_at start slots (env v) (last_place v start names)
lookup v start [] [] env h = refl
lookup v start [] (x ∷ xs) env h = absurd (omega (arith, h))
lookup v start (w ∷ ws) [] env h = absurd (omega (arith, h))
lookup v start (w ∷ ws) (x ∷ xs) env h =
    lookup v (start + 1) ws xs (bind w env x) (omega (arith, h))
    ∙ lookup_step (bytes_eq v w) (last_place v (start + 1) ws) start x xs (env v) (late v (start + 1) ws)

pub bind_more : (outer : List Text) (slots : Slots) (own : List Text) (more : Slots) (env : Environment) →
    length slots ≡ length outer →
    bind_all env (zip (outer ++ own) (slots ++ more)) ≡ bind_all (bind_all env (zip outer slots)) (zip own more)
bind_more [] [] own more env h = refl
bind_more [] (x ∷ xs) own more env h = absurd (omega (arith, h))
bind_more (w ∷ ws) [] own more env h = absurd (omega (arith, h))
bind_more (w ∷ ws) (x ∷ xs) own more env h = bind_more ws xs own more (bind w env x) (omega (arith, h))

pub open_more : (outer : List Text) (slots : Slots) (own : List Text) (more : Slots) →
    length slots ≡ length outer →
    environment (outer ++ own) (slots ++ more) ≡ bind_all (environment outer slots) (zip own more)
open_more outer slots own more h = bind_more outer slots own more no_variable h

pub as_long : (outer own : List Text) (slots more : Slots) → length slots ≡ length outer →
    length more ≡ length own → length (slots ++ more) ≡ length (outer ++ own)
as_long outer own slots more h k =
    length-append slots more ∙ (λ i. h i + k i) ∙ sym (length-append outer own)

-- # A name among those from a place on

-- counted from there

pub slot_is : (v : Text) (names : List Text) (slots : Slots) (n : ℕ) → length slots ≡ length names →
    last_place v 0 names ≡ Some n → value_at n slots ≡ environment names slots v
slot_is v names slots n h is =
    let e : n ≡ n - 0 = omega arith in
    ap (λ k. value_at k slots) e ∙ sym (lookup v 0 names slots no_variable h ∙ ap (found_at 0 slots []) is)

pub no_slot_is : (v : Text) (names : List Text) (slots : Slots) → length slots ≡ length names →
    last_place v 0 names ≡ None → [] ≡ environment names slots v
no_slot_is v names slots h is =
    sym (lookup v 0 names slots no_variable h ∙ ap (found_at 0 slots []) is)
