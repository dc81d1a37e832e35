-- Loops that stop at the first refusal, over a state of any kind.
use Rattle.std.proofs.Common.{◌≡◌, ℕ, suc, ◌+◌, ◌<◌, zero, List, [], ◌∷◌, length, map, drop, get_or, refl, sym, ◌∙◌, ap, subst, add-one, arith, Ok, Err, Some, Result, Bool, true, false, not}
use Rattle.std.specs.Prelude.{IsErrAnd, slice_get, if◌then◌else◌}
use Rattle.std.proofs.lemmas.Option.{none-some, same_Some}
use Rattle.std.proofs.Math.Seq.{drop-cons}
use Rattle.xq_atoms.specs.declared.refusals.Fault.{Fault}
use Rattle.xq_atoms.specs.declared.refusals.Fault.TheVariants.{Code as OfCode, Want as OfWant}
use Rattle.xq_trees.specs.Tree.{Tree}
use Rattle.xq_atoms.specs.declared.refusals.Code.{Code}
use Rattle.xq_atoms.specs.Judged.{Judged}
use Rattle.xq_meaning.specs.Doing.{Doing, Outcome, go_on, in_turn, first_that, unless_found}
use Rattle.xq_operators.specs.Views.{GivesAs}
use Rattle.xq_eval.specs.private.Results.{GivesPlain}

-- what is left of a list begins with its element at the index
pub left_over : {X A : Type 0} (view : X → A) (xs : List X) (i : ℕ) (x : X) → i < length xs → x ≡ get_or xs i x → map view (drop i xs) ≡ view x ∷ map view (drop (i + 1) xs)
left_over view xs i x h is =
    let e : drop i xs ≡ x ∷ drop (i + 1) xs = rw add-one (drop-cons xs i x h ∙ ap (λ y. y ∷ drop (suc i) xs) (sym is)) in
    ap (map view) e

pub got_at : {X : Type 0} (xs : List X) (i : ℕ) (x : X) → slice_get xs i ≡ Some x → (i < length xs) × (x ≡ get_or xs i x)
got_at [] i x e = absurd (none-some x e)
got_at (y ∷ ys) zero x e = (omega arith, sym (same_Some y x e))
got_at (y ∷ ys) (suc i) x e = let w = got_at ys i x e in (omega (arith, w.0), w.1)

pub left_from : {X A : Type 0} (view : X → A) (xs : List X) (i : ℕ) (x : X) → slice_get xs i ≡ Some x → map view (drop i xs) ≡ view x ∷ map view (drop (i + 1) xs)
left_from view xs i x e = let w = got_at xs i x e in left_over view xs i x w.0 w.1

-- and with the next one
pub two_left : {X A : Type 0} (view : X → A) (xs : List X) (i : ℕ) (x y : X) → i < length xs → x ≡ get_or xs i x → slice_get xs (i + 1) ≡ Some y
    → map view (drop i xs) ≡ view x ∷ view y ∷ map view (drop (i + 1 + 1) xs)
two_left view xs i x y h is next =
    left_over view xs i x h is ∙ ap (λ l. view x ∷ l) (left_from view xs (i + 1) y next)

-- whether one more was taken
pub none_taken : (taken : Bool) (i : ℕ) → taken ≡ false → i + (if taken then 1 else 0) ≡ i
none_taken true i h = absurd (cc)
none_taken false i h = omega arith

pub one_taken : (taken : Bool) (i : ℕ) → taken ≡ true → i + (if taken then 1 else 0) ≡ i + 1 + 0
one_taken true i h = omega arith
one_taken false i h = absurd (cc)

abbrev code_or : {A : Type 0} → Code → Judged A → Code
code_or other (Ok x) = other
code_or other (Err code) = code

abbrev has_value : {A : Type 0} → Judged A → Bool
has_value (Ok x) = true
has_value (Err code) = false

-- a code of the first part is that of all that goes on from it
pub stops : {B C : Type 0} (o : Outcome B) (next : B → Doing C) (code : Code) → o.0 ≡ Err code → (go_on o next).0 ≡ Err code
stops (Ok x, f) next code h = absurd (let e : true ≡ false = ap has_value h in cc)
stops (Err other, f) next code h = ap Err (ap (code_or code) h)

module _ {S B A : Type 0} (read : List Tree → S → B) (In : List Tree → S → Type 0) (act : B → A → Doing B) where
  -- where the world is clean and the premise holds, the state and the turns that are left give what the whole gives
  pub record Turns (premise clean : Type 0) (state : S) (left : List A) (f : List Tree) (whole : Outcome B) : Type 0 where
    pub rest : clean → premise → In f state × (in_turn act (read f state) left f ≡ whole)

  pub turns_next : {premise clean clean' : Type 0} {state : S} {left : List A} {f : List Tree} {whole : Outcome B} (state' : S) (x : A) (left' : List A) (f' : List Tree)
      → Turns premise clean state left f whole → left ≡ x ∷ left' → (clean' → clean)
      → (clean' → premise → In f state → In f' state' × (act (read f state) x f ≡ (Ok (read f' state'), f')))
      → Turns premise clean' state' left' f' whole
  turns_next {state = state} {left} {f} state' x left' f' now e was step = record {
    rest = λ c p.
        let n = now.rest (was c) p in
        let s = step c p n.0 in
        (s.0, sym (ap (λ o. go_on o (λ next. in_turn act next left')) s.1) ∙ sym (ap (λ ys. in_turn act (read f state) ys f) e) ∙ n.1);
  }

  pub turns_same : {premise clean : Type 0} {state : S} {left : List A} {f : List Tree} {whole : Outcome B} (left' : List A) → Turns premise clean state left f whole → left ≡ left' → Turns premise clean state left' f whole
  turns_same {state = state} {left} {f} left' now e = record {
    rest = λ c p. (let n = now.rest c p in (n.0, ap (λ ys. in_turn act (read f state) ys f) (sym e) ∙ n.1));
  }

  -- two turns in one
  both_of : (o : Outcome B) (y : A) (left' : List A) → go_on (go_on o (λ next. act next y)) (λ next. in_turn act next left') ≡ go_on o (λ next. in_turn act next (y ∷ left'))
  both_of (Ok b, f) y left' = refl
  both_of (Err code, f) y left' = refl

  pub turns_two : {premise clean clean' : Type 0} {state : S} {left : List A} {f : List Tree} {whole : Outcome B} (state' : S) (x y : A) (left' : List A) (f' : List Tree)
      → Turns premise clean state left f whole → left ≡ x ∷ y ∷ left' → (clean' → clean)
      → (clean' → premise → In f state → In f' state' × (go_on (act (read f state) x f) (λ next. act next y) ≡ (Ok (read f' state'), f')))
      → Turns premise clean' state' left' f' whole
  turns_two {state = state} {left} {f} state' x y left' f' now e was step = record {
    rest = λ c p.
        let n = now.rest (was c) p in
        let s = step c p n.0 in
        (s.0, sym (ap (λ o. go_on o (λ next. in_turn act next left')) s.1) ∙ both_of (act (read f state) x f) y left' ∙ sym (ap (λ ys. in_turn act (read f state) ys f) e) ∙ n.1);
  }

  -- two turns that give what the second gives from another state
  pub turns_from : {premise clean clean' : Type 0} {state : S} {left : List A} {f : List Tree} {whole : Outcome B} (state' : S) (x y : A) (left' : List A) (f' : List Tree)
      → Turns premise clean state left f whole → left ≡ x ∷ y ∷ left' → (clean' → clean)
      → (clean' → premise → In f state → In f' state' × (go_on (act (read f state) x f) (λ next. act next y) ≡ act (read f' state') y f'))
      → Turns premise clean' state' (y ∷ left') f' whole
  turns_from {state = state} {left} {f} state' x y left' f' now e was step = record {
    rest = λ c p.
        let n = now.rest (was c) p in
        let s = step c p n.0 in
        (s.0, sym (ap (λ o. go_on o (λ next. in_turn act next left')) s.1) ∙ both_of (act (read f state) x f) y left' ∙ sym (ap (λ ys. in_turn act (read f state) ys f) e) ∙ n.1);
  }

  pub turns_stop_two : {R T : Type 0} (view : R → T) (out : List Tree → T → B) (Out : List Tree → T → Type 0) {premise clean clean' : Type 0} {state : S} {left : List A} {f : List Tree} {whole : Outcome B} (x y : A) (left' : List A) (f' : List Tree) (e : Fault)
      → Turns premise clean state left f whole → left ≡ x ∷ y ∷ left' → (clean' → clean)
      → (clean' → premise → In f state → GivesAs view out Out (go_on (act (read f state) x f) (λ next. act next y)) f' (Err e))
      → clean' → premise → GivesAs view out Out whole f' (Err e)
  turns_stop_two view out Out x y left' f' (OfWant want) now e was step c p = tt
  turns_stop_two view out Out {state = state} {left} {f} x y left' f' (OfCode code) now e was step c p =
      let n = now.rest (was c) p in
      let whole_is = sym n.1 ∙ ap (λ ys. in_turn act (read f state) ys f) e ∙ sym (both_of (act (read f state) x f) y left') in
      ap (λ o. o.0) whole_is ∙ stops (go_on (act (read f state) x f) (λ next. act next y)) (λ next. in_turn act next left') code (step c p n.0)

  pub turns_stop : {R T : Type 0} (view : R → T) (out : List Tree → T → B) (Out : List Tree → T → Type 0) {premise clean clean' : Type 0} {state : S} {left : List A} {f : List Tree} {whole : Outcome B} (x : A) (left' : List A) (f' : List Tree) (e : Fault)
      → Turns premise clean state left f whole → left ≡ x ∷ left' → (clean' → clean)
      → (clean' → premise → In f state → GivesAs view out Out (act (read f state) x f) f' (Err e))
      → clean' → premise → GivesAs view out Out whole f' (Err e)
  turns_stop view out Out x left' f' (OfWant want) now e was step c p = tt
  turns_stop view out Out {state = state} {left} {f} x left' f' (OfCode code) now e was step c p =
      let n = now.rest (was c) p in
      let whole_is = sym n.1 ∙ ap (λ ys. in_turn act (read f state) ys f) e in
      ap (λ o. o.0) whole_is ∙ stops (act (read f state) x f) (λ next. in_turn act next left') code (step c p n.0)

  pub turns_end : {premise clean : Type 0} {state : S} {left : List A} {f : List Tree} {whole : Outcome B}
      → Turns premise clean state left f whole → left ≡ [] → clean → premise → In f state × (whole ≡ (Ok (read f state), f))
  turns_end {state = state} {left} {f} now e c p =
      let n = now.rest c p in
      (n.0, sym n.1 ∙ ap (λ ys. in_turn act (read f state) ys f) e)

-- a refusal that `?` hands on
pub handed_on : {R S B : Type 0} (view : R → S) (read : List Tree → S → B) (In : List Tree → S → Type 0) (outcome : Outcome B) (f : List Tree) (e : Fault) (r : Result R Fault) → IsErrAnd r (λ e'. e' ≡ e) → GivesAs view read In outcome f (Err e) → GivesAs view read In outcome f r
handed_on view read In outcome f e (Err e') h g = subst (λ x. GivesAs view read In outcome f (Err x)) (sym h) g
handed_on view read In outcome f e (Ok v) h g = elim h [ ]

-- # Until one decides

pub found_is : (wanted : Bool) (rest : Doing Bool) (f : List Tree) → unless_found wanted wanted rest f ≡ (Ok wanted, f)
found_is true rest f = refl
found_is false rest f = refl

pub other_is : (wanted answer : Bool) (rest : Doing Bool) (f : List Tree) → answer ≡ not wanted → unless_found wanted answer rest f ≡ rest f
other_is true true rest f h = absurd (let e : true ≡ false = h in cc)
other_is true false rest f h = refl
other_is false true rest f h = refl
other_is false false rest f h = absurd (let e : false ≡ true = h in cc)

module _ {A : Type 0} (wanted : Bool) (act : A → Doing Bool) where
  -- where the world is clean and the premise holds, those that are left give what the whole gives
  pub record Tries (premise clean : Type 0) (left : List A) (f : List Tree) (whole : Outcome Bool) : Type 0 where
    pub rest : clean → premise → first_that wanted act left f ≡ whole

  next_is : (x : A) (left : List A) (answer : Bool) (f f' : List Tree) → act x f ≡ (Ok answer, f') → first_that wanted act (x ∷ left) f ≡ unless_found wanted answer (first_that wanted act left) f'
  next_is x left answer f f' e = ap (λ o. go_on o (λ b. unless_found wanted b (first_that wanted act left))) e

  pub tries_next : {premise clean clean' : Type 0} {left : List A} {f : List Tree} {whole : Outcome Bool} (x : A) (left' : List A) (answer : Bool) (f' : List Tree)
      → Tries premise clean left f whole → left ≡ x ∷ left' → (clean' → clean) → answer ≡ not wanted
      → (clean' → premise → act x f ≡ (Ok answer, f'))
      → Tries premise clean' left' f' whole
  tries_next {left = left} {f} x left' answer f' now e was other step = record {
    rest = λ c p. sym (other_is wanted answer (first_that wanted act left') f' other) ∙ sym (next_is x left' answer f f' (step c p)) ∙ ap (λ xs. first_that wanted act xs f) (sym e) ∙ now.rest (was c) p;
  }

  pub tries_found : {premise clean clean' : Type 0} {left : List A} {f : List Tree} {whole : Outcome Bool} (x : A) (left' : List A) (f' : List Tree)
      → Tries premise clean left f whole → left ≡ x ∷ left' → (clean' → clean)
      → (clean' → premise → act x f ≡ (Ok wanted, f'))
      → clean' → premise → whole ≡ (Ok wanted, f')
  tries_found {left = left} {f} x left' f' now e was step c p =
      sym (now.rest (was c) p) ∙ ap (λ xs. first_that wanted act xs f) e ∙ next_is x left' wanted f f' (step c p) ∙ found_is wanted (first_that wanted act left') f'

  pub tries_stop : {premise clean clean' : Type 0} {left : List A} {f : List Tree} {whole : Outcome Bool} (x : A) (left' : List A) (f' : List Tree) (e : Fault)
      → Tries premise clean left f whole → left ≡ x ∷ left' → (clean' → clean)
      → (clean' → premise → GivesPlain (act x f) f' (Err e))
      → clean' → premise → GivesPlain whole f' (Err e)
  tries_stop x left' f' (OfWant want) now e was step c p = tt
  tries_stop {left = left} {f} x left' f' (OfCode code) now e was step c p =
      ap (λ o. o.0) (sym (now.rest (was c) p) ∙ ap (λ xs. first_that wanted act xs f) e) ∙ stops (act x f) (λ b. unless_found wanted b (first_that wanted act left')) code (step c p)

-- a refusal of the first part of what a whole does, that `?` hands on
pub cut : {R R' S S' B C : Type 0} (view : R → S) (read : List Tree → S → B) (In : List Tree → S → Type 0) (view' : R' → S') (read' : List Tree → S' → C) (In' : List Tree → S' → Type 0) (whole : Outcome C) (o : Outcome B) (next : B → Doing C) (f : List Tree) (e : Fault) (r : Result R' Fault)
    → whole ≡ go_on o next → IsErrAnd r (λ e'. e' ≡ e) → GivesAs view read In o f (Err e) → GivesAs view' read' In' whole f r
cut view read In view' read' In' whole o next f (OfWant want) r is h given = handed_on view' read' In' whole f (OfWant want) r h tt
cut view read In view' read' In' whole o next f (OfCode code) r is h given = handed_on view' read' In' whole f (OfCode code) r h (ap (λ w. w.0) is ∙ stops o next code given)
