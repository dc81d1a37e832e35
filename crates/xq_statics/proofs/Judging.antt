-- Judgements of places one after another, and loops over parts.
use Rattle.std.proofs.Common.{◌≡◌, ℕ, suc, ◌+◌, ◌<◌, ◌≤◌, List, [], ◌∷◌, ◌++◌, map, drop, length, get_or, Option, Some, None, Result, Ok, Err, refl, sym, ◌∙◌, ap, subst, add-one, arith}
use Rattle.std.specs.Prelude.{IsErrAnd}
use Rattle.std.specs.Option.{option_or}
use Rattle.std.proofs.Math.Seq.{drop-cons}
use Rattle.std.proofs.lemmas.List.{length-append, append_assoc, append-nil, drop-append-le, drop_all}
use Rattle.xq_atoms.specs.declared.refusals.Code.{Code}
use Rattle.xq_atoms.specs.declared.refusals.Fault.{Fault}
use Rattle.xq_atoms.specs.declared.refusals.Fault.TheVariants.{Code as OfCode, Want as OfWant}
use Rattle.xq_atoms.specs.declared.refusals.Want.TheVariants.{Memory, Store}
use Rattle.xq_atoms.specs.Text.{Text}
use Rattle.xq_statics.specs.Places.{Place}
use Rattle.xq_statics.specs.Faults.{fault_at, first_fault}
use Rattle.xq_statics.specs.Gives.{Judges}
use Rattle.xq_statics.specs.Statics.{Places, Binding, each, in_turn, binding_for}

pub or-assoc : (a b c d : Option Code) → d ≡ option_or b c → option_or a d ≡ option_or (option_or a b) c
or-assoc None b c d e = e
or-assoc (Some x) b c d e = refl

pub first-append : (xs ys : List Place) → first_fault (xs ++ ys) ≡ option_or (first_fault xs) (first_fault ys)
first-append [] ys = refl
first-append (x ∷ xs) ys = or-assoc (fault_at x) (first_fault xs) (first_fault ys) (first_fault (xs ++ ys)) (first-append xs ys)

none-then : (xs ys : List Place) → first_fault xs ≡ None → first_fault (xs ++ ys) ≡ first_fault ys
none-then xs ys h = first-append xs ys ∙ ap (λ o. option_or o (first_fault ys)) h

abbrev pub Judged : Type 0
Judged = Result (Unit {0}) Fault

-- a refusal of the first is that of both
pub stops : (e : Fault) (xs ys : List Place) → Judges (Err e) (first_fault xs) → Judges (Err e) (first_fault (xs ++ ys))
stops (OfCode code) xs ys h = first-append xs ys ∙ ap (λ o. option_or o (first_fault ys)) h
stops (OfWant Memory) xs ys h = tt
stops (OfWant Store) xs ys h = absurd h

pub passes : (r : Judged) (xs ys : List Place) → first_fault xs ≡ None → Judges r (first_fault ys) → Judges r (first_fault (xs ++ ys))
passes r xs ys h j = subst (Judges r) (sym (none-then xs ys h)) j

-- a refusal at a place before others is that of all
pub first_stops : (e : Fault) (first rest : Option Code) → Judges (Err e) first → Judges (Err e) (option_or first rest)
first_stops (OfCode code) first rest h = ap (λ o. option_or o rest) h
first_stops (OfWant Memory) first rest h = tt
first_stops (OfWant Store) first rest h = absurd h

pub first_passes : (r : Judged) (first rest : Option Code) → first ≡ None → Judges r rest → Judges r (option_or first rest)
first_passes r first rest h j = subst (λ o. Judges r (option_or o rest)) (sym h) j

-- what `?` returns
pub handed_on : (r : Judged) (e : Fault) (fault : Option Code) → IsErrAnd r (λ f. f ≡ e) → Judges (Err e) fault → Judges r fault
handed_on (Ok x) e fault h j = elim h [ ]
handed_on (Err f) e fault h j = subst (λ x. Judges (Err x) fault) (sym h) j

-- of two parts, where the first leaves the scope as it was
pub in_order : (r : Judged) (first rest : Places) (old mid : List Text) → first_fault (first old) ≡ None → mid ≡ old → Judges r (first_fault (rest mid)) → Judges r (first_fault (first old ++ rest old))
in_order r first rest old mid h k j = passes r (first old) (rest old) h (subst (λ names. Judges r (first_fault (rest names))) k j)

-- of bindings, and of what sees them
pub binding_stops : (e : Fault) (b : Binding) (part : Places) (old bound : List Text) → bound ≡ [] → Judges (Err e) (first_fault (b.places old bound)) → Judges (Err e) (first_fault (binding_for b part old))
binding_stops e b part old bound is j = stops e (b.places old []) (part (old ++ b.binds)) (subst (λ x. Judges (Err e) (first_fault (b.places old x))) is j)

pub binding_passes : (r : Judged) (b : Binding) (part : Places) (old bound mid : List Text) → bound ≡ [] → first_fault (b.places old bound) ≡ None → mid ≡ old ++ b.binds → Judges r (first_fault (part mid)) → Judges r (first_fault (binding_for b part old))
binding_passes r b part old bound mid is h k j =
    passes r (b.places old []) (part (old ++ b.binds)) (ap (λ x. first_fault (b.places old x)) (sym is) ∙ h) (subst (λ names. Judges r (first_fault (part names))) k j)

pub none_bound : (start : ℕ) (names : List Text) → start ≡ length names → drop start names ≡ []
none_bound start names is = drop_all start names (omega (arith, is))

-- ---- loops over parts

module _ {X A : Type 0} (view : X → A) (all : List X) (i : ℕ) (x : X) where
  left_over : i < length all → x ≡ get_or all i x → map view (drop i all) ≡ view x ∷ map view (drop (i + 1) all)
  left_over h is =
      let e : drop i all ≡ x ∷ drop (i + 1) all = rw add-one (drop-cons all i x h ∙ ap (λ y. y ∷ drop (suc i) all) (sym is)) in
      ap (map view) e

none_left : {X A : Type 0} (view : X → A) (all : List X) (i : ℕ) → length all ≤ i → map view (drop i all) ≡ []
none_left view all i h = ap (map view) (drop_all i all h)

-- the parts from this one on have the fault of all, where the scope stays as it is
pub record EachLeft {X : Type 0} (view : X → Places) (all : List X) (index : ℕ) (old now : List Text) : Type 0 where
  pub kept : now ≡ old
  pub faults : first_fault (each (map view all) old) ≡ first_fault (each (map view (drop index all)) now)

module _ {X : Type 0} (view : X → Places) (all : List X) (i : ℕ) (x : X) (old now : List Text) (left : EachLeft view all i old now) where
  pub each_next : (now' : List Text) → i < length all → x ≡ get_or all i x → first_fault (view x now) ≡ None → now' ≡ now → EachLeft view all (i + 1) old now'
  each_next now' h is none same = record {
    kept = same ∙ left.kept;
    faults =
        left.faults ∙ ap (λ ps. first_fault (each ps now)) (left_over view all i x h is) ∙ none-then (view x now) (each (map view (drop (i + 1) all)) now) none
        ∙ ap (λ names. first_fault (each (map view (drop (i + 1) all)) names)) (sym same);
  }

  pub each_stops : (e : Fault) → i < length all → x ≡ get_or all i x → Judges (Err e) (first_fault (view x now)) → Judges (Err e) (first_fault (each (map view all) old))
  each_stops e h is j =
      let P : Option Code → Type 0 = Judges (Err e) in
      subst P (sym (left.faults ∙ ap (λ ps. first_fault (each ps now)) (left_over view all i x h is))) (stops e (view x now) (each (map view (drop (i + 1) all)) now) j)

pub each_done : {X : Type 0} (view : X → Places) (all : List X) (i : ℕ) (old now : List Text) → EachLeft view all i old now → length all ≤ i → first_fault (each (map view all) old) ≡ None
each_done view all i old now left h = left.faults ∙ ap (λ ps. first_fault (each ps now)) (none_left view all i h)

-- the same, where each part may bind variables
pub record TurnLeft {X : Type 0} (view : X → Binding) (all : List X) (index : ℕ) (old before now bound : List Text) : Type 0 where
  pub faults : first_fault ((in_turn (map view all)).places old before) ≡ first_fault ((in_turn (map view (drop index all))).places now bound)
  pub binds : old ++ (in_turn (map view all)).binds ≡ now ++ (in_turn (map view (drop index all))).binds

module _ {X : Type 0} (view : X → Binding) (all : List X) (i : ℕ) (x : X) (old before now bound : List Text) (left : TurnLeft view all i old before now bound) where
  pub turn_next : (now' bound' : List Text) → i < length all → x ≡ get_or all i x → first_fault ((view x).places now bound) ≡ None
      → now' ≡ now ++ (view x).binds → bound' ≡ bound ++ (view x).binds → TurnLeft view all (i + 1) old before now' bound'
  turn_next now' bound' h is none names more =
      let rest : Binding = in_turn (map view (drop (i + 1) all)) in
      record {
        faults =
            left.faults ∙ ap (λ ps. first_fault ((in_turn ps).places now bound)) (left_over view all i x h is)
            ∙ none-then ((view x).places now bound) (rest.places (now ++ (view x).binds) (bound ++ (view x).binds)) none
            ∙ ap (λ ns. first_fault (rest.places ns (bound ++ (view x).binds))) (sym names) ∙ ap (λ bs. first_fault (rest.places now' bs)) (sym more);
        binds =
            left.binds ∙ ap (λ ps. now ++ (in_turn ps).binds) (left_over view all i x h is) ∙ sym (append_assoc now (view x).binds rest.binds)
            ∙ ap (λ ns. ns ++ rest.binds) (sym names);
      }

  pub turn_stops : (e : Fault) → i < length all → x ≡ get_or all i x → Judges (Err e) (first_fault ((view x).places now bound)) → Judges (Err e) (first_fault ((in_turn (map view all)).places old before))
  turn_stops e h is j =
      let P : Option Code → Type 0 = Judges (Err e) in
      let rest : Binding = in_turn (map view (drop (i + 1) all)) in
      subst P (sym (left.faults ∙ ap (λ ps. first_fault ((in_turn ps).places now bound)) (left_over view all i x h is)))
      (stops e ((view x).places now bound) (rest.places (now ++ (view x).binds) (bound ++ (view x).binds)) j)

module _ {X : Type 0} (view : X → Binding) (all : List X) (i : ℕ) (old before now bound : List Text) (left : TurnLeft view all i old before now bound) where
  pub turn_done : length all ≤ i → first_fault ((in_turn (map view all)).places old before) ≡ None
  turn_done h = left.faults ∙ ap (λ ps. first_fault ((in_turn ps).places now bound)) (none_left view all i h)

  pub turn_binds : length all ≤ i → now ≡ old ++ (in_turn (map view all)).binds
  turn_binds h = sym (left.binds ∙ ap (λ ps. now ++ (in_turn ps).binds) (none_left view all i h) ∙ append-nil now)

-- what a FLWOR has bound, with what a part binds more
pub bound_more : (start : ℕ) (now now' binds : List Text) → start ≤ length now → now' ≡ now ++ binds → drop start now' ≡ drop start now ++ binds
bound_more start now now' binds h is = ap (drop start) is ∙ drop-append-le start now binds h

pub still_within : (start : ℕ) (now now' binds : List Text) → start ≤ length now → now' ≡ now ++ binds → start ≤ length now'
still_within start now now' binds h is =
    let e : length now' ≡ length now + length binds = ap length is ∙ length-append now binds in
    omega (arith, e, h)
