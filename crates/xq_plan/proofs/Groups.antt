-- The slots of grouping variables, found among those of their FLWOR.
use Rattle.std.proofs.Common.{◌≡◌, ℕ, suc, ◌+◌, ◌-◌, ◌<◌, ◌≤◌, List, [], ◌∷◌, ◌++◌, length, get_or, take, drop, Bool, true, false, Option, Some, None, Ok, Err, refl, sym, ap, ◌∙◌, add-one, arith, if◌then◌else◌}
use Rattle.std.specs.Prelude.{bytes_eq, nat_le}
use Rattle.std.specs.Option.{option_or}
use Rattle.std.proofs.Math.Seq.{take-suc, drop-cons}
use Rattle.std.proofs.lemmas.Bool.{le-leb, lt-leb}
use Rattle.std.proofs.lemmas.List.{take-append-drop, length-take-le, take_all}
use Rattle.xq_atoms.specs.Text.{Text}
use Rattle.xq_atoms.specs.Judged.{Judged, ◌>>=◌}
use Rattle.xq_atoms.specs.declared.refusals.Code.TheVariants.{XQST0094}
use Rattle.xq_meaning.specs.Arguments.{each}
use Rattle.xq_meaning.specs.Meaning.{slot_from, slot_or_fault, slot_of}
use Rattle.xq_expressions.specs.Scopes.{last_place, from_place}
use Rattle.std.proofs.lemmas.Bool.Decides.{same_from_decides}
use Rattle.std.proofs.lemmas.Slice.Eq.{bytes_eq-Decides}

-- # The last slot of a name

bytes_eq-swap : (a b : Text) → bytes_eq a b ≡ bytes_eq b a
bytes_eq-swap a b =
    same_from_decides (bytes_eq a b) (bytes_eq b a) (bytes_eq-Decides a b)
    ((λ e. sym ((bytes_eq-Decides b a).0 e)), (λ e. (bytes_eq-Decides b a).1 (sym e)))

found_step : (test test' : Bool) (later found : Option ℕ) (n : ℕ) → test ≡ test' →
    option_or later (if test then Some n else found)
    ≡ option_or (option_or later (if test' then Some n else None)) found
found_step test true None found n e = ap (λ b. if b then Some n else found) e
found_step test false None found n e = ap (λ b. if b then Some n else found) e
found_step test test' (Some m) found n e = refl

pub slot_is_last : (n : ℕ) (found : Option ℕ) (ws : List Text) (v : Text) →
    slot_from n found ws v ≡ option_or (last_place v n ws) found
slot_is_last n found [] v = refl
slot_is_last n found (w ∷ ws) v =
    slot_is_last (suc n) (if bytes_eq w v then Some n else found) ws v
    ∙ ap (λ k. option_or (last_place v k ws) (if bytes_eq w v then Some n else found)) (sym add-one')
    ∙ found_step (bytes_eq w v) (bytes_eq v w) (last_place v (n + 1) ws) found n (bytes_eq-swap w v)
  where
    add-one' : n + 1 ≡ suc n
    add-one' = omega arith

or_none : (o : Option ℕ) → option_or o None ≡ o
or_none None = refl
or_none (Some n) = refl

pub slot_of_last : (own : List Text) (v : Text) → slot_of own v ≡ slot_or_fault (last_place v 0 own)
slot_of_last own v = ap slot_or_fault (slot_is_last 0 None own v ∙ or_none (last_place v 0 own))

-- # Counted from a place

abbrev shifted : ℕ → Option ℕ → Option ℕ
shifted k None = None
shifted k (Some n) = Some (n + k)

shift_step : (k start : ℕ) (test : Bool) (o : Option ℕ) →
    option_or (shifted k o) (if test then Some (start + k) else None)
    ≡ shifted k (option_or o (if test then Some start else None))
shift_step k start true None = refl
shift_step k start false None = refl
shift_step k start test (Some n) = refl

last_shift : (v : Text) (k start : ℕ) (ws : List Text) → last_place v (start + k) ws ≡ shifted k (last_place v start ws)
last_shift v k start [] = refl
last_shift v k start (w ∷ ws) =
    let e : start + k + 1 ≡ start + 1 + k = omega arith in
    ap (λ n. option_or (last_place v n ws) (if bytes_eq v w then Some (start + k) else None)) e
    ∙ ap (λ o. option_or o (if bytes_eq v w then Some (start + k) else None)) (last_shift v k (start + 1) ws)
    ∙ shift_step k start (bytes_eq v w) (last_place v (start + 1) ws)

or_assoc : (a b c : Option ℕ) → option_or (option_or a b) c ≡ option_or a (option_or b c)
or_assoc None b c = refl
or_assoc (Some n) b c = refl

last_append : (v : Text) (start : ℕ) (outer own : List Text) →
    last_place v start (outer ++ own) ≡ option_or (last_place v (start + length outer) own) (last_place v start outer)
last_append v start [] own =
    let e : start ≡ start + 0 = omega arith in
    sym (or_none (last_place v (start + 0) own) ∙ ap (λ n. last_place v n own) (sym e))
last_append v start (w ∷ ws) own =
    let e : start + 1 + length ws ≡ start + suc (length ws) = omega arith in
    ap (λ o. option_or o (if bytes_eq v w then Some start else None)) (last_append v (start + 1) ws own)
    ∙ or_assoc (last_place v (start + 1 + length ws) own) (last_place v (start + 1) ws) (if bytes_eq v w then Some start else None)
    ∙ ap (λ n. option_or (last_place v n own) (option_or (last_place v (start + 1) ws) (if bytes_eq v w then Some start else None))) e

abbrev Early : ℕ → Option ℕ → Type 0
Early end None = Unit {0}
Early end (Some n) = n < end

early_step : (test : Bool) (later : Option ℕ) (start end : ℕ) → start < end → Early end later →
    Early end (option_or later (if test then Some start else None))
early_step true None start end h k = h
early_step false None start end h k = tt
early_step test (Some n) start end h k = k

early : (v : Text) (start : ℕ) (ws : List Text) (end : ℕ) → start + length ws ≤ end → Early end (last_place v start ws)
early v start [] end h = tt
early v start (w ∷ ws) end h =
    early_step (bytes_eq v w) (last_place v (start + 1) ws) start end (omega (arith, h)) (early v (start + 1) ws end (omega (arith, h)))

counted : (k : ℕ) (own outer : Option ℕ) → Early k outer → from_place k (option_or (shifted k own) outer) ≡ own
counted k (Some n) outer h =
    let e : nat_le k (n + k) ≡ true = le-leb k (n + k) (omega arith) in
    let d : n + k - k ≡ n = omega arith in
    ap (λ b. if b then Some (n + k - k) else None) e ∙ ap Some d
counted k None None h = refl
counted k None (Some m) h = ap (λ b. if b then Some (m - k) else None) (lt-leb k m h)

own_place : (v : Text) (outer own : List Text) →
    from_place (length outer) (last_place v 0 (outer ++ own)) ≡ last_place v 0 own
own_place v outer own =
    ap (from_place (length outer)) (last_append v 0 outer own
    ∙ ap (λ o. option_or o (last_place v 0 outer)) (last_shift v (length outer) 0 own))
    ∙ counted (length outer) (last_place v 0 own) (last_place v 0 outer) (early v 0 outer (length outer) (omega arith))

pub from_start : (v : Text) (start : ℕ) (names : List Text) → start ≤ length names →
    from_place start (last_place v 0 names) ≡ last_place v 0 (drop start names)
from_start v start names h =
    let long : length (take start names) ≡ start = length-take-le start names h in
    ap (λ ns. from_place start (last_place v 0 ns)) (sym (take-append-drop start names))
    ∙ ap (λ k. from_place k (last_place v 0 (take start names ++ drop start names))) (sym long)
    ∙ own_place v (take start names) (drop start names)

-- # Each of them

pub each-append : {A B : Type 0} (judge : A → Judged B) (xs ys : List A) (as' : List B) → each judge xs ≡ Ok as' →
    each judge (xs ++ ys) ≡ (each judge ys >>= (λ bs. Ok (as' ++ bs)))
each-append judge xs ys as' is = appended judge xs ys ∙ ap (λ r. r >>= (λ cs. each judge ys >>= (λ bs. Ok (cs ++ bs)))) is
  where
    itself : {C : Type 0} (r : Judged C) → r ≡ (r >>= (λ bs. Ok bs))
    itself (Ok x) = refl
    itself (Err code) = refl

    put : {A B : Type 0} (judge : A → Judged B) (ys : List A) (first : Judged B) (rest whole : Judged (List B)) →
        whole ≡ (rest >>= (λ cs. each judge ys >>= (λ bs. Ok (cs ++ bs)))) →
        (first >>= (λ c. whole >>= (λ cs. Ok (c ∷ cs))))
        ≡ ((first >>= (λ c. rest >>= (λ cs. Ok (c ∷ cs)))) >>= (λ cs. each judge ys >>= (λ bs. Ok (cs ++ bs))))
    put judge ys (Err code) rest whole e = refl
    put judge ys (Ok c) (Err code) whole e = ap (λ w. w >>= (λ cs. Ok (c ∷ cs))) e
    put {B = B} judge ys (Ok c) (Ok cs) whole e = ap (λ w. w >>= (λ cs. Ok (c ∷ cs))) e ∙ inside (each judge ys)
      where
        inside : (r : Judged (List B)) → ((r >>= (λ bs. Ok (cs ++ bs))) >>= (λ ds. Ok (c ∷ ds))) ≡ (r >>= (λ bs. Ok (c ∷ (cs ++ bs))))
        inside (Ok bs) = refl
        inside (Err code) = refl

    appended : {A B : Type 0} (judge : A → Judged B) (xs ys : List A) →
        each judge (xs ++ ys) ≡ (each judge xs >>= (λ cs. each judge ys >>= (λ bs. Ok (cs ++ bs))))
    appended judge [] ys = itself (each judge ys)
    appended judge (x ∷ xs) ys = put judge ys (judge x) (each judge xs) (each judge (xs ++ ys)) (appended judge xs ys)

module _ (names vs : List Text) (start i : ℕ) (v : Text) (found : List ℕ) (so_far : each (slot_of (drop start names)) (take i vs) ≡ Ok found) (h : i < length vs) (is : v ≡ get_or vs i v) where
  this : take (i + 1) vs ≡ take i vs ++ v ∷ []
  this = rw add-one (take-suc vs i v h ∙ ap (λ z. take i vs ++ z ∷ []) (sym is))

  whole : vs ≡ take i vs ++ v ∷ drop (i + 1) vs
  whole =
      rw add-one (sym (take-append-drop i vs)
      ∙ ap (λ zs. take i vs ++ zs) (drop-cons vs i v h ∙ ap (λ z. z ∷ drop (suc i) vs) (sym is)))

  pub slot_found : (n : ℕ) → start ≤ length names → Some n ≡ from_place start (last_place v 0 names) →
      each (slot_of (drop start names)) (take (i + 1) vs) ≡ Ok (found ++ n ∷ [])
  slot_found n l at =
      ap (each (slot_of (drop start names))) this
      ∙ each-append (slot_of (drop start names)) (take i vs) (v ∷ []) found so_far
      ∙ ap (λ r. (r >>= (λ c. Ok (c ∷ []))) >>= (λ bs. Ok (found ++ bs)))
      (slot_of_last (drop start names) v ∙ ap slot_or_fault (sym (at ∙ from_start v start names l)))

  pub slot_missing : start ≤ length names → None ≡ from_place start (last_place v 0 names) →
      each (slot_of (drop start names)) vs ≡ Err XQST0094
  slot_missing l at =
      ap (each (slot_of (drop start names))) whole
      ∙ each-append (slot_of (drop start names)) (take i vs) (v ∷ drop (i + 1) vs) found so_far
      ∙ ap (λ r. (r >>= (λ c. each (slot_of (drop start names)) (drop (i + 1) vs) >>= (λ cs. Ok (c ∷ cs)))) >>= (λ bs. Ok (found ++ bs)))
      (slot_of_last (drop start names) v ∙ ap slot_or_fault (sym (at ∙ from_start v start names l)))

pub slots_done : (names vs : List Text) (start i : ℕ) (found : List ℕ) →
    each (slot_of (drop start names)) (take i vs) ≡ Ok found → length vs ≤ i →
    each (slot_of (drop start names)) vs ≡ Ok found
slots_done names vs start i found so_far h =
    ap (each (slot_of (drop start names))) (sym (take_all i vs h)) ∙ so_far
