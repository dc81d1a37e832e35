-- The last places of names, as variables come into scope and go.
use Rattle.std.proofs.Common.{take, ◌-◌, ◌<◌, ◌⊎◌, inl, inr, ◌||◌, ◌≡◌, ℕ, zero, suc, ◌+◌, ◌≤◌, List, [], ◌∷◌, ◌++◌, length, drop, Bool, true, false, Option, Some, None, refl, sym, ◌∙◌, ap, subst, arith, if◌then◌else◌}
use Rattle.std.specs.Prelude.{bytes_eq, nat_le, not, slice_get, unwrap_or}
use Rattle.std.specs.Cmp.{IsEquivalence}
use Rattle.std.specs.Option.{option_or, is_some}
use Rattle.std.specs.List.{position_or_len}
use Rattle.std.specs.Map.{keys_of, values_of}
use Rattle.std.proofs.lemmas.Bool.{cases_lt, le-leb, lt-leb}
use Rattle.std.proofs.lemmas.List.{take_all, take_at, length-append, length-map, map-append, append-nil, append_assoc}
use Rattle.std.proofs.lemmas.Bool.Decides.{same_from_decides}
use Rattle.std.proofs.lemmas.Slice.Eq.{bytes_eq-Decides}
use Rattle.std.proofs.lemmas.Map.Text.{hash_map_updates_str}
use Rattle.std.proofs.lemmas.Option.{none-some, same_Some}
use Rattle.std.specs.HashMap.{UpdatesBy}
use Rattle.indexmap.specs.IndexMap.{IndexMap, get_by, keys, insert_entry, insert_index, with_value_at, IsUnique}
use Rattle.indexmap.proofs.CallerLemmas.{updates-with_value_at}
use denote.Ref.{Bor}
use Rattle.xq_expressions.specs.declared.scopes.Bound.{Bound}
use Rattle.xq_expressions.specs.Scopes.{is_among, last_place}
use Rattle.xq_expressions.specs.private.Kept.{names_of, name_at, in_scope, numbered, IsLast, AreHidden, AreNumbered}

abbrev Text : Type 0
Text = List ℕ

abbrev pub Names : Type 0
Names = List (Bor (List ℕ))

abbrev chosen : Bool → ℕ → Option ℕ
chosen test place = if test then Some place else None

-- ---- one name more at the end

snoc_step : (test : Bool) (before later first : Option ℕ) (i j : ℕ) → later ≡ (if test then Some i else before) → i ≡ j → option_or later first ≡ (if test then Some j else option_or before first)
snoc_step true before later first i j h e = rw (h, e) refl
snoc_step false before later first i j h e = rw h refl

snoc_first : (test : Bool) (start end : ℕ) → start ≡ end → option_or None (chosen test start) ≡ (if test then Some end else None)
snoc_first true start end e = rw e refl
snoc_first false start end e = refl

pub last_place_snoc : (name : Text) (start : ℕ) (names : List Text) (x : Text) → last_place name start (names ++ x ∷ []) ≡ (if bytes_eq name x then Some (start + length names) else last_place name start names)
last_place_snoc name start [] x = snoc_first (bytes_eq name x) start (start + 0) (omega arith)
last_place_snoc name start (n ∷ ns) x =
    snoc_step (bytes_eq name x) (last_place name (start + 1) ns) _ (chosen (bytes_eq name n) start) (start + 1 + length ns) _ (last_place_snoc name (start + 1) ns x) (omega arith)

-- ---- whether there is one, and one from a place on

abbrev pub reaches : ℕ → Option ℕ → Bool
reaches place None = false
reaches place (Some last) = nat_le place last

seen_step : (test : Bool) (later : Option ℕ) (place : ℕ) (any : Bool) → is_some later ≡ any → is_some (option_or later (chosen test place)) ≡ test || any
seen_step true None place any h = refl
seen_step false None place any h = h
seen_step true (Some last) place any h = refl
seen_step false (Some last) place any h = h

pub seen : (name : Text) (start : ℕ) (names : List Text) → is_some (last_place name start names) ≡ is_among name names
seen name start [] = refl
seen name start (n ∷ ns) = seen_step (bytes_eq name n) (last_place name (start + 1) ns) start (is_among name ns) (seen name (start + 1) ns)

early_step : (place : ℕ) (test : Bool) (later : Option ℕ) (start : ℕ) → place ≤ start → reaches place later ≡ is_some later → reaches place (option_or later (chosen test start)) ≡ is_some (option_or later (chosen test start))
early_step place test (Some last) start h e = e
early_step place true None start h e = le-leb place start h
early_step place false None start h e = refl

early : (place : ℕ) (name : Text) (start : ℕ) (names : List Text) → place ≤ start → reaches place (last_place name start names) ≡ is_some (last_place name start names)
early place name start [] h = refl
early place name start (n ∷ ns) h = early_step place (bytes_eq name n) (last_place name (start + 1) ns) start h (early place name (start + 1) ns (omega arith))

late_step : (place : ℕ) (test : Bool) (later : Option ℕ) (start : ℕ) (any : Bool) → start + 1 ≤ place → reaches place later ≡ any → reaches place (option_or later (chosen test start)) ≡ any
late_step place test (Some last) start any h e = e
late_step place true None start any h e = lt-leb place start (omega arith) ∙ e
late_step place false None start any h e = e

seen_after : (skipped : ℕ) (name : Text) (start : ℕ) (names : List Text) → reaches (start + skipped) (last_place name start names) ≡ is_among name (drop skipped names)
seen_after zero name start names = early (start + 0) name start names (omega arith) ∙ seen name start names
seen_after (suc skipped) name start [] = refl
seen_after (suc skipped) name start (n ∷ ns) =
    let e : start + 1 + skipped ≡ start + suc skipped = omega arith in
    late_step (start + suc skipped) (bytes_eq name n) (last_place name (start + 1) ns) start (is_among name (drop skipped ns)) (omega arith)
    (ap (λ place. reaches place (last_place name (start + 1) ns)) (sym e) ∙ seen_after skipped name (start + 1) ns)

pub seen_from : (place : ℕ) (name : Text) (names : List Text) → reaches place (last_place name 0 names) ≡ is_among name (drop place names)
seen_from place name names =
    let e : 0 + place ≡ place = omega arith in
    ap (λ p. reaches p (last_place name 0 names)) (sym e) ∙ seen_after place name 0 names

-- ---- the invariant, as a variable comes and goes

bytes_eq-swap : (a b : Text) → bytes_eq a b ≡ bytes_eq b a
bytes_eq-swap a b = same_from_decides (bytes_eq a b) (bytes_eq b a) (bytes_eq-Decides a b) ((λ e. sym ((bytes_eq-Decides b a).0 e)), (λ e. (bytes_eq-Decides b a).1 (sym e)))

bytes_eq-same : (a b : Text) → bytes_eq a b ≡ true → a ≡ b
bytes_eq-same a b = (bytes_eq-Decides a b).0

bind_step : (test test' : Bool) (i j : ℕ) (found before : Option ℕ) → test ≡ test' → i ≡ j → found ≡ before → (if test then Some i else found) ≡ (if test' then Some j else before)
bind_step test test' i j found before t e f = rw (t, e, f) refl

unbind_step : (test test' : Bool) (hidden found before : Option ℕ) (place : ℕ) → test ≡ test' → (test ≡ true → hidden ≡ before) → found ≡ (if test' then Some place else before) → (if test then hidden else found) ≡ before
unbind_step true test' hidden found before place t h f = h refl
unbind_step false test' hidden found before place t h f = f ∙ ap (λ v. if v then Some place else before) (sym t)

pub names-snoc : (names : Names) (bound : List Bound) (b : Bound) → names_of names (bound ++ b ∷ []) ≡ names_of names bound ++ name_at names b.number ∷ []
names-snoc names bound b = map-append (λ b. name_at names b.number) bound (b ∷ [])

pub hidden-snoc : (names : Names) (done : List Text) (bound : List Bound) (b : Bound) → AreHidden names done bound → b.hidden ≡ last_place (name_at names b.number) 0 (done ++ names_of names bound) → AreHidden names done (bound ++ b ∷ [])
hidden-snoc names done [] b h is = (is ∙ ap (last_place (name_at names b.number) 0) (append-nil done), tt)
hidden-snoc names done (x ∷ xs) b h is =
    let own = name_at names x.number in
    (h.0, hidden-snoc names (done ++ own ∷ []) xs b h.1 (is ∙ ap (last_place (name_at names b.number) 0) (sym (append_assoc done (own ∷ []) (names_of names xs)))))

pub hidden-init : (names : Names) (done : List Text) (bound : List Bound) (b : Bound) → AreHidden names done (bound ++ b ∷ []) → AreHidden names done bound × (b.hidden ≡ last_place (name_at names b.number) 0 (done ++ names_of names bound))
hidden-init names done [] b h = (tt, h.0 ∙ ap (last_place (name_at names b.number) 0) (sym (append-nil done)))
hidden-init names done (x ∷ xs) b h =
    let own = name_at names x.number in
    let more = hidden-init names (done ++ own ∷ []) xs b h.1 in
    ((h.0, more.0), more.1 ∙ ap (last_place (name_at names b.number) 0) (append_assoc done (own ∷ []) (names_of names xs)))

-- what is found of one name after another was written
written_at : (test : Bool) (place : Option ℕ) (other : Option (Option ℕ)) → in_scope (if test then Some place else other) ≡ (if test then place else in_scope other)
written_at true place other = refl
written_at false place other = refl

module _ {S : Type 0} (old new : IndexMap (Bor (List ℕ)) (Option ℕ) S) (bound : List Bound) (b : Bound) (own : Text) where
  abbrev pub Writes : Option ℕ → Type 0
  Writes place = UpdatesBy (λ x y. bytes_eq x.now y.now) (λ k. bytes_eq own k.now) old new (Some place)

  pub last-bind : (place : ℕ) → place ≡ length bound → names_of (keys new) (bound ++ b ∷ []) ≡ names_of (keys old) bound ++ own ∷ [] →
      IsLast old bound → Writes (Some place) → IsLast new (bound ++ b ∷ [])
  last-bind place is now last written name =
      let names = names_of (keys old) bound in
      let at : length names ≡ length bound = length-map bound (λ b. name_at (keys old) b.number) in
      ap in_scope (hash_map_updates_str own old new (Some (Some place)) written name)
      ∙ written_at (bytes_eq own name) (Some place) (get_by (λ k. bytes_eq name k.now) old)
      ∙ bind_step (bytes_eq own name) (bytes_eq name own) place (0 + length names) _ _ (bytes_eq-swap own name) (is ∙ sym at ∙ omega arith) (last name)
      ∙ sym (last_place_snoc name 0 names own) ∙ ap (last_place name 0) (sym now)

  pub last-unbind : names_of (keys old) (bound ++ b ∷ []) ≡ names_of (keys new) bound ++ own ∷ [] →
      IsLast old (bound ++ b ∷ []) → b.hidden ≡ last_place own 0 (names_of (keys new) bound) → Writes b.hidden → IsLast new bound
  last-unbind was last is written name =
      let names = names_of (keys new) bound in
      ap in_scope (hash_map_updates_str own old new (Some b.hidden) written name)
      ∙ written_at (bytes_eq own name) b.hidden (get_by (λ k. bytes_eq name k.now) old)
      ∙ unbind_step (bytes_eq own name) (bytes_eq name own) b.hidden _ _ (0 + length names) (bytes_eq-swap own name)
      (λ e. is ∙ ap (λ n. last_place n 0 names) (bytes_eq-same own name e))
      (last name ∙ ap (last_place name 0) was ∙ last_place_snoc name 0 names own)

-- ---- numbers of names

abbrev pub same_text : Bor (List ℕ) → Bor (List ℕ) → Bool
same_text x y = bytes_eq x.now y.now

same_text-equiv : IsEquivalence same_text
same_text-equiv = record {
  refl = λ x. (bytes_eq-Decides x.now x.now).1 refl;
  symm = λ x y. bytes_eq-swap x.now y.now;
  congr = λ x y z e. ap (λ t. bytes_eq t z.now) (bytes_eq-same x.now y.now e);
}

-- a name that is inserted keeps the numbers of the others
stays_by : {X : Type 0} (test : Bool) (e : Bor (List ℕ) × X) (es more : List (Bor (List ℕ) × X)) (v : X) (number : ℕ) (name : Text) →
    ((n : ℕ) → numbered (keys_of es) n ≡ Some name → numbered (keys_of more) n ≡ Some name) →
    numbered (keys_of (e ∷ es)) number ≡ Some name → numbered (keys_of (if test then (e.0, v) ∷ es else e ∷ more)) number ≡ Some name
stays_by true e es more v zero name later h = h
stays_by true e es more v (suc n) name later h = h
stays_by false e es more v zero name later h = h
stays_by false e es more v (suc n) name later h = later n h

pub number_stays : {X : Type 0} (es : List (Bor (List ℕ) × X)) (k : Bor (List ℕ)) (v : X) (number : ℕ) (name : Text) →
    numbered (keys_of es) number ≡ Some name → numbered (keys_of (insert_entry same_text es k v)) number ≡ Some name
number_stays [] k v number name h = absurd (none-some name h)
number_stays (e ∷ es) k v number name h =
    stays_by (same_text k e.0) e es (insert_entry same_text es k v) v number name (λ n. number_stays es k v n name) h

-- and has its own
own_by : {X : Type 0} (test : Bool) (e : Bor (List ℕ) × X) (es more : List (Bor (List ℕ) × X)) (v : X) (later : ℕ) (name : Text) →
    (test ≡ true → name ≡ e.0.now) → numbered (keys_of more) later ≡ Some name →
    numbered (keys_of (if test then (e.0, v) ∷ es else e ∷ more)) (if not test then 1 + later else 0) ≡ Some name
own_by true e es more v later name same h = ap Some (sym (same refl))
own_by false e es more v later name same h =
    let next : 1 + later ≡ suc later = omega arith in
    ap (numbered (keys_of (e ∷ more))) next ∙ h

pub number_of_inserted : {X : Type 0} (es : List (Bor (List ℕ) × X)) (k : Bor (List ℕ)) (v : X) →
    numbered (keys_of (insert_entry same_text es k v)) (position_or_len (same_text k) (keys_of es)) ≡ Some k.now
number_of_inserted [] k v = refl
number_of_inserted (e ∷ es) k v =
    own_by (same_text k e.0) e es (insert_entry same_text es k v) v (position_or_len (same_text k) (keys_of es)) k.now (bytes_eq-same k.now e.0.now) (number_of_inserted es k v)

-- where each number keeps its name, so does each variable
pub at_number : (names : Names) (number : ℕ) (name : Text) → numbered names number ≡ Some name → name_at names number ≡ name
at_number names number name h = ap (λ found. unwrap_or found []) h

module _ (old new : Names) (stays : (number : ℕ) (name : Text) → numbered old number ≡ Some name → numbered new number ≡ Some name) where
  same_name : (b : Bound) → numbered old b.number ≡ Some (name_at old b.number) → name_at new b.number ≡ name_at old b.number
  same_name b h = at_number new b.number (name_at old b.number) (stays b.number (name_at old b.number) h)

  pub names-stay : (bound : List Bound) → AreNumbered old bound → names_of new bound ≡ names_of old bound
  names-stay [] h = refl
  names-stay (b ∷ bs) h = rw (same_name b h.0, names-stay bs h.1) refl

  pub numbered-stay : (bound : List Bound) → AreNumbered old bound → AreNumbered new bound
  numbered-stay [] h = tt
  numbered-stay (b ∷ bs) h = (stays b.number (name_at old b.number) h.0 ∙ ap Some (sym (same_name b h.0)), numbered-stay bs h.1)

  pub hidden-stay : (done : List Text) (bound : List Bound) → AreNumbered old bound → AreHidden old done bound → AreHidden new done bound
  hidden-stay done [] h is = tt
  hidden-stay done (b ∷ bs) h is =
      let same = sym (same_name b h.0) in
      (is.0 ∙ ap (λ name. last_place name 0 done) same, subst (λ name. AreHidden new (done ++ name ∷ []) bs) same (hidden-stay (done ++ name_at old b.number ∷ []) bs h.1 is.1))

pub numbered-snoc : (names : Names) (bound : List Bound) (b : Bound) → AreNumbered names bound → numbered names b.number ≡ Some (name_at names b.number) → AreNumbered names (bound ++ b ∷ [])
numbered-snoc names [] b h is = (is, tt)
numbered-snoc names (x ∷ xs) b h is = (h.0, numbered-snoc names xs b h.1 is)

pub numbered-init : (names : Names) (bound : List Bound) (b : Bound) → AreNumbered names (bound ++ b ∷ []) → AreNumbered names bound × (numbered names b.number ≡ Some (name_at names b.number))
numbered-init names [] b h = (tt, h.0)
numbered-init names (x ∷ xs) b h = let more = numbered-init names xs b h.1 in ((h.0, more.0), more.1)

-- a name that is inserted, and the variable of it
module _ {S : Type 0} (old new : IndexMap (Bor (List ℕ)) (Option ℕ) S) (bound : List Bound) (b : Bound) (key : Bor (List ℕ)) (value : Option ℕ)
    (inserted : new.entries ≡ insert_entry same_text old.entries key value) (index : b.number ≡ insert_index same_text old key) where
  pub bound-stays : (number : ℕ) (name : Text) → numbered (keys old) number ≡ Some name → numbered (keys new) number ≡ Some name
  bound-stays n name h = subst (λ es. numbered (keys_of es) n ≡ Some name) (sym inserted) (number_stays old.entries key value n name h)

  pub bound-own : numbered (keys new) b.number ≡ Some key.now
  bound-own = ap (numbered (keys new)) index ∙ ap (λ es. numbered (keys_of es) (insert_index same_text old key)) inserted ∙ number_of_inserted old.entries key value

  pub bound-names : AreNumbered (keys old) bound → names_of (keys new) (bound ++ b ∷ []) ≡ names_of (keys old) bound ++ key.now ∷ []
  bound-names h =
      names-snoc (keys new) bound b ∙ ap (λ name. names_of (keys new) bound ++ name ∷ []) (at_number (keys new) b.number key.now bound-own)
      ∙ ap (λ names. names ++ key.now ∷ []) (names-stay (keys old) (keys new) bound-stays bound h)

-- the entry with a number
entry_at : {X : Type 0} (es : List (Bor (List ℕ) × X)) (number : ℕ) (name : Text) → numbered (keys_of es) number ≡ Some name →
    (k : Bor (List ℕ)) × (v : X) × (slice_get es number ≡ Some (k, v)) × (k.now ≡ name)
entry_at [] number name h = absurd (none-some name h)
entry_at (e ∷ es) zero name h = (e.0, e.1, refl, same_Some e.0.now name h)
entry_at (e ∷ es) (suc n) name h = entry_at es n name h

pub value_at : {X : Type 0} (es : List (Bor (List ℕ) × X)) (number : ℕ) (name : Text) → numbered (keys_of es) number ≡ Some name →
    (v : X) × (slice_get (values_of es) number ≡ Some v)
value_at [] number name h = absurd (none-some name h)
value_at (e ∷ es) zero name h = (e.1, refl)
value_at (e ∷ es) (suc n) name h = value_at es n name h

-- what is written at the number of a name is what is found of it
pub written_by_number : {S : Type 0} (map : IndexMap (Bor (List ℕ)) (Option ℕ) S) (bound : List Bound) (b : Bound) (own : Text) → IsUnique same_text map → numbered (keys map) b.number ≡ Some own →
    Writes map (with_value_at map b.number b.hidden) bound b own b.hidden
written_by_number map bound b own unique h =
    let e = entry_at map.entries b.number own h in
    subst (λ name. UpdatesBy same_text (λ k. bytes_eq name k.now) map (with_value_at map b.number b.hidden) (Some b.hidden)) e.3
    (updates-with_value_at map b.number b.hidden same_text-equiv unique e.0 e.1 e.2)

-- what is left of a list, as long as a place or the list itself, is what stands before that place
pub left_at : (place : ℕ) (whole left : List Text) → left ≡ take (length left) whole → length left ≤ place → (place ≤ length whole → place ≤ length left) → (length whole ≤ place → length whole ≤ length left) → left ≡ take place whole
left_at place whole left is short long all = by_order (cases_lt place (length whole))
  where
    by_order : (place < length whole) ⊎ (length whole ≤ place) → left ≡ take place whole
    by_order (inl h) = let e : length left ≡ place = omega (arith, short, long (omega arith)) in is ∙ ap (λ n. take n whole) e
    by_order (inr h) = is ∙ take_all (length left) whole (all h) ∙ sym (take_all place whole h)

-- what stands before the last
pub before_last : (names : List Text) (name : Text) (whole : List Text) → names ++ name ∷ [] ≡ whole → names ≡ take (length whole - 1) whole
before_last names name whole is =
    let len : length names ≡ length (names ++ name ∷ []) - 1 = omega (arith, length-append names (name ∷ [])) in
    sym (take_at names (name ∷ []) _ len) ∙ ap (λ w. take (length w - 1) w) is
