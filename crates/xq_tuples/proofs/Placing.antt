-- One more tuple among the groups.
use Rattle.std.proofs.Common.{◌≡◌, ℕ, suc, ◌+◌, ◌<◌, List, [], ◌∷◌, ◌++◌, map, length, get_or, set, Bool, true, false, Option, not, cond, ◌&&◌, ◌||◌, refl, ap, sym, ◌∙◌, arith}
use Rattle.std.specs.Global.{Vec}
use Rattle.std.specs.List.{list_any, position_or_len}
use Rattle.std.specs.Cmp.{IsEquivalence, on_equiv}
use Rattle.std.specs.Cmp.Lexicographic.{pointwise, lists_equiv}
use Rattle.std.proofs.lemmas.List.{map_push, map-set, get_or-map}
use Rattle.std.proofs.lemmas.Bool.{false≢true, or_parts}
use Rattle.xq_atoms.specs.declared.atoms.Atom.{Atom}
use Rattle.xq_atoms.specs.declared.atoms.GroupKey.{GroupKey}
use Rattle.xq_atoms.specs.Compare.{Key, key_of, key_eq}
use Rattle.xq_atoms.specs.Derived.{group_key_eq}
use Rattle.xq_atoms.proofs.Keys.{group_key_eq-is}
use Rattle.xq_trees.specs.Tuples.{Tuple, Keyed as KeyedTuple, comparison_keys, same_keys, firsts, groups}
use Rattle.xq_trees.specs.Items.{ItemView}
use Rattle.xq_tuples.specs.private.KeyRows.{keys_at}
use Rattle.xq_tuples.specs.private.Groups.{Gathers, keyed_of, group_of, compared_of}
use Rattle.xq_trees.proofs.Grouping.{list_any-map, position_or_len-map, firsts-push, groups-push_new, groups-push_old}
use Rattle.xq_atoms.proofs.KeyOrder.{key_eq_equiv}

-- the test of the set of keys
abbrev pub same_compared : Vec GroupKey → Vec GroupKey → Bool
same_compared x y = pointwise group_key_eq x.items y.items

abbrev keys_in : KeyedTuple ItemView → List Key
keys_in row = comparison_keys row.1

pub laws : IsEquivalence (same_keys {X = ItemView})
laws = on_equiv keys_in (lists_equiv key_eq_equiv)

pointwise-key_of : (js ks : List GroupKey) → pointwise group_key_eq js ks ≡ pointwise key_eq (map key_of js) (map key_of ks)
pointwise-key_of [] [] = refl
pointwise-key_of [] (k ∷ ks) = refl
pointwise-key_of (j ∷ js) [] = refl
pointwise-key_of (j ∷ js) (k ∷ ks) = λ i. group_key_eq-is j k i && pointwise-key_of js ks i

module _ (key : Vec GroupKey) (seen : List (Vec GroupKey)) (row : KeyedTuple ItemView) (fs : List (KeyedTuple ItemView)) (is : compared_of key ≡ keys_in row) (same : map compared_of seen ≡ map keys_in fs) where
  seen_any : list_any (same_compared key) seen ≡ list_any (same_keys row) fs
  seen_any =
      (λ i. list_any (λ z. pointwise-key_of key.items z.items i) seen) ∙ sym (list_any-map (pointwise key_eq (compared_of key)) compared_of seen)
      ∙ ap (list_any (pointwise key_eq (compared_of key))) same ∙ list_any-map (pointwise key_eq (compared_of key)) keys_in fs ∙ ap (λ k. list_any (λ f. pointwise key_eq k (keys_in f)) fs) is

  seen_at : position_or_len (same_compared key) seen ≡ position_or_len (same_keys row) fs
  seen_at =
      (λ i. position_or_len (λ z. pointwise-key_of key.items z.items i) seen) ∙ sym (position_or_len-map (pointwise key_eq (compared_of key)) compared_of seen)
      ∙ ap (position_or_len (pointwise key_eq (compared_of key))) same ∙ position_or_len-map (pointwise key_eq (compared_of key)) keys_in fs ∙ ap (λ k. position_or_len (λ f. pointwise key_eq k (keys_in f)) fs) is

pub position_or_len-none : {X : Type 0} (p : X → Bool) (xs : List X) → list_any p xs ≡ false → position_or_len p xs ≡ length xs
position_or_len-none p [] h = refl
position_or_len-none p (x ∷ xs) h =
    let both = or_parts (p x) (list_any p xs) h in
    ap (λ b. cond (not b) (1 + position_or_len p xs) 0) both.0 ∙ omega (arith, position_or_len-none p xs both.1)

position_or_len-some_step : (b : Bool) (m n : ℕ) → (b ≡ false → m < n) → cond (not b) (1 + m) 0 < suc n
position_or_len-some_step true m n h = omega arith
position_or_len-some_step false m n h = omega (arith, h refl)

either : (a b : Bool) → (a || b) ≡ true → a ≡ false → b ≡ true
either a b e f = sym (ap (λ c. c || b) f) ∙ e

pub position_or_len-some : {X : Type 0} (p : X → Bool) (xs : List X) → list_any p xs ≡ true → position_or_len p xs < length xs
position_or_len-some p [] h = absurd (false≢true h)
position_or_len-some p (x ∷ xs) h = position_or_len-some_step (p x) (position_or_len p xs) (length xs) (λ e. position_or_len-some p xs (either (p x) (list_any p xs) h e))

module _ {columns : List (Vec (Option Atom))} {stream : List (Tuple ItemView)} {done : List (KeyedTuple ItemView)} {seen : List (Vec GroupKey)} {gathered : List (Vec ℕ)} (h : Gathers columns stream done seen gathered) (key : Vec GroupKey) (number : ℕ) (is : compared_of key ≡ comparison_keys (keys_at number columns)) where
  abbrev keyed : KeyedTuple ItemView
  keyed = keyed_of columns stream number

  -- a group more
  pub Gathers-new : list_any (same_compared key) seen ≡ false → (group : Vec ℕ) → group.items ≡ number ∷ [] → Gathers columns stream (done ++ keyed ∷ []) (seen ++ key ∷ []) (gathered ++ group ∷ [])
  Gathers-new none group items =
      let absent = sym (seen_any key seen keyed (firsts same_keys done) is h.keys) ∙ none in
      record {
        keys =
            map_push compared_of seen key ∙ (λ i. h.keys i ++ is i ∷ []) ∙ sym (map_push keys_in (firsts same_keys done) keyed)
            ∙ ap (map keys_in) (sym (firsts-push laws done keyed ∙ ap (λ b. cond b (firsts same_keys done) (firsts same_keys done ++ keyed ∷ [])) absent));
        groups = map_push (group_of columns stream) gathered group ∙ (λ i. h.groups i ++ map (keyed_of columns stream) (items i) ∷ []) ∙ sym (groups-push_new laws done keyed absent);
      }

  -- a group that is longer
  pub Gathers-old : list_any (same_compared key) seen ≡ true → (n : ℕ) → n ≡ position_or_len (same_compared key) seen → n < length gathered → (old group : Vec ℕ) → old ≡ get_or gathered n old → group.items ≡ old.items ++ number ∷ []
      → Gathers columns stream (done ++ keyed ∷ []) seen (set gathered n group)
  Gathers-old some n place within old group at items =
      let present = sym (seen_any key seen keyed (firsts same_keys done) is h.keys) ∙ some in
      let longer : group_of columns stream group ≡ get_or (groups same_keys done) n [] ++ keyed ∷ [] =
      ap (map (keyed_of columns stream)) items ∙ map_push (keyed_of columns stream) old.items number ∙ ap (λ l. l ++ keyed ∷ []) (ap (group_of columns stream) at ∙ sym (get_or-map (group_of columns stream) gathered n old [] within) ∙ ap (λ l. get_or l n []) h.groups) in
      record {
        keys = h.keys ∙ ap (map keys_in) (sym (firsts-push laws done keyed ∙ ap (λ b. cond b (firsts same_keys done) (firsts same_keys done ++ keyed ∷ [])) present));
        groups = map-set (group_of columns stream) gathered n group ∙ (λ i. set (h.groups i) n (longer i)) ∙ sym (groups-push_old laws done keyed present n (place ∙ seen_at key seen keyed (firsts same_keys done) is h.keys));
      }
