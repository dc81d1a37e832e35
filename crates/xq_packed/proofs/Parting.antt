-- NameTable in two parts: the first few in a list, the others in a table.
use Rattle.std.proofs.Common.{◌≡◌, ◌<◌, ◌≤◌, ◌+◌, ◌^◌, ℕ, List, [], ◌∷◌, ◌++◌, map, length, false, String, string_bytes, refl, sym, ap, ◌∙◌, subst, arith, if◌then◌else◌, append-nil, append_assoc, length-append}
use Rattle.std.proofs.lemmas.List.{length-map}
use Rattle.std.specs.Prelude.{bytes_eq}
use Rattle.std.specs.List.{list_any, IsDistinct}
use Rattle.xq_packed.specs.declared.names.TheConstants.{FEW}
use Rattle.xq_packed.specs.private.Names.{AreNumbered}
use Rattle.xq_packed.proofs.Numbering.{any-names, absent-after, distinct-more}

abbrev Text : Type 0
Text = List ℕ

none : AreNumbered [] []
unfolding IsDistinct
none = record { distinct = tt; room = omega arith; full = λ _. refl }

-- no name
pub nothing-numbered : (few many : List Text) → few ≡ [] → many ≡ [] → AreNumbered few many
nothing-numbered few many fe me = rw (fe, me) none

-- both parts after a name was added to names
pub record IsAdded (old few many : List Text) (name : Text) : Type 0 where
  pub kept : AreNumbered few many
  pub names : few ++ many ≡ old ++ name ∷ []

few_added : (few many : List Text) (name : Text) → AreNumbered few many → list_any (bytes_eq name) (few ++ many) ≡ false → length (few ++ many) < FEW → IsAdded (few ++ many) (few ++ name ∷ []) many name
few_added few many name h absent low =
    let none : many ≡ [] = h.full (omega (arith, low, length-append few many)) in
    let whole : few ++ many ≡ few = ap (λ m. few ++ m) none ∙ append-nil few in
    let after : (few ++ name ∷ []) ++ many ≡ (few ++ many) ++ name ∷ [] = ap (λ m. (few ++ name ∷ []) ++ m) none ∙ append-nil (few ++ name ∷ []) ∙ ap (λ ns. ns ++ name ∷ []) (sym whole) in
    record {
      kept = record {
        distinct = subst (IsDistinct bytes_eq) (sym after) (distinct-more (few ++ many) name h.distinct absent);
        room = omega (arith, low, ap length after, length-append (few ++ many) (name ∷ []));
        full = λ _. none;
      };
      names = after;
    }

many_added : (few many : List Text) (name : Text) → AreNumbered few many → list_any (bytes_eq name) (few ++ many) ≡ false → FEW ≤ length (few ++ many) → length (few ++ many) < 2 ^ 32 → IsAdded (few ++ many) few (many ++ name ∷ []) name
many_added few many name h absent enough room =
    let after : few ++ (many ++ name ∷ []) ≡ (few ++ many) ++ name ∷ [] = sym (append_assoc few many (name ∷ [])) in
    record {
      kept = record {
        distinct = subst (IsDistinct bytes_eq) (sym after) (distinct-more (few ++ many) name h.distinct absent);
        room = omega (arith, room, ap length after, length-append (few ++ many) (name ∷ []));
        full = λ short. absurd (omega (arith, short, enough, length-append few many, ap length (h.full short)));
      };
      names = after;
    }

-- # The strings that hold them

map_snoc : {Z : Type 0} (keys : List (String Z)) (k : String Z) → map string_bytes (keys ++ k ∷ []) ≡ map string_bytes keys ++ string_bytes k ∷ []
map_snoc [] k = refl
map_snoc (j ∷ keys) k = ap (λ l. string_bytes j ∷ l) (map_snoc keys k)

pushed : {Z : Type 0} (names names' : List (String Z)) (k : String Z) (name : Text) → names' ≡ names ++ k ∷ [] → string_bytes k ≡ name → map string_bytes names' ≡ map string_bytes names ++ name ∷ []
pushed names names' k name e is =
    ap (map string_bytes) e ∙ map_snoc names k ∙ ap (λ n. map string_bytes names ++ n ∷ []) is

module _ {Z : Type 0} (few many : List (String Z)) (k : String Z) (name : Text) (is : string_bytes k ≡ name) (h : AreNumbered (map string_bytes few) (map string_bytes many)) (absent : list_any (bytes_eq name) (map string_bytes few ++ map string_bytes many) ≡ false) where
  pub added-to_few : (few' : List (String Z)) → few' ≡ few ++ k ∷ [] → length few + length many < FEW → IsAdded (map string_bytes few ++ map string_bytes many) (map string_bytes few') (map string_bytes many) name
  added-to_few few' e low =
      let front = map string_bytes few in
      let rest = map string_bytes many in
      let short : length (front ++ rest) < FEW = omega (arith, low, length-append front rest, length-map few string_bytes, length-map many string_bytes) in
      subst (λ ns. IsAdded (front ++ rest) ns rest name) (sym (pushed few few' k name e is)) (few_added front rest name h absent short)

  pub added-to_many : (many' : List (String Z)) → many' ≡ (if list_any (λ j. bytes_eq (string_bytes k) (string_bytes j)) many then many else many ++ k ∷ []) → FEW ≤ length few + length many → length few + length many < 2 ^ 32 → IsAdded (map string_bytes few ++ map string_bytes many) (map string_bytes few) (map string_bytes many') name
  added-to_many many' e enough room =
      let front = map string_bytes few in
      let rest = map string_bytes many in
      let count : length (front ++ rest) ≡ length few + length many = omega (arith, length-append front rest, length-map few string_bytes, length-map many string_bytes) in
      let none : list_any (λ j. bytes_eq (string_bytes k) (string_bytes j)) many ≡ false =
      any-names (string_bytes k) many ∙ ap (λ n. list_any (bytes_eq n) rest) is ∙ absent-after name front rest absent in
      let last : many' ≡ many ++ k ∷ [] = e ∙ ap (λ b. if b then many else many ++ k ∷ []) none in
      subst (λ ns. IsAdded (front ++ rest) front ns name) (sym (pushed many many' k name last is)) (many_added front rest name h absent (omega (arith, enough, count)) (omega (arith, room, count)))
