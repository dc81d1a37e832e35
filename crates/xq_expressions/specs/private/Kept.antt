-- What a scope keeps: for each variable the number of its name and the place that it hides, and
-- the last place of each name among them.
use Rattle.std.specs.Prelude.{◌≡◌, ℕ, List, [], ◌∷◌, ◌++◌, map, Option, Some, None, bytes_eq, slice_get, unwrap_or}
use Rattle.std.specs.Option.{option_map}
use Rattle.indexmap.specs.IndexMap.{IndexMap, get_by, keys}
use denote.Ref.{Bor}
use Rattle.xq_expressions.specs.declared.scopes.Bound.{Bound}
use Rattle.xq_expressions.specs.Scopes.{last_place}

-- the name with a number
abbrev pub numbered : List (Bor (List ℕ)) → ℕ → Option (List ℕ)
numbered names number = option_map (λ k. k.now) (slice_get names number)

abbrev pub name_at : List (Bor (List ℕ)) → ℕ → List ℕ
name_at names number = unwrap_or (numbered names number) []

abbrev pub names_of : List (Bor (List ℕ)) → List Bound → List (List ℕ)
names_of names = map (λ b. name_at names b.number)

-- the place of a name that was bound, where it is in scope
abbrev pub in_scope : Option (Option ℕ) → Option ℕ
in_scope None = None
in_scope (Some place) = place

-- the map gives the last place of each name
abbrev pub IsLast : {S : Type 0} → IndexMap (Bor (List ℕ)) (Option ℕ) S → List Bound → Type 0
IsLast last bound =
    (name : List ℕ) →
    in_scope (get_by (λ k. bytes_eq name k.now) last)
    ≡ last_place name 0 (names_of (keys last) bound)

-- each variable says where the last one before it stands that has its name
abbrev pub AreHidden : List (Bor (List ℕ)) → List (List ℕ) → List Bound → Type 0
AreHidden names done [] = Unit {0}
AreHidden names done (b ∷ bs) =
    (b.hidden ≡ last_place (name_at names b.number) 0 done)
    × AreHidden names (done ++ name_at names b.number ∷ []) bs

-- the number of each variable's name is that of a name
abbrev pub AreNumbered : List (Bor (List ℕ)) → List Bound → Type 0
AreNumbered names [] = Unit {0}
AreNumbered names (b ∷ bs) =
    (numbered names b.number ≡ Some (name_at names b.number)) × AreNumbered names bs
