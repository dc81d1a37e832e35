-- One value more among the distinct ones.
use Rattle.std.proofs.Common.{◌≡◌, List, [], ◌∷◌, ◌++◌, map, Bool, true, false, cond, sym, ap, ◌∙◌, string_bytes}
use Rattle.std.specs.Prelude.{bytes_eq, String}
use Rattle.std.specs.List.{list_any}
use Rattle.std.specs.Cmp.{IsEquivalence, on_equiv}
use Rattle.std.proofs.lemmas.List.{map_push}
use Rattle.xq_atoms.specs.declared.atoms.GroupKey.{GroupKey}
use Rattle.xq_atoms.specs.Atom.{Atomic}
use Rattle.xq_atoms.specs.Compare.{Key, Characters, key, key_of, key_eq}
use Rattle.xq_atoms.specs.Derived.{group_key_eq}
use Rattle.xq_atoms.specs.Text.{Text}
use Rattle.xq_atoms.proofs.Keys.{group_key_eq-is}
use Rattle.xq_trees.specs.Items.{ItemView, Value}
use Rattle.xq_trees.proofs.Grouping.{list_any-map, firsts-push}
use Rattle.xq_atoms.proofs.KeyOrder.{key_eq_equiv}
use Rattle.xq_meaning.specs.Functions.{distinct_values}
use Rattle.xq_functions.specs.private.Running.{Distinct}

laws : IsEquivalence (λ (a b : Atomic). key_eq (key a) (key b))
laws = on_equiv key key_eq_equiv

-- the keys of strings
abbrev pub keys_of_strings : {Z : Type 0} → List (String Z) → List Key
keys_of_strings strings = map (λ s. Characters (string_bytes s)) strings

-- a key is among those that the program has seen, where it finds it there
pub seen_key : (k : GroupKey) (seen : List GroupKey) → list_any (group_key_eq k) seen ≡ list_any (key_eq (key_of k)) (map key_of seen)
seen_key k seen = (λ i. list_any (λ z. group_key_eq-is k z i) seen) ∙ sym (list_any-map (key_eq (key_of k)) key_of seen)

pub seen_string : {Z : Type 0} (t : Text) (seen : List (String Z)) → list_any (λ s. bytes_eq t (string_bytes s)) seen ≡ list_any (key_eq (Characters t)) (keys_of_strings seen)
seen_string t seen = sym (list_any-map (key_eq (Characters t)) (λ s. Characters (string_bytes s)) seen)

module _ {done : List Atomic} {seen : List Key} {values : List ItemView} (h : Distinct done seen values) (a : Atomic) where
  -- among the keys, where it is among the values
  seen_any : list_any (key_eq (key a)) seen ≡ list_any (λ b. key_eq (key a) (key b)) (distinct_values done)
  seen_any = ap (list_any (key_eq (key a))) h.keys ∙ list_any-map (key_eq (key a)) key (distinct_values done)

  more : (b : Bool) → list_any (key_eq (key a)) seen ≡ b → distinct_values (done ++ a ∷ []) ≡ cond b (distinct_values done) (distinct_values done ++ a ∷ [])
  more b e = firsts-push laws done a ∙ ap (λ t. cond t (distinct_values done) (distinct_values done ++ a ∷ [])) (sym seen_any ∙ e)

  pub Distinct-new : list_any (key_eq (key a)) seen ≡ false → (new : List Key) (longer : List ItemView) → new ≡ seen ++ key a ∷ [] → longer ≡ values ++ Value a ∷ [] → Distinct (done ++ a ∷ []) new longer
  Distinct-new none new longer seen_is values_is = record {
    keys = seen_is ∙ ap (λ l. l ++ key a ∷ []) h.keys ∙ sym (map_push key (distinct_values done) a) ∙ sym (ap (map key) (more false none));
    items = values_is ∙ ap (λ l. l ++ Value a ∷ []) h.items ∙ sym (map_push Value (distinct_values done) a) ∙ sym (ap (map Value) (more false none));
  }

  pub Distinct-old : list_any (key_eq (key a)) seen ≡ true → Distinct (done ++ a ∷ []) seen values
  Distinct-old some = record {
    keys = h.keys ∙ sym (ap (map key) (more true some));
    items = h.items ∙ sym (ap (map Value) (more true some));
  }
