use Rattle.std.proofs.Common.{◌≡◌, ◌++◌, ◌∷◌, [], take, map, false, cond, ap, sym, ◌∙◌, arith, subst, string_bytes}
use Rattle.std.specs.Prelude.{bytes_eq}
use Rattle.std.specs.List.{list_any}
use Rattle.std.proofs.lemmas.List.{map_push}
use Rattle.xq_atoms.specs.Atom.{atomic_of}
use Rattle.xq_atoms.specs.Compare.{Characters, key, key_eq}
use Rattle.xq_trees.specs.declared.items.Item.TheVariants.{Atom}
use Rattle.xq_trees.specs.Items.{Value, item_view, item_views}
use Rattle.xq_functions.specs.Answers.{atomics}
use Rattle.xq_functions.specs.private.Running.{Distinct}
use Rattle.xq_functions.proofs.ListLemmas.{to_here}
use Rattle.xq_functions.proofs.DistinctLemmas.{Distinct-new, Distinct-old, keys_of_strings, seen_string}
use Rattle.xq_functions.proofs.distinct.distinct_strings.Goals as goal
use Rattle.xq_functions.proofs.distinct.distinct_strings.Goals.{then-not-contains+in_ok-from_str+in_ok-insert+in_ok-try_clone+in_ok-push, else-not-contains}

pub loop-atom-preserved : goal.loop-atom-preserved
loop-atom-preserved c =
    let i = c.loop-atom.atom-index in
    let atoms = c.args.atoms.now in
    let a = atomic_of c.atom-item.result in
    let t = c.in-Some.text.now in
    let done = atomics (take i atoms) in
    let seen = c.loop-atom.seen.keys in
    let here = to_here atomic_of atoms i c.atom-item.result (omega arith) c.atom-item.is in
    let h = c.loop-atom.invariant in
    let key_is : key a ≡ Characters t = c.in-Some.ensures in
    let any_is : list_any (key_eq (key a)) (keys_of_strings seen) ≡ c.contains.result = ap (λ j. list_any (key_eq j) (keys_of_strings seen)) key_is ∙ sym (seen_string t seen) ∙ sym c.contains.ensures in
    subst (λ as'. Distinct as' (keys_of_strings c.if-not-contains.seen.keys) (item_views c.if-not-contains.items)) (sym here)
    (elim c.if-not-contains.branch [
      | then-not-contains+in_ok-from_str+in_ok-insert+in_ok-try_clone+in_ok-push w ↦
          let s = w.in_ok-from_str.field-0 in
          let s_is : string_bytes s ≡ t = w.in_ok-from_str.ensures.ok in
          let none : list_any (λ k. bytes_eq (string_bytes s) (string_bytes k)) seen ≡ false = ap (λ u. list_any (λ k. bytes_eq u (string_bytes k)) seen) s_is ∙ sym c.contains.ensures ∙ w.if-not-contains.true in
          let longer : c.if-not-contains.seen.keys ≡ seen ++ s ∷ [] = ap (λ set. set.keys) w.seen-is ∙ w.in_ok-insert.ensures.keys ∙ ap (λ b. cond b seen (seen ++ s ∷ [])) none in
          let keys : keys_of_strings c.if-not-contains.seen.keys ≡ keys_of_strings seen ++ key a ∷ [] = ap keys_of_strings longer ∙ map_push (λ k. Characters (string_bytes k)) seen s ∙ ap (λ j. keys_of_strings seen ++ j ∷ []) (ap Characters s_is ∙ sym key_is) in
          let values : item_views c.if-not-contains.items ≡ item_views c.loop-atom.items ++ Value a ∷ [] =
          ap item_views w.items-is ∙ ap (map item_view) w.in_ok-push.ensures.items ∙ map_push item_view c.loop-atom.items.items (Atom w.in_ok-try_clone.field-0) ∙ ap (λ b. item_views c.loop-atom.items ++ Value b ∷ []) w.in_ok-try_clone.ensures.value in
          Distinct-new h a (any_is ∙ w.if-not-contains.true) (keys_of_strings c.if-not-contains.seen.keys) (item_views c.if-not-contains.items) keys values
      | else-not-contains w ↦
          subst (λ set. Distinct (done ++ a ∷ []) (keys_of_strings set.keys) (item_views c.if-not-contains.items)) (sym w.seen-is)
          (subst (Distinct (done ++ a ∷ []) (keys_of_strings seen)) (sym (ap item_views w.items-is)) (Distinct-old h a (any_is ∙ w.if-not-contains.false)))
    ])
