use Rattle.std.proofs.Common.{◌≡◌, ◌++◌, ◌∷◌, [], take, map, Bool, true, false, not, cond, ap, sym, ◌∙◌, arith, subst}
use Rattle.std.specs.List.{list_any}
use Rattle.std.proofs.lemmas.List.{map_push}
use Rattle.xq_atoms.specs.Atom.{atomic_of}
use Rattle.xq_atoms.specs.Compare.{key, key_of, key_eq}
use Rattle.xq_atoms.specs.Derived.{group_key_eq}
use Rattle.xq_trees.specs.declared.items.Item.TheVariants.{Atom}
use Rattle.xq_trees.specs.Items.{Value, item_view, item_views}
use Rattle.xq_functions.specs.Answers.{atomics}
use Rattle.xq_functions.specs.private.Running.{Distinct}
use Rattle.xq_functions.proofs.ListLemmas.{to_here}
use Rattle.xq_functions.proofs.DistinctLemmas.{Distinct-new, Distinct-old, seen_key}
use Rattle.xq_functions.proofs.distinct.distinct_atoms.Goals as goal
use Rattle.xq_functions.proofs.distinct.distinct_atoms.Goals.{then-branch+in_ok-try_clone+in_ok-push, else-branch}

from_not : (a b c : Bool) → a ≡ c → a ≡ not b → b ≡ not c
from_not a true c e f = sym (ap not (sym e ∙ f))
from_not a false c e f = sym (ap not (sym e ∙ f))

pub loop-atom-preserved : goal.loop-atom-preserved
loop-atom-preserved c =
    let i = c.loop-atom.atom-index in
    let atoms = c.args.atoms.now in
    let atom = c.atom-item.result in
    let a = atomic_of atom in
    let done = atomics (take i atoms) in
    let seen = c.loop-atom.seen.keys in
    let k = c.in_ok-of.field-0 in
    let here = to_here atomic_of atoms i atom (omega arith) c.atom-item.is in
    let h = c.loop-atom.invariant in
    let key_is : key_of k ≡ key a = c.in_ok-of.ensures.value in
    let seen_is : (b : Bool) → list_any (group_key_eq k) seen ≡ b → c.insert.new.self.keys ≡ cond b seen (seen ++ k ∷ []) = λ b e. c.in_ok-insert.ensures.keys ∙ ap (λ t. cond t seen (seen ++ k ∷ [])) e in
    let any_is : list_any (key_eq (key a)) (map key_of seen) ≡ list_any (group_key_eq k) seen = ap (λ j. list_any (key_eq j) (map key_of seen)) (sym key_is) ∙ sym (seen_key k seen) in
    subst (λ as'. Distinct as' (map key_of c.insert.new.self.keys) (item_views c.if-branch.items)) (sym here)
    (elim c.if-branch.branch [
      | then-branch+in_ok-try_clone+in_ok-push w ↦
          let none : list_any (group_key_eq k) seen ≡ false = from_not c.in_ok-insert.field-0 _ true w.if-branch.true c.in_ok-insert.ensures.added in
          let keys : map key_of c.insert.new.self.keys ≡ map key_of seen ++ key a ∷ [] = ap (map key_of) (seen_is false none) ∙ map_push key_of seen k ∙ ap (λ j. map key_of seen ++ j ∷ []) key_is in
          let values : item_views c.if-branch.items ≡ item_views c.loop-atom.items ++ Value a ∷ [] =
          ap item_views w.items-is ∙ ap (map item_view) w.in_ok-push.ensures.items ∙ map_push item_view c.loop-atom.items.items (Atom w.in_ok-try_clone.field-0) ∙ ap (λ b. item_views c.loop-atom.items ++ Value b ∷ []) w.in_ok-try_clone.ensures.value in
          Distinct-new h a (any_is ∙ none) (map key_of c.insert.new.self.keys) (item_views c.if-branch.items) keys values
      | else-branch w ↦
          let some : list_any (group_key_eq k) seen ≡ true = from_not c.in_ok-insert.field-0 _ false w.if-branch.false c.in_ok-insert.ensures.added in
          subst (λ seen'. Distinct (done ++ a ∷ []) seen' (item_views c.if-branch.items)) (sym (ap (map key_of) (seen_is true some)))
          (subst (Distinct (done ++ a ∷ []) (map key_of seen)) (sym (ap item_views w.items-is)) (Distinct-old h a (any_is ∙ some)))
    ])
