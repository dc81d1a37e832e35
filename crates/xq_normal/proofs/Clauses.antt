-- Clauses one after another, and paths.
use Rattle.std.proofs.Common.{◌≡◌, ℕ, ◌+◌, ◌<◌, ◌≤◌, List, [], ◌∷◌, ◌++◌, map, take, length, get_or, sym, ap, ◌∙◌}
use Rattle.std.proofs.lemmas.List.{map-append, take_all}
use Rattle.xq_meaning.specs.Doing.{go_on}
use Rattle.xq_meaning.specs.Meaning.{ClauseMeaning, next_clause, clauses}
use Rattle.xq_meaning.proofs.Turns.{go_on_give, in_turn-append}
use Rattle.xq_normal.proofs.Lists.{take_next}

-- a clause, and then another
abbrev pub and_then : ClauseMeaning → ClauseMeaning → ClauseMeaning
and_then c d frame s f = go_on (c frame s f) (d frame)

pub clauses-append : (xs ys : List ClauseMeaning) →
    clauses (xs ++ ys) ≡ and_then (clauses xs) (clauses ys)
clauses-append xs ys = λ i frame s f. in_turn-append (next_clause frame) s xs ys f i

pub clauses-one : (x : ClauseMeaning) → clauses (x ∷ []) ≡ x
clauses-one x = λ i frame s f. go_on_give (x frame s f) i

module _ {A B : Type 0} (f : A → ClauseMeaning) (g : B → ClauseMeaning) (all : List B) (i : ℕ) (done : List A) where
  pub clauses_next : (more : List A) (y : B) → clauses (map f done) ≡ clauses (map g (take i all)) →
      i < length all → y ≡ get_or all i y → clauses (map f more) ≡ g y →
      clauses (map f (done ++ more)) ≡ clauses (map g (take (i + 1) all))
  clauses_next more y so_far h is same =
      ap clauses (map-append f done more) ∙ clauses-append (map f done) (map f more)
      ∙ ap (λ c. and_then c (clauses (map f more))) so_far
      ∙ ap (and_then (clauses (map g (take i all)))) (same ∙ sym (clauses-one (g y)))
      ∙ sym (clauses-append (map g (take i all)) (g y ∷ []))
      ∙ ap clauses (sym (map-append g (take i all) (y ∷ [])))
      ∙ ap (λ l. clauses (map g l)) (sym (take_next all i y h is))

  pub clauses_done : clauses (map f done) ≡ clauses (map g (take i all)) → length all ≤ i →
      clauses (map f done) ≡ clauses (map g all)
  clauses_done so_far h = so_far ∙ ap (λ l. clauses (map g l)) (take_all i all h)
