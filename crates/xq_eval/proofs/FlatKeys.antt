-- Keys of all tuples, one tuple after another, and those of each.
use Rattle.std.proofs.Common.{◌≡◌, ℕ, zero, suc, List, [], ◌∷◌, ◌++◌, length, refl, sym, ap, ◌∙◌, arith, Ok, Err}
use Rattle.std.specs.List.{AllByRecursion}
use Rattle.std.proofs.lemmas.List.{append_assoc, append-nil, take_at, drop_at}
use Rattle.xq_atoms.specs.declared.refusals.Code.{Code}
use Rattle.xq_atoms.specs.declared.refusals.Fault.{Fault}
use Rattle.xq_atoms.specs.declared.refusals.Fault.TheVariants.{Code as OfCode, Want as OfWant}
use Rattle.xq_atoms.specs.Atom.{Atomic}
use Rattle.xq_atoms.specs.Judged.{Judged}
use Rattle.xq_trees.specs.Tree.{Tree}
use Rattle.xq_tuples.specs.Keys.{by_tuple}
use Rattle.xq_meaning.specs.Doing.{Doing, Outcome, go_on, give, in_turn, one_more, more, for_each, collected}
use Rattle.xq_eval.specs.private.Results.{GivesKeys, GivesRows}

-- one list after another
abbrev pub flat : {B : Type 0} → List (List B) → List B
flat [] = []
flat (xs ∷ rest) = xs ++ flat rest

-- # Results after others

module _ {A B : Type 0} (act : A → Doing B) where
  rejoined : (o : Outcome (List B)) (done : List B) (y : B) → go_on o (λ ys. give ((done ++ y ∷ []) ++ ys)) ≡ go_on (go_on o (λ ys. give (y ∷ ys))) (λ ys. give (done ++ ys))
  rejoined (Ok ys, g) done y = ap (λ l. (Ok l, g)) (append_assoc done (y ∷ []) ys)
  rejoined (Err code, g) done y = refl

  after_first : (o : Outcome B) (done : List B) (xs : List A)
      → ((y : B) (g : List Tree) → in_turn (one_more act) (done ++ y ∷ []) xs g ≡ go_on (in_turn (one_more act) (y ∷ []) xs g) (λ ys. give (done ++ ys)))
      → go_on (go_on o (λ y. give (done ++ y ∷ []))) (λ n. in_turn (one_more act) n xs) ≡ go_on (go_on (go_on o (λ y. give (y ∷ []))) (λ n. in_turn (one_more act) n xs)) (λ ys. give (done ++ ys))
  after_first (Ok y, g) done xs h = h y g
  after_first (Err code, g) done xs h = refl

  -- those so far, and then those of each
  pub from_done : (done : List B) (xs : List A) (f : List Tree) → in_turn (one_more act) done xs f ≡ go_on (for_each act xs f) (λ ys. give (done ++ ys))
  from_done done [] f = ap (λ l. (Ok l, f)) (sym (append-nil done))
  from_done done (x ∷ xs) f =
      after_first (act x f) done xs (λ y g. from_done (done ++ y ∷ []) xs g ∙ rejoined (for_each act xs g) done y ∙ ap (λ o. go_on o (λ ys. give (done ++ ys))) (sym (from_done (y ∷ []) xs g)))

  -- the result of the first, and then those of the others
  first_then : (o : Outcome B) (xs : List A) → go_on (go_on o (λ y. give (y ∷ []))) (λ n. in_turn (one_more act) n xs) ≡ go_on o (λ y g. go_on (for_each act xs g) (λ ys. give (y ∷ ys)))
  first_then (Ok y, g) xs = from_done (y ∷ []) xs g
  first_then (Err code, g) xs = refl

  pub for_each-cons : (x : A) (xs : List A) (f : List Tree) → for_each act (x ∷ xs) f ≡ go_on (act x f) (λ y g. go_on (for_each act xs g) (λ ys. give (y ∷ ys)))
  for_each-cons x xs f = first_then (act x f) xs

-- # One list after another

module _ {A B : Type 0} (act : A → Doing (List B)) where
  joined : (o : Outcome (List (List B))) (done y : List B) → go_on o (λ rows. give ((done ++ y) ++ flat rows)) ≡ go_on (go_on o (λ rows. give (y ∷ rows))) (λ rows. give (done ++ flat rows))
  joined (Ok rows, g) done y = ap (λ l. (Ok l, g)) (append_assoc done y (flat rows))
  joined (Err code, g) done y = refl

  collected_step : (o : Outcome (List B)) (done : List B) (xs : List A)
      → ((y : List B) (g : List Tree) → in_turn (more act) (done ++ y) xs g ≡ go_on (go_on (for_each act xs g) (λ rows. give (y ∷ rows))) (λ rows. give (done ++ flat rows)))
      → go_on (go_on o (λ ys. give (done ++ ys))) (λ n. in_turn (more act) n xs) ≡ go_on (go_on o (λ y g. go_on (for_each act xs g) (λ rows. give (y ∷ rows)))) (λ rows. give (done ++ flat rows))
  collected_step (Ok y, g) done xs h = h y g
  collected_step (Err code, g) done xs h = refl

  collected_from : (done : List B) (xs : List A) (f : List Tree) → in_turn (more act) done xs f ≡ go_on (for_each act xs f) (λ rows. give (done ++ flat rows))
  collected_from done [] f = ap (λ l. (Ok l, f)) (sym (append-nil done))
  collected_from done (x ∷ xs) f =
      collected_step (act x f) done xs (λ y g. collected_from (done ++ y) xs g ∙ joined (for_each act xs g) done y)
      ∙ ap (λ o. go_on o (λ rows. give (done ++ flat rows))) (sym (for_each-cons act x xs f))

  -- the lists of each, one after another, are those lists joined
  pub collected_is : (xs : List A) (f : List Tree) → collected act xs f ≡ go_on (for_each act xs f) (λ rows. give (flat rows))
  collected_is xs f = collected_from [] xs f

-- # How long they are

abbrev HasLength : {B : Type 0} → ℕ → Outcome (List B) → Type 0
HasLength n (Ok ys, f) = length ys ≡ n
HasLength n (Err code, f) = Unit {0}

longer : {B : Type 0} (n : ℕ) (o : Outcome (List B)) (y : B) → HasLength n o → HasLength (suc n) (go_on o (λ ys. give (y ∷ ys)))
longer n (Ok ys, g) y h = omega (arith, h)
longer n (Err code, g) y h = tt

longer_from : {B : Type 0} (n : ℕ) (o : Outcome B) (rest : Doing (List B)) → ((g : List Tree) → HasLength n (rest g)) → HasLength (suc n) (go_on o (λ y g. go_on (rest g) (λ ys. give (y ∷ ys))))
longer_from n (Ok y, g) rest h = longer n (rest g) y (h g)
longer_from n (Err code, g) rest h = tt

pub for_each_length : {A B : Type 0} (act : A → Doing B) (xs : List A) (n : ℕ) → length xs ≡ n → (f : List Tree) → HasLength n (for_each act xs f)
for_each_length act [] zero e f = refl
for_each_length act [] (suc n) e f = absurd (omega (arith, e))
for_each_length act (x ∷ xs) zero e f = absurd (omega (arith, e))
for_each_length act (x ∷ xs) (suc n) e f =
    rw (for_each-cons act x xs f) (longer_from n (act x f) (for_each act xs) (λ g. for_each_length act xs n (omega (arith, e)) g))

-- so many lists, each so long
abbrev pub AreRows : {B : Type 0} → ℕ → ℕ → Outcome (List (List B)) → Type 0
AreRows m n (Ok rows, f) = (length rows ≡ m) × AllByRecursion (λ row. length row ≡ n) rows
AreRows m n (Err code, f) = Unit {0}

one_row : {B : Type 0} (m n : ℕ) (o : Outcome (List (List B))) (y : List B) → length y ≡ n → AreRows m n o → AreRows (suc m) n (go_on o (λ ys. give (y ∷ ys)))
one_row m n (Ok rows, g) y e h = (omega (arith, h.0), (e, h.1))
one_row m n (Err code, g) y e h = tt

one_row_from : {B : Type 0} (m n : ℕ) (o : Outcome (List B)) (rest : Doing (List (List B))) → HasLength n o → ((g : List Tree) → AreRows m n (rest g)) → AreRows (suc m) n (go_on o (λ y g. go_on (rest g) (λ ys. give (y ∷ ys))))
one_row_from m n (Ok y, g) rest e h = one_row m n (rest g) y e (h g)
one_row_from m n (Err code, g) rest e h = tt

pub are_rows : {A B : Type 0} (act : A → Doing (List B)) (n : ℕ) → ((x : A) (f : List Tree) → HasLength n (act x f)) → (xs : List A) (m : ℕ) → length xs ≡ m → (f : List Tree) → AreRows m n (for_each act xs f)
are_rows act n h [] zero e f = (refl, tt)
are_rows act n h [] (suc m) e f = absurd (omega (arith, e))
are_rows act n h (x ∷ xs) zero e f = absurd (omega (arith, e))
are_rows act n h (x ∷ xs) (suc m) e f =
    rw (for_each-cons act x xs f) (one_row_from m n (act x f) (for_each act xs) (h x f) (λ g. are_rows act n h xs m (omega (arith, e)) g))

-- # Back to those of each

rows_back : {B : Type 0} (m n : ℕ) (rows : List (List B)) → length rows ≡ m → AllByRecursion (λ row. length row ≡ n) rows → by_tuple m n (flat rows) ≡ rows
rows_back zero n [] e h = refl
rows_back zero n (row ∷ rows) e h = absurd (omega (arith, e))
rows_back (suc m) n [] e h = absurd (omega (arith, e))
rows_back (suc m) n (row ∷ rows) e h =
    (λ t. take_at row (flat rows) n h.0 t ∷ by_tuple m n (drop_at row (flat rows) n h.0 t)) ∙ ap (λ l. row ∷ l) (rows_back m n rows (omega (arith, e)) h.1)

abbrev value_or : {A : Type 0} → A → Judged A → A
value_or other (Ok x) = x
value_or other (Err code) = other

-- what goes on from the lists goes on from them joined
pub order_is : {B C : Type 0} (m n : ℕ) (o : Outcome (List (List B))) (next : List (List B) → Doing C) (keys : List B) (f : List Tree) → AreRows m n o
    → go_on o (λ rows. give (flat rows)) ≡ (Ok keys, f) → go_on o next ≡ next (by_tuple m n keys) f
order_is m n (Ok rows, g) next keys f long e =
    let same : flat rows ≡ keys = ap (λ (p : Outcome _). value_or keys p.0) e in
    let there : g ≡ f = ap (λ (p : Outcome _). p.1) e in
    ap (λ l. next l g) (sym (rows_back m n rows long.0 long.1) ∙ ap (by_tuple m n) same) ∙ ap (next (by_tuple m n keys)) there
order_is m n (Err code, g) next keys f long e = absurd (let no : Err code ≡ Ok keys = ap (λ (p : Outcome _). p.0) e in cc)

same_code : {B : Type 0} (o : Outcome (List (List B))) (code : Code) → (go_on o (λ rows. give (flat rows))).0 ≡ Err code → o.0 ≡ Err code
same_code (Ok rows, g) code e = absurd (cc)
same_code (Err other, g) code e = let same : other ≡ code = cc in ap Err same

-- and a refusal of the one is a refusal of the other
pub order_stops : (o : Outcome (List (List (List Atomic)))) (f : List Tree) (e : Fault) → GivesKeys (go_on o (λ rows. give (flat rows))) f (Err e) → GivesRows o f (Err e)
order_stops o f (OfWant want) h = tt
order_stops o f (OfCode code) h = same_code o code h
