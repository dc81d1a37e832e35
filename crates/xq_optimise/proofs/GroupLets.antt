-- A group join gives what a `let` gives of a FLWOR expression with a join.
use Rattle.std.proofs.Common.{◌≡◌, ℕ, ◌+◌, List, [], ◌∷◌, ◌++◌, map, length, Bool, true, false, Ok, Err, refl, sym, ap, ◌∙◌, arith}
use Rattle.std.specs.List.{enumerate_from}
use Rattle.std.proofs.lemmas.List.{append_assoc, append-nil, length-append}
use Rattle.std.proofs.lemmas.List.Concat.{flat_map-cons}
use Rattle.xq_trees.specs.Tree.{Tree}
use Rattle.xq_trees.specs.Tuples.{Tuple, expanded, item_values, with_items, satisfying, value_at}
use Rattle.xq_meaning.specs.declared.joins.Join.{Join}
use Rattle.xq_meaning.specs.Doing.{Doing, Outcome, go_on, ◌>>=◌, give, in_turn, one_more, more, for_each, collected}
use Rattle.xq_meaning.specs.Forms
use Rattle.xq_meaning.specs.Items.{Item, Atom}
use Rattle.xq_meaning.specs.PlanMeaning.{Frame, Meaning, slot, opened, at_tuple, at_carried, keys_equal, join_tuples, if_equal, equal_items, flwor}
use Rattle.xq_meaning.proofs.SameForms.{go_on_same}

-- # Tests of all, and then those that pass

module _ {A : Type 0} (test : A → Doing Bool) where
  abbrev pub kept : A → Doing (List A)
  kept x = test x >>= (λ keep. give (Forms.kept_if x keep))

  satisfying_next : (ps : List A) (bs : List Bool) (x : A) (b : Bool) → length bs ≡ length ps → satisfying (ps ++ x ∷ []) (bs ++ b ∷ []) ≡ satisfying ps bs ++ Forms.kept_if x b
  satisfying_next [] [] x true h = refl
  satisfying_next [] [] x false h = refl
  satisfying_next [] (c ∷ bs) x b h = absurd (omega (arith, h))
  satisfying_next (p ∷ ps) [] x b h = absurd (omega (arith, h))
  satisfying_next (p ∷ ps) (true ∷ bs) x b h = ap (λ l. p ∷ l) (satisfying_next ps bs x b (omega (arith, h)))
  satisfying_next (p ∷ ps) (false ∷ bs) x b h = satisfying_next ps bs x b (omega (arith, h))

  passed_from : (ps : List A) (bs : List Bool) (xs : List A) (f : List Tree) → length bs ≡ length ps
      → go_on (in_turn (one_more test) bs xs f) (λ tests. give (satisfying (ps ++ xs) tests)) ≡ in_turn (more kept) (satisfying ps bs) xs f
  passed_from ps bs [] f h = ap (λ l. (Ok (satisfying l bs), f)) (append-nil ps)
  passed_from ps bs (x ∷ xs) f h = by (λ b g. passed_from (ps ++ x ∷ []) (bs ++ b ∷ []) xs g (omega (arith, h, length-append ps (x ∷ []), length-append bs (b ∷ [])))) (test x f)
    where
      by : ((b : Bool) (g : List Tree) → go_on (in_turn (one_more test) (bs ++ b ∷ []) xs g) (λ tests. give (satisfying ((ps ++ x ∷ []) ++ xs) tests)) ≡ in_turn (more kept) (satisfying (ps ++ x ∷ []) (bs ++ b ∷ [])) xs g)
          → (o : Outcome Bool)
          → go_on (go_on (go_on o (λ b. give (bs ++ b ∷ []))) (λ next. in_turn (one_more test) next xs)) (λ tests. give (satisfying (ps ++ x ∷ xs) tests))
          ≡ go_on (go_on (go_on o (λ keep. give (Forms.kept_if x keep))) (λ ys. give (satisfying ps bs ++ ys))) (λ next. in_turn (more kept) next xs)
      by later (Ok b, g) =
          ap (λ l. go_on (in_turn (one_more test) (bs ++ b ∷ []) xs g) (λ tests. give (satisfying l tests))) (sym (append_assoc ps (x ∷ []) xs))
          ∙ later b g
          ∙ ap (λ l. in_turn (more kept) l xs g) (satisfying_next ps bs x b h)
      by later (Err code, g) = refl

  pub passed_is : (xs : List A) (f : List Tree) → go_on (for_each test xs f) (λ tests. give (satisfying xs tests)) ≡ collected kept xs f
  passed_is xs f = passed_from [] [] xs f refl

-- # Tuples of one item

abbrev pub row : Item → Tuple Item
row x = (x ∷ []) ∷ []

rows_from : (n : ℕ) (xs : List Item) → map (λ p. [] ++ item_values Atom false p.0 p.1) (enumerate_from n xs) ≡ map row xs
rows_from n [] = refl
rows_from n (x ∷ xs) = ap (λ l. row x ∷ l) (rows_from (n + 1) xs)

pub expanded_one : (xs : List Item) → expanded Atom false false ([] ∷ []) (xs ∷ []) ≡ map row xs
expanded_one xs =
    flat_map-cons (λ (p : Tuple Item × List Item). with_items Atom false false p.0 p.1) ([], xs) []
    ∙ append-nil (with_items Atom false false [] xs) ∙ rows_from 1 xs

turns_of_rows : {B : Type 0} (act : B → Tuple Item → Doing B) (b : B) (xs : List Item) (f : List Tree) → in_turn act b (map row xs) f ≡ in_turn (λ c x. act c (row x)) b xs f
turns_of_rows act b [] f = refl
turns_of_rows act b (x ∷ xs) f =
    go_on_same (act b (row x) f) (λ n. in_turn act n (map row xs)) (λ n. in_turn (λ c y. act c (row y)) n xs) (λ n g. turns_of_rows act n xs g)

satisfying_rows : (xs : List Item) (bs : List Bool) → satisfying (map row xs) bs ≡ map row (satisfying xs bs)
satisfying_rows [] bs = refl
satisfying_rows (x ∷ xs) [] = refl
satisfying_rows (x ∷ xs) (true ∷ bs) = ap (λ l. row x ∷ l) (satisfying_rows xs bs)
satisfying_rows (x ∷ xs) (false ∷ bs) = satisfying_rows xs bs

value_last : (slots : Tuple Item) (v : List Item) → value_at (length slots) (slots ++ v ∷ []) ≡ v
value_last [] v = refl
value_last (w ∷ ws) v = value_last ws v

module _ (frame : Frame) (f : List Tree) where
  abbrev last : Tuple Item → Doing (List Item)
  last t = slot (length frame.env) (at_tuple frame t)

  rows_returned : (done ys : List Item) → in_turn (more last) done (map row ys) f ≡ (Ok (done ++ ys), f)
  rows_returned done [] = ap (λ l. (Ok l, f)) (sym (append-nil done))
  rows_returned done (y ∷ ys) =
      ap (λ v. in_turn (more last) (done ++ v) (map row ys) f) (value_last frame.env (y ∷ []))
      ∙ rows_returned (done ++ y ∷ []) ys
      ∙ ap (λ l. (Ok l, f)) (append_assoc done (y ∷ []) ys)

-- # The FLWOR expression

module _ (range ranged : Meaning) (join inner : Join) (frame : Frame) (t : Tuple Item) (keys : keys_equal inner ≡ keys_equal join) where
  abbrev inside : Frame
  inside = at_tuple frame t

  abbrev equal_at : Item → Doing Bool
  equal_at x = Forms.tested (keys_equal inner) (at_tuple inside (row x))

  -- the slots of a tuple come after those before
  row_at : (x : Item) → at_tuple inside (row x) ≡ at_tuple frame (opened t (x ∷ []))
  row_at x = ap (λ (env : Tuple Item). record frame { env = env }) (append_assoc frame.env t (row x))

  -- what is given of the pairs that a `where` keeps
  abbrev after_where : List (Tuple Item) → Doing (List Item)
  after_where found = Forms.return_of (slot (length (frame.env ++ t))) (at_tuple inside) found

  rows_kept : (xs : List Item) (g : List Tree) → go_on (Forms.where_tuples (keys_equal inner) (at_tuple inside) (map row xs) g) after_where ≡ collected (if_equal join frame t) xs g
  rows_kept xs g =
      ap (λ o. go_on (go_on o (λ tests. give (satisfying (map row xs) tests))) after_where) (turns_of_rows (one_more (λ u. Forms.tested (keys_equal inner) (at_tuple inside u))) [] xs g)
      ∙ given (for_each equal_at xs g)
      ∙ passed_is equal_at xs g
      ∙ ap (λ (test : Item → Doing Bool). collected (λ x. test x >>= (λ keep. give (Forms.kept_if x keep))) xs g) (λ i x. Forms.tested (keys i) (row_at x i))
    where
      given : (o : Outcome (List Bool)) → go_on (go_on o (λ tests. give (satisfying (map row xs) tests))) after_where ≡ go_on o (λ tests. give (satisfying xs tests))
      given (Ok tests, h) = ap (λ found. after_where found h) (satisfying_rows xs tests) ∙ rows_returned inside h [] (satisfying xs tests)
      given (Err code, h) = refl

  -- a join that returns its last slot gives the items whose keys are equal
  pub group_join_is : ((f : List Tree) → ranged (at_carried inner inside []) f ≡ range (at_carried join frame t) f) → (f : List Tree)
      → flwor (join_tuples ranged inner ∷ []) (slot (length (frame.env ++ t))) inside f ≡ equal_items range join frame t f
  group_join_is same f = by (ranged (at_carried inner inside []) f) ∙ ap (λ o. go_on o (λ xs. collected (if_equal join frame t) xs)) (same f)
    where
      by : (o : Outcome (List Item))
          → go_on (go_on (go_on (go_on (go_on (go_on o (λ y. give ([] ++ y ∷ []))) (λ next. give next)) (λ lists. give (expanded Atom false false ([] ∷ []) lists)))
          (λ found. Forms.where_tuples (keys_equal inner) (at_tuple inside) found)) (λ next. give next)) after_where
          ≡ go_on o (λ xs. collected (if_equal join frame t) xs)
      by (Ok xs, g) =
          ap (λ found. go_on (go_on (Forms.where_tuples (keys_equal inner) (at_tuple inside) found g) (λ next. give next)) after_where) (expanded_one xs)
          ∙ ap (λ o. go_on o after_where) (same_outcome (Forms.where_tuples (keys_equal inner) (at_tuple inside) (map row xs) g))
          ∙ rows_kept xs g
        where
          same_outcome : (o : Outcome (List (Tuple Item))) → go_on o (λ next. give next) ≡ o
          same_outcome (Ok x, h) = refl
          same_outcome (Err code, h) = refl
      by (Err code, g) = refl
