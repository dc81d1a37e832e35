-- What a join gives.
use Rattle.std.proofs.Common.{◌≡◌, ℕ, zero, suc, ◌+◌, ◌<◌, List, [], ◌∷◌, ◌++◌, map, filter, length, Bool, true, false, Option, Some, None, Ok, refl, sym, ◌∙◌, ap, subst, arith, append_assoc}
use Rattle.std.specs.Prelude.{if◌then◌else◌}
use Rattle.std.specs.List.{AllByRecursion, enumerate_from, zip}
use Rattle.std.proofs.lemmas.List.{map-append, append-nil}
use Rattle.std.proofs.lemmas.List.Concat.{flat_map-cons}
use Rattle.xq_atoms.specs.Atom.{Atomic}
use Rattle.xq_expressions.specs.declared.operators.AllowingEmpty.TheVariants as allowing
use Rattle.xq_trees.specs.declared.items.Node.{Node as Spot}
use Rattle.xq_trees.specs.Items.{ItemView, Place as NodeAt, Value}
use Rattle.xq_trees.specs.Tree.{Tree}
use Rattle.xq_trees.specs.Tuples.{Tuple, expanded, item_values, satisfying, with_items, value_at}
use Rattle.xq_trees.proofs.Lists.{all_append, all_filter, all_weaker}
use Rattle.xq_meaning.specs.declared.joins.Equality.{Equality}
use Rattle.xq_meaning.specs.declared.joins.Join.{Join}
use Rattle.xq_meaning.specs.declared.joins.JoinKey.{JoinKey}
use Rattle.xq_meaning.specs.Doing.{Doing, go_on, ◌>>=◌, give, in_turn, more, one_more, for_each, collected}
use Rattle.xq_meaning.specs.Forms as Forms
use Rattle.xq_meaning.specs.Items.{Item, Node, Atom}
use Rattle.xq_meaning.specs.PlanMeaning.{Frame, Meaning, at_tuple, keys_equal, if_equal, opened}
use Rattle.xq_meaning.specs.Readings.{node_at, item_at, items_at, IsIn, AreIn}
use Rattle.xq_meaning.proofs.PathLemmas.{map-map, filter-map}
use Rattle.xq_operators.specs.Views.{tuple_at, tuples_at, TupleIn}
use Rattle.xq_operators.proofs.Natural.{expanded_natural, kept_natural}
use Rattle.xq_operators.proofs.Streams.{value_read}
use Rattle.xq_joins.specs.Joins.{all_pairs, Matches}
use Rattle.xq_joins.specs.Keys.{IsNode, meet}
use Rattle.xq_joins.specs.private.Keys.{places_among}
use Rattle.xq_joins.specs.private.JoinKeys.{join_texts, IsTold, AreSides}
use Rattle.xq_joins.specs.private.Tables.{matched}
use Rattle.xq_joins.proofs.JoinKeys.{sides_meet}

-- # The results of each, where each constructs nothing

module _ {A B X : Type 0} (act : A → Doing B) (r : X → A) (g : X → B) (f : List Tree) where
  each_from : (done : List B) (xs : List X) → AllByRecursion (λ x. act (r x) f ≡ (Ok (g x), f)) xs → in_turn (one_more act) done (map r xs) f ≡ (Ok (done ++ map g xs), f)
  each_from done [] h = ap (λ l. (Ok l, f)) (sym (append-nil done))
  each_from done (x ∷ xs) h =
      ap (λ o. go_on (go_on o (λ y. give (done ++ y ∷ []))) (λ next. in_turn (one_more act) next (map r xs))) h.0
      ∙ each_from (done ++ g x ∷ []) xs h.1
      ∙ ap (λ l. (Ok l, f)) (append_assoc done (g x ∷ []) (map g xs))

  pub each_is : (xs : List X) → AllByRecursion (λ x. act (r x) f ≡ (Ok (g x), f)) xs → for_each act (map r xs) f ≡ (Ok (map g xs), f)
  each_is xs h = each_from [] xs h

-- # Tuples with each item, and those of them that pass a test

satisfying_is : {A : Type 0} (q : A → Bool) (xs : List A) → satisfying xs (map q xs) ≡ filter q xs
satisfying_is q [] = refl
satisfying_is q (x ∷ xs) = by (q x) (satisfying_is q xs)
  where
    by : (b : Bool) → satisfying xs (map q xs) ≡ filter q xs → satisfying (x ∷ xs) (b ∷ map q xs) ≡ (if b then x ∷ filter q xs else filter q xs)
    by true e = ap (λ l. x ∷ l) e
    by false e = e

filter_append : {A : Type 0} (q : A → Bool) (xs ys : List A) → filter q (xs ++ ys) ≡ filter q xs ++ filter q ys
filter_append q [] ys = refl
filter_append q (x ∷ xs) ys = by (q x) (filter_append q xs ys)
  where
    by : (b : Bool) → filter q (xs ++ ys) ≡ filter q xs ++ filter q ys → (if b then x ∷ filter q (xs ++ ys) else filter q (xs ++ ys)) ≡ (if b then x ∷ filter q xs else filter q xs) ++ filter q ys
    by true e = ap (λ l. x ∷ l) e
    by false e = e

module _ {X : Type 0} (atom : Atomic → X) where
  -- a tuple with one item more
  abbrev with_one : Tuple X → X → Tuple X
  with_one tuple x = tuple ++ (x ∷ []) ∷ []

  each_with : (tuple : Tuple X) (n : ℕ) (xs : List X) → map (λ p. tuple ++ item_values atom false p.0 p.1) (enumerate_from n xs) ≡ map (with_one tuple) xs
  each_with tuple n [] = refl
  each_with tuple n (x ∷ xs) = ap (λ l. with_one tuple x ∷ l) (each_with tuple (n + 1) xs)

  -- the first tuple with each of its items, and then the others
  pub expanded_first : (t : Tuple X) (ts : List (Tuple X)) (l : List X) (ls : List (List X)) → expanded atom false false (t ∷ ts) (l ∷ ls) ≡ map (with_one t) l ++ expanded atom false false ts ls
  expanded_first t ts l ls = flat_map-cons (λ (p : Tuple X × List X). with_items atom false false p.0 p.1) (t, l) (zip ts ls) ∙ ap (λ v. v ++ expanded atom false false ts ls) (each_with t 1 l)

  filter_with : (q : Tuple X → Bool) (t : Tuple X) (xs : List X) → filter q (map (with_one t) xs) ≡ map (with_one t) (filter (λ x. q (with_one t x)) xs)
  filter_with q t xs = filter-map q (with_one t) xs

  pub expanded_filter : (q : Tuple X → Bool) (xs : List X) (ts : List (Tuple X))
      → filter q (expanded atom false false ts (map (λ t. xs) ts)) ≡ expanded atom false false ts (map (λ t. filter (λ x. q (with_one t x)) xs) ts)
  expanded_filter q xs [] = refl
  expanded_filter q xs (t ∷ ts) =
      ap (filter q) (expanded_first t ts xs (map (λ t. xs) ts))
      ∙ filter_append q (map (with_one t) xs) (expanded atom false false ts (map (λ t. xs) ts))
      ∙ ap (λ l. l ++ filter q (expanded atom false false ts (map (λ t. xs) ts))) (filter_with q t xs)
      ∙ ap (λ l. map (with_one t) (filter (λ x. q (with_one t x)) xs) ++ l) (expanded_filter q xs ts)
      ∙ sym (expanded_first t ts (filter (λ x. q (with_one t x)) xs) (map (λ t. filter (λ x. q (with_one t x)) xs) ts))

  all_with : (P : Tuple X → Type 0) (t : Tuple X) (xs : List X) → AllByRecursion (λ x. P (with_one t x)) xs → AllByRecursion P (map (with_one t) xs)
  all_with P t [] h = tt
  all_with P t (x ∷ xs) h = (h.0, all_with P t xs h.1)

  pub all_expanded : (P : Tuple X → Type 0) (xs : List X) (ts : List (Tuple X)) → AllByRecursion (λ t. AllByRecursion (λ x. P (with_one t x)) xs) ts → AllByRecursion P (expanded atom false false ts (map (λ t. xs) ts))
  all_expanded P xs [] h = tt
  all_expanded P xs (t ∷ ts) h =
      subst (AllByRecursion P) (sym (expanded_first t ts xs (map (λ t. xs) ts)))
      (all_append P (map (with_one t) xs) (expanded atom false false ts (map (λ t. xs) ts)) (all_with P t xs h.0) (all_expanded P xs ts h.1))

-- # Each tuple with the same items, and those of them that pass a test

module _ (at : Tuple Item → Frame) (f : List Tree) (ts : List (Tuple ItemView)) where
  -- where a part gives the same items at each tuple, a `for` gives each tuple with each of them
  pub pairs_given : (m : Meaning) (xs : List ItemView)
      → AllByRecursion (λ t. m (at (tuple_at f t)) f ≡ (Ok (items_at f xs), f)) ts
      → Forms.for_tuples allowing.No false m at (tuples_at f ts) f ≡ (Ok (tuples_at f (all_pairs ts xs)), f)
  pairs_given m xs same =
      ap (λ o. go_on o (λ lists. give (expanded Atom false false (tuples_at f ts) lists))) (each_is (λ t. m (at t)) (tuple_at f) (λ t. items_at f xs) f ts same)
      ∙ ap (λ lists. (Ok (expanded Atom false false (tuples_at f ts) lists), f)) (sym (map-map (items_at f) (λ t. xs) ts))
      ∙ ap (λ l. (Ok l, f)) (sym (expanded_natural (item_at f) Value Atom (λ a. refl) false false ts (map (λ t. xs) ts)))

  -- where the test has the truth of each tuple with an item, a `where` gives each tuple with those
  -- of the items at which it is true, in order
  pub kept_of : (m : Meaning) (xs : List ItemView) (q : Tuple ItemView → Bool)
      → AllByRecursion (λ t. AllByRecursion (λ x. Forms.tested m (at (tuple_at f (with_one Value t x))) f ≡ (Ok (q (with_one Value t x)), f)) xs) ts
      → Forms.where_tuples m at (tuples_at f (all_pairs ts xs)) f
      ≡ (Ok (tuples_at f (expanded Value false false ts (map (λ t. filter (λ x. q (with_one Value t x)) xs) ts))), f)
  kept_of m xs q tests =
      let es = all_pairs ts xs in
      ap (λ o. go_on o (λ bs. give (satisfying (tuples_at f es) bs))) (each_is (λ t. Forms.tested m (at t)) (tuple_at f) q f es
      (all_expanded Value (λ e. Forms.tested m (at (tuple_at f e)) f ≡ (Ok (q e), f)) xs ts tests))
      ∙ ap (λ l. (Ok l, f)) (sym (kept_natural (tuple_at f) es (map q es)) ∙ ap (tuples_at f) (satisfying_is q es ∙ expanded_filter Value q xs ts))

-- # Those of the items that pass a test, one after another

module _ (f : List Tree) (test : Item → Doing Bool) (q : ItemView → Bool) where
  abbrev passing : Item → Doing (List Item)
  passing x = test x >>= (λ keep. give (Forms.kept_if x keep))

  passing_from : (done : List Item) (xs : List ItemView) → AllByRecursion (λ x. test (item_at f x) f ≡ (Ok (q x), f)) xs
      → in_turn (more passing) done (items_at f xs) f ≡ (Ok (done ++ items_at f (filter q xs)), f)
  passing_from done [] h = ap (λ l. (Ok l, f)) (sym (append-nil done))
  passing_from done (x ∷ xs) h =
      let rest = λ (l : List Item). in_turn (more passing) l (items_at f xs) in
      ap (λ o. go_on (go_on (go_on o (λ keep. give (Forms.kept_if (item_at f x) keep))) (λ ys. give (done ++ ys))) rest) h.0
      ∙ by (q x) (λ l. passing_from l xs h.1)
    where
      by : (b : Bool) → ((l : List Item) → in_turn (more passing) l (items_at f xs) f ≡ (Ok (l ++ items_at f (filter q xs)), f))
          → in_turn (more passing) (done ++ Forms.kept_if (item_at f x) b) (items_at f xs) f
          ≡ (Ok (done ++ items_at f (if b then x ∷ filter q xs else filter q xs)), f)
      by true later = later (done ++ item_at f x ∷ []) ∙ ap (λ l. (Ok l, f)) (append_assoc done (item_at f x ∷ []) (items_at f (filter q xs)))
      by false later = ap (λ l. in_turn (more passing) l (items_at f xs) f) (append-nil done) ∙ later done

  pub passing_is : (xs : List ItemView) → AllByRecursion (λ x. test (item_at f x) f ≡ (Ok (q x), f)) xs → collected passing (items_at f xs) f ≡ (Ok (items_at f (filter q xs)), f)
  passing_is xs h = passing_from [] xs h

-- # Values of slots

pub value_front : {X : Type 0} (n : ℕ) (slots more : Tuple X) → n < length slots → value_at n (slots ++ more) ≡ value_at n slots
value_front n [] more h = absurd (omega arith)
value_front zero (v ∷ vs) more h = refl
value_front (suc n) (v ∷ vs) more h = value_front n vs more (omega (arith, h))

pub value_last : {X : Type 0} (slots : Tuple X) (v : List X) → value_at (length slots) (slots ++ v ∷ []) ≡ v
value_last [] v = refl
value_last (w ∷ ws) v = value_last ws v

pub filter_same : {X : Type 0} (p q : X → Bool) (xs : List X) → ((x : X) → p x ≡ q x) → filter p xs ≡ filter q xs
filter_same p q [] same = refl
filter_same p q (x ∷ xs) same = (λ i. if same x i then x ∷ filter_same p q xs same i else filter_same p q xs same i)

-- # What a join gives

module _ (equality : Equality) (f : List Tree) (outside : Tuple ItemView) (join : Join) (item tuple : JoinKey) (sides : AreSides join item tuple) (comparing : join.equality ≡ equality) where
  -- with an item more
  item_slot : (t : Tuple ItemView) → length (outside ++ t) ≡ item.slot → (x : ItemView) → value_at item.slot (outside ++ with_one Value t x) ≡ x ∷ []
  item_slot t next x =
      ap (value_at item.slot) (sym (append_assoc outside t ((x ∷ []) ∷ [])))
      ∙ ap (λ n. value_at n ((outside ++ t) ++ (x ∷ []) ∷ [])) (sym next)
      ∙ value_last (outside ++ t) (x ∷ [])

  tuple_slot : (t : Tuple ItemView) → length (outside ++ t) ≡ item.slot → (x : ItemView) → value_at tuple.slot (outside ++ with_one Value t x) ≡ value_at tuple.slot (outside ++ t)
  tuple_slot t next x =
      let earlier = sides.below in
      ap (value_at tuple.slot) (sym (append_assoc outside t ((x ∷ []) ∷ [])))
      ∙ value_front tuple.slot (outside ++ t) ((x ∷ []) ∷ []) (omega (arith, next, earlier))

  module _ (fr : Frame) (env : fr.env ≡ tuple_at f outside) where
    slot_at : (n : ℕ) (t : Tuple ItemView) → value_at n (fr.env ++ tuple_at f t) ≡ items_at f (value_at n (outside ++ t))
    slot_at n t = ap (value_at n) (ap (λ e. e ++ tuple_at f t) env ∙ sym (map-append (items_at f) outside t)) ∙ value_read f n (outside ++ t)

    -- the texts of both keys, at the tuple and of the item
    abbrev keys_meet : Tuple ItemView → Bool
    keys_meet e = meet (join_texts f item (value_at item.slot (outside ++ e))) (join_texts f tuple (value_at tuple.slot (outside ++ e)))

    test_at : (t : Tuple ItemView) → length (outside ++ t) ≡ item.slot → IsTold equality f tuple (value_at tuple.slot (outside ++ t))
        → (x : ItemView) → IsTold equality f item (x ∷ [])
        → Forms.tested (keys_equal join) (at_tuple fr (tuple_at f (with_one Value t x))) f ≡ (Ok (keys_meet (with_one Value t x)), f)
    test_at t next told x one =
        let e = with_one Value t x in
        sides_meet equality f join item tuple sides comparing (at_tuple fr (tuple_at f e)) (value_at item.slot (outside ++ e)) (value_at tuple.slot (outside ++ e))
        (slot_at item.slot e) (slot_at tuple.slot e)
        (subst (IsTold equality f item) (sym (item_slot t next x)) one) (subst (IsTold equality f tuple) (sym (tuple_slot t next x)) told)

  meet_at : (t : Tuple ItemView) → length (outside ++ t) ≡ item.slot → (x : ItemView)
      → meet (join_texts f item (value_at item.slot (outside ++ with_one Value t x))) (join_texts f tuple (value_at tuple.slot (outside ++ with_one Value t x)))
      ≡ meet (join_texts f item (x ∷ [])) (join_texts f tuple (value_at tuple.slot (outside ++ t)))
  meet_at t next x = (λ i. meet (join_texts f item (item_slot t next x i)) (join_texts f tuple (tuple_slot t next x i)))

  abbrev found_at : List ItemView → Tuple ItemView → List ItemView
  found_at xs t = matched f item tuple (value_at tuple.slot (outside ++ t)) xs

  found_in : (ts : List (Tuple ItemView)) (xs : List ItemView) → AreIn f xs → TupleIn f (map (found_at xs) ts)
  found_in [] xs h = tt
  found_in (t ∷ ts) xs h = (all_filter (IsIn f) _ xs h, found_in ts xs h)

  all_tests : (fr : Frame) (env : fr.env ≡ tuple_at f outside) (ts : List (Tuple ItemView)) (xs : List ItemView)
      → AllByRecursion (λ t. length (outside ++ t) ≡ item.slot) ts → AllByRecursion (λ t. IsTold equality f tuple (value_at tuple.slot (outside ++ t))) ts
      → AllByRecursion (λ x. IsTold equality f item (x ∷ [])) xs
      → AllByRecursion (λ t. AllByRecursion (λ x. Forms.tested (keys_equal join) (at_tuple fr (tuple_at f (with_one Value t x))) f ≡ (Ok (keys_meet fr env (with_one Value t x)), f)) xs) ts
  all_tests fr env [] xs next told ones = tt
  all_tests fr env (t ∷ ts) xs next told ones = (
    all_weaker (λ x. IsTold equality f item (x ∷ [])) _ (λ x one. test_at fr env t next.0 told.0 x one) xs ones,
    all_tests fr env ts xs next.1 told.1 ones,
  )

  all_found : (ts : List (Tuple ItemView)) (xs : List ItemView) → AllByRecursion (λ t. length (outside ++ t) ≡ item.slot) ts
      → map (λ t. filter (λ x. meet (join_texts f item (value_at item.slot (outside ++ with_one Value t x))) (join_texts f tuple (value_at tuple.slot (outside ++ with_one Value t x)))) xs) ts ≡ map (found_at xs) ts
  all_found [] xs next = refl
  all_found (t ∷ ts) xs next = (λ i. filter_same _ (λ x. meet (join_texts f item (x ∷ [])) (join_texts f tuple (value_at tuple.slot (outside ++ t)))) xs (meet_at t next.0) i ∷ all_found ts xs next.1 i)

  -- at one tuple, those of the items that match
  equal_at : (fr : Frame) → fr.env ≡ tuple_at f outside → (t : Tuple ItemView) (xs : List ItemView)
      → length (outside ++ t) ≡ item.slot → IsTold equality f tuple (value_at tuple.slot (outside ++ t)) → AllByRecursion (λ x. IsTold equality f item (x ∷ [])) xs
      → collected (if_equal join fr (tuple_at f t)) (items_at f xs) f ≡ (Ok (items_at f (found_at xs t)), f)
  equal_at fr env t xs next told ones =
      passing_is f (λ x. Forms.tested (keys_equal join) (at_tuple fr (opened (tuple_at f t) (x ∷ [])))) (λ x. meet (join_texts f item (x ∷ [])) (join_texts f tuple (value_at tuple.slot (outside ++ t)))) xs
      (all_weaker (λ x. IsTold equality f item (x ∷ [])) _ (λ x one.
      ap (λ u. Forms.tested (keys_equal join) (at_tuple fr u) f) (sym (map-append (items_at f) t ((x ∷ []) ∷ [])))
      ∙ test_at fr env t next told x one ∙ ap (λ b. (Ok b, f)) (meet_at t next x)) xs ones)

  all_equal : (fr : Frame) → fr.env ≡ tuple_at f outside → (ts : List (Tuple ItemView)) (xs : List ItemView)
      → AllByRecursion (λ t. length (outside ++ t) ≡ item.slot) ts → AllByRecursion (λ t. IsTold equality f tuple (value_at tuple.slot (outside ++ t))) ts
      → AllByRecursion (λ x. IsTold equality f item (x ∷ [])) xs
      → AllByRecursion (λ (p : Tuple ItemView × List ItemView). collected (if_equal join fr (tuple_at f p.0)) (items_at f xs) f ≡ (Ok (items_at f p.1), f)) (zip ts (map (found_at xs) ts))
  all_equal fr env [] xs next told ones = tt
  all_equal fr env (t ∷ ts) xs next told ones = (equal_at fr env t xs next.0 told.0 ones, all_equal fr env ts xs next.1 told.1 ones)

  -- each tuple with those of the items that match
  pub join_gives : (ts : List (Tuple ItemView)) (xs : List ItemView) (lists : List (List ItemView)) → AreIn f xs
      → AllByRecursion (λ t. length (outside ++ t) ≡ item.slot) ts → AllByRecursion (λ t. IsTold equality f tuple (value_at tuple.slot (outside ++ t))) ts
      → AllByRecursion (λ x. IsTold equality f item (x ∷ [])) xs → lists ≡ map (found_at xs) ts
      → Matches f join outside ts xs lists
  join_gives ts xs lists xs_in next told ones is = record {
    inside = subst (TupleIn f) (sym is) (found_in ts xs xs_in);
    gives = λ frame env.
        kept_of (at_tuple frame) f ts (keys_equal join) xs (keys_meet frame env) (all_tests frame env ts xs next told ones)
        ∙ ap (λ ls. (Ok (tuples_at f (expanded Value false false ts ls)), f)) (all_found ts xs next ∙ sym is);
    apart = λ frame env.
        subst (λ ls. AllByRecursion (λ (p : Tuple ItemView × List ItemView). collected (if_equal join frame (tuple_at f p.0)) (items_at f xs) f ≡ (Ok (items_at f p.1), f)) (zip ts ls)) (sym is)
        (all_equal frame env ts xs next told ones);
  }

-- the keys of nodes, as items
pub ones_told : (equality : Equality) (f : List Tree) (key : JoinKey) (nodes : List Spot) → AllByRecursion (λ n. IsTold equality f key (NodeAt n ∷ [])) nodes
    → AllByRecursion (λ x. IsTold equality f key (x ∷ [])) (map NodeAt nodes)
ones_told equality f key [] h = tt
ones_told equality f key (n ∷ nodes) h = (h.0, ones_told equality f key nodes h.1)
