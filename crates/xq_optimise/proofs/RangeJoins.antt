-- A join gives what a `for` gives over those items of a range whose keys are equal.
use Rattle.std.proofs.Common.{◌≡◌, ℕ, ◌+◌, List, [], ◌∷◌, ◌++◌, map, length, Bool, true, false, None, Ok, Err, refl, sym, ap, ◌∙◌, arith}
use Rattle.std.specs.List.{enumerate_from, zip}
use Rattle.std.proofs.lemmas.List.{append_assoc, append-nil, length-append, map-append}
use Rattle.std.proofs.lemmas.List.Concat.{flat_map-cons}
use Rattle.xq_atoms.specs.Judged.{Judged}
use Rattle.xq_trees.specs.Tree.{Tree}
use Rattle.xq_trees.specs.Tuples.{Tuple, expanded, item_values, with_items}
use Rattle.xq_meaning.specs.declared.joins.Join.{Join}
use Rattle.xq_meaning.specs.declared.plans.Plan.{Plan}
use Rattle.xq_meaning.specs.Doing.{Doing, Outcome, go_on, ◌>>=◌, give, in_turn, one_more, more, for_each, collected}
use Rattle.xq_meaning.specs.Forms
use Rattle.xq_meaning.specs.Items.{Item, Atom}
use Rattle.xq_meaning.specs.PlanMeaning.{Frame, opened, at_tuple, carried, at_carried, keys_equal, join_tuples, if_equal, equal_items, plan_mean}
use Rattle.xq_meaning.proofs.Turns.{in_turn-append}
use Rattle.xq_optimise.specs.private.Joins.{LeavesTrees}
use Rattle.xq_optimise.proofs.GroupLets.{passed_is}
use Rattle.xq_optimise.proofs.Leaving.{Leaves}

-- # Each tuple with the items of its list

abbrev pub all_with : List (Tuple Item) → List (List Item) → List (Tuple Item)
all_with ts lists = expanded Atom false false ts lists

-- the tuple with the item in its next slot
abbrev pub with_item : Tuple Item → Item → Tuple Item
with_item t x = opened t (x ∷ [])

abbrev pub with_list : Tuple Item → List Item → List (Tuple Item)
with_list t xs = with_items Atom false false t xs

each_item : (t : Tuple Item) (n : ℕ) (xs : List Item) → map (λ p. t ++ item_values Atom false p.0 p.1) (enumerate_from n xs) ≡ map (with_item t) xs
each_item t n [] = refl
each_item t n (x ∷ xs) = ap (λ l. with_item t x ∷ l) (each_item t (n + 1) xs)

list_items : (t : Tuple Item) (xs : List Item) → with_list t xs ≡ map (with_item t) xs
list_items t xs = each_item t 1 xs

all_cons : (t : Tuple Item) (ts : List (Tuple Item)) (l : List Item) (ls : List (List Item)) → all_with (t ∷ ts) (l ∷ ls) ≡ with_list t l ++ all_with ts ls
all_cons t ts l ls = flat_map-cons (λ (p : Tuple Item × List Item). with_list p.0 p.1) (t, l) (zip ts ls)

all_next : (ps : List (Tuple Item)) (ls : List (List Item)) (t : Tuple Item) (l : List Item) → length ls ≡ length ps → all_with (ps ++ t ∷ []) (ls ++ l ∷ []) ≡ all_with ps ls ++ with_list t l
all_next [] [] t l h = all_cons t [] l [] ∙ append-nil (with_list t l)
all_next [] (c ∷ ls) t l h = absurd (omega (arith, h))
all_next (p ∷ ps) [] t l h = absurd (omega (arith, h))
all_next (p ∷ ps) (c ∷ ls) t l h =
    all_cons p (ps ++ t ∷ []) c (ls ++ l ∷ [])
    ∙ ap (λ k. with_list p c ++ k) (all_next ps ls t l (omega (arith, h)))
    ∙ sym (append_assoc (with_list p c) (all_with ps ls) (with_list t l))
    ∙ ap (λ k. k ++ with_list t l) (sym (all_cons p ps c ls))

-- lists of all, and then each tuple with its own, are each tuple with its list, one after another
module _ (act : Tuple Item → Doing (List Item)) where
  abbrev spread : Tuple Item → Doing (List (Tuple Item))
  spread t = act t >>= (λ l. give (with_list t l))

  spread_from : (ps : List (Tuple Item)) (ls : List (List Item)) (ts : List (Tuple Item)) (f : List Tree) → length ls ≡ length ps
      → go_on (in_turn (one_more act) ls ts f) (λ lists. give (all_with (ps ++ ts) lists)) ≡ in_turn (more spread) (all_with ps ls) ts f
  spread_from ps ls [] f h = ap (λ l. (Ok (all_with l ls), f)) (append-nil ps)
  spread_from ps ls (t ∷ ts) f h = by (λ l g. spread_from (ps ++ t ∷ []) (ls ++ l ∷ []) ts g (omega (arith, h, length-append ps (t ∷ []), length-append ls (l ∷ [])))) (act t f)
    where
      by : ((l : List Item) (g : List Tree) → go_on (in_turn (one_more act) (ls ++ l ∷ []) ts g) (λ lists. give (all_with ((ps ++ t ∷ []) ++ ts) lists)) ≡ in_turn (more spread) (all_with (ps ++ t ∷ []) (ls ++ l ∷ [])) ts g)
          → (o : Outcome (List Item))
          → go_on (go_on (go_on o (λ l. give (ls ++ l ∷ []))) (λ next. in_turn (one_more act) next ts)) (λ lists. give (all_with (ps ++ t ∷ ts) lists))
          ≡ go_on (go_on (go_on o (λ l. give (with_list t l))) (λ ys. give (all_with ps ls ++ ys))) (λ next. in_turn (more spread) next ts)
      by later (Ok l, g) =
          ap (λ k. go_on (in_turn (one_more act) (ls ++ l ∷ []) ts g) (λ lists. give (all_with k lists))) (sym (append_assoc ps (t ∷ []) ts))
          ∙ later l g
          ∙ ap (λ k. in_turn (more spread) k ts g) (all_next ps ls t l h)
      by later (Err code, g) = refl

-- # One range for all tuples

module _ (range : Plan) (join : Join) (none : join.carried ≡ None) (leaves : LeavesTrees range) (equal_leaves : (frame : Frame) (t : Tuple Item) (xs : List Item) → Leaves (collected (if_equal join frame t) xs)) (frame : Frame) where
  -- what the range gives at each
  abbrev given_at : Doing (List Item)
  given_at f = plan_mean range (at_tuple frame []) f

  abbrev range_at : Tuple Item → Doing (List Item)
  range_at t f = plan_mean range (at_carried join frame t) f

  same_range : (t : Tuple Item) (f : List Tree) → range_at t f ≡ given_at f
  same_range t f = ap (λ c. plan_mean range (at_tuple frame (carried c (frame.env ++ t))) f) none

  abbrev test : Tuple Item → Doing Bool
  test u = Forms.tested (keys_equal join) (at_tuple frame u)

  abbrev kept : Tuple Item → Doing (List (Tuple Item))
  kept u = test u >>= (λ keep. give (Forms.kept_if u keep))

  abbrev equal : Tuple Item → Doing (List Item)
  equal t = equal_items (plan_mean range) join frame t

  kept_item : (t : Tuple Item) (x : Item) (b : Bool) → map (with_item t) (Forms.kept_if x b) ≡ Forms.kept_if (with_item t x) b
  kept_item t x true = refl
  kept_item t x false = refl

  -- the pairs of one tuple
  pairs_kept : (t : Tuple Item) (done : List (Tuple Item)) (found xs : List Item) (f : List Tree)
      → in_turn (more kept) (done ++ map (with_item t) found) (map (with_item t) xs) f ≡ go_on (in_turn (more (if_equal join frame t)) found xs f) (λ l. give (done ++ map (with_item t) l))
  pairs_kept t done found [] f = refl
  pairs_kept t done found (x ∷ xs) f = by (λ b g. pairs_kept t done (found ++ Forms.kept_if x b) xs g) (test (with_item t x) f)
    where
      by : ((b : Bool) (g : List Tree) → in_turn (more kept) (done ++ map (with_item t) (found ++ Forms.kept_if x b)) (map (with_item t) xs) g
          ≡ go_on (in_turn (more (if_equal join frame t)) (found ++ Forms.kept_if x b) xs g) (λ l. give (done ++ map (with_item t) l)))
          → (o : Outcome Bool)
          → go_on (go_on (go_on o (λ keep. give (Forms.kept_if (with_item t x) keep))) (λ ys. give ((done ++ map (with_item t) found) ++ ys))) (λ next. in_turn (more kept) next (map (with_item t) xs))
          ≡ go_on (go_on (go_on (go_on o (λ keep. give (Forms.kept_if x keep))) (λ ys. give (found ++ ys))) (λ next. in_turn (more (if_equal join frame t)) next xs)) (λ l. give (done ++ map (with_item t) l))
      by later (Ok b, g) =
          ap (λ l. in_turn (more kept) l (map (with_item t) xs) g)
          (append_assoc done (map (with_item t) found) (Forms.kept_if (with_item t x) b)
          ∙ ap (λ l. done ++ (map (with_item t) found ++ l)) (sym (kept_item t x b))
          ∙ ap (λ l. done ++ l) (sym (map-append (with_item t) found (Forms.kept_if x b))))
          ∙ later b g
      by later (Err code, g) = refl

  -- the range is the same at each tuple
  module _ (xs : List Item) (f : List Tree) (is : given_at f ≡ (Ok xs, f)) where
    abbrev copies : List (Tuple Item) → List (List Item)
    copies ts = map (λ t. xs) ts

    ranges_from : (done : List (List Item)) (ts : List (Tuple Item)) → in_turn (one_more range_at) done ts f ≡ (Ok (done ++ copies ts), f)
    ranges_from done [] = ap (λ l. (Ok l, f)) (sym (append-nil done))
    ranges_from done (t ∷ ts) =
        ap (λ o. go_on (go_on o (λ y. give (done ++ y ∷ []))) (λ n. in_turn (one_more range_at) n ts)) (same_range t f ∙ is)
        ∙ ranges_from (done ++ xs ∷ []) ts
        ∙ ap (λ l. (Ok l, f)) (append_assoc done (xs ∷ []) (copies ts))

    equal_is : (t : Tuple Item) → equal t f ≡ collected (if_equal join frame t) xs f
    equal_is t = ap (λ o. go_on o (λ ys. collected (if_equal join frame t) ys)) (same_range t f ∙ is)

    own_pairs : (t : Tuple Item) (done : List (Tuple Item)) → in_turn (more kept) done (with_list t xs) f ≡ go_on (collected (if_equal join frame t) xs f) (λ l. give (done ++ with_list t l))
    own_pairs t done =
        ap (λ l. in_turn (more kept) done l f) (list_items t xs)
        ∙ ap (λ l. in_turn (more kept) l (map (with_item t) xs) f) (sym (append-nil done))
        ∙ pairs_kept t done [] xs f
        ∙ ap (λ (s : List Item → List (Tuple Item)). go_on (collected (if_equal join frame t) xs f) (λ l. give (done ++ s l))) (λ i l. sym (list_items t l) i)

    all_pairs : (done : List (Tuple Item)) (ts : List (Tuple Item)) → in_turn (more kept) done (all_with ts (copies ts)) f ≡ in_turn (more (spread equal)) done ts f
    all_pairs done [] = refl
    all_pairs done (t ∷ ts) =
        ap (λ l. in_turn (more kept) done l f) (all_cons t ts xs (copies ts))
        ∙ in_turn-append (more kept) done (with_list t xs) (all_with ts (copies ts)) f
        ∙ ap (λ o. go_on o (λ n. in_turn (more kept) n (all_with ts (copies ts)))) (own_pairs t done)
        ∙ by (equal_leaves frame t xs f) (λ l. all_pairs (done ++ with_list t l) ts)
        ∙ ap (λ o. go_on (go_on (go_on o (λ l. give (with_list t l))) (λ ys. give (done ++ ys))) (λ n. in_turn (more (spread equal)) n ts)) (sym (equal_is t))
      where
        by : (given : Judged (List Item)) × (collected (if_equal join frame t) xs f ≡ (given, f))
            → ((l : List Item) → in_turn (more kept) (done ++ with_list t l) (all_with ts (copies ts)) f ≡ in_turn (more (spread equal)) (done ++ with_list t l) ts f)
            → go_on (go_on (collected (if_equal join frame t) xs f) (λ l. give (done ++ with_list t l))) (λ n. in_turn (more kept) n (all_with ts (copies ts)))
            ≡ go_on (go_on (go_on (collected (if_equal join frame t) xs f) (λ l. give (with_list t l))) (λ ys. give (done ++ ys))) (λ n. in_turn (more (spread equal)) n ts)
        by (Ok l, e) later =
            ap (λ o. go_on (go_on o (λ l. give (done ++ with_list t l))) (λ n. in_turn (more kept) n (all_with ts (copies ts)))) e
            ∙ later l
            ∙ sym (ap (λ o. go_on (go_on (go_on o (λ l. give (with_list t l))) (λ ys. give (done ++ ys))) (λ n. in_turn (more (spread equal)) n ts)) e)
        by (Err code, e) later =
            ap (λ o. go_on (go_on o (λ l. give (done ++ with_list t l))) (λ n. in_turn (more kept) n (all_with ts (copies ts)))) e
            ∙ sym (ap (λ o. go_on (go_on (go_on o (λ l. give (with_list t l))) (λ ys. give (done ++ ys))) (λ n. in_turn (more (spread equal)) n ts)) e)

    join_found : (ts : List (Tuple Item)) → join_tuples (plan_mean range) join frame ts f ≡ go_on (for_each equal ts f) (λ lists. give (all_with ts lists))
    join_found ts =
        ap (λ o. go_on (go_on o (λ lists. give (all_with ts lists))) (λ found. Forms.where_tuples (keys_equal join) (at_tuple frame) found)) (ranges_from [] ts)
        ∙ passed_is test (all_with ts (copies ts)) f
        ∙ all_pairs [] ts
        ∙ sym (spread_from equal [] [] ts f refl)

  refused : (code : _) (f : List Tree) → given_at f ≡ (Err code, f) → (ts : List (Tuple Item)) → join_tuples (plan_mean range) join frame ts f ≡ go_on (for_each equal ts f) (λ lists. give (all_with ts lists))
  refused code f is [] = refl
  refused code f is (t ∷ ts) =
      ap (λ o. go_on (go_on (go_on (go_on o (λ y. give ([] ++ y ∷ []))) (λ n. in_turn (one_more range_at) n ts)) (λ lists. give (all_with (t ∷ ts) lists))) (λ found. Forms.where_tuples (keys_equal join) (at_tuple frame) found)) (same_range t f ∙ is)
      ∙ sym (ap (λ o. go_on (go_on (go_on (go_on o (λ xs. collected (if_equal join frame t) xs)) (λ y. give ([] ++ y ∷ []))) (λ n. in_turn (one_more equal) n ts)) (λ lists. give (all_with (t ∷ ts) lists))) (same_range t f ∙ is))

  -- a join gives each tuple with those items whose keys are equal
  pub join_is : (ts : List (Tuple Item)) (f : List Tree) → join_tuples (plan_mean range) join frame ts f ≡ go_on (for_each equal ts f) (λ lists. give (all_with ts lists))
  join_is ts f = by (leaves (at_tuple frame []) f)
    where
      by : (given : Judged (List Item)) × (given_at f ≡ (given, f)) → join_tuples (plan_mean range) join frame ts f ≡ go_on (for_each equal ts f) (λ lists. give (all_with ts lists))
      by (Ok xs, is) = join_found xs f is ts
      by (Err code, is) = refused code f is ts
