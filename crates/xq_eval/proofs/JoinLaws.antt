-- Ranges and keys of a join, as code reads them.
use Rattle.std.proofs.Common.{◌≡◌, ℕ, zero, suc, ◌+◌, ◌<◌, List, [], ◌∷◌, ◌++◌, length, map, drop, replicate, Bool, false, Option, Some, None, Ok, Err, Result, refl, sym, ◌∙◌, ap, subst, arith, slice_index_or}
use Rattle.std.specs.List.{AllByRecursion}
use Rattle.std.proofs.lemmas.List.{map-append, append-nil, length-append}
use Rattle.xq_atoms.specs.declared.refusals.Fault.{Fault}
use Rattle.xq_trees.specs.Items.{ItemView, Value, item_views}
use Rattle.xq_trees.specs.Tree.{Tree}
use Rattle.xq_trees.specs.Tuples.{Tuple, expanded, value_at}
use Rattle.xq_trees.proofs.Lists.{all_append}
use Rattle.xq_tuples.specs.Views.{values_of}
use Rattle.xq_meaning.specs.declared.joins.Join.{Join}
use Rattle.xq_meaning.specs.declared.joins.JoinKey.{JoinKey}
use Rattle.xq_meaning.specs.Arguments.{effective}
use Rattle.xq_meaning.specs.Doing.{Doing, Outcome, go_on, give, judged, on_trees, in_turn, one_more, for_each}
use Rattle.xq_meaning.specs.Forms as Forms
use Rattle.xq_meaning.specs.Items.{Item, Atom}
use Rattle.xq_meaning.specs.Operators.{operated}
use Rattle.xq_meaning.specs.PlanMeaning.{Frame, Meaning, at_tuple, at_carried, carried, comparison, join_tuples, key_from, key_mean, keys_equal}
use Rattle.xq_meaning.specs.Readings.{item_at, items_at, AreIn, Extends}
use Rattle.xq_operators.specs.declared.contexts.EvalContext.{EvalContext as Held}
use Rattle.xq_operators.specs.Views.{tuple_at, tuples_at, lists_of, frame_at, TupleIn, TuplesIn, FrameIn, GivesSequence, GivesTuples}
use Rattle.xq_operators.proofs.Growth.{value_in, items_grown, tuple_grown, tuples_grown, frame_grown}
use Rattle.xq_operators.proofs.Natural.{expanded_natural}
use Rattle.xq_operators.proofs.Streams.{value_read}
use Rattle.xq_joins.specs.Joins.{all_pairs}
use Rattle.xq_joins.proofs.Clauses.{pairs_given, value_front}
use Rattle.xq_joins.proofs.Lists.{none_left}
use Rattle.xq_eval.specs.private.Joining.{carried_at, first_tuple}
use Rattle.xq_eval.specs.private.Results.{GivesLists, GivesPlain}
use Rattle.xq_eval.proofs.Steps.{go_on_stop}

-- # The slot that is carried

carried_read : (f : List Tree) (c : Option ℕ) (slots : Tuple ItemView) → tuple_at f (carried_at c slots) ≡ carried c (tuple_at f slots)
carried_read f None slots = refl
carried_read f (Some n) slots = ap (λ v. v ∷ []) (sym (value_read f n slots))

pub carried_in : (f : List Tree) (c : Option ℕ) (slots : Tuple ItemView) → TupleIn f slots → TupleIn f (carried_at c slots)
carried_in f None slots h = tt
carried_in f (Some n) slots h = ((value_in f n slots h).0, tt)

-- none is
pub none_steady : (slots other : Tuple ItemView) (ts : List (Tuple ItemView)) → AllByRecursion (λ t. carried_at None (slots ++ t) ≡ carried_at None other) ts
none_steady slots other [] = tt
none_steady slots other (t ∷ ts) = (refl, none_steady slots other ts)

-- it is one of those outside
pub outer_steady : (n : ℕ) (slots t : Tuple ItemView) (ts : List (Tuple ItemView)) → n < length slots → AllByRecursion (λ u. carried_at (Some n) (slots ++ u) ≡ carried_at (Some n) (slots ++ t)) ts
outer_steady n slots t [] h = tt
outer_steady n slots t (u ∷ ts) h = (ap (λ v. v ∷ []) (value_front n slots u h ∙ sym (value_front n slots t h)), outer_steady n slots t ts h)

-- its value is the same everywhere
pub same_steady : (n : ℕ) (slots : Tuple ItemView) (here : List ItemView) (ts : List (Tuple ItemView)) → AllByRecursion (λ u. value_at n (slots ++ u) ≡ here) ts → AllByRecursion (λ u. carried_at (Some n) (slots ++ u) ≡ here ∷ []) ts
same_steady n slots here [] h = tt
same_steady n slots here (u ∷ ts) h = (ap (λ v. v ∷ []) h.0, same_steady n slots here ts h.1)

pub first_is : (ts : List (Tuple ItemView)) → slice_index_or ts 0 [] ≡ first_tuple ts
first_is [] = refl
first_is (t ∷ ts) = refl

pub replicate_more : {A : Type 0} (n : ℕ) (a : A) → replicate n a ++ a ∷ [] ≡ replicate (n + 1) a
replicate_more zero a = refl
replicate_more (suc n) a =
    let e : suc n + 1 ≡ suc (n + 1) = omega arith in
    ap (λ l. a ∷ l) (replicate_more n a) ∙ ap (λ k. replicate k a) (sym e)

pub same_count : {X : Type 0} {A : Type 0} (xs : List X) (a : A) → replicate (length xs) a ≡ map (λ x. a) xs
same_count [] a = refl
same_count (x ∷ xs) a = ap (λ l. a ∷ l) (same_count xs a)

pub all_same_in : (f : List Tree) (xs : List ItemView) (ts : List (Tuple ItemView)) → AreIn f xs → TupleIn f (map (λ (t : Tuple ItemView). xs) ts)
all_same_in f xs [] h = tt
all_same_in f xs (t ∷ ts) h = (h, all_same_in f xs ts h)

-- no tree was added
pub no_more : (f f' : List Tree) → Extends f f' → length f' ≡ length f → f' ≡ f
no_more f f' grows long =
    let none : length grows.added < 1 = omega (arith, ap length grows.is, length-append f grows.added, long) in
    grows.is ∙ ap (λ more. f ++ more) (none_left grows.added none) ∙ append-nil f

-- # Tuples with the items of a range

pub later_of : {A B : Type 0} (r : A → B) (xs : List A) → drop 1 (map r xs) ≡ map r (drop 1 xs)
later_of r [] = refl
later_of r (x ∷ xs) = refl

module _ (f : List Tree) (held : Held) (join : Join) where
  abbrev outside : Tuple ItemView
  outside = values_of held.slots.now

  abbrev frame : Frame
  frame = frame_at f held

  -- what the range reads at a tuple
  abbrev read_at : Tuple ItemView → Tuple ItemView
  read_at t = carried_at join.carried (outside ++ t)

  -- its frame there
  pub carried_frame : (t : Tuple ItemView) → at_carried join frame (tuple_at f t) ≡ at_tuple frame (tuple_at f (read_at t))
  carried_frame t =
      ap (λ (slots : Tuple Item). at_tuple frame (carried join.carried slots)) (sym (map-append (items_at f) outside t))
      ∙ ap (λ (u : Tuple Item). at_tuple frame u) (sym (carried_read f join.carried (outside ++ t)))

  pub read_in : (t : Tuple ItemView) → FrameIn f held → TupleIn f t → TupleIn f (read_at t)
  read_in t inside h = carried_in f join.carried (outside ++ t) (all_append (AreIn f) outside t inside.slots_in h)

  -- over more trees
  pub carried_grown : (f' : List Tree) → Extends f f' → FrameIn f held → (t : Tuple ItemView) → TupleIn f t → at_carried join frame (tuple_at f t) ≡ at_tuple (frame_at f' held) (tuple_at f' (read_at t))
  carried_grown f' grows inside t h =
      carried_frame t
      ∙ ap (λ fr. at_tuple fr (tuple_at f (read_at t))) (sym (frame_grown grows held inside))
      ∙ ap (λ (u : Tuple Item). at_tuple (frame_at f' held) u) (sym (tuple_grown grows (read_at t) (read_in t inside h)))

  module _ (range : Meaning) where
    abbrev act : Tuple Item → Doing (List Item)
    act t = range (at_carried join frame t)

    abbrev meant : List (Tuple ItemView) → Outcome (List (Tuple Item))
    meant tuples = join_tuples range join frame (tuples_at f tuples) f

    pub join_none : (tuples : List (Tuple ItemView)) → length tuples < 1 → TuplesIn f tuples × (meant tuples ≡ (Ok (tuples_at f tuples), f))
    join_none [] h = (tt, refl)
    join_none (t ∷ ts) h = absurd (omega (arith, h))

    -- # Where the range gives the same at each tuple

    same_ranges : (xs : List Item) (here : Tuple ItemView) (ts : List (Tuple ItemView)) → AllByRecursion (λ t. read_at t ≡ here) ts
        → range (at_tuple frame (tuple_at f here)) f ≡ (Ok xs, f) → AllByRecursion (λ t. act (tuple_at f t) f ≡ (Ok xs, f)) ts
    same_ranges xs here [] h is = tt
    same_ranges xs here (t ∷ ts) h is = (
      ap (λ fr. range fr f) (carried_frame t ∙ ap (λ u. at_tuple frame (tuple_at f u)) h.0) ∙ is,
      same_ranges xs here ts h.1 is,
    )

    pub join_steady : (xs : List ItemView) (tuples : List (Tuple ItemView)) (f' f'' : List Tree) (r : Result (List (Tuple ItemView)) Fault) → f' ≡ f
        → AllByRecursion (λ t. read_at t ≡ read_at (first_tuple tuples)) tuples
        → range (at_tuple frame (tuple_at f (read_at (first_tuple tuples)))) f ≡ (Ok (items_at f' xs), f')
        → GivesTuples (Forms.where_tuples (keys_equal join) (at_tuple (frame_at f' held)) (tuples_at f' (all_pairs tuples xs)) f') f'' r
        → GivesTuples (meant tuples) f'' r
    join_steady xs tuples f' f'' r same steady is given =
        let here = read_at (first_tuple tuples) in
        let value = subst (λ t. range (at_tuple frame (tuple_at f here)) f ≡ (Ok (items_at t xs), t)) same is in
        let pairs = pairs_given (at_carried join frame) f tuples range xs (same_ranges (items_at f xs) here tuples steady value) in
        subst (λ o. GivesTuples o f'' r) (sym (ap (λ o. go_on o (Forms.where_tuples (keys_equal join) (at_tuple frame))) pairs))
        (subst (λ t. GivesTuples (Forms.where_tuples (keys_equal join) (at_tuple (frame_at t held)) (tuples_at t (all_pairs tuples xs)) t) f'' r) same given)

    -- # Where it is evaluated at each

    stop_after : (tuples : List (Tuple ItemView)) (f' : List Tree) (e : Fault) → GivesLists (for_each act (tuples_at f tuples) f) f' (Err e) → GivesTuples (meant tuples) f' (Err e)
    stop_after tuples f' e h =
        let pairs = λ (lists : Tuple Item). give (expanded Atom false false (tuples_at f tuples) lists) in
        let o = for_each act (tuples_at f tuples) f in
        go_on_stop (λ (ts : List (Tuple ItemView)). ts) tuples_at TuplesIn (λ (ts : List (Tuple ItemView)). ts) tuples_at TuplesIn (go_on o pairs) (Forms.where_tuples (keys_equal join) (at_tuple frame)) f' e
        (go_on_stop lists_of tuple_at TupleIn (λ (ts : List (Tuple ItemView)). ts) tuples_at TuplesIn o pairs f' e h)

    -- a refusal at the first tuple
    pub join_stops : (tuples : List (Tuple ItemView)) (f' : List Tree) (e : Fault) → 0 < length tuples
        → GivesSequence (range (at_tuple frame (tuple_at f (read_at (first_tuple tuples)))) f) f' (Err e) → GivesTuples (meant tuples) f' (Err e)
    join_stops [] f' e some h = absurd (omega arith)
    join_stops (t ∷ ts) f' e some h =
        let first = subst (λ fr. GivesSequence (range fr f) f' (Err e)) (sym (carried_frame t)) h in
        let begun = λ (y : List Item). give ([] ++ y ∷ []) in
        let o = act (tuple_at f t) f in
        stop_after (t ∷ ts) f' e
        (go_on_stop lists_of tuple_at TupleIn lists_of tuple_at TupleIn (go_on o begun) (λ next. in_turn (one_more act) next (tuples_at f ts)) f' e
        (go_on_stop item_views items_at AreIn lists_of tuple_at TupleIn o begun f' e first))

    -- after that of the first
    later_lists : (xs : List ItemView) (tuples : List (Tuple ItemView)) (f' : List Tree) → 0 < length tuples → Extends f f' → FrameIn f held → TuplesIn f tuples
        → range (at_tuple frame (tuple_at f (read_at (first_tuple tuples)))) f ≡ (Ok (items_at f' xs), f')
        → for_each act (tuples_at f tuples) f
        ≡ in_turn (one_more (λ t. range (at_carried join (frame_at f' held) t))) (items_at f' xs ∷ []) (drop 1 (tuples_at f' tuples)) f'
    later_lists xs [] f' some grows inside tuples_in is = absurd (omega arith)
    later_lists xs (t ∷ ts) f' some grows inside tuples_in is =
        let more = λ (fr : Frame) (us : List (Tuple Item)). in_turn (one_more (λ u. range (at_carried join fr u))) (items_at f' xs ∷ []) us f' in
        ap (λ o. go_on (go_on o (λ (y : List Item). give ([] ++ y ∷ []))) (λ next. in_turn (one_more act) next (tuples_at f ts))) (ap (λ fr. range fr f) (carried_frame t) ∙ is)
        ∙ ap (λ fr. more fr (tuples_at f ts)) (sym (frame_grown grows held inside))
        ∙ ap (λ us. more (frame_at f' held) us) (sym (tuples_grown grows ts tuples_in.1))

    module _ (xs : List ItemView) (tuples : List (Tuple ItemView)) (f' : List Tree) (some : 0 < length tuples) (grows : Extends f f') (inside : FrameIn f held) (tuples_in : TuplesIn f tuples)
        (is : range (at_tuple frame (tuple_at f (read_at (first_tuple tuples)))) f ≡ (Ok (items_at f' xs), f')) where
      abbrev later : Outcome (Tuple Item)
      later = in_turn (one_more (λ t. range (at_carried join (frame_at f' held) t))) (items_at f' xs ∷ []) (drop 1 (tuples_at f' tuples)) f'

      pub later_stops : (f'' : List Tree) (e : Fault) → GivesLists later f'' (Err e) → GivesTuples (meant tuples) f'' (Err e)
      later_stops f'' e h =
          stop_after tuples f'' e (subst (λ o. GivesLists o f'' (Err e)) (sym (later_lists xs tuples f' some grows inside tuples_in is)) h)

      pub join_later : (lists : Tuple ItemView) (pairs : List (Tuple ItemView)) (f'' f''' : List Tree) (r : Result (List (Tuple ItemView)) Fault) → Extends f f''
          → later ≡ (Ok (tuple_at f'' lists), f'') → pairs ≡ expanded Value false false tuples lists
          → GivesTuples (Forms.where_tuples (keys_equal join) (at_tuple (frame_at f'' held)) (tuples_at f'' pairs) f'') f''' r
          → GivesTuples (meant tuples) f''' r
      join_later lists pairs f'' f''' r more value stream given =
          let same : tuples_at f'' pairs ≡ expanded Atom false false (tuples_at f tuples) (tuple_at f'' lists) =
          ap (tuples_at f'') stream ∙ expanded_natural (item_at f'') Value Atom (λ a. refl) false false tuples lists ∙ ap (λ ts. expanded Atom false false ts (tuple_at f'' lists)) (tuples_grown more tuples tuples_in) in
          let kept = λ (fr : Frame) (ts : List (Tuple Item)). Forms.where_tuples (keys_equal join) (at_tuple fr) ts in
          let all : meant tuples ≡ kept (frame_at f'' held) (tuples_at f'' pairs) f'' =
          ap (λ o. go_on (go_on o (λ (ls : Tuple Item). give (expanded Atom false false (tuples_at f tuples) ls))) (λ ts. kept frame ts)) (later_lists xs tuples f' some grows inside tuples_in is ∙ value)
          ∙ ap (λ ts. kept frame ts f'') (sym same)
          ∙ ap (λ fr. kept fr (tuples_at f'' pairs) f'') (sym (frame_grown more held inside)) in
          subst (λ o. GivesTuples o f''' r) (sym all) given

-- # Keys at a tuple

abbrev pub plainly : {A : Type 0} → List Tree → A → A
plainly trees x = x

abbrev pub plainly_in : {A : Type 0} → List Tree → A → Type 0
plainly_in trees x = Unit {0}

-- what a key gives, from the value that was read
pub left_given : (f f' : List Tree) (from : List Item → Doing (List Item)) (read xs found : List ItemView) → read ≡ xs → AreIn f xs
    → (AreIn f read → AreIn f' found × (from (items_at f read) f ≡ (Ok (items_at f' found), f')))
    → AreIn f' found × (from (items_at f xs) f ≡ (Ok (items_at f' found), f'))
left_given f f' from read xs found is inside given =
    subst (λ ys. AreIn f ys → AreIn f' found × (from (items_at f ys) f ≡ (Ok (items_at f' found), f'))) is given inside

module _ (f : List Tree) (held : Held) (join : Join) (tuple : Tuple ItemView) where
  abbrev slots : Tuple ItemView
  slots = values_of held.slots.now ++ tuple

  abbrev at : Frame
  at = at_tuple (frame_at f held) (tuple_at f tuple)

  abbrev op_of : List Item → List Item → Doing (List Item)
  op_of xs ys = on_trees (λ trees. operated (comparison join.equality) trees xs ys)

  abbrev told : Outcome Bool
  told = Forms.tested (keys_equal join) at f

  -- after the value of the left key
  abbrev after_left : List Item → Doing (List Item)
  after_left xs = in_turn (Forms.next_operand at) xs ((comparison join.equality, key_mean join.right) ∷ [])

  abbrev judge : List Item → Doing Bool
  judge xs = judged (effective xs)

  slot_here : (n : ℕ) → value_at n at.env ≡ items_at f (value_at n slots)
  slot_here n = ap (value_at n) (sym (map-append (items_at f) (values_of held.slots.now) tuple)) ∙ value_read f n slots

  key_here : (key : JoinKey) → key_mean key at f ≡ key_from key (items_at f (value_at key.slot slots)) f
  key_here key = ap (λ xs. key_from key xs f) (slot_here key.slot)

  pub left_stops : (f' : List Tree) (e : Fault) → GivesSequence (key_from join.left (items_at f (value_at join.left.slot slots)) f) f' (Err e) → GivesPlain told f' (Err e)
  left_stops f' e h =
      let o = key_mean join.left at f in
      go_on_stop item_views items_at AreIn (λ (b : Bool). b) plainly plainly_in (go_on o after_left) judge f' e
      (go_on_stop item_views items_at AreIn item_views items_at AreIn o after_left f' e (subst (λ o. GivesSequence o f' (Err e)) (sym (key_here join.left)) h))

  module _ (f1 : List Tree) (l : List ItemView) (grows : Extends f f1) (inside : TupleIn f slots)
      (left : key_from join.left (items_at f (value_at join.left.slot slots)) f ≡ (Ok (items_at f1 l), f1)) where
    abbrev right_value : Outcome (List Item)
    right_value = key_from join.right (items_at f1 (value_at join.right.slot slots)) f1

    abbrev after_right : Outcome (List Item) → Outcome Bool
    after_right o = go_on (go_on (go_on o (op_of (items_at f1 l))) (λ next. give next)) judge

    key_later : key_mean join.right at f1 ≡ right_value
    key_later =
        ap (λ xs. key_from join.right xs f1) (slot_here join.right.slot ∙ sym (items_grown grows (value_at join.right.slot slots) (value_in f join.right.slot slots inside).0))

    told_left : told ≡ after_right right_value
    told_left = ap (λ o. go_on (go_on o after_left) judge) (key_here join.left ∙ left) ∙ ap after_right key_later

    pub right_stops : (f' : List Tree) (e : Fault) → GivesSequence right_value f' (Err e) → GivesPlain told f' (Err e)
    right_stops f' e h =
        let op = op_of (items_at f1 l) in
        let same = λ (next : List Item). give next in
        subst (λ o. GivesPlain o f' (Err e)) (sym told_left)
        (go_on_stop item_views items_at AreIn (λ (b : Bool). b) plainly plainly_in (go_on (go_on right_value op) same) judge f' e
        (go_on_stop item_views items_at AreIn item_views items_at AreIn (go_on right_value op) same f' e
        (go_on_stop item_views items_at AreIn item_views items_at AreIn right_value op f' e h)))

    module _ (f2 : List Tree) (r : List ItemView) (more : Extends f1 f2) (l_in : AreIn f1 l) (right : right_value ≡ (Ok (items_at f2 r), f2)) where
      told_right : told ≡ go_on (go_on (op_of (items_at f2 l) (items_at f2 r) f2) (λ next. give next)) judge
      told_right =
          told_left ∙ ap after_right right
          ∙ ap (λ xs. go_on (go_on (op_of xs (items_at f2 r) f2) (λ next. give next)) judge) (sym (items_grown more l l_in))

      pub operator_stops : (f' : List Tree) (e : Fault) → GivesSequence (op_of (items_at f2 l) (items_at f2 r) f2) f' (Err e) → GivesPlain told f' (Err e)
      operator_stops f' e h =
          let o = op_of (items_at f2 l) (items_at f2 r) f2 in
          let same = λ (next : List Item). give next in
          subst (λ o. GivesPlain o f' (Err e)) (sym told_right)
          (go_on_stop item_views items_at AreIn (λ (b : Bool). b) plainly plainly_in (go_on o same) judge f' e
          (go_on_stop item_views items_at AreIn item_views items_at AreIn o same f' e h))

      pub keys_told : (f3 : List Tree) (answer : List ItemView) → op_of (items_at f2 l) (items_at f2 r) f2 ≡ (Ok (items_at f3 answer), f3) → told ≡ (effective (items_at f3 answer), f3)
      keys_told f3 answer is = told_right ∙ ap (λ o. go_on (go_on o (λ next. give next)) judge) is
