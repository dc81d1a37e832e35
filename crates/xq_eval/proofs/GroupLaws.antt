-- The items of a range whose keys are equal, as code finds them.
use Rattle.std.proofs.Common.{◌≡◌, List, [], ◌∷◌, ◌++◌, length, map, drop, Bool, Ok, Err, Result, ◌<◌, refl, sym, ◌∙◌, ap, subst, arith, append_assoc}
use Rattle.std.specs.Global.{Vec}
use Rattle.std.specs.Prelude.{Option, Some, None, IfOk, IfSome}
use Rattle.std.specs.List.{AllByRecursion, zip}
use Rattle.std.proofs.lemmas.List.{map-append, append-nil}
use Rattle.xq_atoms.specs.declared.refusals.Fault.{Fault}
use Rattle.xq_trees.specs.declared.items.Item.{Item as HeldItem}
use Rattle.xq_trees.specs.Items.{ItemView, item_views}
use Rattle.xq_trees.specs.Tree.{Tree}
use Rattle.xq_trees.specs.Tuples.{Tuple}
use Rattle.xq_trees.proofs.Lists.{all_append}
use Rattle.xq_tuples.specs.Views.{values_of}
use Rattle.xq_meaning.specs.declared.joins.Join.{Join}
use Rattle.xq_meaning.specs.Doing.{Doing, Outcome, go_on, ◌>>=◌, give, in_turn, one_more, for_each, collected}
use Rattle.xq_meaning.specs.Forms as Forms
use Rattle.xq_meaning.specs.Items.{Item}
use Rattle.xq_meaning.specs.PlanMeaning.{Frame, Meaning, at_tuple, at_carried, opened, keys_equal, if_equal, equal_items}
use Rattle.xq_meaning.specs.Readings.{item_at, items_at, IsIn, AreIn, Extends}
use Rattle.xq_operators.specs.declared.contexts.EvalContext.{EvalContext as Held}
use Rattle.xq_operators.specs.Views.{tuple_at, tuples_at, lists_of, frame_at, TupleIn, TuplesIn, FrameIn, GivesSequence}
use Rattle.xq_operators.proofs.Growth.{extends_more, frame_grown, tuple_grown, tuples_grown}
use Rattle.xq_eval.specs.private.Joining.{carried_at, first_tuple}
use Rattle.xq_eval.specs.private.Results.{GivesLists, GivesPlain}
use Rattle.xq_eval.proofs.JoinLaws.{carried_frame, plainly, plainly_in}
use Rattle.xq_eval.proofs.Steps.{go_on_stop, kept_read}

-- # One item at a tuple

module _ (old f : List Tree) (grows : Extends old f) (held : Held) (join : Join) (inside : FrameIn old held) (tuple : Tuple ItemView) (tuple_in : TupleIn old tuple) (x : ItemView) (x_in : IsIn old x) where
  -- the tuple with the item in the next slot
  abbrev row : Tuple ItemView
  row = tuple ++ (x ∷ []) ∷ []

  pub row_in : TupleIn old row
  row_in = all_append (AreIn old) tuple ((x ∷ []) ∷ []) tuple_in ((x_in, tt), tt)

  abbrev tested_at : Frame → Doing Bool
  tested_at frame = Forms.tested (keys_equal join) frame

  row_frame : at_tuple (frame_at old held) (opened (tuple_at old tuple) (item_at old x ∷ [])) ≡ at_tuple (frame_at f held) (tuple_at f row)
  row_frame =
      ap (λ (u : Tuple Item). at_tuple (frame_at old held) u) (sym (map-append (items_at old) tuple ((x ∷ []) ∷ [])) ∙ sym (tuple_grown grows row row_in))
      ∙ ap (λ (fr : Frame). at_tuple fr (tuple_at f row)) (sym (frame_grown grows held inside))

  abbrev keeping : Bool → Doing (List Item)
  keeping keep = give (Forms.kept_if (item_at old x) keep)

  -- it is kept where the keys are equal
  pub kept_one : (f' : List Tree) (keep : Bool) → Extends f f' → tested_at (at_tuple (frame_at f held) (tuple_at f row)) f ≡ (Ok keep, f')
      → AreIn f' (Forms.kept_if x keep) × (if_equal join (frame_at old held) (tuple_at old tuple) (item_at old x) f ≡ (Ok (items_at f' (Forms.kept_if x keep)), f'))
  kept_one f' keep more is =
      let kept = kept_read old f' x keep (extends_more grows more) x_in in
      (kept.0, ap (λ fr. go_on (tested_at fr f) keeping) row_frame ∙ ap (λ o. go_on o keeping) is ∙ ap (λ l. (Ok l, f')) kept.1)

  -- and what refuses the comparison refuses it
  pub kept_stops : (f' : List Tree) (e : Fault) → GivesPlain (tested_at (at_tuple (frame_at f held) (tuple_at f row)) f) f' (Err e)
      → GivesSequence (if_equal join (frame_at old held) (tuple_at old tuple) (item_at old x) f) f' (Err e)
  kept_stops f' e h =
      subst (λ fr. GivesSequence (go_on (tested_at fr f) keeping) f' (Err e)) (sym row_frame)
      (go_on_stop (λ (b : Bool). b) plainly plainly_in item_views items_at AreIn (tested_at (at_tuple (frame_at f held) (tuple_at f row)) f) keeping f' e h)

-- # All tuples

module _ (f : List Tree) (held : Held) (join : Join) (range : Meaning) where
  abbrev outside : Tuple ItemView
  outside = values_of held.slots.now

  abbrev frame : Frame
  frame = frame_at f held

  -- what the range reads at a tuple
  abbrev read_at : Tuple ItemView → Tuple ItemView
  read_at t = carried_at join.carried (outside ++ t)

  abbrev equal : Tuple Item → Doing (List Item)
  equal t = equal_items range join frame t

  abbrev groups : List (Tuple ItemView) → Outcome (Tuple Item)
  groups ts = for_each equal (tuples_at f ts) f

  pub groups_none : (ts : List (Tuple ItemView)) (lists : Tuple ItemView) → length ts < 1 → lists ≡ [] → TupleIn f lists × (groups ts ≡ (Ok (tuple_at f lists), f))
  groups_none [] lists h is = (subst (TupleIn f) (sym is) tt, ap (λ ls. (Ok (tuple_at f ls), f)) (sym is))
  groups_none (t ∷ ts) lists h is = absurd (omega (arith, h))

  -- # At a tuple

  -- a refusal of the range
  pub range_stops : (t : Tuple ItemView) (f' : List Tree) (e : Fault) → GivesSequence (range (at_tuple frame (tuple_at f (read_at t))) f) f' (Err e) → GivesSequence (equal (tuple_at f t) f) f' (Err e)
  range_stops t f' e h =
      go_on_stop item_views items_at AreIn item_views items_at AreIn (range (at_carried join frame (tuple_at f t)) f) (λ xs. collected (if_equal join frame (tuple_at f t)) xs) f' e
      (subst (λ fr. GivesSequence (range fr f) f' (Err e)) (sym (carried_frame f held join t)) h)

  -- after the range
  pub equal_is : (t u : Tuple ItemView) (xs ys : List ItemView) (f' f1 : List Tree) → Extends f f' → FrameIn f held → TupleIn f t
      → range (at_tuple frame (tuple_at f (read_at t))) f ≡ (Ok (items_at f' xs), f') → f1 ≡ f' → ys ≡ xs → u ≡ t
      → equal (tuple_at f t) f ≡ collected (if_equal join (frame_at f1 held) (tuple_at f1 u)) (items_at f1 ys) f1
  equal_is t u xs ys f' f1 grows inside t_in is kept items same =
      let found = λ (fr : Frame) (v : Tuple Item). collected (if_equal join fr v) (items_at f' xs) f' in
      ap (λ o. go_on o (λ zs. collected (if_equal join frame (tuple_at f t)) zs)) (ap (λ fr. range fr f) (carried_frame f held join t) ∙ is)
      ∙ ap (λ fr. found fr (tuple_at f t)) (sym (frame_grown grows held inside))
      ∙ ap (λ v. found (frame_at f' held) v) (sym (tuple_grown grows t t_in))
      ∙ ap (λ v. collected (if_equal join (frame_at f' held) (tuple_at f' v)) (items_at f' xs) f') (sym same)
      ∙ ap (λ zs. collected (if_equal join (frame_at f' held) (tuple_at f' u)) (items_at f' zs) f') (sym items)
      ∙ ap (λ g. collected (if_equal join (frame_at g held) (tuple_at g u)) (items_at g ys) g) (sym kept)

  -- # From the first tuple on

  -- a refusal at the first
  pub groups_stop : (ts : List (Tuple ItemView)) (f' : List Tree) (e : Fault) → 0 < length ts → GivesSequence (equal (tuple_at f (first_tuple ts)) f) f' (Err e) → GivesLists (groups ts) f' (Err e)
  groups_stop [] f' e some h = absurd (omega arith)
  groups_stop (t ∷ ts) f' e some h =
      let begun = λ (y : List Item). give ([] ++ y ∷ []) in
      let o = equal (tuple_at f t) f in
      go_on_stop lists_of tuple_at TupleIn lists_of tuple_at TupleIn (go_on o begun) (λ next. in_turn (one_more equal) next (tuples_at f ts)) f' e
      (go_on_stop item_views items_at AreIn lists_of tuple_at TupleIn o begun f' e h)

  -- after the first
  pub groups_later : (ts : List (Tuple ItemView)) (found : List ItemView) (f2 f3 : List Tree) (r : Result (Vec (Vec HeldItem)) Fault) → 0 < length ts → Extends f f2 → FrameIn f held → TuplesIn f ts
      → equal (tuple_at f (first_tuple ts)) f ≡ (Ok (items_at f2 found), f2)
      → GivesLists (in_turn (one_more (equal_items range join (frame_at f2 held))) (items_at f2 found ∷ []) (drop 1 (tuples_at f2 ts)) f2) f3 r
      → GivesLists (groups ts) f3 r
  groups_later [] found f2 f3 r some grows inside ts_in is given = absurd (omega arith)
  groups_later (t ∷ ts) found f2 f3 r some grows inside ts_in is given =
      let more = λ (fr : Frame) (us : List (Tuple Item)). in_turn (one_more (equal_items range join fr)) (items_at f2 found ∷ []) us f2 in
      let all : groups (t ∷ ts) ≡ more (frame_at f2 held) (tuples_at f2 ts) =
      ap (λ o. go_on (go_on o (λ (y : List Item). give ([] ++ y ∷ []))) (λ next. in_turn (one_more equal) next (tuples_at f ts))) is
      ∙ ap (λ fr. more fr (tuples_at f ts)) (sym (frame_grown grows held inside))
      ∙ ap (λ us. more (frame_at f2 held) us) (sym (tuples_grown grows ts ts_in.1)) in
      subst (λ o. GivesLists o f3 r) (sym all) given

  -- # Where the range gives the same at each tuple

  abbrev ranged : Tuple ItemView → Outcome (List Item)
  ranged t = range (at_carried join frame (tuple_at f t)) f

  steady_ranges : (xs : List ItemView) (first : Tuple ItemView) (ts : List (Tuple ItemView)) → AllByRecursion (λ t. read_at t ≡ read_at first) ts
      → ranged first ≡ (Ok (items_at f xs), f) → AllByRecursion (λ t. ranged t ≡ (Ok (items_at f xs), f)) ts
  steady_ranges xs first [] h is = tt
  steady_ranges xs first (t ∷ ts) h is = (
    ap (λ fr. range fr f) (carried_frame f held join t ∙ ap (λ u. at_tuple frame (tuple_at f u)) h.0 ∙ sym (carried_frame f held join first)) ∙ is,
    steady_ranges xs first ts h.1 is,
  )

  -- at each tuple alone, the items with which the keys are equal are those of its list
  abbrev Apart : List ItemView → List (Tuple ItemView) → List (List ItemView) → Type 0
  Apart xs ts lists =
      AllByRecursion (λ (p : Tuple ItemView × List ItemView). collected (if_equal join frame (tuple_at f p.0)) (items_at f xs) f ≡ (Ok (items_at f p.1), f)) (zip ts lists)

  groups_from : (xs : List ItemView) (done : Tuple Item) (ts : List (Tuple ItemView)) (lists : List (List ItemView)) → length lists ≡ length ts
      → AllByRecursion (λ t. ranged t ≡ (Ok (items_at f xs), f)) ts → Apart xs ts lists
      → in_turn (one_more equal) done (tuples_at f ts) f ≡ (Ok (done ++ tuple_at f lists), f)
  groups_from xs done [] [] long is found = ap (λ l. (Ok l, f)) (sym (append-nil done))
  groups_from xs done [] (l ∷ lists) long is found = absurd (omega (arith, long))
  groups_from xs done (t ∷ ts) [] long is found = absurd (omega (arith, long))
  groups_from xs done (t ∷ ts) (l ∷ lists) long is found =
      let kept = λ (ys : List Item). collected (if_equal join frame (tuple_at f t)) ys in
      let more = λ (y : List Item). give (done ++ y ∷ []) in
      let rest = λ (next : Tuple Item). in_turn (one_more equal) next (tuples_at f ts) in
      ap (λ o. go_on (go_on (go_on o kept) more) rest) is.0
      ∙ ap (λ o. go_on (go_on o more) rest) found.0
      ∙ groups_from xs (done ++ items_at f l ∷ []) ts lists (omega (arith, long)) is.1 found.1
      ∙ ap (λ ls. (Ok ls, f)) (append_assoc done (items_at f l ∷ []) (tuple_at f lists))

  pub groups_steady : (xs : List ItemView) (ts : List (Tuple ItemView)) (lists : List (List ItemView)) → length lists ≡ length ts
      → AllByRecursion (λ t. read_at t ≡ read_at (first_tuple ts)) ts → ranged (first_tuple ts) ≡ (Ok (items_at f xs), f) → Apart xs ts lists
      → groups ts ≡ (Ok (tuple_at f lists), f)
  groups_steady xs ts lists long steady is found =
      groups_from xs [] ts lists long (steady_ranges xs (first_tuple ts) ts steady is) found

  -- and these are found over trees that are the same
  pub groups_found : (xs : List ItemView) (ts : List (Tuple ItemView)) (lists : List (List ItemView)) (f' f'' : List Tree) → f' ≡ f → f'' ≡ f'
      → range (at_tuple frame (tuple_at f (read_at (first_tuple ts)))) f ≡ (Ok (items_at f' xs), f')
      → (range (at_carried join (frame_at f' held) (tuple_at f' (first_tuple ts))) f' ≡ (Ok (items_at f' xs), f')
      → TupleIn f' lists × (for_each (equal_items range join (frame_at f' held)) (tuples_at f' ts) f' ≡ (Ok (tuple_at f' lists), f')))
      → TupleIn f'' lists × (groups ts ≡ (Ok (tuple_at f'' lists), f''))
  groups_found xs ts lists f' f'' same kept is found =
      let first = first_tuple ts in
      let value = subst (λ g. range (at_tuple frame (tuple_at f (read_at first))) f ≡ (Ok (items_at g xs), g)) same is in
      let here = ap (λ fr. range fr f) (carried_frame f held join first) ∙ value in
      let at_f = subst (λ (g : List Tree). range (at_carried join (frame_at g held) (tuple_at g first)) g ≡ (Ok (items_at g xs), g)
      → TupleIn g lists × (for_each (equal_items range join (frame_at g held)) (tuples_at g ts) g ≡ (Ok (tuple_at g lists), g))) same found here in
      subst (λ (g : List Tree). TupleIn g lists × (groups ts ≡ (Ok (tuple_at g lists), g))) (sym (kept ∙ same)) at_f

-- two facts of what was found
pub if_both : {A E : Type 0} (P Q R : A → Type 0) (r : Result (Option A) E) → ((x : A) → P x → Q x → R x)
    → IfOk r (λ o. IfSome o P) → IfOk r (λ o. IfSome o Q) → IfOk r (λ o. IfSome o R)
if_both P Q R (Ok (Some x)) then' h k = then' x h k
if_both P Q R (Ok None) then' h k = tt
if_both P Q R (Err e) then' h k = h

-- what holds whatever was found
pub if_always : {A E : Type 0} (Q : Type 0) (r : Result (Option A) E) → Q → IfOk r (λ o. IfSome o (λ x. Q))
if_always Q (Ok (Some x)) q = q
if_always Q (Ok None) q = tt
if_always Q (Err e) q = tt
