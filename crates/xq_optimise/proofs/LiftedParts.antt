-- A part of a predicate that is the same at each item may as well be evaluated before all of them.
use Rattle.std.proofs.Common.{◌≡◌, ℕ, zero, suc, ◌+◌, ◌<◌, List, [], ◌∷◌, ◌++◌, map, reverse, length, Bool, true, false, Ok, Err, refl, sym, ap, ◌∙◌, subst, inl, inr, arith}
use Rattle.std.specs.Prelude.{Option, Some, None}
use Rattle.std.specs.List.{AllByRecursion}
use Rattle.std.proofs.lemmas.List.{append_assoc, append-nil, length-append, reverse-append, reverse-reverse}
use Rattle.xq_atoms.specs.Judged.{Judged}
use Rattle.xq_atoms.specs.Text.{Text}
use Rattle.xq_atoms.specs.declared.refusals.Code.{Code}
use Rattle.xq_trees.specs.Tree.{Tree}
use Rattle.xq_trees.specs.Tuples.{value_at, bound}
use Rattle.xq_meaning.specs.declared.operators.Operator.{Operator}
use Rattle.xq_meaning.specs.declared.plans.Plan.{Plan}
use Rattle.xq_meaning.specs.declared.plans.Plan.TheVariants as plan
use Rattle.xq_meaning.specs.declared.plans.PlanClause.TheVariants as clause
use Rattle.xq_meaning.specs.Arguments.{effective}
use Rattle.xq_meaning.specs.Doing.{Outcome, go_on, give, judged, on_trees, in_turn, more}
use Rattle.xq_meaning.specs.Forms
use Rattle.xq_expressions.specs.declared.signatures.Function.TheVariants.{Head}
use Rattle.xq_meaning.specs.Functions.{Focus, called, head}
use Rattle.xq_meaning.specs.Items.{Item, Place, Node}
use Rattle.xq_meaning.specs.Operators.{keeps, operated}
use Rattle.xq_meaning.specs.PlanMeaning.{Slots, Frame, Meaning, ClauseMeaning, at_tuple, opened, plan_mean}
use Rattle.xq_meaning.specs.Same.{frame_of}
use Rattle.xq_meaning.specs.Steps.{focuses_from, is_reverse}
use Rattle.xq_trees.specs.declared.Axis.{Axis}
use Rattle.xq_meaning.proofs.PlanEquations as plan_eq
use Rattle.xq_meaning.proofs.SameForms.{AreRelated}
use Rattle.xq_optimise.specs.declared.held.Held.{Held}
use Rattle.xq_optimise.specs.declared.held.Held.TheVariants as has
use Rattle.xq_optimise.specs.declared.invariants.Lifted.TheVariants as lifted
use Rattle.xq_optimise.specs.Known.{Holds, Fits}
use Rattle.xq_optimise.specs.Same.{GivesSame}
use Rattle.xq_optimise.specs.Sure.{on_node, IgnoresFocus, IgnoresPosition}
use Rattle.xq_optimise.specs.private.Invariants.{GivesThere, with_both, IsLifted, IsFirstTested, IsNear, IsNearBy, LiftsFirst, LiftsTo, first_with, let_in, only_if}
use Rattle.xq_optimise.specs.private.Joins.{IsOutside, LeavesTrees}
use Rattle.xq_optimise.specs.private.Parts.{GivesHeld, IsHeld}
use Rattle.xq_optimise.proofs.Fitting.{fits_length, fits_more}
use Rattle.xq_optimise.proofs.FocusFree.{of_position, sequence_free}
use Rattle.xq_optimise.proofs.Leaving.{chain_quiet}
use Rattle.xq_optimise.proofs.SlotsOutside.{sequence_outside}
use Rattle.xq_optimise.proofs.SameTrees.{Alike, predicates_here, then_here}

-- # A value in the next slot

one_returned : (o : Outcome (List Item)) → go_on (go_on o (λ ys. give ys)) (λ n. give n) ≡ o
one_returned (Ok ys, f) = refl
one_returned (Err code, f) = refl

pub lone_let : (value whole : Plan) (slots : Slots) (focus : Option Focus) (addresses : List Text) (f : List Tree) →
    plan_mean (let_in value whole) (frame_of slots focus addresses) f
    ≡ go_on (plan_mean value (frame_of slots focus addresses) f) (λ xs. plan_mean whole (frame_of (opened slots xs) focus addresses))
lone_let value whole slots focus addresses f =
    ap (λ m. m frame f) (plan_eq.plan-Flwor (clause.Let value ∷ []) whole)
    ∙ ap (λ (m : ClauseMeaning). go_on (go_on (m frame ([] ∷ []) f) (λ n. give n)) (λ tuples. Forms.return_of (plan_mean whole) (at_tuple frame) tuples)) (plan_eq.clause-Let value)
    ∙ by (plan_mean value (frame_of (slots ++ []) focus addresses) f)
    ∙ ap (λ env. go_on (plan_mean value (frame_of env focus addresses) f) (λ xs. plan_mean whole (frame_of (opened slots xs) focus addresses))) (append-nil slots)
  where
    frame : Frame
    frame = frame_of slots focus addresses

    by : (o : Outcome (List Item)) →
        go_on (go_on (go_on (go_on (go_on o (λ y. give (y ∷ []))) (λ n. give n)) (λ values. give (bound ([] ∷ []) values))) (λ n. give n)) (λ tuples. Forms.return_of (plan_mean whole) (at_tuple frame) tuples)
        ≡ go_on o (λ xs. plan_mean whole (frame_of (opened slots xs) focus addresses))
    by (Ok xs, g) = one_returned (plan_mean whole (frame_of (opened slots xs) focus addresses) g)
    by (Err code, g) = refl

-- where the test is told, or is refused
guarded : (test part : Plan) (frame : Frame) (f : List Tree) (truth : Bool) → Forms.tested (plan_mean test) frame f ≡ (Ok truth, f) →
    plan_mean (only_if test part) frame f ≡ Forms.chosen truth (plan_mean part) (λ here. give []) frame f
guarded test part frame f truth told =
    ap (λ m. m frame f) (plan_eq.plan-If test part (plan.Sequence []))
    ∙ ap (λ o. go_on o (λ answer. Forms.chosen answer (plan_mean part) (plan_mean (plan.Sequence [])) frame)) told
    ∙ ap (λ m. Forms.chosen truth (plan_mean part) m frame f) (plan_eq.plan-Sequence [])

guard_refused : (test part : Plan) (frame : Frame) (f : List Tree) (code : Code) → Forms.tested (plan_mean test) frame f ≡ (Err code, f) → plan_mean (only_if test part) frame f ≡ (Err code, f)
guard_refused test part frame f code told =
    ap (λ m. m frame f) (plan_eq.plan-If test part (plan.Sequence []))
    ∙ ap (λ o. go_on o (λ answer. Forms.chosen answer (plan_mean part) (plan_mean (plan.Sequence [])) frame)) told

-- # The first of some nodes, and a part with it in focus

module _ (items near : Plan) (frame : Frame) (f : List Tree) where
  -- the part with a node in focus
  abbrev pub near_at : Place → Outcome (List Item)
  near_at r = plan_mean near (Forms.in_focus frame (on_node r 1 1)) f

  abbrev told_of : List Place → Outcome Bool
  told_of [] = (Ok false, f)
  told_of (r ∷ qs) = go_on (near_at r) (λ zs. give true)

  abbrev both : Meaning
  both = plan_mean (plan.Sequence (plan.ContextItem ∷ near ∷ []))

  head_is : (ps : List Place) → plan_mean items frame f ≡ (Ok (map Node ps), f) → plan_mean (plan.Call Head (items ∷ [])) frame f ≡ (Ok (head (map Node ps)), f)
  head_is ps e =
      ap (λ m. m frame f) (plan_eq.plan-Call Head (items ∷ []))
      ∙ ap (λ o. go_on (go_on (go_on o (λ y. give (y ∷ []))) (λ n. give n)) (λ values. on_trees (λ trees. called Head trees frame.addresses frame.focus values))) e

  both_is : (r : Place) → both (Forms.in_focus frame (on_node r 1 1)) f ≡ go_on (near_at r) (λ zs. give (Node r ∷ zs))
  both_is r =
      ap (λ m. m (Forms.in_focus frame (on_node r 1 1)) f) (plan_eq.plan-Sequence (plan.ContextItem ∷ near ∷ []))
      ∙ ap (λ (m : Meaning). go_on (go_on (m (Forms.in_focus frame (on_node r 1 1)) f) (λ ys. give ([] ++ ys))) (λ n. in_turn (more (λ (part : Meaning). part (Forms.in_focus frame (on_node r 1 1)))) n (plan_mean near ∷ [])))
      plan_eq.plan-ContextItem
      ∙ by (near_at r)
    where
      by : (o : Outcome (List Item)) → go_on (go_on o (λ ys. give (Node r ∷ ys))) (λ n. give n) ≡ go_on o (λ zs. give (Node r ∷ zs))
      by (Ok zs, g) = refl
      by (Err code, g) = refl

  pub first_told : (ps : List Place) → plan_mean items frame f ≡ (Ok (map Node ps), f) → Forms.tested (plan_mean (first_with items near)) frame f ≡ told_of ps
  first_told ps e =
      ap (λ (m : Meaning). go_on (m frame f) (λ xs. judged (effective xs))) (plan_eq.plan-Map (plan.Call Head (items ∷ [])) (plan.Sequence (plan.ContextItem ∷ near ∷ []) ∷ []))
      ∙ ap (λ o. go_on (go_on o (λ xs. in_turn (Forms.bang frame) xs (both ∷ []))) (λ xs. judged (effective xs))) (head_is ps e)
      ∙ of ps
    where
      truth_of : (r : Place) (o : Outcome (List Item)) → go_on (go_on (go_on (go_on (go_on o (λ zs. give (Node r ∷ zs))) (λ ys. give ([] ++ ys))) (λ n. give n)) (λ n. give n)) (λ xs. judged (effective xs)) ≡ go_on o (λ zs. give true)
      truth_of r (Ok zs, g) = refl
      truth_of r (Err code, g) = refl

      of : (qs : List Place) → go_on (in_turn (Forms.bang frame) (head (map Node qs)) (both ∷ []) f) (λ xs. judged (effective xs)) ≡ told_of qs
      of [] = refl
      of (r ∷ qs) =
          ap (λ o. go_on (go_on (go_on (go_on o (λ ys. give ([] ++ ys))) (λ n. give n)) (λ n. give n)) (λ xs. judged (effective xs))) (both_is r)
          ∙ truth_of r (near_at r)

-- # Slots

value_front : (n : ℕ) (slots more : Slots) → n < length slots → value_at n (slots ++ more) ≡ value_at n slots
value_front n [] more h = absurd (omega arith)
value_front zero (x ∷ slots) more h = refl
value_front (suc n) (x ∷ slots) more h = value_front n slots more (omega (arith, h))

value_next : (slots : Slots) (x : List Item) → value_at (length slots) (opened slots x) ≡ x
value_next [] x = refl
value_next (y ∷ slots) x = value_next slots x

longer_by_one : (slots : Slots) (x : List Item) → length slots < length (opened slots x)
longer_by_one [] x = omega arith
longer_by_one (y ∷ slots) x = let e = longer_by_one slots x in omega (arith, e)

-- the items in the first slot that was opened
pub items_there : (known : List Held) (slots : Slots) (xs value : List Item) → Fits known slots → value_at (length known) (with_both slots xs value) ≡ xs
items_there known slots xs value fits =
    ap (λ n. value_at n (with_both slots xs value)) (sym (fits_length known slots fits))
    ∙ value_front (length slots) (opened slots xs) (value ∷ []) (longer_by_one slots xs)
    ∙ value_next slots xs

pub items_next : (known : List Held) (slots : Slots) (xs : List Item) → Fits known slots → value_at (length known) (opened slots xs) ≡ xs
items_next known slots xs fits = ap (λ n. value_at n (opened slots xs)) (sym (fits_length known slots fits)) ∙ value_next slots xs

nothing_held : (held : Held) → Holds held []
nothing_held has.Nodes = ([], refl)
nothing_held has.Node = (([], refl), tt)
nothing_held has.Texts = tt
nothing_held has.Text = (tt, tt)
nothing_held has.Item = tt
nothing_held has.Anything = tt

-- the part reads neither
still_there : (known : List Held) (part : Plan) → IsOutside (length known) part → (slots : Slots) → Fits known slots → (more : Slots) (focus : Option Focus) (addresses : List Text) (f : List Tree) →
    plan_mean part (frame_of (slots ++ more) focus addresses) f ≡ plan_mean part (frame_of slots focus addresses) f
still_there known part outside slots fits more focus addresses f = outside.0 slots more focus addresses f (inr (sym (fits_length known slots fits)))

-- # The part before all items

module _ (known : List Held) (near p part q : Plan) (lifts : IsLifted known near p part q) (held also : Held) (is : IsHeld known also part) where
  abbrev then_known : List Held
  then_known = (known ++ held ∷ []) ++ also ∷ []

  fits_both : (slots : Slots) (xs value : List Item) → Fits known slots → Holds held xs → Holds also value → Fits then_known (with_both slots xs value)
  fits_both slots xs value fits h k = fits_more (known ++ held ∷ []) (also ∷ []) (opened slots xs) (value ∷ []) (fits_more known (held ∷ []) slots (xs ∷ []) fits (h, tt)) (k, tt)

  -- a whole with the predicate, over these items, and one with the other predicate
  module _ (first whole found : Plan) (same : GivesSame then_known whole found)
      (slots : Slots) (focus : Option Focus) (addresses : List Text) (xs : List Item) (f : List Tree) (fits : Fits known slots) (holds : Holds held xs) (o : Outcome (List Item)) where
    abbrev before : Frame
    before = frame_of (opened slots xs) focus addresses

    abbrev test : Plan
    test = first_with first near

    -- the near part at a node
    abbrev near_of : Place → Outcome (List Item)
    near_of r = plan_mean near (frame_of slots (Some (on_node r 1 1)) addresses) f

    near_same : (r : Place) → near_at first near before f r ≡ near_of r
    near_same r = still_there known near lifts.near_outside slots fits (xs ∷ []) (Some (on_node r 1 1)) addresses f

    -- where the part is not asked for
    none_asked : Forms.tested (plan_mean test) before f ≡ (Ok false, f) → plan_mean whole (frame_of (with_both slots xs []) focus addresses) f ≡ o →
        plan_mean (let_in (only_if test part) found) before f ≡ o
    none_asked told gives =
        lone_let (only_if test part) found (opened slots xs) focus addresses f
        ∙ ap (λ r. go_on r (λ value. plan_mean found (frame_of (with_both slots xs value) focus addresses))) (guarded test part before f false told)
        ∙ same (with_both slots xs []) focus addresses f (fits_both slots xs [] fits holds (nothing_held also))
        ∙ gives

    -- where the near part is refused
    near_asked : (code : Code) → Forms.tested (plan_mean test) before f ≡ (Err code, f) → o ≡ (Err code, f) → plan_mean (let_in (only_if test part) found) before f ≡ o
    near_asked code told stops =
        lone_let (only_if test part) found (opened slots xs) focus addresses f
        ∙ ap (λ r. go_on r (λ value. plan_mean found (frame_of (with_both slots xs value) focus addresses))) (guard_refused test part before f code told)
        ∙ sym stops

    some_asked : Forms.tested (plan_mean test) before f ≡ (Ok true, f) →
        ((code : Code) → GivesThere slots addresses f part (Err code) → o ≡ (Err code, f)) →
        ((value : List Item) → GivesThere slots addresses f part (Ok value) → plan_mean whole (frame_of (with_both slots xs value) focus addresses) f ≡ o) →
        plan_mean (let_in (only_if test part) found) before f ≡ o
    some_asked told refuses gives =
        lone_let (only_if test part) found (opened slots xs) focus addresses f
        ∙ ap (λ r. go_on r (λ value. plan_mean found (frame_of (with_both slots xs value) focus addresses)))
        (guarded test part before f true told ∙ still_there known part lifts.outside slots fits (xs ∷ []) focus addresses f)
        ∙ by (lifts.outside.1 (frame_of slots focus addresses) f)
      where
        there : (given : Judged (List Item)) → plan_mean part (frame_of slots focus addresses) f ≡ (given, f) → GivesThere slots addresses f part given
        there given e other = lifts.free slots other focus addresses f ∙ e

        by : ((given : Judged (List Item)) × (plan_mean part (frame_of slots focus addresses) f ≡ (given, f))) →
            go_on (plan_mean part (frame_of slots focus addresses) f) (λ value. plan_mean found (frame_of (with_both slots xs value) focus addresses)) ≡ o
        by (Ok value, e) =
            ap (λ r. go_on r (λ v. plan_mean found (frame_of (with_both slots xs v) focus addresses))) e
            ∙ same (with_both slots xs value) focus addresses f
            (fits_both slots xs value fits holds (subst (GivesHeld also) e (is slots focus addresses f fits)))
            ∙ gives value (there (Ok value) e)
        by (Err code, e) =
            ap (λ r. go_on r (λ v. plan_mean found (frame_of (with_both slots xs v) focus addresses))) e
            ∙ sym (refuses code (there (Err code) e))

    -- by the nodes of which the first is asked
    pub asked : (ps : List Place) → plan_mean first before f ≡ (Ok (map Node ps), f) →
        (ps ≡ [] → plan_mean whole (frame_of (with_both slots xs []) focus addresses) f ≡ o) →
        ((r : Place) (qs : List Place) → ps ≡ r ∷ qs → (code : Code) → near_of r ≡ (Err code, f) → o ≡ (Err code, f)) →
        ((r : Place) (qs : List Place) → ps ≡ r ∷ qs → (zs : List Item) → near_of r ≡ (Ok zs, f) → (code : Code) → GivesThere slots addresses f part (Err code) → o ≡ (Err code, f)) →
        ((value : List Item) → GivesThere slots addresses f part (Ok value) → plan_mean whole (frame_of (with_both slots xs value) focus addresses) f ≡ o) →
        plan_mean (let_in (only_if test part) found) before f ≡ o
    asked [] e none stops refuses gives = none_asked (first_told first near before f [] e) (none refl)
    asked (r ∷ qs) e none stops refuses gives = by (lifts.near_outside.1 (frame_of slots (Some (on_node r 1 1)) addresses) f)
      where
        told : (given : Judged (List Item)) → near_of r ≡ (given, f) → Forms.tested (plan_mean test) before f ≡ go_on (given, f) (λ zs. give true)
        told given at = first_told first near before f (r ∷ qs) e ∙ ap (λ w. go_on w (λ zs. give true)) (near_same r ∙ at)

        by : ((given : Judged (List Item)) × (near_of r ≡ (given, f))) → plan_mean (let_in (only_if test part) found) before f ≡ o
        by (Ok zs, at) = some_asked (told (Ok zs) at) (refuses r qs refl zs at) gives
        by (Err code, at) = near_asked code (told (Err code) at) (stops r qs refl code at)

  -- # Predicates that follow

  module _ (rest : List Plan) (all : AllByRecursion (IsOutside (length known)) rest) (slots : Slots) (addresses : List Text) (f : List Tree) (fits : Fits known slots)
      (xs value : List Item) (there : GivesThere slots addresses f part (Ok value)) where
    rest_alike : (ps : List Plan) → AllByRecursion (IsOutside (length known)) ps → AreRelated (Alike slots (with_both slots xs value) addresses f) (map plan_mean ps) (map plan_mean ps)
    rest_alike [] h = tt
    rest_alike (r ∷ ps) h = (
      (
        (λ focus.
            ap (λ env. plan_mean r (frame_of env focus addresses) f) (append_assoc slots (xs ∷ []) (value ∷ []))
            ∙ still_there known r h.0 slots fits (xs ∷ value ∷ []) focus addresses f),
        h.0.1,
      ),
      rest_alike ps h.1,
    )

    pub all_alike : AreRelated (Alike slots (with_both slots xs value) addresses f) (map plan_mean (q ∷ rest)) (map plan_mean (p ∷ rest))
    all_alike = ((lifts.alike slots addresses f xs value fits there, lifts.leaves), rest_alike rest all)

-- # What is filtered

pub none_filtered : (frame : Frame) (ms : List Meaning) (f : List Tree) → in_turn (Forms.filtered frame) [] ms f ≡ (Ok [], f)
none_filtered frame [] f = refl
none_filtered frame (m ∷ ms) f = none_filtered frame ms f

-- the first item is refused
pub first_refused : (slots : Slots) (focus : Option Focus) (addresses : List Text) (m : Meaning) (ms : List Meaning) (x : Place) (xs : List Item) (f : List Tree) (code : Code) →
    ((position last : ℕ) → m (frame_of slots (Some (on_node x position last)) addresses) f ≡ (Err code, f)) →
    in_turn (Forms.filtered (frame_of slots focus addresses)) (Node x ∷ xs) (m ∷ ms) f ≡ (Err code, f)
first_refused slots focus addresses m ms x xs f code h =
    ap (λ o. go_on (go_on (go_on (go_on o (λ value g. go_on (judged (keeps 1 value) g) (λ keep. give (Forms.kept_if (Node x) keep)))) (λ ys. give ([] ++ ys)))
    (λ n. in_turn (more (Forms.passed m (frame_of slots focus addresses))) n (focuses_from 2 (length (Node x ∷ xs)) xs)))
    (λ n. in_turn (Forms.filtered (frame_of slots focus addresses)) n ms)) (h 1 (length (Node x ∷ xs)))

pub slot_gives : (n : ℕ) (frame : Frame) (f : List Tree) (xs : List Item) → value_at n frame.env ≡ xs → plan_mean (plan.Slot n) frame f ≡ (Ok xs, f)
slot_gives n frame f xs e = ap (λ m. m frame f) (plan_eq.plan-Slot n) ∙ ap (λ ys. (Ok ys, f)) e

abbrev pub are_some : List Place → Bool
are_some [] = false
are_some (p ∷ ps) = true

pub filter_lifts : (known : List Held) (start near p part q found result : Plan) (rest : List Plan) (held also : Held) → IsLifted known near p part q → AllByRecursion (IsOutside (length known)) rest →
    IsHeld known has.Nodes start → IsHeld known held start → IsHeld known also part →
    GivesSame ((known ++ held ∷ []) ++ also ∷ []) (plan.Filter (plan.Slot (length known)) (q ∷ rest)) found →
    result ≡ let_in start (let_in (only_if (first_with (plan.Slot (length known)) near) part) found) →
    GivesSame known (plan.Filter start (p ∷ rest)) result
filter_lifts known start near p part q found result rest held also lifts all nodes kept is same at slots focus addresses trees fits =
    ap (λ r. plan_mean r frame trees) at
    ∙ lone_let start (let_in (only_if (first_with test near) part) found) slots focus addresses trees
    ∙ by (plan_mean start frame trees) (nodes slots focus addresses trees fits) (kept slots focus addresses trees fits)
    ∙ sym (ap (λ m. m frame trees) (plan_eq.plan-Filter start (p ∷ rest)))
  where
    frame : Frame
    frame = frame_of slots focus addresses

    test : Plan
    test = plan.Slot (length known)

    whole : Plan
    whole = plan.Filter test (q ∷ rest)

    -- over these nodes
    over : (ps : List Place) (f : List Tree) → Holds held (map Node ps) →
        plan_mean (let_in (only_if (first_with test near) part) found) (frame_of (opened slots (map Node ps)) focus addresses) f
        ≡ in_turn (Forms.filtered frame) (map Node ps) (map plan_mean (p ∷ rest)) f
    over ps f holds =
        asked known near p part q lifts held also is test whole found same slots focus addresses (map Node ps) f fits holds
        (in_turn (Forms.filtered frame) (map Node ps) (map plan_mean (p ∷ rest)) f) ps
        (slot_gives (length known) (frame_of (opened slots (map Node ps)) focus addresses) f (map Node ps) (items_next known slots (map Node ps) fits))
        (none ps) (λ r qs cut code at. stops r qs ps cut code at) (λ r qs cut zs at code there. refuses r qs ps cut zs at code there) (gives ps)
      where
        reads : (qs : List Place) (value : List Item) →
            plan_mean whole (frame_of (with_both slots (map Node qs) value) focus addresses) f
            ≡ in_turn (Forms.filtered (frame_of (with_both slots (map Node qs) value) focus addresses)) (map Node qs) (map plan_mean (q ∷ rest)) f
        reads qs value =
            let here = frame_of (with_both slots (map Node qs) value) focus addresses in
            ap (λ m. m here f) (plan_eq.plan-Filter test (q ∷ rest))
            ∙ ap (λ o. go_on o (λ xs. in_turn (Forms.filtered here) xs (map plan_mean (q ∷ rest)))) (slot_gives (length known) here f (map Node qs) (items_there known slots (map Node qs) value fits))

        none : (qs : List Place) → qs ≡ [] → plan_mean whole (frame_of (with_both slots (map Node qs) []) focus addresses) f
            ≡ in_turn (Forms.filtered frame) (map Node qs) (map plan_mean (p ∷ rest)) f
        none qs e = subst (λ (l : List Place). plan_mean whole (frame_of (with_both slots (map Node l) []) focus addresses) f ≡ in_turn (Forms.filtered frame) (map Node l) (map plan_mean (p ∷ rest)) f) (sym e)
            (reads [] [] ∙ none_filtered (frame_of (with_both slots [] []) focus addresses) (map plan_mean (q ∷ rest)) f ∙ sym (none_filtered frame (map plan_mean (p ∷ rest)) f))

        first_stops : (r : Place) (qs ls : List Place) → ls ≡ r ∷ qs → (code : Code) → ((position last : ℕ) → plan_mean p (frame_of slots (Some (on_node r position last)) addresses) f ≡ (Err code, f)) →
            in_turn (Forms.filtered frame) (map Node ls) (map plan_mean (p ∷ rest)) f ≡ (Err code, f)
        first_stops r qs ls cut code h =
            ap (λ (l : List Place). in_turn (Forms.filtered frame) (map Node l) (map plan_mean (p ∷ rest)) f) cut
            ∙ first_refused slots focus addresses (plan_mean p) (map plan_mean rest) r (map Node qs) f code h

        stops : (r : Place) (qs ls : List Place) → ls ≡ r ∷ qs → (code : Code) → plan_mean near (frame_of slots (Some (on_node r 1 1)) addresses) f ≡ (Err code, f) →
            in_turn (Forms.filtered frame) (map Node ls) (map plan_mean (p ∷ rest)) f ≡ (Err code, f)
        stops r qs ls cut code at =
            first_stops r qs ls cut code (λ position last. lifts.stops slots addresses f code fits r position last (lifts.near_free slots addresses f r position last 1 1 ∙ at))

        refuses : (r : Place) (qs ls : List Place) → ls ≡ r ∷ qs → (zs : List Item) → plan_mean near (frame_of slots (Some (on_node r 1 1)) addresses) f ≡ (Ok zs, f) →
            (code : Code) → GivesThere slots addresses f part (Err code) → in_turn (Forms.filtered frame) (map Node ls) (map plan_mean (p ∷ rest)) f ≡ (Err code, f)
        refuses r qs ls cut zs at code there =
            first_stops r qs ls cut code (λ position last. lifts.refused slots addresses f code fits there r position last zs (lifts.near_free slots addresses f r position last 1 1 ∙ at))

        gives : (qs : List Place) (value : List Item) → GivesThere slots addresses f part (Ok value) →
            plan_mean whole (frame_of (with_both slots (map Node qs) value) focus addresses) f
            ≡ in_turn (Forms.filtered frame) (map Node qs) (map plan_mean (p ∷ rest)) f
        gives qs value there =
            reads qs value
            ∙ predicates_here slots (with_both slots (map Node qs) value) addresses f focus (map plan_mean (q ∷ rest)) (map plan_mean (p ∷ rest))
            (all_alike known near p part q lifts held also is rest all slots addresses f fits (map Node qs) value there) (map Node qs)

    by : (o : Outcome (List Item)) → GivesHeld has.Nodes o → GivesHeld held o →
        go_on o (λ xs. plan_mean (let_in (only_if (first_with test near) part) found) (frame_of (opened slots xs) focus addresses))
        ≡ go_on o (λ xs. in_turn (Forms.filtered frame) xs (map plan_mean (p ∷ rest)))
    by (Ok xs, f) (ps, e) holds =
        ap (λ ys. plan_mean (let_in (only_if (first_with test near) part) found) (frame_of (opened slots ys) focus addresses) f) e
        ∙ over ps f (subst (Holds held) e holds)
        ∙ ap (λ ys. in_turn (Forms.filtered frame) ys (map plan_mean (p ∷ rest)) f) (sym e)
    by (Err code, f) n h = refl

-- by the names that a function has for slots and predicates
pub filter_lifts_at : (known all : List Held) (n : ℕ) (ps : List Plan) (start near p part q found result : Plan) (rest : List Plan) (held also : Held) → n ≡ length known →
    all ≡ (known ++ held ∷ []) ++ also ∷ [] → ps ≡ q ∷ rest → IsLifted known near p part q → AllByRecursion (IsOutside (length known)) rest →
    IsHeld known has.Nodes start → IsHeld known held start → IsHeld known also part → GivesSame all (plan.Filter (plan.Slot n) ps) found →
    result ≡ let_in start (let_in (only_if (first_with (plan.Slot n) near) part) found) → GivesSame known (plan.Filter start (p ∷ rest)) result
filter_lifts_at known all n ps start near p part q found result rest held also here whole at lifts outside nodes kept is same made =
    filter_lifts known start near p part q found result rest held also lifts outside nodes kept is
    (subst (λ l. GivesSame ((known ++ held ∷ []) ++ also ∷ []) (plan.Filter (plan.Slot (length known)) l) found) at
    (subst (λ m. GivesSame ((known ++ held ∷ []) ++ also ∷ []) (plan.Filter (plan.Slot m) ps) found) here
    (subst (λ k. GivesSame k (plan.Filter (plan.Slot n) ps) found) whole same)))
    (made ∙ ap (λ m. let_in start (let_in (only_if (first_with (plan.Slot m) near) part) found)) here)

-- # Comparisons

-- the value of the part in the second slot that was opened
value_there : (known : List Held) (slots : Slots) (xs value : List Item) → Fits known slots → value_at (length known + 1) (with_both slots xs value) ≡ value
value_there known slots xs value fits =
    ap (λ (n : ℕ). value_at n (with_both slots xs value)) (by (fits_length known slots fits) (length-append slots (xs ∷ [])))
    ∙ value_next (opened slots xs) value
  where
    by : length slots ≡ length known → length (opened slots xs) ≡ length slots + 1 → length known + 1 ≡ length (opened slots xs)
    by e l = omega (arith, e, l)

abbrev pair_of : Plan → Operator → Plan → Plan
pair_of a op b = plan.Chain a ((op, b) ∷ [])

-- with more slots a part that reads none of them gives the same
same_there : (known : List Held) (a : Plan) → IsOutside (length known) a → (slots : Slots) (xs value : List Item) → Fits known slots → (focus : Option Focus) (addresses : List Text) (f : List Tree) →
    plan_mean a (frame_of (with_both slots xs value) focus addresses) f ≡ plan_mean a (frame_of slots focus addresses) f
same_there known a outside slots xs value fits focus addresses f =
    ap (λ env. plan_mean a (frame_of env focus addresses) f) (append_assoc slots (xs ∷ []) (value ∷ []))
    ∙ still_there known a outside slots fits (xs ∷ value ∷ []) focus addresses f

pair_leaves : (known : List Held) (a b : Plan) (op : Operator) → IsOutside (length known) a → IsOutside (length known) b → LeavesTrees (pair_of a op b)
pair_leaves known a b op left right frame f =
    let own = chain_quiet (plan_mean a) ((op, plan_mean b) ∷ []) left.1 (right.1, tt) frame f in
    (own.0, ap (λ m. m frame f) (plan_eq.plan-Chain a ((op, b) ∷ [])) ∙ own.1)

-- what is made of the left side and the right one
abbrev operands : Operator → List Item → Outcome (List Item) → Outcome (List Item)
operands op zs o = go_on (go_on o (λ ys. on_trees (λ trees. operated op trees zs ys))) (λ n. give n)

-- a value is no code
abbrev IsGiven : Outcome (List Item) → Type 0
IsGiven (Ok xs, f) = Unit {0}
IsGiven (Err code, f) = ⊥

never : {A : Type 0} (o : Outcome (List Item)) (xs : List Item) (code : Code) (f : List Tree) → o ≡ (Ok xs, f) → o ≡ (Err code, f) → A
never o xs code f given refused = absurd (subst IsGiven (sym given ∙ refused) tt)

pub nothing_given : (frame : Frame) (f : List Tree) → plan_mean (plan.Sequence []) frame f ≡ (Ok [], f)
nothing_given frame f = ap (λ m. m frame f) (plan_eq.plan-Sequence [])

nothing_outside : (n : ℕ) → IsOutside n (plan.Sequence [])
nothing_outside n = sequence_outside n [] (plan.Sequence []) refl tt

nothing_free : IgnoresPosition (plan.Sequence [])
nothing_free = of_position (plan.Sequence []) (sequence_free true [] (plan.Sequence []) refl tt)

near_leads : (n : ℕ) (a near : Plan) → IsNear a near → IsOutside n a → IsOutside n near × IgnoresPosition near
near_leads n a near (inl (finds, is)) outside = subst (λ r. IsOutside n r × IgnoresPosition r) (sym is) (nothing_outside n, nothing_free)
near_leads n a near (inr (free, is)) outside = subst (λ r. IsOutside n r × IgnoresPosition r) (sym is) (outside, free)

module _ (known : List Held) (a b near : Plan) (op : Operator) (left : IsOutside (length known) a) (right : IsOutside (length known) b) where
  pair_at : (frame : Frame) (f : List Tree) → plan_mean (pair_of a op b) frame f ≡ go_on (plan_mean a frame f) (λ zs. in_turn (Forms.next_operand frame) zs ((op, plan_mean b) ∷ []))
  pair_at frame f = ap (λ m. m frame f) (plan_eq.plan-Chain a ((op, b) ∷ []))

  pair_stops : IsNear a near → (slots : Slots) (addresses : List Text) (f : List Tree) (code : Code) (place : Place) (position last : ℕ) →
      plan_mean near (frame_of slots (Some (on_node place position last)) addresses) f ≡ (Err code, f) →
      plan_mean (pair_of a op b) (frame_of slots (Some (on_node place position last)) addresses) f ≡ (Err code, f)
  pair_stops (inl (finds, is)) slots addresses f code place position last at =
      let here = frame_of slots (Some (on_node place position last)) addresses in
      never (plan_mean near here f) [] code f (ap (λ r. plan_mean r here f) is ∙ nothing_given here f) at
  pair_stops (inr (free, is)) slots addresses f code place position last at =
      let here = frame_of slots (Some (on_node place position last)) addresses in
      pair_at here f ∙ ap (λ o. go_on o (λ zs. in_turn (Forms.next_operand here) zs ((op, plan_mean b) ∷ []))) (ap (λ r. plan_mean r here f) (sym is) ∙ at)

  pair_refused : IsNear a near → (slots : Slots) (addresses : List Text) (f : List Tree) (code : Code) → GivesThere slots addresses f b (Err code) →
      (place : Place) (position last : ℕ) (zs : List Item) →
      plan_mean near (frame_of slots (Some (on_node place position last)) addresses) f ≡ (Ok zs, f) →
      plan_mean (pair_of a op b) (frame_of slots (Some (on_node place position last)) addresses) f ≡ (Err code, f)
  pair_refused near_is slots addresses f code there place position last zs at = pair_at here f ∙ by near_is
    where
      here : Frame
      here = frame_of slots (Some (on_node place position last)) addresses

      of : (ys : List Item) → plan_mean a here f ≡ (Ok ys, f) → go_on (plan_mean a here f) (λ zs. in_turn (Forms.next_operand here) zs ((op, plan_mean b) ∷ [])) ≡ (Err code, f)
      of ys e =
          ap (λ o. go_on o (λ zs. in_turn (Forms.next_operand here) zs ((op, plan_mean b) ∷ []))) e
          ∙ ap (operands op ys) (there (Some (on_node place position last)))

      by : IsNear a near → go_on (plan_mean a here f) (λ zs. in_turn (Forms.next_operand here) zs ((op, plan_mean b) ∷ [])) ≡ (Err code, f)
      by (inl (finds, is)) = let found = finds slots addresses f place in of (map Node found.0) (found.1 position last)
      by (inr (free, is)) = of zs (ap (λ r. plan_mean r here f) (sym is) ∙ at)

pub right_lifts : (known : List Held) (near p a b q : Plan) (op : Operator) → p ≡ pair_of a op b → q ≡ pair_of a op (plan.Slot (length known + 1)) → IsNear a near →
    IsOutside (length known) a → IsOutside (length known) b → IgnoresFocus b → IsLifted known near p b q
right_lifts known near p a b q op is at near_is left right free =
    subst (λ r. IsLifted known near r b q) (sym is) (subst (IsLifted known near (pair_of a op b) b) (sym at) (record {
      outside = right;
      free = free;
      leaves = pair_leaves known a b op left right;
      near_outside = (near_leads (length known) a near near_is left).0;
      near_free = (near_leads (length known) a near near_is left).1;
      alike = λ slots addresses f xs value fits there focus.
          let here = frame_of slots focus addresses in
          let after = frame_of (with_both slots xs value) focus addresses in
          ap (λ m. m after f) (plan_eq.plan-Chain a ((op, plan.Slot (length known + 1)) ∷ []))
          ∙ ap (λ o. go_on o (λ zs. in_turn (Forms.next_operand after) zs ((op, plan_mean (plan.Slot (length known + 1))) ∷ []))) (same_there known a left slots xs value fits focus addresses f)
          ∙ then_here f (plan_mean a here f) (λ zs. in_turn (Forms.next_operand after) zs ((op, plan_mean (plan.Slot (length known + 1))) ∷ [])) (λ zs. in_turn (Forms.next_operand here) zs ((op, plan_mean b) ∷ []))
          (left.1 here f) (λ zs. ap (operands op zs) (slot_gives (length known + 1) after f value (value_there known slots xs value fits) ∙ sym (there focus)))
          ∙ sym (ap (λ m. m here f) (plan_eq.plan-Chain a ((op, b) ∷ [])));
      stops = λ slots addresses f code fits place position last e. pair_stops known a b near op left right near_is slots addresses f code place position last e;
      refused = λ slots addresses f code fits there place position last zs e. pair_refused known a b near op left right near_is slots addresses f code there place position last zs e;
    }))

pub left_lifts : (known : List Held) (near p a b q : Plan) (op : Operator) → near ≡ plan.Sequence [] → p ≡ pair_of a op b → q ≡ pair_of (plan.Slot (length known + 1)) op b →
    IsOutside (length known) a → IsOutside (length known) b → IgnoresFocus a → IsLifted known near p a q
left_lifts known near p a b q op nothing is at left right free =
    subst (λ r. IsLifted known r p a q) (sym nothing) (subst (λ r. IsLifted known (plan.Sequence []) r a q) (sym is) (subst (IsLifted known (plan.Sequence []) (pair_of a op b) a) (sym at) (record {
      outside = left;
      free = free;
      leaves = pair_leaves known a b op left right;
      near_outside = nothing_outside (length known);
      near_free = nothing_free;
      alike = λ slots addresses f xs value fits there focus.
          let here = frame_of slots focus addresses in
          let after = frame_of (with_both slots xs value) focus addresses in
          ap (λ m. m after f) (plan_eq.plan-Chain (plan.Slot (length known + 1)) ((op, b) ∷ []))
          ∙ ap (λ o. go_on o (λ zs. in_turn (Forms.next_operand after) zs ((op, plan_mean b) ∷ []))) (slot_gives (length known + 1) after f value (value_there known slots xs value fits))
          ∙ ap (operands op value) (same_there known b right slots xs value fits focus addresses f)
          ∙ sym (ap (λ m. m here f) (plan_eq.plan-Chain a ((op, b) ∷ []))
          ∙ ap (λ o. go_on o (λ zs. in_turn (Forms.next_operand here) zs ((op, plan_mean b) ∷ []))) (there focus));
      stops = λ slots addresses f code fits place position last e.
          let here = frame_of slots (Some (on_node place position last)) addresses in
          never (plan_mean (plan.Sequence []) here f) [] code f (nothing_given here f) e;
      refused = λ slots addresses f code fits there place position last zs e.
          let here = frame_of slots (Some (on_node place position last)) addresses in
          ap (λ m. m here f) (plan_eq.plan-Chain a ((op, b) ∷ []))
          ∙ ap (λ o. go_on o (λ zs. in_turn (Forms.next_operand here) zs ((op, plan_mean b) ∷ []))) (there (Some (on_node place position last)));
    })))

-- # The first of some predicates

-- a list whose last item was taken off after it was turned round
pub first_of : {A : Type 0} (ps left rest : List A) (p : A) → left ≡ reverse ps → left ≡ rest ++ p ∷ [] → ps ≡ p ∷ reverse rest
first_of ps left rest p turned taken = sym (reverse-reverse ps) ∙ ap reverse (sym turned ∙ taken) ∙ reverse-append rest (p ∷ [])

pub part_of_first : (known : List Held) (early : Bool) (ps left rest : List Plan) (near p part q : Plan) (taken : Option (Plan × Plan)) (found : List Plan) → left ≡ reverse ps → left ≡ rest ++ p ∷ [] →
    AllByRecursion (IsOutside (length known)) ps → LiftsTo known early p (lifted.Part near part q) → taken ≡ Some (near, part) → found ≡ q ∷ reverse rest → LiftsFirst known early ps taken found
part_of_first known early ps left rest near p part q taken found turned cut all lifts is at =
    let whole = first_of ps left rest p turned cut in
    subst (λ o. LiftsFirst known early ps o found) (sym is) (p, q, reverse rest, whole, at, lifts.0, lifts.1, (subst (AllByRecursion (IsOutside (length known))) whole all).1)

pub none_of_first : (known : List Held) (early : Bool) (ps left rest : List Plan) (p q : Plan) (taken : Option (Plan × Plan)) (found : List Plan) → left ≡ reverse ps → left ≡ rest ++ p ∷ [] →
    q ≡ p → taken ≡ None → found ≡ q ∷ reverse rest → LiftsFirst known early ps taken found
none_of_first known early ps left rest p q taken found turned cut same is at =
    subst (λ o. LiftsFirst known early ps o found) (sym is) (at ∙ ap (λ r. r ∷ reverse rest) same ∙ sym (first_of ps left rest p turned cut))

pub none_left : (known : List Held) (early : Bool) (ps left : List Plan) (taken : Option (Plan × Plan)) (found : List Plan) → left ≡ reverse ps → left ≡ [] → taken ≡ None → found ≡ [] → LiftsFirst known early ps taken found
none_left known early ps left taken found turned none is at =
    subst (λ o. LiftsFirst known early ps o found) (sym is) (at ∙ ap reverse (sym none ∙ turned) ∙ reverse-reverse ps)

-- what holds of the first predicate and the others holds of all
pub of_lifted : (known : List Held) (early : Bool) (ps qs : List Plan) (near part : Plan) (taken : Option (Plan × Plan)) (goal : List Plan → Type 0) → taken ≡ Some (near, part) → LiftsFirst known early ps taken qs →
    ((p q : Plan) (more : List Plan) → qs ≡ q ∷ more → IsLifted known near p part q → IsNearBy early near → AllByRecursion (IsOutside (length known)) more → goal (p ∷ more)) → goal ps
of_lifted known early ps qs near part taken goal is lifts holds = by (subst (λ o. LiftsFirst known early ps o qs) is lifts)
  where
    by : LiftsFirst known early ps (Some (near, part)) qs → goal ps
    by (p, q, more, whole, at, one, near_by, all) = subst goal (sym whole) (holds p q more at one near_by all)

pub nothing_by : (early : Bool) → IsNearBy early (plan.Sequence [])
nothing_by true = tt
nothing_by false = refl

pub first_tested_by : (axis : Axis) (near : Plan) (early : Bool) → (early ≡ true → is_reverse axis ≡ false) → IsNearBy early near → IsFirstTested axis near
first_tested_by axis near true forward by = inl (forward refl)
first_tested_by axis near false forward by = inr by
