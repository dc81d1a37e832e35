-- The same for the predicates of a step after a slash.
use Rattle.std.proofs.Common.{◌≡◌, ℕ, suc, List, [], ◌∷◌, ◌++◌, map, reverse, length, Bool, true, false, Ok, Err, refl, sym, ap, ◌∙◌, subst, inl, inr}
use Rattle.std.specs.Prelude.{Option, Some, if◌then◌else◌}
use Rattle.std.specs.List.{AllByRecursion}
use Rattle.std.proofs.lemmas.Bool.{false≢true}
use Rattle.std.proofs.lemmas.List.{append_assoc, append-nil, map-append, reverse-append}
use Rattle.xq_atoms.specs.Judged.{Judged}
use Rattle.xq_atoms.specs.Text.{Text}
use Rattle.xq_atoms.specs.declared.refusals.Code.{Code}
use Rattle.xq_atoms.specs.declared.refusals.Code.TheVariants.{XPTY0019}
use Rattle.xq_trees.specs.declared.Axis.{Axis}
use Rattle.xq_trees.specs.Tree.{Tree}
use Rattle.xq_meaning.specs.declared.node_tests.Test.{Test}
use Rattle.xq_meaning.specs.declared.plans.Plan.{Plan}
use Rattle.xq_meaning.specs.declared.plans.Plan.TheVariants as plan
use Rattle.xq_meaning.specs.declared.plans.PlanStep.{PlanStep}
use Rattle.xq_meaning.specs.declared.plans.PlanStep.TheVariants as step
use Rattle.xq_meaning.specs.Doing.{Doing, Outcome, go_on, give, judged, on_trees, in_turn, more, collected}
use Rattle.xq_meaning.specs.Forms
use Rattle.xq_meaning.specs.Functions.{Focus}
use Rattle.xq_meaning.specs.Items.{Item, Place, Node}
use Rattle.xq_meaning.specs.Operators.{gathered}
use Rattle.xq_meaning.specs.PlanMeaning.{Slots, Frame, Meaning, opened, plan_mean, plan_step_mean}
use Rattle.xq_meaning.specs.Same.{frame_of}
use Rattle.xq_meaning.specs.Steps.{axis_nodes, focuses, focuses_from, in_axis_order, is_reverse}
use Rattle.xq_meaning.proofs.PlanEquations as plan_eq
use Rattle.xq_optimise.specs.declared.held.Held.{Held}
use Rattle.xq_optimise.specs.declared.held.Held.TheVariants as has
use Rattle.xq_optimise.specs.Known.{Holds}
use Rattle.xq_optimise.specs.Same.{GivesSame}
use Rattle.xq_optimise.specs.Sure.{on_node}
use Rattle.xq_optimise.specs.private.Invariants.{GivesThere, with_both, IsFirstTested, IsLifted, first_with, let_in, only_if}
use Rattle.xq_optimise.specs.private.Joins.{IsOutside}
use Rattle.xq_optimise.specs.private.Parts.{GivesHeld, IsHeld}
use Rattle.xq_optimise.proofs.LiftedParts.{are_some, all_alike, asked, first_refused, items_next, items_there, lone_let, none_filtered, nothing_given, slot_gives}
use Rattle.xq_optimise.proofs.Scans.{nodes_all}
use Rattle.xq_optimise.proofs.SameTrees.{slash_here}
use Rattle.xq_optimise.proofs.WholePaths.{path_more, path_none}

-- # Lists that a reverse axis turns round

reverse-map : (ps : List Place) → reverse (map Node ps) ≡ map Node (reverse ps)
reverse-map [] = refl
reverse-map (p ∷ ps) =
    reverse-append (Node p ∷ []) (map Node ps) ∙ ap (λ l. l ++ Node p ∷ []) (reverse-map ps)
    ∙ sym (map-append Node (reverse ps) (p ∷ [])) ∙ ap (map Node) (sym (reverse-append (p ∷ []) ps))

turned_nodes : (axis : Axis) (ps : List Place) → in_axis_order axis (map Node ps) ≡ map Node (in_axis_order axis ps)
turned_nodes axis ps = by (is_reverse axis)
  where
    by : (b : Bool) → (if b then reverse (map Node ps) else map Node ps) ≡ map Node (if b then reverse ps else ps)
    by true = reverse-map ps
    by false = refl

turned_none : {A : Type 0} (axis : Axis) (xs : List A) → xs ≡ [] → in_axis_order axis xs ≡ []
turned_none {A} axis xs none = by (is_reverse axis)
  where
    by : (b : Bool) → (if b then reverse xs else xs) ≡ []
    by true = ap reverse none
    by false = none

some_last : (ps : List Place) (p : Place) → are_some (ps ++ p ∷ []) ≡ true
some_last [] p = refl
some_last (q ∷ ps) p = refl

first_same : (p q : Place) (ps qs : List Place) → p ∷ ps ≡ q ∷ qs → p ≡ q
first_same p q ps qs e = ap (first_or p) e
  where
    first_or : Place → List Place → Place
    first_or r [] = r
    first_or r (x ∷ xs) = x

none_turned : (axis : Axis) (ps : List Place) → are_some (in_axis_order axis ps) ≡ false → ps ≡ []
none_turned axis [] h = refl
none_turned axis (p ∷ ps) h = absurd (false≢true (sym h ∙ by (is_reverse axis)))
  where
    by : (b : Bool) → are_some (if b then reverse (p ∷ ps) else p ∷ ps) ≡ true
    by true = ap are_some (reverse-append (p ∷ []) ps) ∙ some_last (reverse ps) p
    by false = refl

none_first : (ps qs : List Place) → are_some (ps ++ qs) ≡ false → are_some ps ≡ false
none_first [] qs h = refl
none_first (p ∷ ps) qs h = h

none_second : (ps qs : List Place) → are_some (ps ++ qs) ≡ false → are_some qs ≡ false
none_second [] qs h = h
none_second (p ∷ ps) qs h = absurd (false≢true (sym h))

-- # What a step finds from each of some nodes

module _ (f : List Tree) (axis : Axis) (test : Test) (focus : Option Focus) (addresses : List Text) where
  abbrev from : Place → List Place
  from p = in_axis_order axis (axis_nodes f axis test p)

  abbrev reached : List Place → List Place
  reached [] = []
  reached (p ∷ ps) = in_axis_order axis (from p) ++ reached ps

  -- a step with these predicates at one node
  abbrev at : Slots → List Meaning → Focus → Doing (List Item)
  at slots ms spot = Forms.step axis test ms (frame_of slots (Some spot) addresses)

  abbrev all_from : Slots → List Meaning → List Item → ℕ → ℕ → List Place → Outcome (List Item)
  all_from slots ms done i last ps = in_turn (more (at slots ms)) done (focuses_from i last (map Node ps)) f

  -- without predicates
  plain_from : (slots : Slots) (ps : List Place) (done : List Item) (i last : ℕ) → all_from slots [] done i last ps ≡ (Ok (done ++ map Node (reached ps)), f)
  plain_from slots [] done i last = ap (λ l. (Ok l, f)) (sym (append-nil done))
  plain_from slots (p ∷ ps) done i last =
      ap (λ (l : List Item). all_from slots [] (done ++ l) (suc i) last ps) (turned_nodes axis (from p))
      ∙ plain_from slots ps (done ++ map Node (in_axis_order axis (from p))) (suc i) last
      ∙ ap (λ l. (Ok l, f)) (append_assoc done (map Node (in_axis_order axis (from p))) (map Node (reached ps)) ∙ ap (λ l. done ++ l) (sym (map-append Node (in_axis_order axis (from p)) (reached ps))))

  -- where none is found
  none_at : (slots : Slots) (ms : List Meaning) (p : Place) (position last : ℕ) → from p ≡ [] → at slots ms (on_node p position last) f ≡ (Ok [], f)
  none_at slots ms p position last e =
      ap (λ (qs : List Place). go_on (in_turn (Forms.filtered (frame_of slots (Some (on_node p position last)) addresses)) (map Node qs) ms f) (λ ys. give (in_axis_order axis ys))) e
      ∙ ap (λ o. go_on o (λ ys. give (in_axis_order axis ys))) (none_filtered (frame_of slots (Some (on_node p position last)) addresses) ms f)
      ∙ ap (λ l. (Ok l, f)) (turned_none axis [] refl)

  none_from : (slots : Slots) (ms : List Meaning) (ps : List Place) (done : List Item) (i last : ℕ) → are_some (reached ps) ≡ false → all_from slots ms done i last ps ≡ (Ok done, f)
  none_from slots ms [] done i last h = refl
  none_from slots ms (p ∷ ps) done i last h =
      ap (λ o. go_on (go_on o (λ ys. give (done ++ ys))) (λ n. in_turn (more (at slots ms)) n (focuses_from (suc i) last (map Node ps))))
      (none_at slots ms p i last (none_turned axis (from p) (none_first (in_axis_order axis (from p)) (reached ps) h)))
      ∙ ap (λ (l : List Item). all_from slots ms l (suc i) last ps) (append-nil done)
      ∙ none_from slots ms ps done (suc i) last (none_second (in_axis_order axis (from p)) (reached ps) h)

  -- the nodes in the order in which they are tested
  abbrev tested_from : List Place → List Place
  tested_from [] = []
  tested_from (p ∷ ps) = from p ++ tested_from ps

  -- where the first predicate is refused at the first of them
  refused_from : (slots : Slots) (m : Meaning) (ms : List Meaning) (code : Code) (t : Place) (ts : List Place) →
      ((position last : ℕ) → m (frame_of slots (Some (on_node t position last)) addresses) f ≡ (Err code, f)) →
      (ps : List Place) (done : List Item) (i last : ℕ) → tested_from ps ≡ t ∷ ts → all_from slots (m ∷ ms) done i last ps ≡ (Err code, f)
  refused_from slots m ms code t ts h [] done i last cut = absurd (false≢true (ap are_some cut))
  refused_from slots m ms code t ts h (p ∷ ps) done i last cut = by (from p) refl (λ more. refused_from slots m ms code t ts h ps more (suc i) last)
    where
      by : (qs : List Place) → from p ≡ qs → ((more : List Item) → tested_from ps ≡ t ∷ ts → all_from slots (m ∷ ms) more (suc i) last ps ≡ (Err code, f)) →
          all_from slots (m ∷ ms) done i last (p ∷ ps) ≡ (Err code, f)
      by [] e again =
          ap (λ o. go_on (go_on o (λ ys. give (done ++ ys))) (λ n. in_turn (more (at slots (m ∷ ms))) n (focuses_from (suc i) last (map Node ps))))
          (none_at slots (m ∷ ms) p i last e)
          ∙ again (done ++ []) (sym (ap (λ (rs : List Place). rs ++ tested_from ps) e) ∙ cut)
      by (q ∷ qs) e again =
          ap (λ o. go_on (go_on o (λ ys. give (done ++ ys))) (λ n. in_turn (more (at slots (m ∷ ms))) n (focuses_from (suc i) last (map Node ps))))
          (ap (λ (rs : List Place). go_on (in_turn (Forms.filtered (frame_of slots (Some (on_node p i last)) addresses)) (map Node rs) (m ∷ ms) f) (λ ys. give (in_axis_order axis ys))) e
          ∙ ap (λ o. go_on o (λ ys. give (in_axis_order axis ys)))
          (first_refused slots (Some (on_node p i last)) addresses m ms q (map Node qs) f code
          (λ position last'. subst (λ r. m (frame_of slots (Some (on_node r position last')) addresses) f ≡ (Err code, f))
          (sym (first_same q t (qs ++ tested_from ps) ts (sym (ap (λ (rs : List Place). rs ++ tested_from ps) e) ∙ cut))) (h position last'))))

  -- one is tested where one is found
  tested_some : (ps : List Place) → are_some (reached ps) ≡ true → (t : Place) × (ts : List Place) × (tested_from ps ≡ t ∷ ts)
  tested_some [] some = absurd (false≢true some)
  tested_some (p ∷ ps) some = by (from p) refl (λ more. tested_some ps more)
    where
      by : (qs : List Place) → from p ≡ qs → (are_some (reached ps) ≡ true → (t : Place) × (ts : List Place) × (tested_from ps ≡ t ∷ ts)) →
          (t : Place) × (ts : List Place) × (tested_from (p ∷ ps) ≡ t ∷ ts)
      by (q ∷ qs) e again = (q, qs ++ tested_from ps, ap (λ (rs : List Place). rs ++ tested_from ps) e)
      by [] e again =
          let rest = again (sym (ap (λ (rs : List Place). are_some (in_axis_order axis rs ++ reached ps)) e ∙ ap (λ (rs : List Place). are_some (rs ++ reached ps)) (turned_none axis [] refl)) ∙ some) in
          (rest.0, rest.1, ap (λ (rs : List Place). rs ++ tested_from ps) e ∙ rest.2)

  -- on a forward axis in document order
  in_order_tested : is_reverse axis ≡ false → (ps : List Place) → tested_from ps ≡ reached ps
  in_order_tested forward [] = refl
  in_order_tested forward (p ∷ ps) =
      ap (λ (b : Bool). (if b then reverse (from p) else from p) ++ tested_from ps) (sym forward)
      ∙ ap (λ (l : List Place). in_axis_order axis (from p) ++ l) (in_order_tested forward ps)

  -- after a slash
  abbrev gather : Outcome (List Item) → Outcome (List Item)
  gather o = go_on o (λ ys. on_trees (λ trees. gathered trees ys))

  slash_is : (slots : Slots) (ms : List Meaning) (ps : List Place) →
      Forms.slash (frame_of slots focus addresses) (map Node ps) (Forms.step axis test ms) f ≡ gather (all_from slots ms [] 1 (length (map Node ps)) ps)
  slash_is slots ms ps = ap (λ r. go_on (judged r f) (λ places g. gather (collected (at slots ms) (focuses (map Node ps)) g))) (nodes_all XPTY0019 ps)

-- # The law

abbrev guard_of : ℕ → Axis → Test → Plan
guard_of n axis test = plan.Map (plan.Slot n) (plan.Step axis test [] ∷ [])

abbrev step_of : Axis → Test → List Plan → PlanStep
step_of axis test ps = step.Each (plan.Step axis test ps)

-- a path of one such step
one_step : (start : Plan) (axis : Axis) (test : Test) (ps : List Plan) (frame : Frame) (f : List Tree) →
    plan_mean (plan.Path start (step_of axis test ps ∷ [])) frame f
    ≡ go_on (plan_mean start frame f) (λ xs. Forms.slash frame xs (Forms.step axis test (map plan_mean ps)))
one_step start axis test ps frame f =
    path_more start [] (step_of axis test ps) frame f
    ∙ ap (λ o. go_on o (λ xs. plan_step_mean (step_of axis test ps) frame xs)) (path_none start frame f)
    ∙ ap (λ (m : Frame → List Item → Doing (List Item)). go_on (plan_mean start frame f) (λ xs. m frame xs)) (plan_eq.step-Each (plan.Step axis test ps))
    ∙ ap (λ (m : Meaning). go_on (plan_mean start frame f) (λ xs. Forms.slash frame xs m)) (plan_eq.plan-Step axis test ps)

pub step_lifts : (known : List Held) (items near p part q found result : Plan) (rest : List Plan) (axis : Axis) (test : Test) (held also : Held) → IsLifted known near p part q → IsFirstTested axis near →
    AllByRecursion (IsOutside (length known)) rest → IsHeld known has.Nodes items → IsHeld known held items → IsHeld known also part →
    GivesSame ((known ++ held ∷ []) ++ also ∷ []) (plan.Path (plan.Slot (length known)) (step_of axis test (q ∷ rest) ∷ [])) found →
    result ≡ let_in items (let_in (only_if (first_with (guard_of (length known) axis test) near) part) found) →
    GivesSame known (plan.Path items (step_of axis test (p ∷ rest) ∷ [])) result
step_lifts known items near p part q found result rest axis test held also lifts turns all nodes kept is same now slots focus addresses trees fits =
    ap (λ r. plan_mean r frame trees) now
    ∙ lone_let items (let_in (only_if (first_with guard near) part) found) slots focus addresses trees
    ∙ by (plan_mean items frame trees) (nodes slots focus addresses trees fits) (kept slots focus addresses trees fits)
    ∙ sym (one_step items axis test (p ∷ rest) frame trees)
  where
    frame : Frame
    frame = frame_of slots focus addresses

    guard : Plan
    guard = guard_of (length known) axis test

    whole : Plan
    whole = plan.Path (plan.Slot (length known)) (step_of axis test (q ∷ rest) ∷ [])

    stepped : List Plan → Slots → List Item → Doing (List Item)
    stepped ps env xs = Forms.slash (frame_of env focus addresses) xs (Forms.step axis test (map plan_mean ps))

    over : (ps : List Place) (f : List Tree) → Holds held (map Node ps) →
        plan_mean (let_in (only_if (first_with guard near) part) found) (frame_of (opened slots (map Node ps)) focus addresses) f ≡ stepped (p ∷ rest) slots (map Node ps) f
    over ps f holds =
        asked known near p part q lifts held also is guard whole found same slots focus addresses (map Node ps) f fits holds
        (stepped (p ∷ rest) slots (map Node ps) f) (reached f axis test focus addresses ps) gave
        (λ e. none (ap are_some e)) (λ r qs cut code at. stops r qs cut code at) (λ r qs cut zs at code there. refuses r qs cut zs at code there) (λ value there. gives value there)
      where
        before : Frame
        before = frame_of (opened slots (map Node ps)) focus addresses

        gave : plan_mean guard before f ≡ (Ok (map Node (reached f axis test focus addresses ps)), f)
        gave =
            ap (λ (m : Meaning). m before f) (plan_eq.plan-Map (plan.Slot (length known)) (plan.Step axis test [] ∷ []))
            ∙ ap (λ o. go_on o (λ xs. in_turn (Forms.bang before) xs (plan_mean (plan.Step axis test []) ∷ [])))
            (slot_gives (length known) before f (map Node ps) (items_next known slots (map Node ps) fits))
            ∙ ap (λ (m : Meaning). in_turn (Forms.bang before) (map Node ps) (m ∷ []) f) (plan_eq.plan-Step axis test [])
            ∙ ap (λ o. go_on o (λ n. give n))
            (plain_from f axis test focus addresses (opened slots (map Node ps)) ps [] 1 (length (map Node ps)))

        reads : (value : List Item) → plan_mean whole (frame_of (with_both slots (map Node ps) value) focus addresses) f ≡ stepped (q ∷ rest) (with_both slots (map Node ps) value) (map Node ps) f
        reads value =
            let here = frame_of (with_both slots (map Node ps) value) focus addresses in
            one_step (plan.Slot (length known)) axis test (q ∷ rest) here f
            ∙ ap (λ o. go_on o (λ xs. Forms.slash here xs (Forms.step axis test (map plan_mean (q ∷ rest))))) (slot_gives (length known) here f (map Node ps) (items_there known slots (map Node ps) value fits))

        nothing : (env : Slots) (rs : List Plan) → are_some (reached f axis test focus addresses ps) ≡ false → stepped rs env (map Node ps) f ≡ gather f axis test focus addresses (Ok [], f)
        nothing env rs e =
            slash_is f axis test focus addresses env (map plan_mean rs) ps
            ∙ ap (gather f axis test focus addresses) (none_from f axis test focus addresses env (map plan_mean rs) ps [] 1 (length (map Node ps)) e)

        none : are_some (reached f axis test focus addresses ps) ≡ false → plan_mean whole (frame_of (with_both slots (map Node ps) []) focus addresses) f ≡ stepped (p ∷ rest) slots (map Node ps) f
        none e = reads [] ∙ nothing (with_both slots (map Node ps) []) (q ∷ rest) e ∙ sym (nothing slots (p ∷ rest) e)

        -- the first predicate is refused at the first node that is tested
        first_stops : (t : Place) (ts : List Place) (code : Code) → tested_from f axis test focus addresses ps ≡ t ∷ ts →
            ((position last : ℕ) → plan_mean p (frame_of slots (Some (on_node t position last)) addresses) f ≡ (Err code, f)) → stepped (p ∷ rest) slots (map Node ps) f ≡ (Err code, f)
        first_stops t ts code cut h =
            slash_is f axis test focus addresses slots (map plan_mean (p ∷ rest)) ps
            ∙ ap (gather f axis test focus addresses)
            (refused_from f axis test focus addresses slots (plan_mean p) (map plan_mean rest) code t ts h ps [] 1 (length (map Node ps)) cut)

        near_of : Place → Outcome (List Item)
        near_of r = plan_mean near (frame_of slots (Some (on_node r 1 1)) addresses) f

        -- the near part is there what it is at the first node that is found
        first_tested : (r : Place) (qs : List Place) → reached f axis test focus addresses ps ≡ r ∷ qs → (o : Judged (List Item)) → near_of r ≡ (o, f) →
            (t : Place) × (ts : List Place) × (tested_from f axis test focus addresses ps ≡ t ∷ ts) × (near_of t ≡ (o, f))
        first_tested r qs cut o e = by turns
          where
            by : IsFirstTested axis near →
                (t : Place) × (ts : List Place) × (tested_from f axis test focus addresses ps ≡ t ∷ ts) × (near_of t ≡ (o, f))
            by (inl forward) = (r, qs, in_order_tested f axis test focus addresses forward ps ∙ cut, e)
            by (inr nothing) =
                let some = tested_some f axis test focus addresses ps (ap are_some cut) in (
                  some.0,
                  some.1,
                  some.2,
                  (ap (λ n. plan_mean n (frame_of slots (Some (on_node some.0 1 1)) addresses) f) nothing
                      ∙ nothing_given (frame_of slots (Some (on_node some.0 1 1)) addresses) f)
                      ∙ sym (ap (λ n. plan_mean n (frame_of slots (Some (on_node r 1 1)) addresses) f) nothing
                      ∙ nothing_given (frame_of slots (Some (on_node r 1 1)) addresses) f) ∙ e,
                )

        stops : (r : Place) (qs : List Place) → reached f axis test focus addresses ps ≡ r ∷ qs → (code : Code) → near_of r ≡ (Err code, f) → stepped (p ∷ rest) slots (map Node ps) f ≡ (Err code, f)
        stops r qs cut code at =
            let first = first_tested r qs cut (Err code) at in
            first_stops first.0 first.1 code first.2
            (λ position last. lifts.stops slots addresses f code fits first.0 position last (lifts.near_free slots addresses f first.0 position last 1 1 ∙ first.3))

        refuses : (r : Place) (qs : List Place) → reached f axis test focus addresses ps ≡ r ∷ qs → (zs : List Item) → near_of r ≡ (Ok zs, f) →
            (code : Code) → GivesThere slots addresses f part (Err code) → stepped (p ∷ rest) slots (map Node ps) f ≡ (Err code, f)
        refuses r qs cut zs at code there =
            let first = first_tested r qs cut (Ok zs) at in
            first_stops first.0 first.1 code first.2
            (λ position last. lifts.refused slots addresses f code fits there first.0 position last zs (lifts.near_free slots addresses f first.0 position last 1 1 ∙ first.3))

        gives : (value : List Item) → GivesThere slots addresses f part (Ok value) → plan_mean whole (frame_of (with_both slots (map Node ps) value) focus addresses) f ≡ stepped (p ∷ rest) slots (map Node ps) f
        gives value there =
            reads value
            ∙ slash_here slots (with_both slots (map Node ps) value) addresses f axis test (map plan_mean (q ∷ rest)) (map plan_mean (p ∷ rest))
            (all_alike known near p part q lifts held also is rest all slots addresses f fits (map Node ps) value there) focus (map Node ps)

    by : (o : Outcome (List Item)) → GivesHeld has.Nodes o → GivesHeld held o →
        go_on o (λ xs. plan_mean (let_in (only_if (first_with guard near) part) found) (frame_of (opened slots xs) focus addresses)) ≡ go_on o (λ xs. stepped (p ∷ rest) slots xs)
    by (Ok xs, f) (ps, e) holds =
        ap (λ ys. plan_mean (let_in (only_if (first_with guard near) part) found) (frame_of (opened slots ys) focus addresses) f) e
        ∙ over ps f (subst (Holds held) e holds)
        ∙ ap (λ ys. stepped (p ∷ rest) slots ys f) (sym e)
    by (Err code, f) n h = refl

-- by the names that a function has for slots and predicates
pub step_lifts_at : (known : List Held) (n : ℕ) (ps : List Plan) (items near p part q found value result : Plan) (rest : List Plan) (axis : Axis) (test : Test) (held also : Held) →
    n ≡ length known → ps ≡ q ∷ rest → IsLifted known near p part q → IsFirstTested axis near → AllByRecursion (IsOutside (length known)) rest →
    IsHeld known has.Nodes items → IsHeld known held items → IsHeld known also part → value ≡ only_if (first_with (guard_of n axis test) near) part →
    GivesSame ((known ++ held ∷ []) ++ also ∷ []) (plan.Path (plan.Slot (length known)) (step_of axis test ps ∷ [])) found →
    result ≡ let_in items (let_in value found) → GivesSame known (plan.Path items (step_of axis test (p ∷ rest) ∷ [])) result
step_lifts_at known n ps items near p part q found value result rest axis test held also here at lifts turns outside nodes kept is guards same made =
    step_lifts known items near p part q found result rest axis test held also lifts turns outside nodes kept is
    (subst (λ l. GivesSame ((known ++ held ∷ []) ++ also ∷ []) (plan.Path (plan.Slot (length known)) (step_of axis test l ∷ [])) found) at same)
    (made ∙ ap (λ v. let_in items (let_in v found)) (guards ∙ ap (λ m. only_if (first_with (guard_of m axis test) near) part) here))

-- # A path that is cut before its last step

pub cut_path : (known : List Held) (start items : Plan) (before : List PlanStep) (s : PlanStep) (result : Plan) → GivesSame known (plan.Path start before) items →
    GivesSame known (plan.Path items (s ∷ [])) result → GivesSame known (plan.Path start (before ++ s ∷ [])) result
cut_path known start items before s result same after slots focus addresses trees fits =
    let frame = frame_of slots focus addresses in
    after slots focus addresses trees fits
    ∙ path_more items [] s frame trees
    ∙ ap (λ o. go_on o (λ xs. plan_step_mean s frame xs)) (path_none items frame trees ∙ same slots focus addresses trees fits)
    ∙ sym (path_more start before s frame trees)

pub held_alike : (known : List Held) (held : Held) (p q : Plan) → GivesSame known p q → IsHeld known held p → IsHeld known held q
held_alike known held p q same is slots focus addresses trees fits =
    subst (GivesHeld held) (sym (same slots focus addresses trees fits)) (is slots focus addresses trees fits)
