-- What a FLWOR returns of a value at each tuple is what it returns of a `let` of the value.
use Rattle.std.proofs.Common.{◌≡◌, ℕ, List, [], ◌∷◌, ◌++◌, map, length, Ok, Err, refl, sym, ap, ◌∙◌, subst}
use Rattle.std.specs.Prelude.{Option}
use Rattle.std.specs.List.{AllByRecursion}
use Rattle.std.proofs.lemmas.List.{append_assoc, map-append}
use Rattle.xq_atoms.specs.Judged.{Judged}
use Rattle.xq_atoms.specs.Text.{Text}
use Rattle.xq_expressions.specs.declared.signatures.Function.{Function}
use Rattle.xq_trees.specs.Tree.{Tree}
use Rattle.xq_trees.specs.Tuples.{Tuple, bound, value_at}
use Rattle.xq_meaning.specs.declared.plans.Plan.{Plan}
use Rattle.xq_meaning.specs.declared.plans.Plan.TheVariants as plan
use Rattle.xq_meaning.specs.declared.plans.PlanClause.{PlanClause}
use Rattle.xq_meaning.specs.Doing.{Doing, Outcome, go_on, give, on_trees, in_turn, one_more, more, for_each}
use Rattle.xq_meaning.specs.Forms
use Rattle.xq_meaning.specs.Functions.{Focus, called}
use Rattle.xq_meaning.specs.Items.{Item}
use Rattle.xq_meaning.specs.PlanMeaning.{Slots, Frame, at_tuple, next_clause, plan_mean, plan_clause_mean}
use Rattle.xq_meaning.specs.Same.{frame_of}
use Rattle.xq_meaning.proofs.PlanEquations as plan_eq
use Rattle.xq_meaning.proofs.Turns.{go_on_give, go_on_go_on, last_turn, begun_then}
use Rattle.xq_optimise.specs.declared.held.Held.{Held}
use Rattle.xq_optimise.specs.Known.{Fits}
use Rattle.xq_optimise.specs.private.FlworParts.{StandsForFlwor}
use Rattle.xq_optimise.specs.private.GroupValues.{StandsForLet, LeavesAt, IsNeverRefused}
use Rattle.xq_optimise.specs.private.Parts.{AllFit, GivesFitting}
use Rattle.xq_optimise.proofs.Fitting.{fits_length}
use Rattle.xq_optimise.proofs.JoinLaws.{called_is, slot_is, value_next}

-- # One tuple after another

module _ (value whole last : Tuple Item → Doing (List Item)) (after : List Item → Doing (List Item)) (f : List Tree)
    (sure : (xs : List Item) → (ys : List Item) × (after xs f ≡ (Ok ys, f))) where
  -- the value leaves the trees, and the whole is what follows of it, as with the value in a slot
  abbrev pub Apart : Tuple Item → Type 0
  Apart t =
      ((given : Judged (List Item)) × (value t f ≡ (given, f))) × (whole t f ≡ go_on (value t f) after)
      × ((xs : List Item) → last (t ++ xs ∷ []) f ≡ after xs f)

  -- the values of each leave the trees
  each_given : (ts : List (Tuple Item)) → AllByRecursion Apart ts → (done : List (List Item)) →
      (given : Judged (List (List Item))) × (in_turn (one_more value) done ts f ≡ (given, f))
  each_given [] w done = (Ok done, refl)
  each_given (t ∷ ts) w done = by (each_given ts w.1) w.0.0
    where
      by : ((next : List (List Item)) → (given : Judged (List (List Item))) × (in_turn (one_more value) next ts f ≡ (given, f))) →
          ((given : Judged (List Item)) × (value t f ≡ (given, f))) → (given : Judged (List (List Item))) × (in_turn (one_more value) done (t ∷ ts) f ≡ (given, f))
      by later (Ok xs, is) =
          let rest = later (done ++ xs ∷ []) in
          (rest.0, ap (λ o. go_on (go_on o (λ y. give (done ++ y ∷ []))) (λ n. in_turn (one_more value) n ts)) is ∙ rest.1)
      by later (Err code, is) =
          (Err code, ap (λ o. go_on (go_on o (λ y. give (done ++ y ∷ []))) (λ n. in_turn (one_more value) n ts)) is)

  pub returned_from : (ts : List (Tuple Item)) → AllByRecursion Apart ts → (done : List Item) →
      in_turn (more whole) done ts f ≡ go_on (for_each value ts f) (λ ls. in_turn (more last) done (bound ts ls))
  returned_from [] w done = refl
  returned_from (t ∷ ts) w done = by (returned_from ts w.1) w.0.0
    where
      tail : List Item → List (List Item) → Doing (List Item)
      tail ys ls = in_turn (more last) ys (bound ts ls)

      -- what follows of the first, where those of the others are given
      first : (xs ys : List Item) → after xs f ≡ (Ok ys, f) → ((given : Judged (List (List Item))) × (for_each value ts f ≡ (given, f))) →
          go_on (for_each value ts f) (tail (done ++ ys)) ≡ go_on (for_each value ts f) (λ ls. in_turn (more last) done (bound (t ∷ ts) (xs ∷ ls)))
      first xs ys is (Ok ls, told) =
          ap (λ o. go_on o (tail (done ++ ys))) told
          ∙ sym (ap (λ o. go_on o (λ ls. in_turn (more last) done (bound (t ∷ ts) (xs ∷ ls)))) told
          ∙ ap (λ o. go_on (go_on o (λ zs. give (done ++ zs))) (λ n. tail n ls)) (w.0.2 xs ∙ is))
      first xs ys is (Err code, told) =
          ap (λ o. go_on o (tail (done ++ ys))) told
          ∙ sym (ap (λ o. go_on o (λ ls. in_turn (more last) done (bound (t ∷ ts) (xs ∷ ls)))) told)

      by : ((next : List Item) → in_turn (more whole) next ts f ≡ go_on (for_each value ts f) (tail next)) → ((given : Judged (List Item)) × (value t f ≡ (given, f))) →
          in_turn (more whole) done (t ∷ ts) f ≡ go_on (for_each value (t ∷ ts) f) (λ ls. in_turn (more last) done (bound (t ∷ ts) ls))
      by later (Ok xs, is) =
          let follows = sure xs in
          ap (λ o. go_on (go_on o (λ ys. give (done ++ ys))) (λ n. in_turn (more whole) n ts)) (w.0.1 ∙ ap (λ o. go_on o after) is ∙ follows.1)
          ∙ later (done ++ follows.0)
          ∙ first xs follows.0 follows.1 (each_given ts w.1 [])
          ∙ sym (ap (λ o. go_on (go_on (go_on o (λ y. give ([] ++ y ∷ []))) (λ n. in_turn (one_more value) n ts)) (λ ls. in_turn (more last) done (bound (t ∷ ts) ls))) is
          ∙ begun_then value xs ts (λ ls. in_turn (more last) done (bound (t ∷ ts) ls)) f)
      by later (Err code, is) =
          ap (λ o. go_on (go_on o (λ ys. give (done ++ ys))) (λ n. in_turn (more whole) n ts)) (w.0.1 ∙ ap (λ o. go_on o after) is)
          ∙ sym (ap (λ o. go_on (go_on (go_on o (λ y. give ([] ++ y ∷ []))) (λ n. in_turn (one_more value) n ts)) (λ ls. in_turn (more last) done (bound (t ∷ ts) ls))) is)

-- # The FLWOR

-- what follows of a value, by the focus and the addresses of the frame
abbrev After : Type 0
After = Option Focus → List Text → List Item → Doing (List Item)

module _ (outer : ℕ) (known : List Held) (cs ds : List PlanClause) (value part last : Plan) (d : PlanClause) (after : After)
    (stands : StandsForLet outer known value d) (leaves : LeavesAt outer known value) (added : ds ≡ cs ++ d ∷ [])
    (part_is : (frame : Frame) (f : List Tree) → plan_mean part frame f ≡ go_on (plan_mean value frame f) (after frame.focus frame.addresses))
    (last_is : (frame : Frame) (f : List Tree) → plan_mean last frame f ≡ after frame.focus frame.addresses (value_at (length known) frame.env) f)
    (sure : (focus : Option Focus) (addresses : List Text) (xs : List Item) (f : List Tree) → (ys : List Item) × (after focus addresses xs f ≡ (Ok ys, f))) where
  module _ (slots : Slots) (focus : Option Focus) (addresses : List Text) (long : length slots ≡ outer) where
    abbrev frame : Frame
    frame = frame_of slots focus addresses

    abbrev act : Plan → Tuple Item → Doing (List Item)
    act p t = plan_mean p (at_tuple frame t)

    -- the value in the slot after those of a tuple
    read : (t : Tuple Item) → Fits known (slots ++ t) → (xs : List Item) (f : List Tree) → act last (t ++ xs ∷ []) f ≡ after focus addresses xs f
    read t fits xs f =
        last_is (at_tuple frame (t ++ xs ∷ [])) f
        ∙ ap (λ ys. after focus addresses ys f)
        (ap (value_at (length known)) (sym (append_assoc slots t (xs ∷ [])))
        ∙ ap (λ n. value_at n ((slots ++ t) ++ xs ∷ [])) (sym (fits_length known (slots ++ t) fits))
        ∙ value_next (slots ++ t) xs)

    apart : (ts : List (Tuple Item)) (f : List Tree) → AllFit known slots ts →
        AllByRecursion (Apart (act value) (act part) (act last) (after focus addresses) f (λ xs. sure focus addresses xs f)) ts
    apart [] f w = tt
    apart (t ∷ ts) f w = ((leaves slots focus addresses long t f w.0, part_is (at_tuple frame t) f, λ xs. read t w.0 xs f), apart ts f w.1)

    at_tuples : (ts : List (Tuple Item)) (f : List Tree) → AllFit known slots ts →
        go_on (plan_clause_mean d frame ts f) (λ us. Forms.return_of (plan_mean last) (at_tuple frame) us) ≡ Forms.return_of (plan_mean part) (at_tuple frame) ts f
    at_tuples ts f w =
        ap (λ o. go_on o (λ us. Forms.return_of (plan_mean last) (at_tuple frame) us)) (stands slots focus addresses long ts f w ∙ ap (λ m. m frame ts f) (plan_eq.clause-Let value))
        ∙ go_on_go_on (for_each (act value) ts f) (λ ls. give (bound ts ls)) (λ us. Forms.return_of (plan_mean last) (at_tuple frame) us)
        ∙ sym (returned_from (act value) (act part) (act last) (after focus addresses) f (λ xs. sure focus addresses xs f) ts (apart ts f w) [])

  pub returned_stands : StandsForFlwor outer known cs part (plan.Flwor ds last)
  returned_stands slots focus addresses trees long fits =
      let here = frame_of slots focus addresses in
      let turn = next_clause here in
      ap (λ m. m here trees) (plan_eq.plan-Flwor ds last)
      ∙ ap (λ l. go_on (in_turn turn ([] ∷ []) l trees) (λ us. Forms.return_of (plan_mean last) (at_tuple here) us)) (ap (map plan_clause_mean) added ∙ map-append plan_clause_mean cs (d ∷ []))
      ∙ ap (λ o. go_on o (λ us. Forms.return_of (plan_mean last) (at_tuple here) us)) (last_turn turn ([] ∷ []) (map plan_clause_mean cs) (plan_clause_mean d) trees)
      ∙ by (in_turn turn ([] ∷ []) (map plan_clause_mean cs) trees) fits
      ∙ sym (ap (λ m. m here trees) (plan_eq.plan-Flwor cs part))
    where
      by : (o : Outcome (List (Tuple Item))) → GivesFitting known slots o →
          go_on (go_on o (λ ts. next_clause (frame_of slots focus addresses) ts (plan_clause_mean d))) (λ us. Forms.return_of (plan_mean last) (at_tuple (frame_of slots focus addresses)) us)
          ≡ go_on o (λ ts. Forms.return_of (plan_mean part) (at_tuple (frame_of slots focus addresses)) ts)
      by (Ok ts, f) w = at_tuples slots focus addresses long ts f w
      by (Err code, f) w = refl

-- # What is returned

-- the value itself
pub items_stand : (outer : ℕ) (known : List Held) (cs ds : List PlanClause) (value last found : Plan) (d : PlanClause) → StandsForLet outer known value d → LeavesAt outer known value →
    ds ≡ cs ++ d ∷ [] → last ≡ plan.Slot (length known) → found ≡ plan.Flwor ds last → StandsForFlwor outer known cs value found
items_stand outer known cs ds value last found d stands leaves added slot is =
    subst (StandsForFlwor outer known cs value) (sym is)
    (returned_stands outer known cs ds value value last d (λ focus addresses xs. give xs) stands leaves added
    (λ frame f. sym (go_on_give (plan_mean value frame f)))
    (λ frame f. ap (λ p. plan_mean p frame f) slot ∙ slot_is (length known) frame f)
    (λ focus addresses xs f. (xs, refl)))

-- a function of it
pub call_stands : (outer : ℕ) (known : List Held) (cs ds : List PlanClause) (function : Function) (value last found : Plan) (d : PlanClause) → IsNeverRefused function →
    StandsForLet outer known value d → LeavesAt outer known value → ds ≡ cs ++ d ∷ [] → last ≡ plan.Call function (plan.Slot (length known) ∷ []) → found ≡ plan.Flwor ds last →
    StandsForFlwor outer known cs (plan.Call function (value ∷ [])) found
call_stands outer known cs ds function value last found d never stands leaves added slot is =
    subst (StandsForFlwor outer known cs (plan.Call function (value ∷ []))) (sym is)
    (returned_stands outer known cs ds value (plan.Call function (value ∷ [])) last d
    (λ focus addresses xs. on_trees (λ trees. called function trees addresses focus (xs ∷ []))) stands leaves added
    (λ frame f. called_is function value frame f)
    (λ frame f.
    ap (λ p. plan_mean p frame f) slot ∙ called_is function (plan.Slot (length known)) frame f
    ∙ ap (λ o. go_on o (λ xs. on_trees (λ trees. called function trees frame.addresses frame.focus (xs ∷ [])))) (slot_is (length known) frame f))
    (λ focus addresses xs f. let given = never f addresses focus xs in (given.0, ap (λ r. (r, f)) given.1)))
