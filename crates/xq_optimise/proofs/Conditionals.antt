-- A FLWOR that returns a conditional gives what one with the test as a `where` gives.
use Rattle.std.proofs.Common.{◌≡◌, ℕ, List, [], ◌∷◌, ◌++◌, map, length, Bool, true, false, Ok, Err, refl, sym, ap, ◌∙◌, subst, inl, inr, if◌then◌else◌}
use Rattle.std.proofs.lemmas.List.{append_assoc, append-nil, map-append}
use Rattle.xq_atoms.specs.Judged.{Judged}
use Rattle.xq_trees.specs.Tree.{Tree}
use Rattle.xq_trees.specs.Tuples.{Tuple, satisfying, value_at}
use Rattle.xq_meaning.specs.declared.plans.Plan.{Plan}
use Rattle.xq_meaning.specs.declared.plans.Plan.TheVariants as plan
use Rattle.xq_meaning.specs.declared.plans.PlanClause.{PlanClause}
use Rattle.xq_meaning.specs.declared.plans.PlanClause.TheVariants as clause
use Rattle.xq_meaning.specs.Doing.{Doing, Outcome, go_on, give, in_turn, more}
use Rattle.xq_meaning.specs.Forms
use Rattle.xq_meaning.specs.Items.{Item}
use Rattle.xq_meaning.specs.PlanMeaning.{Frame, ClauseMeaning, at_tuple, next_clause, plan_mean, plan_clause_mean}
use Rattle.xq_meaning.specs.Same.{frame_of}
use Rattle.xq_meaning.proofs.PlanEquations as plan_eq
use Rattle.xq_meaning.proofs.Turns.{go_on_give, in_turn-append}
use Rattle.xq_optimise.specs.declared.held.Held.{Held}
use Rattle.xq_optimise.specs.Known.{Fits}
use Rattle.xq_optimise.specs.Same.{GivesSame}
use Rattle.xq_optimise.specs.Sure.{IsTest}
use Rattle.xq_optimise.specs.private.FlworParts.{IsSlot, MayStand, StandsForFlwor}
use Rattle.xq_optimise.specs.private.Joins.{LeavesTrees}
use Rattle.xq_optimise.specs.private.Parts.{AreAll, GivesFitting, SameClauses}
use Rattle.xq_optimise.proofs.Conjuncts.{Tells, answers, where_told}
use Rattle.xq_optimise.proofs.Fitting.{fits_length}
use Rattle.xq_optimise.proofs.GroupLets.{kept, passed_is}

-- # The return

module _ (frame_at : Tuple Item → Frame) (test part nothing : Plan) (f : List Tree) (leaves : LeavesTrees part) (empty : nothing ≡ plan.Sequence []) where
  abbrev whole : Plan
  whole = plan.If test part nothing

  abbrev act : Plan → Tuple Item → Doing (List Item)
  act p t = plan_mean p (frame_at t)

  chosen_at : (t : Tuple Item) (answer : Bool) → Forms.tested (plan_mean test) (frame_at t) f ≡ (Ok answer, f) →
      act whole t f ≡ Forms.chosen answer (plan_mean part) (plan_mean nothing) (frame_at t) f
  chosen_at t answer told =
      ap (λ m. m (frame_at t) f) (plan_eq.plan-If test part nothing)
      ∙ ap (λ o. go_on o (λ a. Forms.chosen a (plan_mean part) (plan_mean nothing) (frame_at t))) told

  nothing_at : (t : Tuple Item) → act nothing t f ≡ (Ok [], f)
  nothing_at t = ap (λ m. m (frame_at t) f) (ap plan_mean empty ∙ plan_eq.plan-Sequence [])

  pub kept_returned : (ts : List (Tuple Item)) (bs : List Bool) → AreAll (Tells (λ t. Forms.tested (plan_mean test) (frame_at t)) f) ts bs → (done : List Item) →
      in_turn (more (act part)) done (satisfying ts bs) f ≡ in_turn (more (act whole)) done ts f
  kept_returned [] [] told done = refl
  kept_returned [] (b ∷ bs) told done = absurd told
  kept_returned (t ∷ ts) [] told done = absurd told
  kept_returned (t ∷ ts) (false ∷ bs) told done =
      kept_returned ts bs told.1 done
      ∙ ap (λ (l : List Item). in_turn (more (act whole)) l ts f) (sym (append-nil done))
      ∙ sym (ap (λ o. go_on (go_on o (λ ys. give (done ++ ys))) (λ n. in_turn (more (act whole)) n ts)) (chosen_at t false told.0 ∙ nothing_at t))
  kept_returned (t ∷ ts) (true ∷ bs) told done =
      by (leaves (frame_at t) f) (λ next. kept_returned ts bs told.1 next)
    where
      by : ((given : Judged (List Item)) × (act part t f ≡ (given, f))) →
          ((next : List Item) → in_turn (more (act part)) next (satisfying ts bs) f ≡ in_turn (more (act whole)) next ts f) →
          in_turn (more (act part)) done (t ∷ satisfying ts bs) f ≡ in_turn (more (act whole)) done (t ∷ ts) f
      by (Ok xs, is) rest =
          ap (λ o. go_on (go_on o (λ ys. give (done ++ ys))) (λ n. in_turn (more (act part)) n (satisfying ts bs))) is
          ∙ rest (done ++ xs)
          ∙ sym (ap (λ o. go_on (go_on o (λ ys. give (done ++ ys))) (λ n. in_turn (more (act whole)) n ts)) (chosen_at t true told.0 ∙ is))
      by (Err code, is) rest =
          ap (λ o. go_on (go_on o (λ ys. give (done ++ ys))) (λ n. in_turn (more (act part)) n (satisfying ts bs))) is
          ∙ sym (ap (λ o. go_on (go_on o (λ ys. give (done ++ ys))) (λ n. in_turn (more (act whole)) n ts)) (chosen_at t true told.0 ∙ is))

-- # The FLWOR

pub flwor_itself : (outer : ℕ) (known : List Held) (cs : List PlanClause) (p q r : Plan) → p ≡ q → r ≡ plan.Flwor cs q → StandsForFlwor outer known cs p r
flwor_itself outer known cs p q r same is slots focus addresses trees long fits =
    ap (λ x. plan_mean x (frame_of slots focus addresses) trees) (is ∙ ap (plan.Flwor cs) (sym same))

pub stand_at : (known : List Held) (a b d p q r : Plan) → a ≡ p → b ≡ q → d ≡ r → MayStand known a b d → MayStand known p q r
stand_at known a b d p q r i j k (inl (sure, leaves), empty) = (inl (subst (IsTest known) i sure, subst LeavesTrees j leaves), sym k ∙ empty)
stand_at known a b d p q r i j k (inr (n, slot), empty) = (inr (n, sym j ∙ slot), sym k ∙ empty)

-- # A slot that is given

module _ (frame_at : Tuple Item → Frame) (test part nothing : Plan) (n : ℕ) (slot : part ≡ plan.Slot n) (empty : nothing ≡ plan.Sequence []) where
  abbrev holds : Tuple Item → Doing Bool
  holds t = Forms.tested (plan_mean test) (frame_at t)

  -- the values of the slot at tuples
  abbrev given_at : List (Tuple Item) → List Item
  given_at [] = []
  given_at (t ∷ ts) = value_at n (frame_at t).env ++ given_at ts

  given_more : (ts : List (Tuple Item)) (t : Tuple Item) → given_at (ts ++ t ∷ []) ≡ given_at ts ++ value_at n (frame_at t).env
  given_more [] t = append-nil (value_at n (frame_at t).env)
  given_more (u ∷ ts) t = ap (λ l. value_at n (frame_at u).env ++ l) (given_more ts t) ∙ sym (append_assoc (value_at n (frame_at u).env) (given_at ts) (value_at n (frame_at t).env))

  slot_at : (t : Tuple Item) (g : List Tree) → plan_mean part (frame_at t) g ≡ (Ok (value_at n (frame_at t).env), g)
  slot_at t g = ap (λ m. m (frame_at t) g) (ap plan_mean slot ∙ plan_eq.plan-Slot n)

  all_given : (ts : List (Tuple Item)) (done : List Item) (g : List Tree) → in_turn (more (λ t. plan_mean part (frame_at t))) done ts g ≡ (Ok (done ++ given_at ts), g)
  all_given [] done g = ap (λ l. (Ok l, g)) (sym (append-nil done))
  all_given (t ∷ ts) done g =
      ap (λ o. go_on (go_on o (λ ys. give (done ++ ys))) (λ next. in_turn (more (λ u. plan_mean part (frame_at u))) next ts)) (slot_at t g)
      ∙ all_given ts (done ++ value_at n (frame_at t).env) g
      ∙ ap (λ l. (Ok l, g)) (append_assoc done (value_at n (frame_at t).env) (given_at ts))

  abbrev whole_at : Tuple Item → Doing (List Item)
  whole_at t = plan_mean (plan.If test part nothing) (frame_at t)

  if_at : (t : Tuple Item) (g : List Tree) → whole_at t g ≡ go_on (holds t g) (λ b. give (if b then value_at n (frame_at t).env else []))
  if_at t g =
      ap (λ m. m (frame_at t) g) (plan_eq.plan-If test part nothing)
      ∙ by (holds t g)
    where
      by : (o : Outcome Bool) → go_on o (λ b. Forms.chosen b (plan_mean part) (plan_mean nothing) (frame_at t)) ≡ go_on o (λ b. give (if b then value_at n (frame_at t).env else []))
      by (Ok true, h) = slot_at t h
      by (Ok false, h) = ap (λ m. m (frame_at t) h) (ap plan_mean empty ∙ plan_eq.plan-Sequence [])
      by (Err code, h) = refl

  -- tests of all and then the slots, or one after another
  pub slots_given : (ts done : List (Tuple Item)) (g : List Tree) →
      go_on (in_turn (more (kept holds)) done ts g) (λ us. in_turn (more (λ t. plan_mean part (frame_at t))) [] us) ≡ in_turn (more whole_at) (given_at done) ts g
  slots_given [] done g = all_given done [] g
  slots_given (t ∷ ts) done g =
      by (λ l h. slots_given ts l h) (holds t g)
      ∙ sym (ap (λ o. go_on (go_on o (λ ys. give (given_at done ++ ys))) (λ next. in_turn (more whole_at) next ts)) (if_at t g))
    where
      by : ((l : List (Tuple Item)) (h : List Tree) → go_on (in_turn (more (kept holds)) l ts h) (λ us. in_turn (more (λ u. plan_mean part (frame_at u))) [] us) ≡ in_turn (more whole_at) (given_at l) ts h) →
          (o : Outcome Bool) →
          go_on (go_on (go_on (go_on o (λ keep. give (Forms.kept_if t keep))) (λ ys. give (done ++ ys))) (λ next. in_turn (more (kept holds)) next ts)) (λ us. in_turn (more (λ u. plan_mean part (frame_at u))) [] us)
          ≡ go_on (go_on (go_on o (λ b. give (if b then value_at n (frame_at t).env else []))) (λ ys. give (given_at done ++ ys))) (λ next. in_turn (more whole_at) next ts)
      by rest (Ok true, h) = rest (done ++ t ∷ []) h ∙ ap (λ l. in_turn (more whole_at) l ts h) (given_more done t)
      by rest (Ok false, h) =
          rest (done ++ []) h
          ∙ ap (λ (l : List (Tuple Item)). in_turn (more whole_at) (given_at l) ts h) (append-nil done)
          ∙ ap (λ l. in_turn (more whole_at) l ts h) (sym (append-nil (given_at done)))
      by rest (Err code, h) = refl

pub test_before : (outer : ℕ) (known : List Held) (cs ds : List PlanClause) (test part nothing r : Plan) → IsTest known test → LeavesTrees part → nothing ≡ plan.Sequence [] →
    ds ≡ cs ++ clause.Where test ∷ [] → r ≡ plan.Flwor ds part → StandsForFlwor outer known cs (plan.If test part nothing) r
test_before outer known cs ds test part nothing r sure leaves empty pushed is slots focus addresses trees long fits =
    let frame = frame_of slots focus addresses in
    let act = next_clause frame in
    let o = in_turn act ([] ∷ []) (map plan_clause_mean cs) trees in
    ap (λ x. plan_mean x frame trees) is
    ∙ ap (λ m. m frame trees) (plan_eq.plan-Flwor ds part)
    ∙ ap (λ ms. go_on (in_turn act ([] ∷ []) ms trees) (λ tuples. Forms.return_of (plan_mean part) (at_tuple frame) tuples))
    (ap (map plan_clause_mean) pushed ∙ map-append plan_clause_mean cs (clause.Where test ∷ []))
    ∙ ap (λ p. go_on p (λ tuples. Forms.return_of (plan_mean part) (at_tuple frame) tuples)) (in_turn-append act ([] ∷ []) (map plan_clause_mean cs) (plan_clause_mean (clause.Where test) ∷ []) trees)
    ∙ returned o fits
    ∙ sym (ap (λ m. m frame trees) (plan_eq.plan-Flwor cs (plan.If test part nothing)))
  where
    returned : (o : Outcome (List (Tuple Item))) → GivesFitting known slots o →
        go_on (go_on o (λ n. in_turn (next_clause (frame_of slots focus addresses)) n (plan_clause_mean (clause.Where test) ∷ []))) (λ tuples. Forms.return_of (plan_mean part) (at_tuple (frame_of slots focus addresses)) tuples)
        ≡ go_on o (λ tuples. Forms.return_of (plan_mean (plan.If test part nothing)) (at_tuple (frame_of slots focus addresses)) tuples)
    returned (Err code, f) w = refl
    returned (Ok ts, f) w =
        let told = answers known slots focus addresses f test sure.tells ts w in
        ap (λ p. go_on (go_on p (λ n. give n)) (λ tuples. Forms.return_of (plan_mean part) (at_tuple (frame_of slots focus addresses)) tuples)) (where_told known slots focus addresses f test ts told.0 told.1)
        ∙ kept_returned (at_tuple (frame_of slots focus addresses)) test part nothing f leaves empty ts told.0 told.1 []

-- the same where a slot is given
pub slot_before : (outer : ℕ) (known : List Held) (cs ds : List PlanClause) (test part nothing r : Plan) → IsSlot part → nothing ≡ plan.Sequence [] →
    ds ≡ cs ++ clause.Where test ∷ [] → r ≡ plan.Flwor ds part → StandsForFlwor outer known cs (plan.If test part nothing) r
slot_before outer known cs ds test part nothing r (n, slot) empty pushed is slots focus addresses trees long fits =
    let frame = frame_of slots focus addresses in
    let act = next_clause frame in
    ap (λ x. plan_mean x frame trees) is
    ∙ ap (λ m. m frame trees) (plan_eq.plan-Flwor ds part)
    ∙ ap (λ ms. go_on (in_turn act ([] ∷ []) ms trees) (λ tuples. Forms.return_of (plan_mean part) (at_tuple frame) tuples))
    (ap (map plan_clause_mean) pushed ∙ map-append plan_clause_mean cs (clause.Where test ∷ []))
    ∙ ap (λ p. go_on p (λ tuples. Forms.return_of (plan_mean part) (at_tuple frame) tuples)) (in_turn-append act ([] ∷ []) (map plan_clause_mean cs) (plan_clause_mean (clause.Where test) ∷ []) trees)
    ∙ returned (in_turn act ([] ∷ []) (map plan_clause_mean cs) trees)
    ∙ sym (ap (λ m. m frame trees) (plan_eq.plan-Flwor cs (plan.If test part nothing)))
  where
    returned : (o : Outcome (List (Tuple Item))) →
        go_on (go_on o (λ n. in_turn (next_clause (frame_of slots focus addresses)) n (plan_clause_mean (clause.Where test) ∷ []))) (λ tuples. Forms.return_of (plan_mean part) (at_tuple (frame_of slots focus addresses)) tuples)
        ≡ go_on o (λ tuples. Forms.return_of (plan_mean (plan.If test part nothing)) (at_tuple (frame_of slots focus addresses)) tuples)
    returned (Err code, f) = refl
    returned (Ok ts, f) =
        let at = at_tuple (frame_of slots focus addresses) in
        let holds = λ (t : Tuple Item). Forms.tested (plan_mean test) (at t) in
        ap (λ p. go_on p (λ tuples. Forms.return_of (plan_mean part) at tuples))
        (go_on_give (plan_clause_mean (clause.Where test) (frame_of slots focus addresses) ts f)
        ∙ ap (λ (m : ClauseMeaning). m (frame_of slots focus addresses) ts f) (plan_eq.clause-Where test) ∙ passed_is holds ts f)
        ∙ slots_given at test part nothing n slot empty ts [] f

-- by what is known of the test and the branches
pub may_before : (outer : ℕ) (known : List Held) (cs ds : List PlanClause) (test part nothing r : Plan) → MayStand known test part nothing →
    ds ≡ cs ++ clause.Where test ∷ [] → r ≡ plan.Flwor ds part → StandsForFlwor outer known cs (plan.If test part nothing) r
may_before outer known cs ds test part nothing r (inl (sure, leaves), empty) pushed is = test_before outer known cs ds test part nothing r sure leaves empty pushed is
may_before outer known cs ds test part nothing r (inr slot, empty) pushed is = slot_before outer known cs ds test part nothing r slot empty pushed is

-- after clauses that gave the same
pub flwor_stands : (known last : List Held) (cs ds : List PlanClause) (p q : Plan) → SameClauses (length known) known cs ds last →
    StandsForFlwor (length known) last ds p q → GivesSame known (plan.Flwor ds p) q
flwor_stands known last cs ds p q follow stands slots focus addresses trees fits =
    let frame = frame_of slots focus addresses in
    let h = follow slots focus addresses (fits_length known slots fits) ([] ∷ []) trees (subst (Fits known) (sym (append-nil slots)) fits, tt) in
    stands slots focus addresses trees (fits_length known slots fits) (subst (GivesFitting last slots) (sym h.same) h.fits)
