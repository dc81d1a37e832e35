-- Clauses give the same tuples, and slots as known, where their parts give the same.
use Rattle.std.proofs.Common.{◌≡◌, ℕ, List, [], ◌∷◌, ◌++◌, map, length, Bool, Option, Ok, Err, refl, sym, ap, ◌∙◌, subst}
use Rattle.std.specs.List.{AllByRecursion}
use Rattle.std.proofs.lemmas.List.{append-nil}
use Rattle.xq_atoms.specs.Text.{Text}
use Rattle.xq_atoms.specs.declared.refusals.Code.{Code}
use Rattle.xq_expressions.specs.declared.operators.AllowingEmpty.{AllowingEmpty}
use Rattle.xq_expressions.specs.declared.operators.OrderModifier.{OrderModifier}
use Rattle.xq_trees.specs.Tree.{Tree}
use Rattle.xq_trees.specs.Tuples.{Tuple}
use Rattle.xq_meaning.specs.Items.{Item}
use Rattle.xq_meaning.specs.Functions.{Focus}
use Rattle.xq_meaning.specs.declared.plans.Plan.{Plan}
use Rattle.xq_meaning.specs.declared.plans.Plan.TheVariants as plan
use Rattle.xq_meaning.specs.declared.plans.PlanClause.{PlanClause}
use Rattle.xq_meaning.specs.declared.plans.PlanClause.TheVariants as clause
use Rattle.xq_meaning.specs.Doing.{Outcome, go_on, in_turn}
use Rattle.xq_meaning.specs.Forms
use Rattle.xq_meaning.specs.PlanMeaning.{Slots, Frame, Meaning, ClauseMeaning, at_tuple, next_clause, plan_mean, plan_clause_mean}
use Rattle.xq_meaning.specs.Same.{frame_of}
use Rattle.xq_meaning.proofs.PlanEquations as plan_eq
use Rattle.xq_meaning.proofs.Turns.{go_on_give}
use Rattle.xq_meaning.proofs.SameForms.{AreRelated, for_tuples_same, let_tuples_same, where_tuples_same, order_tuples_same, return_same, SameAt, SameKey as KeySame, SameModifier}
use Rattle.xq_optimise.specs.declared.held.Held.{Held}
use Rattle.xq_optimise.specs.declared.held.Held.TheVariants.{Anything}
use Rattle.xq_optimise.specs.Known.{Fits}
use Rattle.xq_optimise.specs.Same.{GivesSame}
use Rattle.xq_optimise.specs.private.Parts.{AreAll, SameKey, IsHeld, GivesHeld, AllFit, GivesFitting, Follows, SameClause, SameMany, SameClauses, with_position, forgotten, each_of}
use Rattle.xq_optimise.proofs.Forms.{related_map}
use Rattle.xq_optimise.proofs.Fitting.{fits_length, for_fits, let_fits, where_fits, order_fits, count_fits, group_fits}

-- # The frame of a tuple

module _ (known : List Held) (slots : Slots) (focus : Option Focus) (addresses : List Text) where
  abbrev pub tuple_at : Tuple Item → Frame
  tuple_at = at_tuple (frame_of slots focus addresses)

  pub all_same : (p q : Plan) → GivesSame known p q → (tuples : List (Tuple Item)) →
      AllFit known slots tuples → AllByRecursion (SameAt tuple_at tuple_at (plan_mean q) (plan_mean p)) tuples
  all_same p q is [] h = tt
  all_same p q is (t ∷ ts) h = ((λ f. is (slots ++ t) focus addresses f h.0), all_same p q is ts h.1)

  pub all_held : (held : Held) (p : Plan) → IsHeld known held p → (tuples : List (Tuple Item)) →
      AllFit known slots tuples →
      AllByRecursion (λ (t : Tuple Item). (f : List Tree) → GivesHeld held (plan_mean p (tuple_at t) f)) tuples
  all_held held p is [] h = tt
  all_held held p is (t ∷ ts) h = ((λ f. is (slots ++ t) focus addresses f h.0), all_held held p is ts h.1)

  abbrev mean_key : Plan × OrderModifier → Meaning × OrderModifier
  mean_key x = (plan_mean x.0, x.1)

  pub keys_at : (xs ys : List (Plan × OrderModifier)) → AreAll (SameKey known) xs ys →
      (tuples : List (Tuple Item)) → AllFit known slots tuples →
      AllByRecursion (λ (t : Tuple Item). AreRelated (KeySame tuple_at tuple_at t) (map mean_key ys) (map mean_key xs)) tuples
  keys_at xs ys all [] h = tt
  keys_at xs ys all (t ∷ ts) h = (
    related_map (SameKey known) (KeySame tuple_at tuple_at t) mean_key mean_key
        (λ x y is f. is.0 (slots ++ t) focus addresses f h.0) xs ys all,
    keys_at xs ys all ts h.1,
  )

  pub modifiers_at : (xs ys : List (Plan × OrderModifier)) → AreAll (SameKey known) xs ys →
      AreRelated (SameModifier tuple_at tuple_at) (map mean_key ys) (map mean_key xs)
  modifiers_at xs ys all =
      related_map (SameKey known) (SameModifier tuple_at tuple_at) mean_key mean_key (λ x y is. is.1) xs ys all

-- # The clauses

module _ (start : ℕ) (known : List Held) where
  -- by the meanings of both clauses
  by_clause : (last : List Held) (c d : PlanClause) (m n : ClauseMeaning) →
      plan_clause_mean c ≡ m → plan_clause_mean d ≡ n →
      ((slots : Slots) (focus : Option Focus) (addresses : List Text) → length slots ≡ start →
      (tuples : List (Tuple Item)) (trees : List Tree) → AllFit known slots tuples →
      Follows last slots (m (frame_of slots focus addresses) tuples trees)
      (n (frame_of slots focus addresses) tuples trees)) →
      SameClause start known c d last
  by_clause last c d m n ec ed h slots focus addresses l tuples trees w =
      subst (λ k. Follows last slots (plan_clause_mean c (frame_of slots focus addresses) tuples trees) (k (frame_of slots focus addresses) tuples trees)) (sym ed)
      (subst (λ k. Follows last slots (k (frame_of slots focus addresses) tuples trees) (n (frame_of slots focus addresses) tuples trees)) (sym ec)
      (h slots focus addresses l tuples trees w))

  pub for_follows : (empties : AllowingEmpty) (at : Bool) (held : Held) (p q : Plan) → GivesSame known p q →
      IsHeld known held p →
      SameClause start known (clause.For empties at p) (clause.For empties at q) (known ++ with_position (each_of held) at)
  for_follows empties at held p q is as' =
      by_clause (known ++ with_position (each_of held) at) (clause.For empties at p) (clause.For empties at q) _ _ (plan_eq.clause-For empties at p) (plan_eq.clause-For empties at q)
      (λ slots focus addresses l tuples trees w. record {
        same = for_tuples_same (tuple_at known slots focus addresses) (tuple_at known slots focus addresses) empties at (plan_mean q) (plan_mean p) tuples (all_same known slots focus addresses p q is tuples w) trees;
        fits = for_fits known slots (tuple_at known slots focus addresses) tuples w empties at held (plan_mean p) trees (all_held known slots focus addresses held p as' tuples w);
      })

  pub let_follows : (held : Held) (p q : Plan) → GivesSame known p q → IsHeld known held p →
      SameClause start known (clause.Let p) (clause.Let q) (known ++ held ∷ [])
  let_follows held p q is as' =
      by_clause (known ++ held ∷ []) (clause.Let p) (clause.Let q) _ _ (plan_eq.clause-Let p) (plan_eq.clause-Let q)
      (λ slots focus addresses l tuples trees w. record {
        same = let_tuples_same (tuple_at known slots focus addresses) (tuple_at known slots focus addresses) (plan_mean q) (plan_mean p) tuples (all_same known slots focus addresses p q is tuples w) trees;
        fits = let_fits known slots (tuple_at known slots focus addresses) tuples w held (plan_mean p) trees (all_held known slots focus addresses held p as' tuples w);
      })

  pub where_follows : (p q : Plan) → GivesSame known p q →
      SameClause start known (clause.Where p) (clause.Where q) known
  where_follows p q is =
      by_clause known (clause.Where p) (clause.Where q) _ _ (plan_eq.clause-Where p) (plan_eq.clause-Where q)
      (λ slots focus addresses l tuples trees w. record {
        same = where_tuples_same (tuple_at known slots focus addresses) (tuple_at known slots focus addresses) (plan_mean q) (plan_mean p) tuples (all_same known slots focus addresses p q is tuples w) trees;
        fits = where_fits known slots (tuple_at known slots focus addresses) tuples w (plan_mean p) trees;
      })

  pub order_follows : (xs ys : List (Plan × OrderModifier)) → AreAll (SameKey known) xs ys →
      SameClause start known (clause.Order xs) (clause.Order ys) known
  order_follows xs ys all =
      by_clause known (clause.Order xs) (clause.Order ys) _ _ (plan_eq.clause-Order xs) (plan_eq.clause-Order ys)
      (λ slots focus addresses l tuples trees w. record {
        same = order_tuples_same (tuple_at known slots focus addresses) (tuple_at known slots focus addresses)
            (map (λ (x : Plan × OrderModifier). (plan_mean x.0, x.1)) ys) (map (λ (x : Plan × OrderModifier). (plan_mean x.0, x.1)) xs) tuples
            (modifiers_at known slots focus addresses xs ys all) (keys_at known slots focus addresses xs ys all tuples w) trees;
        fits = order_fits known slots (tuple_at known slots focus addresses) tuples w (map (λ (x : Plan × OrderModifier). (plan_mean x.0, x.1)) xs) trees;
      })

  pub count_follows : SameClause start known clause.Count clause.Count (known ++ Anything ∷ [])
  count_follows =
      by_clause (known ++ Anything ∷ []) clause.Count clause.Count _ _ plan_eq.clause-Count plan_eq.clause-Count
      (λ slots focus addresses l tuples trees w. record {
        same = refl;
        fits = count_fits known slots tuples trees w;
      })

  pub group_follows : (numbers : List ℕ) →
      SameClause start known (clause.Group numbers) (clause.Group numbers) (forgotten start known)
  group_follows numbers =
      by_clause (forgotten start known) (clause.Group numbers) (clause.Group numbers) _ _ (plan_eq.clause-Group numbers) (plan_eq.clause-Group numbers)
      (λ slots focus addresses l tuples trees w. record {
        same = refl;
        fits = subst (λ n. GivesFitting (forgotten n known) slots (Forms.group_tuples numbers tuples trees)) l (group_fits known slots numbers tuples trees w);
      })

  pub refused_follows : (code : Code) →
      SameClause start known (clause.Refused code) (clause.Refused code) known
  refused_follows code =
      by_clause known (clause.Refused code) (clause.Refused code) _ _ (plan_eq.clause-Refused code) (plan_eq.clause-Refused code)
      (λ slots focus addresses l tuples trees w. record { same = refl; fits = tt })

-- one that stands for another, and any number of them
pub one_follows : (start : ℕ) (known last : List Held) (c d : PlanClause) → SameClause start known c d last →
    SameMany start known c (d ∷ []) last
one_follows start known last c d h slots focus addresses l tuples trees w =
    let frame = frame_of slots focus addresses in
    subst (λ o. Follows last slots (plan_clause_mean c frame tuples trees) o) (sym (go_on_give (plan_clause_mean d frame tuples trees)))
    (h slots focus addresses l tuples trees w)

-- a `where` that is left
pub itself_follows : (start : ℕ) (known : List Held) (p : Plan) →
    SameMany start known (clause.Where p) (clause.Where p ∷ []) known
itself_follows start known p =
    one_follows start known known (clause.Where p) (clause.Where p)
    (where_follows start known p p (λ slots focus addresses trees fits. refl))

-- a plan in a `where`, and then those that stand for it
pub tests_follow : (start : ℕ) (known : List Held) (p q : Plan) (ds : List PlanClause) → GivesSame known p q →
    SameMany start known (clause.Where q) ds known → SameMany start known (clause.Where p) ds known
tests_follow start known p q ds is many slots focus addresses l tuples trees w =
    let first = where_follows start known p q is slots focus addresses l tuples trees w in
    let second = many slots focus addresses l tuples trees w in
    record { same = second.same ∙ first.same; fits = first.fits }

-- # The whole expression

pub flwor_gives : (known last : List Held) (cs ds : List PlanClause) (p q : Plan) →
    SameClauses (length known) known cs ds last → GivesSame last p q →
    GivesSame known (plan.Flwor cs p) (plan.Flwor ds q)
flwor_gives known last cs ds p q follow is slots focus addresses trees fits =
    let frame = frame_of slots focus addresses in
    let h = follow slots focus addresses (fits_length known slots fits) ([] ∷ []) trees (subst (Fits known) (sym (append-nil slots)) fits, tt) in
    ap (λ k. k frame trees) (plan_eq.plan-Flwor ds q)
    ∙ returned last slots focus addresses p q is (in_turn (next_clause frame) ([] ∷ []) (map plan_clause_mean cs) trees) (in_turn (next_clause frame) ([] ∷ []) (map plan_clause_mean ds) trees) h
    ∙ sym (ap (λ k. k frame trees) (plan_eq.plan-Flwor cs p))
  where
    returned : (last : List Held) (slots : Slots) (focus : Option Focus) (addresses : List Text) (p q : Plan) → GivesSame last p q →
        (o n : Outcome (List (Tuple Item))) → Follows last slots o n →
        go_on n (λ tuples. Forms.return_of (plan_mean q) (at_tuple (frame_of slots focus addresses)) tuples)
        ≡ go_on o (λ tuples. Forms.return_of (plan_mean p) (at_tuple (frame_of slots focus addresses)) tuples)
    returned last slots focus addresses p q is (Ok tuples, f) n h =
        ap (λ x. go_on x (λ ts. Forms.return_of (plan_mean q) (at_tuple (frame_of slots focus addresses)) ts)) h.same
        ∙ return_same (tuple_at last slots focus addresses) (tuple_at last slots focus addresses) (plan_mean q) (plan_mean p) tuples (all_same last slots focus addresses p q is tuples h.fits) f
    returned last slots focus addresses p q is (Err code, f) n h =
        ap (λ x. go_on x (λ ts. Forms.return_of (plan_mean q) (at_tuple (frame_of slots focus addresses)) ts)) h.same
