-- A FLWOR that returns another one gives what one with the clauses of both gives.
use Rattle.std.proofs.Common.{◌≡◌, ℕ, ◌+◌, ◌≤◌, ◌<◌, List, [], ◌∷◌, ◌++◌, map, length, take, Bool, Ok, Err, ◌⊎◌, inl, inr, refl, sym, ap, ◌∙◌, subst}
use Rattle.std.specs.Prelude.{Option, get_or}
use Rattle.std.specs.List.{AllByRecursion}
use Rattle.std.proofs.lemmas.List.{map-append}
use Rattle.xq_atoms.specs.Judged.{Judged}
use Rattle.xq_atoms.specs.Text.{Text}
use Rattle.xq_trees.specs.Tree.{Tree}
use Rattle.xq_trees.specs.Tuples.{Tuple}
use Rattle.xq_meaning.specs.declared.plans.Plan.{Plan}
use Rattle.xq_meaning.specs.declared.plans.Plan.TheVariants as plan
use Rattle.xq_meaning.specs.declared.plans.PlanClause.{PlanClause}
use Rattle.xq_meaning.specs.Doing.{Outcome, go_on, in_turn, collected}
use Rattle.xq_meaning.specs.Forms
use Rattle.xq_meaning.specs.Functions.{Focus}
use Rattle.xq_meaning.specs.Items.{Item, Node}
use Rattle.xq_meaning.specs.PlanMeaning.{Slots, Frame, ClauseMeaning, at_tuple, next_clause, plan_mean, plan_clause_mean}
use Rattle.xq_meaning.specs.Same.{frame_of}
use Rattle.xq_meaning.proofs.PlanEquations as plan_eq
use Rattle.xq_meaning.proofs.SameForms.{return_same}
use Rattle.xq_meaning.proofs.Turns.{in_turn-append}
use Rattle.xq_optimise.specs.declared.held.Held.{Held}
use Rattle.xq_optimise.specs.Same.{GivesSame}
use Rattle.xq_optimise.specs.Sure.{SurelyNodes, IsTest}
use Rattle.xq_optimise.specs.private.FlworParts.{StandsForFlwor, IsSteadyPart, IsSteady, AreSteady}
use Rattle.xq_optimise.specs.private.Joins.{LeavesTrees, IsOutside}
use Rattle.xq_optimise.specs.private.Parts.{AllFit, GivesFitting, SameMany, SameClauses, Extends}
use Rattle.xq_optimise.proofs.Elements.{next_taken}
use Rattle.xq_optimise.proofs.Flwor.{tuple_at, all_same}
use Rattle.xq_optimise.proofs.TupleByTuple.{Pointwise, for_pointwise, let_pointwise, where_pointwise, Good, Bad, spread, AllValued, none_good, good_more, refused_more, bad_more, whole_more, good_returned, bad_returned}

-- # What is returned

pub returns_alike : (outer : ℕ) (known : List Held) (cs : List PlanClause) (p q r : Plan) → GivesSame known p q → StandsForFlwor outer known cs q r →
    StandsForFlwor outer known cs p r
returns_alike outer known cs p q r is stands slots focus addresses trees long fits =
    let frame = frame_of slots focus addresses in
    stands slots focus addresses trees long fits
    ∙ ap (λ m. m frame trees) (plan_eq.plan-Flwor cs q)
    ∙ by (in_turn (next_clause frame) ([] ∷ []) (map plan_clause_mean cs) trees) fits
    ∙ sym (ap (λ m. m frame trees) (plan_eq.plan-Flwor cs p))
  where
    by : (o : Outcome (List (Tuple Item))) → GivesFitting known slots o →
        go_on o (λ tuples. Forms.return_of (plan_mean q) (at_tuple (frame_of slots focus addresses)) tuples)
        ≡ go_on o (λ tuples. Forms.return_of (plan_mean p) (at_tuple (frame_of slots focus addresses)) tuples)
    by (Ok ts, f) w =
        return_same (tuple_at known slots focus addresses) (tuple_at known slots focus addresses) (plan_mean q) (plan_mean p) ts
        (all_same known slots focus addresses p q is ts w) f
    by (Err code, f) w = refl

pub nested_stands : (outer : ℕ) (known last : List Held) (cs ds es whole : List PlanClause) (r q : Plan) → AreSteady outer known ds → LeavesTrees r →
    SameClauses outer known ds es last → whole ≡ cs ++ es → StandsForFlwor outer last whole r q → StandsForFlwor outer known cs (plan.Flwor ds r) q
nested_stands outer known last cs ds es whole r q steady leaves follow joined stands slots focus addresses trees long fits =
    let frame = frame_of slots focus addresses in
    let act = next_clause frame in
    let first = in_turn act ([] ∷ []) (map plan_clause_mean cs) trees in
    let apart : in_turn act ([] ∷ []) (map plan_clause_mean whole) trees ≡ go_on first (λ n. in_turn act n (map plan_clause_mean es)) =
    ap (λ l. in_turn act ([] ∷ []) (map plan_clause_mean l) trees) joined
    ∙ ap (λ ms. in_turn act ([] ∷ []) ms trees) (map-append plan_clause_mean cs es)
    ∙ in_turn-append act ([] ∷ []) (map plan_clause_mean cs) (map plan_clause_mean es) trees in
    stands slots focus addresses trees long (subst (GivesFitting last slots) (sym apart) (fitting first fits))
    ∙ ap (λ m. m frame trees) (plan_eq.plan-Flwor whole r)
    ∙ ap (λ o. go_on o (λ tuples. Forms.return_of (plan_mean r) (at_tuple frame) tuples)) apart
    ∙ by first fits
    ∙ sym (ap (λ m. m frame trees) (plan_eq.plan-Flwor cs (plan.Flwor ds r)))
  where
    fitting : (o : Outcome (List (Tuple Item))) → GivesFitting known slots o →
        GivesFitting last slots (go_on o (λ n. in_turn (next_clause (frame_of slots focus addresses)) n (map plan_clause_mean es)))
    fitting (Ok ts, f) w = let h = follow slots focus addresses long ts f w in subst (GivesFitting last slots) (sym h.same) h.fits
    fitting (Err code, f) w = tt

    by : (o : Outcome (List (Tuple Item))) → GivesFitting known slots o →
        go_on (go_on o (λ n. in_turn (next_clause (frame_of slots focus addresses)) n (map plan_clause_mean es)))
        (λ tuples. Forms.return_of (plan_mean r) (at_tuple (frame_of slots focus addresses)) tuples)
        ≡ go_on o (λ tuples. Forms.return_of (plan_mean (plan.Flwor ds r)) (at_tuple (frame_of slots focus addresses)) tuples)
    by (Ok ts, f) w =
        let h = follow slots focus addresses long ts f w in
        ap (λ o. go_on o (λ tuples. Forms.return_of (plan_mean r) (at_tuple (frame_of slots focus addresses)) tuples)) h.same
        ∙ sym (steady r leaves slots focus addresses long ts f w)
    by (Err code, f) w = refl

-- # Clauses that go over each tuple by itself

-- from tuples whose slots are as known, the clauses spread, to tuples whose slots are as held
pub record Steadily (outer : ℕ) (known held : List Held) (done : List PlanClause) : Type 0 where
  pub within : outer ≤ length held
  pub spreads : (slots : Slots) (focus : Option Focus) (addresses : List Text) → length slots ≡ outer →
      (ts : List (Tuple Item)) (f : List Tree) → AllFit known slots ts →
      let frame = frame_of slots focus addresses in
      ((uss : List (List (Tuple Item))) × Good frame f (map plan_clause_mean done) ts uss × AllFit held slots (spread ts uss))
      ⊎ Bad frame f (map plan_clause_mean done) ts

pub none_steadily : (outer : ℕ) (known held : List Held) (done : List PlanClause) → outer ≤ length known → held ≡ known → done ≡ [] →
    Steadily outer known held done
none_steadily outer known held done within same none =
    subst (λ d. Steadily outer known held d) (sym none)
    (subst (λ k. Steadily outer known k []) (sym same)
    (record {
      within = within;
      spreads = λ slots focus addresses long ts f w.
          let own = none_good (frame_of slots focus addresses) f ts in
          inl (own.0, own.1, subst (AllFit known slots) (sym own.2) w);
    }))

module _ (outer : ℕ) (known held last : List Held) (done : List PlanClause) (c : PlanClause) (before : Steadily outer known held done)
    (follow : SameMany outer held c (c ∷ []) last) where
  module _ (slots : Slots) (focus : Option Focus) (addresses : List Text) (long : length slots ≡ outer) (ts : List (Tuple Item)) (f : List Tree) where
    abbrev frame : Frame
    frame = frame_of slots focus addresses

    abbrev Spread : List ClauseMeaning → Type 0
    Spread cs = ((uss : List (List (Tuple Item))) × Good frame f cs ts uss × AllFit last slots (spread ts uss)) ⊎ Bad frame f cs ts

    abbrev cs : List ClauseMeaning
    cs = map plan_clause_mean done

    -- by the meaning of the clause
    module _ (m : ClauseMeaning) (is : plan_clause_mean c ≡ m) (by : Pointwise m) where
      named : map plan_clause_mean (done ++ c ∷ []) ≡ cs ++ m ∷ []
      named = map-append plan_clause_mean done (c ∷ []) ∙ ap (λ n. cs ++ n ∷ []) is

      fitting : (uss wss : List (List (Tuple Item))) → Good frame f cs ts uss → AllFit held slots (spread ts uss) → Good frame f (cs ++ m ∷ []) ts wss →
          AllFit last slots (spread ts wss)
      fitting uss wss good w next =
          let h = follow slots focus addresses long (spread ts uss) f w in
          subst (GivesFitting last slots)
          (ap (λ n. n frame (spread ts uss) f) is ∙ sym (whole_more frame f cs m by ts (spread ts uss) good.1) ∙ next.1)
          h.fits

      with_fits : (uss : List (List (Tuple Item))) → Good frame f cs ts uss → AllFit held slots (spread ts uss) →
          ((wss : List (List (Tuple Item))) × Good frame f (cs ++ m ∷ []) ts wss) ⊎ Bad frame f (cs ++ m ∷ []) ts → Spread (map plan_clause_mean (done ++ c ∷ []))
      with_fits uss good w next =
          subst Spread (sym named) (elim next [
            | inl h ↦ inl (h.0, h.1, fitting uss h.0 good w h.1)
            | inr bad ↦ inr bad
          ])

      stays_bad : Bad frame f cs ts → Spread (map plan_clause_mean (done ++ c ∷ []))
      stays_bad bad = subst Spread (sym named) (inr (bad_more frame f cs m by ts bad))

      -- each tuple has a value
      all_valued : (us : List (Tuple Item)) → AllByRecursion (λ u. (v : by.Value) × (by.value (at_tuple frame u) f ≡ (Ok v, f))) us →
          (vs : List by.Value) × AllValued frame f cs m by us vs
      all_valued [] h = ([], tt)
      all_valued (u ∷ us) h = let rest = all_valued us h.1 in (h.0.0 ∷ rest.0, (h.0.1, rest.1))

      sure_spread : (uss : List (List (Tuple Item))) → Good frame f cs ts uss → AllFit held slots (spread ts uss) →
          AllByRecursion (λ u. (v : by.Value) × (by.value (at_tuple frame u) f ≡ (Ok v, f))) (spread ts uss) → Spread (map plan_clause_mean (done ++ c ∷ []))
      sure_spread uss good w h =
          let vs = all_valued (spread ts uss) h in
          with_fits uss good w (inl (good_more frame f cs m by ts uss vs.0 good vs.1))

      alike_spread : (uss : List (List (Tuple Item))) → Good frame f cs ts uss → AllFit held slots (spread ts uss) →
          (given : Judged by.Value) → ((u : Tuple Item) → by.value (at_tuple frame u) f ≡ (given, f)) → Spread (map plan_clause_mean (done ++ c ∷ []))
      alike_spread uss good w (Ok v) h = sure_spread uss good w (every (spread ts uss))
        where
          every : (us : List (Tuple Item)) → AllByRecursion (λ u. (v : by.Value) × (by.value (at_tuple frame u) f ≡ (Ok v, f))) us
          every [] = tt
          every (u ∷ us) = ((v, h u), every us)
      alike_spread uss good w (Err code) h = with_fits uss good w (refused_more frame f cs m by code h ts uss good)

    nodes_at : (p : Plan) → SurelyNodes held p → (us : List (Tuple Item)) → AllFit held slots us →
        AllByRecursion (λ u. (v : List Item) × (plan_mean p (at_tuple frame u) f ≡ (Ok v, f))) us
    nodes_at p h [] w = tt
    nodes_at p h (u ∷ us) w =
        let told = h (slots ++ u) focus addresses f w.0 in
        ((map Node told.0, told.1), nodes_at p h us w.1)

    tests_at : (p : Plan) → IsTest held p → (us : List (Tuple Item)) → AllFit held slots us →
        AllByRecursion (λ u. (v : Bool) × (Forms.tested (plan_mean p) (at_tuple frame u) f ≡ (Ok v, f))) us
    tests_at p h [] w = tt
    tests_at p h (u ∷ us) w =
        let told = h.tells (slots ++ u) focus addresses f w.0 in
        ((told.0, told.1), tests_at p h us w.1)

    outside_at : (p : Plan) → IsOutside outer p → (given : Judged (List Item)) × ((u : Tuple Item) → plan_mean p (at_tuple frame u) f ≡ (given, f))
    outside_at p h =
        let own = h.1 frame f in
        (own.0, λ u. h.0 slots u focus addresses f (inr (sym long)) ∙ own.1)

    part_spread : (m : ClauseMeaning) (is : plan_clause_mean c ≡ m) (by : Pointwise m) (p : Plan) (uss : List (List (Tuple Item))) →
        Good frame f cs ts uss → AllFit held slots (spread ts uss) → IsSteadyPart held outer p →
        (SurelyNodes held p → Spread (map plan_clause_mean (done ++ c ∷ []))) → (IsOutside outer p → Spread (map plan_clause_mean (done ++ c ∷ []))) →
        Spread (map plan_clause_mean (done ++ c ∷ []))
    part_spread m is by p uss good w (inl nodes) k l = k nodes
    part_spread m is by p uss good w (inr outside) k l = l outside

    next_spread : IsSteady held outer c → ((uss : List (List (Tuple Item))) × Good frame f cs ts uss × AllFit held slots (spread ts uss)) ⊎ Bad frame f cs ts →
        Spread (map plan_clause_mean (done ++ c ∷ []))
    next_spread (inl (empties, at, p, is, steady)) (inr bad) =
        stays_bad (λ frame. Forms.for_tuples empties at (plan_mean p) (at_tuple frame)) (ap plan_clause_mean is ∙ plan_eq.clause-For empties at p) (for_pointwise empties at (plan_mean p)) bad
    next_spread (inr (inl (p, is, steady))) (inr bad) =
        stays_bad (λ frame. Forms.let_tuples (plan_mean p) (at_tuple frame)) (ap plan_clause_mean is ∙ plan_eq.clause-Let p) (let_pointwise (plan_mean p)) bad
    next_spread (inr (inr (p, is, test))) (inr bad) =
        stays_bad (λ frame. Forms.where_tuples (plan_mean p) (at_tuple frame)) (ap plan_clause_mean is ∙ plan_eq.clause-Where p) (where_pointwise (plan_mean p)) bad
    next_spread (inl (empties, at, p, is, inl nodes)) (inl (uss, good, w)) =
        sure_spread (λ frame. Forms.for_tuples empties at (plan_mean p) (at_tuple frame)) (ap plan_clause_mean is ∙ plan_eq.clause-For empties at p) (for_pointwise empties at (plan_mean p))
        uss good w (nodes_at p nodes (spread ts uss) w)
    next_spread (inl (empties, at, p, is, inr outside)) (inl (uss, good, w)) =
        let own = outside_at p outside in
        alike_spread (λ frame. Forms.for_tuples empties at (plan_mean p) (at_tuple frame)) (ap plan_clause_mean is ∙ plan_eq.clause-For empties at p) (for_pointwise empties at (plan_mean p))
        uss good w own.0 own.1
    next_spread (inr (inl (p, is, inl nodes))) (inl (uss, good, w)) =
        sure_spread (λ frame. Forms.let_tuples (plan_mean p) (at_tuple frame)) (ap plan_clause_mean is ∙ plan_eq.clause-Let p) (let_pointwise (plan_mean p))
        uss good w (nodes_at p nodes (spread ts uss) w)
    next_spread (inr (inl (p, is, inr outside))) (inl (uss, good, w)) =
        let own = outside_at p outside in
        alike_spread (λ frame. Forms.let_tuples (plan_mean p) (at_tuple frame)) (ap plan_clause_mean is ∙ plan_eq.clause-Let p) (let_pointwise (plan_mean p))
        uss good w own.0 own.1
    next_spread (inr (inr (p, is, test))) (inl (uss, good, w)) =
        sure_spread (λ frame. Forms.where_tuples (plan_mean p) (at_tuple frame)) (ap plan_clause_mean is ∙ plan_eq.clause-Where p) (where_pointwise (plan_mean p))
        uss good w (tests_at p test (spread ts uss) w)

pub steadily_next : (outer : ℕ) (known held last : List Held) (list : List PlanClause) (i : ℕ) (c : PlanClause) → i < length list → c ≡ get_or list i c →
    Steadily outer known held (take i list) → IsSteady held outer c → SameMany outer held c (c ∷ []) last → Extends outer held last →
    Steadily outer known last (take (i + 1) list)
steadily_next outer known held last list i c within at before steady follow outside =
    subst (Steadily outer known last) (sym (next_taken list i c within at))
    (record {
      within = outside.within;
      spreads = λ slots focus addresses long ts f w.
          next_spread outer known held last (take i list) c before follow slots focus addresses long ts f steady (before.spreads slots focus addresses long ts f w);
    })

-- what they return
pub steadily_steady : (outer : ℕ) (known held : List Held) (cs : List PlanClause) → Steadily outer known held cs → AreSteady outer known cs
steadily_steady outer known held cs h part leaves slots focus addresses long ts f w =
    let frame = frame_of slots focus addresses in
    ap (λ m. collected (λ t. m (at_tuple frame t)) ts f) (plan_eq.plan-Flwor cs part)
    ∙ by (h.spreads slots focus addresses long ts f w)
  where
    by : ((uss : List (List (Tuple Item))) × Good (frame_of slots focus addresses) f (map plan_clause_mean cs) ts uss × AllFit held slots (spread ts uss))
        ⊎ Bad (frame_of slots focus addresses) f (map plan_clause_mean cs) ts →
        collected (λ t g. go_on (in_turn (next_clause (at_tuple (frame_of slots focus addresses) t)) ([] ∷ []) (map plan_clause_mean cs) g)
        (λ us. collected (λ u. plan_mean part (at_tuple (at_tuple (frame_of slots focus addresses) t) u)) us)) ts f
        ≡ go_on (in_turn (next_clause (frame_of slots focus addresses)) ts (map plan_clause_mean cs) f)
        (λ us. collected (λ u. plan_mean part (at_tuple (frame_of slots focus addresses) u)) us)
    by (inl (uss, good, fits)) = good_returned (frame_of slots focus addresses) f (map plan_clause_mean cs) (plan_mean part) leaves ts uss good
    by (inr bad) = bad_returned (frame_of slots focus addresses) f (map plan_clause_mean cs) (plan_mean part) leaves ts bad
