-- Clauses over tuples of slots follow the clauses over streams of names.
use Rattle.std.proofs.Common.{◌≡◌, ℕ, ◌+◌, List, [], ◌∷◌, ◌++◌, map, length, Option, Some, None, Ok, Err, refl, sym, ap, ◌∙◌, subst}
use Rattle.std.specs.List.{AllByRecursion}
use Rattle.std.proofs.lemmas.List.{length-append, map-append}
use Rattle.xq_atoms.specs.Text.{Text}
use Rattle.xq_atoms.specs.declared.refusals.Code.{Code}
use Rattle.xq_expressions.specs.declared.operators.AllowingEmpty.{AllowingEmpty}
use Rattle.xq_expressions.specs.declared.operators.OrderModifier.{OrderModifier}
use Rattle.xq_trees.specs.Tree.{Tree}
use Rattle.xq_trees.specs.Tuples.{Tuple}
use Rattle.xq_meaning.specs.Items.{Item}
use Rattle.xq_meaning.specs.Arguments.{each}
use Rattle.xq_meaning.specs.Functions.{Focus}
use Rattle.xq_meaning.specs.declared.normal_forms.Core.{Core}
use Rattle.xq_meaning.specs.declared.normal_forms.Core.TheVariants as core
use Rattle.xq_meaning.specs.declared.normal_forms.CoreClause.{CoreClause}
use Rattle.xq_meaning.specs.declared.normal_forms.CoreClause.TheVariants as clause
use Rattle.xq_meaning.specs.declared.plans.Plan.{Plan}
use Rattle.xq_meaning.specs.declared.plans.Plan.TheVariants as plan
use Rattle.xq_meaning.specs.declared.plans.PlanClause.{PlanClause}
use Rattle.xq_meaning.specs.declared.plans.PlanClause.TheVariants as plan_clause
use Rattle.xq_meaning.specs.Doing.{Doing, Outcome, go_on, give, judged, in_turn}
use Rattle.xq_meaning.specs.Forms
use Rattle.xq_meaning.specs.Meaning.{Environment, Stream, ClauseMeaning, named, clauses, slot_of, position_name, is_asked}
use Rattle.xq_meaning.specs.Meaning as meaning
use Rattle.xq_meaning.specs.CoreMeaning.{core_mean, core_clause_mean}
use Rattle.xq_meaning.specs.PlanMeaning.{Slots, next_clause, plan_mean, plan_clause_mean}
use Rattle.xq_meaning.specs.PlanMeaning as slots_meaning
use Rattle.xq_meaning.specs.Same.{IsPlan, frame_of, environment}
use Rattle.xq_meaning.proofs.CoreEquations as core_eq
use Rattle.xq_meaning.proofs.PlanEquations as plan_eq
use Rattle.xq_meaning.proofs.Turns.{last_turn}
use Rattle.xq_meaning.proofs.SameForms.{AreRelated, for_tuples_same, let_tuples_same, where_tuples_same, order_tuples_same, return_same, SameAt, SameKey, SameModifier}
use Rattle.xq_plan.specs.private.Plans.{AreAll, IsKey, AreWide, GivesWide, with_names, Follows, ClauseLeads, ClausesLead}
use Rattle.xq_plan.proofs.Environments.{open_more, as_long}
use Rattle.xq_plan.proofs.Forms.{related_map}
use Rattle.xq_plan.proofs.Widths.{more_slots, for_wide, let_wide, where_wide, order_wide, count_wide, group_wide}

-- # One after another

named_is : (names : List Text) (o : Outcome (List (Tuple Item))) →
    go_on o (λ tuples. give (record { names = names; tuples = tuples })) ≡ with_names names o
named_is names (Ok tuples, f) = refl
named_is names (Err code, f) = refl

follows_then : (mid last : List Text) (s : Outcome Stream) (o : Outcome (List (Tuple Item)))
    (k : Stream → Doing Stream) (l : List (Tuple Item) → Doing (List (Tuple Item))) → Follows mid s o →
    ((tuples : List (Tuple Item)) (f : List Tree) → AreWide (length mid) tuples →
    Follows last (k (record { names = mid; tuples = tuples }) f) (l tuples f)) →
    Follows last (go_on s k) (go_on o l)
follows_then mid last s (Ok tuples, f) k l h next =
    subst (λ x. Follows last (go_on x k) (l tuples f)) (sym h.same) (next tuples f h.wide)
follows_then mid last s (Err code, f) k l h next =
    record { same = ap (λ x. go_on x k) h.same; wide = tt }

-- # The frame of a tuple

module _ (outer own : List Text) (slots : Slots) (focus : Option Focus) (addresses : List Text) (h : length slots ≡ length outer) where
  abbrev slots_at : Tuple Item → Forms.Frame Slots
  slots_at = slots_meaning.at_tuple (frame_of slots focus addresses)

  abbrev names_at : Tuple Item → Forms.Frame Environment
  names_at = meaning.at_tuple (frame_of (environment outer slots) focus addresses) own

  pub at_one : (c : Core) (p : Plan) → IsPlan (outer ++ own) c p → (t : Tuple Item) → length t ≡ length own →
      SameAt slots_at names_at (plan_mean p) (core_mean c) t
  at_one c p is t k f =
      is (slots ++ t) focus addresses f (as_long outer own slots t h k)
      ∙ ap (λ e. core_mean c (frame_of e focus addresses) f) (open_more outer slots own t h)

  pub at_all : (c : Core) (p : Plan) → IsPlan (outer ++ own) c p → (tuples : List (Tuple Item)) →
      AreWide (length own) tuples → AllByRecursion (SameAt slots_at names_at (plan_mean p) (core_mean c)) tuples
  at_all c p is [] k = tt
  at_all c p is (t ∷ ts) k = (at_one c p is t k.0, at_all c p is ts k.1)

  abbrev KeysAt : List (Core × OrderModifier) → List (Plan × OrderModifier) → Tuple Item → Type 0
  KeysAt cs ps t =
      AreRelated (SameKey slots_at names_at t) (map (λ (x : Plan × OrderModifier). (plan_mean x.0, x.1)) ps) (map (λ (x : Core × OrderModifier). (core_mean x.0, x.1)) cs)

  pub keys_at : (cs : List (Core × OrderModifier)) (ps : List (Plan × OrderModifier)) →
      AreAll (IsKey (outer ++ own)) cs ps → (tuples : List (Tuple Item)) → AreWide (length own) tuples →
      AllByRecursion (KeysAt cs ps) tuples
  keys_at cs ps all [] k = tt
  keys_at cs ps all (t ∷ ts) k = (
    related_map (IsKey (outer ++ own)) (SameKey slots_at names_at t) (λ (x : Core × OrderModifier). (core_mean x.0, x.1)) (λ (x : Plan × OrderModifier). (plan_mean x.0, x.1))
        (λ x y is. at_one x.0 y.0 is.0 t k.0) cs ps all,
    keys_at cs ps all ts k.1,
  )

  pub modifiers_at : (cs : List (Core × OrderModifier)) (ps : List (Plan × OrderModifier)) →
      AreAll (IsKey (outer ++ own)) cs ps →
      AreRelated (SameModifier slots_at names_at) (map (λ (x : Plan × OrderModifier). (plan_mean x.0, x.1)) ps) (map (λ (x : Core × OrderModifier). (core_mean x.0, x.1)) cs)
  modifiers_at cs ps all =
      related_map (IsKey (outer ++ own)) (SameModifier slots_at names_at) (λ (x : Core × OrderModifier). (core_mean x.0, x.1)) (λ (x : Plan × OrderModifier). (plan_mean x.0, x.1))
      (λ x y is. is.1) cs ps all

-- # The clauses

module _ (outer own : List Text) where
  -- by the meanings of a clause over names and over slots
  by_clause : (found : List Text) (c : CoreClause) (p : PlanClause) (m : ClauseMeaning)
      (q : slots_meaning.ClauseMeaning) → core_clause_mean c ≡ m → plan_clause_mean p ≡ q →
      ((slots : Slots) (focus : Option Focus) (addresses : List Text) → length slots ≡ length outer →
      (tuples : List (Tuple Item)) (trees : List Tree) → AreWide (length own) tuples →
      Follows found (m (frame_of (environment outer slots) focus addresses) (record { names = own; tuples = tuples }) trees)
      (q (frame_of slots focus addresses) tuples trees)) →
      ClauseLeads outer own found c p
  by_clause found c p m q ec ep h slots focus addresses l tuples trees w =
      subst (λ k. Follows found (core_clause_mean c (frame_of (environment outer slots) focus addresses) (record { names = own; tuples = tuples }) trees) (k (frame_of slots focus addresses) tuples trees)) (sym ep)
      (subst (λ k. Follows found (k (frame_of (environment outer slots) focus addresses) (record { names = own; tuples = tuples }) trees) (q (frame_of slots focus addresses) tuples trees)) (sym ec)
      (h slots focus addresses l tuples trees w))

  names_more : (more : List Text) (n : ℕ) (o : Outcome (List (Tuple Item))) → length more ≡ n →
      GivesWide (length own + n) o → GivesWide (length (own ++ more)) o
  names_more more n o e w =
      subst (λ k. GivesWide k o) (ap (λ k. length own + k) (sym e) ∙ sym (length-append own more)) w

  slots_for : (at : Option Text) (v : Text) → length (v ∷ position_name at) ≡ more_slots (is_asked at)
  slots_for None v = refl
  slots_for (Some w) v = refl

  pub for_leads : (v : Text) (empties : AllowingEmpty) (at : Option Text) (c : Core) (p : Plan) → IsPlan (outer ++ own) c p →
      ClauseLeads outer own (own ++ v ∷ position_name at) (clause.For v empties at c) (plan_clause.For empties (is_asked at) p)
  for_leads v empties at c p is =
      by_clause (own ++ v ∷ position_name at) (clause.For v empties at c) (plan_clause.For empties (is_asked at) p) _ _ (core_eq.clause-For v empties at c) (plan_eq.clause-For empties (is_asked at) p)
      (λ slots focus addresses l tuples trees w.
      let made = Forms.for_tuples empties (is_asked at) (plan_mean p) (slots_at outer own slots focus addresses l) tuples trees in
      record {
        same =
            named_is (own ++ v ∷ position_name at) (Forms.for_tuples empties (is_asked at) (core_mean c) (names_at outer own slots focus addresses l) tuples trees)
            ∙ ap (with_names (own ++ v ∷ position_name at)) (sym (for_tuples_same (slots_at outer own slots focus addresses l) (names_at outer own slots focus addresses l) empties (is_asked at) (plan_mean p) (core_mean c) tuples (at_all outer own slots focus addresses l c p is tuples w) trees));
        wide = names_more (v ∷ position_name at) (more_slots (is_asked at)) made (slots_for at v) (for_wide (length own) (slots_at outer own slots focus addresses l) tuples w empties (is_asked at) (plan_mean p) trees);
      })

  pub let_leads : (v : Text) (c : Core) (p : Plan) → IsPlan (outer ++ own) c p →
      ClauseLeads outer own (own ++ v ∷ []) (clause.Let v c) (plan_clause.Let p)
  let_leads v c p is =
      by_clause (own ++ v ∷ []) (clause.Let v c) (plan_clause.Let p) _ _ (core_eq.clause-Let v c) (plan_eq.clause-Let p)
      (λ slots focus addresses l tuples trees w.
      record {
        same =
            named_is (own ++ v ∷ []) (Forms.let_tuples (core_mean c) (names_at outer own slots focus addresses l) tuples trees)
            ∙ ap (with_names (own ++ v ∷ [])) (sym (let_tuples_same (slots_at outer own slots focus addresses l) (names_at outer own slots focus addresses l) (plan_mean p) (core_mean c) tuples (at_all outer own slots focus addresses l c p is tuples w) trees));
        wide = names_more (v ∷ []) 1 (Forms.let_tuples (plan_mean p) (slots_at outer own slots focus addresses l) tuples trees) refl (let_wide (length own) (slots_at outer own slots focus addresses l) tuples w (plan_mean p) trees);
      })

  pub where_leads : (c : Core) (p : Plan) → IsPlan (outer ++ own) c p →
      ClauseLeads outer own own (clause.Where c) (plan_clause.Where p)
  where_leads c p is =
      by_clause own (clause.Where c) (plan_clause.Where p) _ _ (core_eq.clause-Where c) (plan_eq.clause-Where p)
      (λ slots focus addresses l tuples trees w.
      record {
        same =
            named_is own (Forms.where_tuples (core_mean c) (names_at outer own slots focus addresses l) tuples trees)
            ∙ ap (with_names own) (sym (where_tuples_same (slots_at outer own slots focus addresses l) (names_at outer own slots focus addresses l) (plan_mean p) (core_mean c) tuples (at_all outer own slots focus addresses l c p is tuples w) trees));
        wide = where_wide (length own) (slots_at outer own slots focus addresses l) tuples w (plan_mean p) trees;
      })

  pub order_leads : (cs : List (Core × OrderModifier)) (ps : List (Plan × OrderModifier)) →
      AreAll (IsKey (outer ++ own)) cs ps → ClauseLeads outer own own (clause.Order cs) (plan_clause.Order ps)
  order_leads cs ps all =
      by_clause own (clause.Order cs) (plan_clause.Order ps) _ _ (core_eq.clause-Order cs) (plan_eq.clause-Order ps)
      (λ slots focus addresses l tuples trees w.
      record {
        same =
            named_is own (Forms.order_tuples (map (λ (x : Core × OrderModifier). (core_mean x.0, x.1)) cs) (names_at outer own slots focus addresses l) tuples trees)
            ∙ ap (with_names own) (sym (order_tuples_same (slots_at outer own slots focus addresses l) (names_at outer own slots focus addresses l)
            (map (λ (x : Plan × OrderModifier). (plan_mean x.0, x.1)) ps) (map (λ (x : Core × OrderModifier). (core_mean x.0, x.1)) cs) tuples
            (modifiers_at outer own slots focus addresses l cs ps all) (keys_at outer own slots focus addresses l cs ps all tuples w) trees));
        wide = order_wide (length own) (slots_at outer own slots focus addresses l) tuples w (map (λ (x : Plan × OrderModifier). (plan_mean x.0, x.1)) ps) trees;
      })

  pub count_leads : (v : Text) → ClauseLeads outer own (own ++ v ∷ []) (clause.Count v) plan_clause.Count
  count_leads v =
      by_clause (own ++ v ∷ []) (clause.Count v) plan_clause.Count _ _ (core_eq.clause-Count v) plan_eq.clause-Count
      (λ slots focus addresses l tuples trees w.
      record {
        same = named_is (own ++ v ∷ []) (Forms.count_tuples tuples trees);
        wide = names_more (v ∷ []) 1 (Forms.count_tuples tuples trees) refl (count_wide (length own) tuples trees w);
      })

  pub group_leads : (vs : List Text) (found : List ℕ) → each (slot_of own) vs ≡ Ok found →
      ClauseLeads outer own own (clause.Group vs) (plan_clause.Group found)
  group_leads vs found is =
      by_clause own (clause.Group vs) (plan_clause.Group found) _ _ (core_eq.clause-Group vs) (plan_eq.clause-Group found)
      (λ slots focus addresses l tuples trees w.
      record {
        same =
            ap (λ r. go_on (judged r trees) (λ numbers. named own (Forms.group_tuples numbers tuples))) is
            ∙ named_is own (Forms.group_tuples found tuples trees);
        wide = group_wide (length own) found tuples trees w;
      })

  pub refused_leads : (vs : List Text) (code : Code) → each (slot_of own) vs ≡ Err code →
      ClauseLeads outer own own (clause.Group vs) (plan_clause.Refused code)
  refused_leads vs code is =
      by_clause own (clause.Group vs) (plan_clause.Refused code) _ _ (core_eq.clause-Group vs) (plan_eq.clause-Refused code)
      (λ slots focus addresses l tuples trees w.
      record {
        same = ap (λ r. go_on (judged r trees) (λ numbers. named own (Forms.group_tuples numbers tuples))) is;
        wide = tt;
      })

-- # Clauses one after another

pub none_lead : (outer own : List Text) → ClausesLead outer own own [] []
none_lead outer own slots focus addresses l tuples trees w = record { same = refl; wide = w }

pub one_leads_more : (outer own mid last : List Text) (cs : List CoreClause) (ps : List PlanClause)
    (c : CoreClause) (p : PlanClause) → ClausesLead outer own mid cs ps → ClauseLeads outer mid last c p →
    ClausesLead outer own last (cs ++ c ∷ []) (ps ++ p ∷ [])
one_leads_more outer own mid last cs ps c p before next slots focus addresses l tuples trees w =
    let frame = frame_of (environment outer slots) focus addresses in
    let frame' = frame_of slots focus addresses in
    let start : Stream = record { names = own; tuples = tuples } in
    subst (λ o. Follows last (clauses (map core_clause_mean (cs ++ c ∷ [])) frame start trees) o)
    (sym (ap (λ qs. in_turn (next_clause frame') tuples qs trees) (map-append plan_clause_mean ps (p ∷ [])) ∙ last_turn (next_clause frame') tuples (map plan_clause_mean ps) (plan_clause_mean p) trees))
    (subst (λ s. Follows last s (go_on (in_turn (next_clause frame') tuples (map plan_clause_mean ps) trees) (λ n. next_clause frame' n (plan_clause_mean p))))
    (sym (ap (λ ms. clauses ms frame start trees) (map-append core_clause_mean cs (c ∷ [])) ∙ last_turn (meaning.next_clause frame) start (map core_clause_mean cs) (core_clause_mean c) trees))
    (follows_then mid last (clauses (map core_clause_mean cs) frame start trees) (in_turn (next_clause frame') tuples (map plan_clause_mean ps) trees)
    (λ s. meaning.next_clause frame s (core_clause_mean c)) (λ n. next_clause frame' n (plan_clause_mean p))
    (before slots focus addresses l tuples trees w)
    (λ ts g wide. next slots focus addresses l ts g wide)))

-- # The whole expression

pub flwor_plan : (outer own : List Text) (cs : List CoreClause) (ps : List PlanClause) (c : Core) (p : Plan) →
    ClausesLead outer [] own cs ps → IsPlan (outer ++ own) c p → IsPlan outer (core.Flwor cs c) (plan.Flwor ps p)
flwor_plan outer own cs ps c p lead is slots focus addresses trees l =
    let frame = frame_of (environment outer slots) focus addresses in
    let frame' = frame_of slots focus addresses in
    let h = lead slots focus addresses l ([] ∷ []) trees (refl, tt) in
    ap (λ k. k frame' trees) (plan_eq.plan-Flwor ps p)
    ∙ returned outer own slots focus addresses l c p is (clauses (map core_clause_mean cs) frame meaning.first_stream trees) (in_turn (next_clause frame') ([] ∷ []) (map plan_clause_mean ps) trees) h
    ∙ sym (ap (λ k. k frame trees) (core_eq.core-Flwor cs c))
  where
    returned : (outer own : List Text) (slots : Slots) (focus : Option Focus) (addresses : List Text) (l : length slots ≡ length outer) (c : Core) (p : Plan) → IsPlan (outer ++ own) c p →
        (s : Outcome Stream) (o : Outcome (List (Tuple Item))) → Follows own s o →
        go_on o (λ tuples. Forms.return_of (plan_mean p) (slots_at outer own slots focus addresses l) tuples)
        ≡ go_on s (λ t. Forms.return_of (core_mean c) (meaning.at_tuple (frame_of (environment outer slots) focus addresses) t.names) t.tuples)
    returned outer own slots focus addresses l c p is s (Ok tuples, f) h =
        return_same (slots_at outer own slots focus addresses l) (names_at outer own slots focus addresses l) (plan_mean p) (core_mean c) tuples (at_all outer own slots focus addresses l c p is tuples h.wide) f
        ∙ ap (λ x. go_on x (λ t. Forms.return_of (core_mean c) (meaning.at_tuple (frame_of (environment outer slots) focus addresses) t.names) t.tuples)) (sym h.same)
    returned outer own slots focus addresses l c p is s (Err code, f) h =
        ap (λ x. go_on x (λ t. Forms.return_of (core_mean c) (meaning.at_tuple (frame_of (environment outer slots) focus addresses) t.names) t.tuples)) (sym h.same)
