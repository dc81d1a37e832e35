-- A `let` at the end of the clauses that the part which is returned doesn't read may be left out.
use Rattle.std.proofs.Common.{◌≡◌, List, [], ◌∷◌, ◌++◌, map, length, Ok, Err, refl, sym, ap, ◌∙◌, subst, inr}
use Rattle.std.specs.Prelude.{Option}
use Rattle.std.proofs.lemmas.List.{append_assoc, append-nil, map-append}
use Rattle.xq_atoms.specs.Text.{Text}
use Rattle.xq_trees.specs.Tree.{Tree}
use Rattle.xq_trees.specs.Tuples.{Tuple, bound}
use Rattle.xq_meaning.specs.declared.plans.Plan.{Plan}
use Rattle.xq_meaning.specs.declared.plans.Plan.TheVariants as plan
use Rattle.xq_meaning.specs.declared.plans.PlanClause.{PlanClause}
use Rattle.xq_meaning.specs.declared.plans.PlanClause.TheVariants as clause
use Rattle.xq_meaning.specs.Doing.{Doing, Outcome, go_on, in_turn}
use Rattle.xq_meaning.specs.Forms
use Rattle.xq_meaning.specs.Functions.{Focus}
use Rattle.xq_meaning.specs.Items.{Item}
use Rattle.xq_meaning.specs.PlanMeaning.{Slots, Frame, at_tuple, next_clause, plan_mean, plan_clause_mean}
use Rattle.xq_meaning.specs.Same.{frame_of}
use Rattle.xq_meaning.proofs.PlanEquations as plan_eq
use Rattle.xq_meaning.proofs.SameForms.{AreRelated, collected_same}
use Rattle.xq_meaning.proofs.Turns.{last_turn}
use Rattle.xq_optimise.specs.declared.held.Held.{Held}
use Rattle.xq_optimise.specs.Known.{Fits}
use Rattle.xq_optimise.specs.Same.{GivesSame}
use Rattle.xq_optimise.specs.Sure.{SurelyNodes}
use Rattle.xq_optimise.specs.private.Joins.{ReadsOutside}
use Rattle.xq_optimise.specs.private.Parts.{AllFit, AreAll, Follows, GivesFitting, SameClauses}
use Rattle.xq_optimise.proofs.Fitting.{fits_length}
use Rattle.xq_optimise.proofs.Rising.{let_told, values}

module _ (last : List Held) (slots : Slots) (focus : Option Focus) (addresses : List Text) (part : Plan) (outside : ReadsOutside (length last) part) where
  abbrev frame : Frame
  frame = frame_of slots focus addresses

  -- at each tuple the part is the same with a slot more
  each_returned : (R : Tuple Item → List Item → Type 0) (ts : List (Tuple Item)) (vs : List (List Item)) → AreAll R ts vs → AllFit last slots ts →
      AreRelated (λ x y. (f : List Tree) → plan_mean part (at_tuple frame x) f ≡ plan_mean part (at_tuple frame y) f) (bound ts vs) ts
  each_returned R [] [] h w = tt
  each_returned R [] (v ∷ vs) h w = absurd h
  each_returned R (t ∷ ts) [] h w = absurd h
  each_returned R (t ∷ ts) (v ∷ vs) h w = (
    (λ f.
        ap (λ env. plan_mean part (frame_of env focus addresses) f) (sym (append_assoc slots t (v ∷ [])))
        ∙ outside (slots ++ t) (v ∷ []) focus addresses f (inr (sym (fits_length last (slots ++ t) w.0)))),
    each_returned R ts vs h.1 w.1,
  )

  returned : (R : Tuple Item → List Item → Type 0) (ts : List (Tuple Item)) (vs : List (List Item)) → AreAll R ts vs → AllFit last slots ts → (f : List Tree) →
      Forms.return_of (plan_mean part) (at_tuple frame) (bound ts vs) f ≡ Forms.return_of (plan_mean part) (at_tuple frame) ts f
  returned R ts vs h w f = collected_same (λ t. plan_mean part (at_tuple frame t)) (λ t. plan_mean part (at_tuple frame t)) (bound ts vs) ts (each_returned R ts vs h w) f

module _ (known last : List Held) (cs ds : List PlanClause) (same : SameClauses (length known) known cs ds last)
    (slots : Slots) (focus : Option Focus) (addresses : List Text) (f : List Tree) (fits : Fits known slots) where
  abbrev outer : Frame
  outer = frame_of slots focus addresses

  follows : Follows last slots (in_turn (next_clause outer) ([] ∷ []) (map plan_clause_mean cs) f) (in_turn (next_clause outer) ([] ∷ []) (map plan_clause_mean ds) f)
  follows = same slots focus addresses (fits_length known slots fits) ([] ∷ []) f (subst (Fits known) (sym (append-nil slots)) fits, tt)

  -- with one more clause
  one_more_clause : (es : List PlanClause) (c : PlanClause) → in_turn (next_clause outer) ([] ∷ []) (map plan_clause_mean (es ++ c ∷ [])) f
      ≡ go_on (in_turn (next_clause outer) ([] ∷ []) (map plan_clause_mean es) f) (λ n. plan_clause_mean c outer n)
  one_more_clause es c =
      ap (λ ms. in_turn (next_clause outer) ([] ∷ []) ms f) (map-append plan_clause_mean es (c ∷ []))
      ∙ last_turn (next_clause outer) ([] ∷ []) (map plan_clause_mean es) (plan_clause_mean c) f

pub drop_last : (known last : List Held) (cs ds all : List PlanClause) (v part : Plan) → all ≡ cs ++ clause.Let v ∷ [] → SameClauses (length known) known cs ds last → SurelyNodes last v →
    ReadsOutside (length last) part → GivesSame known (plan.Flwor all part) (plan.Flwor ds part)
drop_last known last cs ds all v part is same nodes outside slots focus addresses f fits =
    ap (λ m. m frame f) (plan_eq.plan-Flwor ds part)
    ∙ ap (λ o. go_on o returned_by) moves.same
    ∙ by (in_turn (next_clause frame) ([] ∷ []) (map plan_clause_mean cs) f) moves.fits
    ∙ sym (ap (λ l. plan_mean (plan.Flwor l part) frame f) is
    ∙ ap (λ m. m frame f) (plan_eq.plan-Flwor (cs ++ clause.Let v ∷ []) part)
    ∙ ap (λ o. go_on o returned_by) (one_more_clause known last cs ds same slots focus addresses f fits cs (clause.Let v)))
  where
    frame : Frame
    frame = frame_of slots focus addresses

    returned_by : List (Tuple Item) → Doing (List Item)
    returned_by tuples = Forms.return_of (plan_mean part) (at_tuple (frame_of slots focus addresses)) tuples

    moves : Follows last slots (in_turn (next_clause (frame_of slots focus addresses)) ([] ∷ []) (map plan_clause_mean cs) f) (in_turn (next_clause (frame_of slots focus addresses)) ([] ∷ []) (map plan_clause_mean ds) f)
    moves = follows known last cs ds same slots focus addresses f fits

    by : (o : Outcome (List (Tuple Item))) → GivesFitting last slots o →
        go_on o (λ tuples. Forms.return_of (plan_mean part) (at_tuple (frame_of slots focus addresses)) tuples)
        ≡ go_on (go_on o (λ n. plan_clause_mean (clause.Let v) (frame_of slots focus addresses) n)) (λ tuples. Forms.return_of (plan_mean part) (at_tuple (frame_of slots focus addresses)) tuples)
    by (Ok ts, g) w =
        let vs = values last slots focus addresses g v nodes ts w in
        sym (returned last slots focus addresses part outside _ ts vs.0 vs.1 w g)
        ∙ sym (ap (λ o. go_on o (λ tuples. Forms.return_of (plan_mean part) (at_tuple (frame_of slots focus addresses)) tuples)) (let_told last slots focus addresses g v ts vs.0 vs.1))
    by (Err code, g) w = refl

pub keep_last : (known last : List Held) (cs ds all more : List PlanClause) (c : PlanClause) (part : Plan) → all ≡ cs ++ c ∷ [] → more ≡ ds ++ c ∷ [] → SameClauses (length known) known cs ds last →
    GivesSame known (plan.Flwor all part) (plan.Flwor more part)
keep_last known last cs ds all more c part is at same slots focus addresses f fits =
    let frame = frame_of slots focus addresses in
    let return = λ (tuples : List (Tuple Item)). Forms.return_of (plan_mean part) (at_tuple frame) tuples in
    ap (λ l. plan_mean (plan.Flwor l part) frame f) at
    ∙ ap (λ m. m frame f) (plan_eq.plan-Flwor (ds ++ c ∷ []) part)
    ∙ ap (λ o. go_on o return)
    (one_more_clause known last cs ds same slots focus addresses f fits ds c
    ∙ ap (λ o. go_on o (λ n. plan_clause_mean c frame n)) (follows known last cs ds same slots focus addresses f fits).same
    ∙ sym (one_more_clause known last cs ds same slots focus addresses f fits cs c))
    ∙ sym (ap (λ l. plan_mean (plan.Flwor l part) frame f) is
    ∙ ap (λ m. m frame f) (plan_eq.plan-Flwor (cs ++ c ∷ []) part))
