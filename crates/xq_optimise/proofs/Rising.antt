-- Two clauses that can't be refused give the same in either order.
use Rattle.std.proofs.Common.{◌≡◌, ℕ, ◌≤◌, List, [], ◌∷◌, ◌++◌, map, reverse, length, Bool, true, false, Ok, Err, refl, sym, ap, ◌∙◌, subst, inl, inr, arith}
use Rattle.std.specs.Prelude.{Option}
use Rattle.std.specs.List.{AllByRecursion}
use Rattle.std.proofs.lemmas.List.{append_assoc, append-nil, length-append, reverse-append, reverse-reverse, map-append}
use Rattle.xq_atoms.specs.Text.{Text}
use Rattle.xq_atoms.specs.declared.refusals.Code.{Code}
use Rattle.xq_expressions.specs.declared.operators.AllowingEmpty.{AllowingEmpty}
use Rattle.xq_expressions.specs.declared.operators.OrderModifier.{OrderModifier}
use Rattle.xq_trees.specs.Tree.{Tree}
use Rattle.xq_expressions.specs.declared.operators.AllowingEmpty.TheVariants as allowing
use Rattle.xq_trees.specs.Tuples.{Tuple, satisfying, bound, expanded}
use Rattle.xq_trees.proofs.Lists.{all_append}
use Rattle.xq_meaning.specs.declared.plans.Plan.{Plan}
use Rattle.xq_meaning.specs.declared.plans.Plan.TheVariants as plan
use Rattle.xq_meaning.specs.declared.plans.PlanClause.{PlanClause}
use Rattle.xq_meaning.specs.declared.plans.PlanClause.TheVariants as clause
use Rattle.xq_meaning.specs.Arguments.{effective}
use Rattle.xq_meaning.specs.Doing.{Doing, Outcome, go_on, give, judged, in_turn}
use Rattle.xq_meaning.specs.Forms
use Rattle.xq_meaning.specs.Functions.{Focus}
use Rattle.xq_meaning.specs.Items.{Item, Node, Atom}
use Rattle.xq_meaning.specs.PlanMeaning.{Slots, Frame, at_tuple, next_clause, plan_mean, plan_clause_mean}
use Rattle.xq_meaning.specs.Same.{frame_of}
use Rattle.xq_meaning.proofs.PlanEquations as plan_eq
use Rattle.xq_meaning.proofs.Turns.{go_on_give, in_turn-append}
use Rattle.xq_optimise.specs.declared.held.Held.{Held}
use Rattle.xq_optimise.specs.declared.held.Held.TheVariants.{Nodes, Anything}
use Rattle.xq_optimise.specs.Known.{Fits}
use Rattle.xq_optimise.specs.Same.{GivesSame}
use Rattle.xq_optimise.specs.Sure.{SurelyTells, SurelyNodes, ReadsBelow, IsTest}
use Rattle.xq_optimise.specs.private.Parts.{AreAll, AllFit, IsHeld, GivesHeld, GivesFitting, SameClause, SameMany, SameKey, Extends, with_position, forgotten, each_of}
use Rattle.xq_optimise.specs.private.Order.{Rises, IsOver, IsPassed, SameRest, SameTurns, SameBehind, TakesBack}
use Rattle.xq_optimise.proofs.Fitting.{fits_length}
use Rattle.xq_optimise.proofs.Flwor.{itself_follows, one_follows, for_follows, let_follows, where_follows, order_follows, count_follows, group_follows, refused_follows}
use Rattle.xq_optimise.proofs.Loops.{Leads, leads_next, extends_itself, extends_then}
use Rattle.xq_optimise.proofs.Conjuncts.{Tells, each_told, test_at, answers, where_told}
use Rattle.xq_optimise.proofs.Rows.{expanded_next, pairs_append, row, rows_satisfy, spread}

-- # Lists

-- what is told of each is told of those that are kept
kept_told : {A B : Type 0} (R : A → B → Type 0) (xs : List A) (ys : List B) (bs : List Bool) → AreAll R xs ys →
    AreAll R (satisfying xs bs) (satisfying ys bs)
kept_told R [] [] bs h = tt
kept_told R [] (y ∷ ys) bs h = absurd h
kept_told R (x ∷ xs) [] bs h = absurd h
kept_told R (x ∷ xs) (y ∷ ys) [] h = tt
kept_told R (x ∷ xs) (y ∷ ys) (false ∷ bs) h = kept_told R xs ys bs h.1
kept_told R (x ∷ xs) (y ∷ ys) (true ∷ bs) h = (h.0, kept_told R xs ys bs h.1)

kept_twice : {A : Type 0} (R S : A → Bool → Type 0) (xs : List A) (bs cs : List Bool) → AreAll R xs bs → AreAll S xs cs →
    satisfying (satisfying xs bs) (satisfying cs bs) ≡ satisfying (satisfying xs cs) (satisfying bs cs)
kept_twice R S [] [] [] h k = refl
kept_twice R S [] [] (c ∷ cs) h k = absurd k
kept_twice R S [] (b ∷ bs) cs h k = absurd h
kept_twice R S (x ∷ xs) [] cs h k = absurd h
kept_twice R S (x ∷ xs) (b ∷ bs) [] h k = absurd k
kept_twice R S (x ∷ xs) (false ∷ bs) (false ∷ cs) h k = kept_twice R S xs bs cs h.1 k.1
kept_twice R S (x ∷ xs) (false ∷ bs) (true ∷ cs) h k = kept_twice R S xs bs cs h.1 k.1
kept_twice R S (x ∷ xs) (true ∷ bs) (false ∷ cs) h k = kept_twice R S xs bs cs h.1 k.1
kept_twice R S (x ∷ xs) (true ∷ bs) (true ∷ cs) h k = ap (λ l. x ∷ l) (kept_twice R S xs bs cs h.1 k.1)

bound_kept : (R : Tuple Item → List Item → Type 0) (S : Tuple Item → Bool → Type 0) (ts : List (Tuple Item)) (vs : List (List Item)) (bs : List Bool) → AreAll R ts vs → AreAll S ts bs →
    bound (satisfying ts bs) (satisfying vs bs) ≡ satisfying (bound ts vs) bs
bound_kept R S [] [] [] h k = refl
bound_kept R S [] [] (b ∷ bs) h k = absurd k
bound_kept R S [] (v ∷ vs) bs h k = absurd h
bound_kept R S (t ∷ ts) [] bs h k = absurd h
bound_kept R S (t ∷ ts) (v ∷ vs) [] h k = absurd k
bound_kept R S (t ∷ ts) (v ∷ vs) (false ∷ bs) h k = bound_kept R S ts vs bs h.1 k.1
bound_kept R S (t ∷ ts) (v ∷ vs) (true ∷ bs) h k = ap (λ l. (t ++ v ∷ []) ∷ l) (bound_kept R S ts vs bs h.1 k.1)

-- # Two clauses

module _ (known : List Held) (slots : Slots) (focus : Option Focus) (addresses : List Text) (f : List Tree) where
  abbrev frame : Frame
  frame = frame_of slots focus addresses

  abbrev pub value_of : Plan → Tuple Item → Doing (List Item)
  value_of p t = plan_mean p (at_tuple frame t)

  pub values : (p : Plan) → SurelyNodes known p → (ts : List (Tuple Item)) → AllFit known slots ts →
      (vs : List (List Item)) × AreAll (Tells (value_of p) f) ts vs
  values p h [] w = ([], tt)
  values p h (t ∷ ts) w =
      let first = h (slots ++ t) focus addresses f w.0 in
      let rest = values p h ts w.1 in
      (map Node first.0 ∷ rest.0, (first.1, rest.1))

  pub let_told : (p : Plan) (ts : List (Tuple Item)) (vs : List (List Item)) → AreAll (Tells (value_of p) f) ts vs →
      plan_clause_mean (clause.Let p) frame ts f ≡ (Ok (bound ts vs), f)
  let_told p ts vs h =
      ap (λ m. m frame ts f) (plan_eq.clause-Let p)
      ∙ ap (λ o. go_on o (λ lists. give (bound ts lists))) (each_told (value_of p) f ts vs h)

  -- a test that reads below a new slot has the same answers
  below_told : (q : Plan) → ReadsBelow known q → (ts : List (Tuple Item)) (vs : List (List Item)) (bs : List Bool) → AllFit known slots ts →
      (R : Tuple Item → List Item → Type 0) → AreAll R ts vs → AreAll (Tells (test_at known slots focus addresses f (plan_mean q)) f) ts bs →
      AreAll (Tells (test_at known slots focus addresses f (plan_mean q)) f) (bound ts vs) bs
  below_told q h [] [] [] w R k told = tt
  below_told q h [] [] (b ∷ bs) w R k told = absurd told
  below_told q h [] (v ∷ vs) bs w R k told = absurd k
  below_told q h (t ∷ ts) [] bs w R k told = absurd k
  below_told q h (t ∷ ts) (v ∷ vs) [] w R k told = absurd told
  below_told q h (t ∷ ts) (v ∷ vs) (b ∷ bs) w R k told = (
    ap (λ o. go_on o (λ xs. judged (effective xs)))
        (ap (λ env. plan_mean q (frame_of env focus addresses) f) (sym (append_assoc slots t (v ∷ [])))
        ∙ h (slots ++ t) (v ∷ []) focus addresses f w.0)
        ∙ told.0,
    below_told q h ts vs bs w.1 R k.1 told.1,
  )

  pub wheres_swap : (p q : Plan) → SurelyTells known p → SurelyTells known q → (ts : List (Tuple Item)) → AllFit known slots ts →
      in_turn (next_clause frame) ts (map plan_clause_mean (clause.Where p ∷ clause.Where q ∷ [])) f
      ≡ in_turn (next_clause frame) ts (map plan_clause_mean (clause.Where q ∷ clause.Where p ∷ [])) f
  wheres_swap p q h k ts w =
      let ps = answers known slots focus addresses f p h ts w in
      let qs = answers known slots focus addresses f q k ts w in
      two p q ts ps.0 qs.0 ps.1 qs.1
      ∙ ap (λ l. (Ok l, f)) (kept_twice _ _ ts ps.0 qs.0 ps.1 qs.1)
      ∙ sym (two q p ts qs.0 ps.0 qs.1 ps.1)
    where
      two : (a b : Plan) (us : List (Tuple Item)) (as' bs : List Bool) →
          AreAll (Tells (test_at known slots focus addresses f (plan_mean a)) f) us as' → AreAll (Tells (test_at known slots focus addresses f (plan_mean b)) f) us bs →
          in_turn (next_clause frame) us (map plan_clause_mean (clause.Where a ∷ clause.Where b ∷ [])) f
          ≡ (Ok (satisfying (satisfying us as') (satisfying bs as')), f)
      two a b us as' bs m n =
          ap (λ o. go_on o (λ n. in_turn (next_clause frame) n (plan_clause_mean (clause.Where b) ∷ []))) (where_told known slots focus addresses f a us as' m)
          ∙ ap (λ o. go_on o (λ xs. give xs)) (where_told known slots focus addresses f b (satisfying us as') (satisfying bs as') (kept_told _ us bs as' n))

  pub let_swaps : (p q : Plan) → SurelyNodes known p → SurelyTells known q → ReadsBelow known q → (ts : List (Tuple Item)) → AllFit known slots ts →
      in_turn (next_clause frame) ts (map plan_clause_mean (clause.Let p ∷ clause.Where q ∷ [])) f
      ≡ in_turn (next_clause frame) ts (map plan_clause_mean (clause.Where q ∷ clause.Let p ∷ [])) f
  let_swaps p q h k below ts w =
      let vs = values p h ts w in
      let qs = answers known slots focus addresses f q k ts w in
      ap (λ o. go_on o (λ n. in_turn (next_clause frame) n (plan_clause_mean (clause.Where q) ∷ []))) (let_told p ts vs.0 vs.1)
      ∙ ap (λ o. go_on o (λ xs. give xs)) (where_told known slots focus addresses f q (bound ts vs.0) qs.0 (below_told q below ts vs.0 qs.0 w (Tells (value_of p) f) vs.1 qs.1))
      ∙ ap (λ l. (Ok l, f)) (sym (bound_kept _ _ ts vs.0 qs.0 vs.1 qs.1))
      ∙ sym (ap (λ o. go_on o (λ n. in_turn (next_clause frame) n (plan_clause_mean (clause.Let p) ∷ []))) (where_told known slots focus addresses f q ts qs.0 qs.1)
      ∙ ap (λ o. go_on o (λ xs. give xs)) (let_told p (satisfying ts qs.0) (satisfying vs.0 qs.0) (kept_told _ ts vs.0 qs.0 vs.1)))

  -- each of some nodes

  for_told : (p : Plan) (ts : List (Tuple Item)) (vs : List (List Item)) → AreAll (Tells (value_of p) f) ts vs →
      plan_clause_mean (clause.For allowing.No false p) frame ts f ≡ (Ok (expanded Atom false false ts vs), f)
  for_told p ts vs h =
      ap (λ m. m frame ts f) (plan_eq.clause-For allowing.No false p)
      ∙ ap (λ o. go_on o (λ lists. give (expanded Atom false false ts lists))) (each_told (value_of p) f ts vs h)

  row_told : (q : Plan) → ReadsBelow known q → (t : Tuple Item) → Fits known (slots ++ t) → (b : Bool) → test_at known slots focus addresses f (plan_mean q) t f ≡ (Ok b, f) →
      (v : List Item) → AreAll (Tells (test_at known slots focus addresses f (plan_mean q)) f) (map (row t) v) (map (λ (x : Item). b) v)
  row_told q h t w b told [] = tt
  row_told q h t w b told (x ∷ v) = (
    ap (λ o. go_on o (λ xs. judged (effective xs)))
        (ap (λ env. plan_mean q (frame_of env focus addresses) f) (sym (append_assoc slots t ((x ∷ []) ∷ [])))
        ∙ h (slots ++ t) ((x ∷ []) ∷ []) focus addresses f w)
        ∙ told,
    row_told q h t w b told v,
  )

  rows_told : (q : Plan) → ReadsBelow known q → (ts : List (Tuple Item)) (vs : List (List Item)) (bs : List Bool) → AllFit known slots ts →
      (R : Tuple Item → List Item → Type 0) → AreAll R ts vs → AreAll (Tells (test_at known slots focus addresses f (plan_mean q)) f) ts bs →
      AreAll (Tells (test_at known slots focus addresses f (plan_mean q)) f) (expanded Atom false false ts vs) (spread vs bs)
  rows_told q h [] [] [] w R k told = tt
  rows_told q h [] [] (b ∷ bs) w R k told = absurd told
  rows_told q h [] (v ∷ vs) bs w R k told = absurd k
  rows_told q h (t ∷ ts) [] bs w R k told = absurd k
  rows_told q h (t ∷ ts) (v ∷ vs) [] w R k told = absurd told
  rows_told q h (t ∷ ts) (v ∷ vs) (b ∷ bs) w R k told =
      subst (λ l. AreAll (Tells (test_at known slots focus addresses f (plan_mean q)) f) l (map (λ (x : Item). b) v ++ spread vs bs)) (sym (expanded_next t ts v vs))
      (pairs_append (Tells (test_at known slots focus addresses f (plan_mean q)) f) (map (row t) v) (map (λ (x : Item). b) v) (expanded Atom false false ts vs) (spread vs bs)
      (row_told q h t w.0 b told.0 v) (rows_told q h ts vs bs w.1 R k.1 told.1))

  pub for_swaps : (p q : Plan) → SurelyNodes known p → SurelyTells known q → ReadsBelow known q → (ts : List (Tuple Item)) → AllFit known slots ts →
      in_turn (next_clause frame) ts (map plan_clause_mean (clause.For allowing.No false p ∷ clause.Where q ∷ [])) f
      ≡ in_turn (next_clause frame) ts (map plan_clause_mean (clause.Where q ∷ clause.For allowing.No false p ∷ [])) f
  for_swaps p q h k below ts w =
      let vs = values p h ts w in
      let qs = answers known slots focus addresses f q k ts w in
      ap (λ o. go_on o (λ n. in_turn (next_clause frame) n (plan_clause_mean (clause.Where q) ∷ []))) (for_told p ts vs.0 vs.1)
      ∙ ap (λ o. go_on o (λ xs. give xs)) (where_told known slots focus addresses f q (expanded Atom false false ts vs.0) (spread vs.0 qs.0) (rows_told q below ts vs.0 qs.0 w (Tells (value_of p) f) vs.1 qs.1))
      ∙ ap (λ l. (Ok l, f)) (rows_satisfy _ _ ts vs.0 qs.0 vs.1 qs.1)
      ∙ sym (ap (λ o. go_on o (λ n. in_turn (next_clause frame) n (plan_clause_mean (clause.For allowing.No false p) ∷ []))) (where_told known slots focus addresses f q ts qs.0 qs.1)
      ∙ ap (λ o. go_on o (λ xs. give xs)) (for_told p (satisfying ts qs.0) (satisfying vs.0 qs.0) (kept_told _ ts vs.0 qs.0 vs.1)))

-- # What is known of more slots

prefix_fits : (known more : List Held) (env : Slots) → Fits (known ++ more) env →
    (slots rest : Slots) × (env ≡ slots ++ rest) × Fits known slots
prefix_fits [] more env h = ([], env, refl, tt)
prefix_fits (a ∷ known) more [] h = absurd h
prefix_fits (a ∷ known) more (x ∷ env) h =
    let rest = prefix_fits known more env h.1 in
    (x ∷ rest.0, rest.1, ap (λ l. x ∷ l) rest.2, (h.0, rest.3))

test_more : (known more : List Held) (p : Plan) → IsTest known p → IsTest (known ++ more) p
test_more known more p h = record {
  tells = λ env focus addresses trees fits.
      let cut = prefix_fits known more env fits in
      let told = h.tells cut.0 focus addresses trees cut.3 in (
        told.0,
        ap (λ e. Forms.tested (plan_mean p) (frame_of e focus addresses) trees) cut.2
            ∙ ap (λ o. go_on o (λ xs. judged (effective xs))) (h.below cut.0 cut.1 focus addresses trees cut.3) ∙ told.1,
      );
  below = λ env others focus addresses trees fits.
      let cut = prefix_fits known more env fits in
      ap (λ e. plan_mean p (frame_of (e ++ others) focus addresses) trees) cut.2
      ∙ ap (λ e. plan_mean p (frame_of e focus addresses) trees) (append_assoc cut.0 cut.1 others)
      ∙ h.below cut.0 (cut.1 ++ others) focus addresses trees cut.3
      ∙ sym (h.below cut.0 cut.1 focus addresses trees cut.3)
      ∙ ap (λ e. plan_mean p (frame_of e focus addresses) trees) (sym cut.2);
}

nodes_more : (known more : List Held) (p : Plan) → SurelyNodes known p → ReadsBelow known p → SurelyNodes (known ++ more) p
nodes_more known more p h below env focus addresses trees fits =
    let cut = prefix_fits known more env fits in
    let told = h cut.0 focus addresses trees cut.3 in (
      told.0,
      ap (λ e. plan_mean p (frame_of e focus addresses) trees) cut.2
          ∙ below cut.0 cut.1 focus addresses trees cut.3 ∙ told.1,
    )

-- # Clauses that a test goes over

-- what is known after them, and that any test of slots that were known before may come first
pub record PassedBy (known : List Held) (passed : List PlanClause) : Type 0 where
  pub more : List Held
  pub fits : (slots : Slots) (focus : Option Focus) (addresses : List Text) (ts : List (Tuple Item)) (f : List Tree) → AllFit known slots ts →
      GivesFitting (known ++ more) slots (in_turn (next_clause (frame_of slots focus addresses)) ts (map plan_clause_mean passed) f)
  pub swaps : (q : Plan) → IsTest known q →
      (slots : Slots) (focus : Option Focus) (addresses : List Text) (ts : List (Tuple Item)) (f : List Tree) → AllFit known slots ts →
      in_turn (next_clause (frame_of slots focus addresses)) ts (map plan_clause_mean (passed ++ clause.Where q ∷ [])) f
      ≡ in_turn (next_clause (frame_of slots focus addresses)) ts (map plan_clause_mean (clause.Where q ∷ passed)) f

pub none_passed : (known : List Held) (passed : List PlanClause) → passed ≡ [] → PassedBy known passed
none_passed known passed none =
    subst (PassedBy known) (sym none)
    (record {
      more = [];
      fits = λ slots focus addresses ts f w. subst (λ k. AllFit k slots ts) (sym (append-nil known)) w;
      swaps = λ q h slots focus addresses ts f w. refl;
    })

-- a clause that any test may go over, and what is known after it
record PassesOne (known : List Held) (c : PlanClause) : Type 0 where
  pub more : List Held
  pub fits : (slots : Slots) (focus : Option Focus) (addresses : List Text) (ts : List (Tuple Item)) (f : List Tree) → AllFit known slots ts →
      GivesFitting (known ++ more) slots (plan_clause_mean c (frame_of slots focus addresses) ts f)
  pub swaps : (q : Plan) → IsTest known q →
      (slots : Slots) (focus : Option Focus) (addresses : List Text) (ts : List (Tuple Item)) (f : List Tree) → AllFit known slots ts →
      in_turn (next_clause (frame_of slots focus addresses)) ts (map plan_clause_mean (c ∷ clause.Where q ∷ [])) f
      ≡ in_turn (next_clause (frame_of slots focus addresses)) ts (map plan_clause_mean (clause.Where q ∷ c ∷ [])) f

where_passes : (known : List Held) (p : Plan) → IsTest known p → PassesOne known (clause.Where p)
where_passes known p h = record {
  more = [];
  fits = λ slots focus addresses ts f w.
      subst (λ k. GivesFitting k slots (plan_clause_mean (clause.Where p) (frame_of slots focus addresses) ts f)) (sym (append-nil known))
      (let own = itself_follows (length slots) known p in (own slots focus addresses refl ts f w).fits);
  swaps = λ q k slots focus addresses ts f w. wheres_swap known slots focus addresses f p q h.tells k.tells ts w;
}

surely_held : (known : List Held) (p : Plan) → SurelyNodes known p → IsHeld known Nodes p
surely_held known p h slots focus addresses trees fits =
    let told = h slots focus addresses trees fits in
    subst (GivesHeld Nodes) (sym told.1) (told.0, refl)

let_passes : (known : List Held) (p : Plan) → SurelyNodes known p → PassesOne known (clause.Let p)
let_passes known p h = record {
  more = Nodes ∷ [];
  fits = λ slots focus addresses ts f w.
      let own = let_follows (length slots) known Nodes p p (λ s o a t k. refl) (surely_held known p h) in (own slots focus addresses refl ts f w).fits;
  swaps = λ q k slots focus addresses ts f w. let_swaps known slots focus addresses f p q h k.tells k.below ts w;
}

for_passes : (known : List Held) (p : Plan) → SurelyNodes known p → PassesOne known (clause.For allowing.No false p)
for_passes known p h = record {
  more = with_position (each_of Nodes) false;
  fits = λ slots focus addresses ts f w.
      let own = for_follows (length slots) known allowing.No false Nodes p p (λ s o a t k. refl) (surely_held known p h) in (own slots focus addresses refl ts f w).fits;
  swaps = λ q k slots focus addresses ts f w. for_swaps known slots focus addresses f p q h k.tells k.below ts w;
}

passes_more : (known more : List Held) (c : PlanClause) → IsOver known c → PassesOne (known ++ more) c
passes_more known more c (inl (inl (p, is, h))) =
    subst (PassesOne (known ++ more)) (sym is) (where_passes (known ++ more) p (test_more known more p h))
passes_more known more c (inl (inr (p, is, h, below))) =
    subst (PassesOne (known ++ more)) (sym is) (let_passes (known ++ more) p (nodes_more known more p h below))
passes_more known more c (inr (p, is, h, below)) =
    subst (PassesOne (known ++ more)) (sym is) (for_passes (known ++ more) p (nodes_more known more p h below))

-- what comes of tuples that are as known
then_turns : (known : List Held) (slots : Slots) (o : Outcome (List (Tuple Item))) (k l : List (Tuple Item) → Doing (List (Tuple Item))) →
    GivesFitting known slots o → ((ts : List (Tuple Item)) (f : List Tree) → AllFit known slots ts → k ts f ≡ l ts f) → go_on o k ≡ go_on o l
then_turns known slots (Ok ts, f) k l h same = same ts f h
then_turns known slots (Err code, f) k l h same = refl

then_fit : (known last : List Held) (slots : Slots) (o : Outcome (List (Tuple Item))) (k : List (Tuple Item) → Doing (List (Tuple Item))) →
    GivesFitting known slots o → ((ts : List (Tuple Item)) (f : List Tree) → AllFit known slots ts → GivesFitting last slots (k ts f)) → GivesFitting last slots (go_on o k)
then_fit known last slots (Ok ts, f) k h next = next ts f h
then_fit known last slots (Err code, f) k h next = tt

pub passed_next : (known : List Held) (passed passed' : List PlanClause) (c : PlanClause) → PassedBy known passed → IsOver known c →
    passed' ≡ passed ++ c ∷ [] → PassedBy known passed'
passed_next known passed passed' c h is pushed =
    subst (PassedBy known) (sym pushed)
    (record {
      more = h.more ++ one.more;
      fits = λ slots focus addresses ts f w.
          let act = next_clause (frame_of slots focus addresses) in
          subst (λ o. GivesFitting (known ++ (h.more ++ one.more)) slots o) (sym (parts slots focus addresses ts f (c ∷ [])))
          (then_fit (known ++ h.more) (known ++ (h.more ++ one.more)) slots (in_turn act ts (map plan_clause_mean passed) f) (λ n. in_turn act n (plan_clause_mean c ∷ [])) (h.fits slots focus addresses ts f w)
          (λ us g v. subst (λ o. GivesFitting (known ++ (h.more ++ one.more)) slots o) (sym (go_on_give (plan_clause_mean c (frame_of slots focus addresses) us g)))
          (subst (λ k. GivesFitting k slots (plan_clause_mean c (frame_of slots focus addresses) us g)) (append_assoc known h.more one.more) (one.fits slots focus addresses us g v))));
      swaps = λ q k slots focus addresses ts f w.
          let act = next_clause (frame_of slots focus addresses) in
          let o = in_turn act ts (map plan_clause_mean passed) f in
          let test = clause.Where q in
          ap (λ cs. in_turn act ts (map plan_clause_mean cs) f) (append_assoc passed (c ∷ []) (test ∷ []))
          ∙ parts slots focus addresses ts f (c ∷ test ∷ [])
          ∙ then_turns (known ++ h.more) slots o (λ n. in_turn act n (map plan_clause_mean (c ∷ test ∷ []))) (λ n. in_turn act n (map plan_clause_mean (test ∷ c ∷ []))) (h.fits slots focus addresses ts f w)
          (λ us g v. one.swaps q (test_more known h.more q k) slots focus addresses us g v)
          ∙ sym (parts slots focus addresses ts f (test ∷ c ∷ []))
          ∙ ap (λ cs. in_turn act ts (map plan_clause_mean cs) f) (sym (append_assoc passed (test ∷ []) (c ∷ [])))
          ∙ ap (λ ms. in_turn act ts ms f) (map-append plan_clause_mean (passed ++ test ∷ []) (c ∷ []))
          ∙ in_turn-append act ts (map plan_clause_mean (passed ++ test ∷ [])) (plan_clause_mean c ∷ []) f
          ∙ ap (λ p. go_on p (λ n. in_turn act n (plan_clause_mean c ∷ []))) (h.swaps q k slots focus addresses ts f w)
          ∙ sym (in_turn-append act ts (map plan_clause_mean (test ∷ passed)) (plan_clause_mean c ∷ []) f)
          ∙ ap (λ ms. in_turn act ts ms f) (sym (map-append plan_clause_mean (test ∷ passed) (c ∷ [])));
    })
  where
    one : PassesOne (known ++ h.more) c
    one = passes_more known h.more c is

    parts : (slots : Slots) (focus : Option Focus) (addresses : List Text) (ts : List (Tuple Item)) (f : List Tree) (cs : List PlanClause) →
        in_turn (next_clause (frame_of slots focus addresses)) ts (map plan_clause_mean (passed ++ cs)) f
        ≡ go_on (in_turn (next_clause (frame_of slots focus addresses)) ts (map plan_clause_mean passed) f) (λ n. in_turn (next_clause (frame_of slots focus addresses)) n (map plan_clause_mean cs))
    parts slots focus addresses ts f cs =
        let act = next_clause (frame_of slots focus addresses) in
        ap (λ ms. in_turn act ts ms f) (map-append plan_clause_mean passed cs) ∙ in_turn-append act ts (map plan_clause_mean passed) (map plan_clause_mean cs) f

-- # What is left, with a test in front

-- the clauses that were taken off, in the order in which they come, and whether none is a `for`
pub record TakenOff (known : List Held) (plain : Bool) (all left passed : List PlanClause) : Type 0 where
  pub whole : left ++ reverse passed ≡ all
  pub each : plain ≡ true → AllByRecursion (IsPassed known) passed
  pub by : PassedBy known passed

pub none_off : (known : List Held) (all left passed : List PlanClause) → left ≡ all → passed ≡ [] → TakenOff known true all left passed
none_off known all left passed same none = record {
  whole = ap (λ l. left ++ reverse l) none ∙ append-nil left ∙ same;
  each = λ plain. subst (AllByRecursion (IsPassed known)) (sym none) tt;
  by = none_passed known passed none;
}

pub one_off : (known : List Held) (plain plain' : Bool) (all left rest passed passed' : List PlanClause) (c : PlanClause) → TakenOff known plain all left passed →
    left ≡ rest ++ c ∷ [] → IsOver known c → (plain' ≡ true → (plain ≡ true) × IsPassed known c) → passed' ≡ passed ++ c ∷ [] → TakenOff known plain' all rest passed'
one_off known plain plain' all left rest passed passed' c h cut is passes pushed = record {
  whole =
      ap (λ l. rest ++ l) (ap reverse pushed ∙ reverse-append passed (c ∷ []))
      ∙ sym (append_assoc rest (c ∷ []) (reverse passed)) ∙ ap (λ l. l ++ reverse passed) (sym cut) ∙ h.whole;
  each = λ e.
      let both = passes e in
      subst (AllByRecursion (IsPassed known)) (sym pushed) (all_append (IsPassed known) passed (c ∷ []) (h.each both.0) (both.1, tt));
  by = passed_next known passed passed' c h.by is pushed;
}

pub same_rest : (start : ℕ) (known : List Held) (old new : List PlanClause) → new ≡ old → SameRest start known old new
same_rest start known old new is slots focus addresses l ts trees w =
    ap (λ cs. in_turn (next_clause (frame_of slots focus addresses)) ts (map plan_clause_mean (reverse cs)) trees) is

-- a test that tells before them what the next clause tells behind them
pub written_risen : (known : List Held) (plain : Bool) (all left rest passed new : List PlanClause) (c : PlanClause) (q : Plan) → TakenOff known plain all left passed →
    left ≡ rest ++ c ∷ [] → IsTest known q → SameBehind known passed c (clause.Where q) → new ≡ (rest ++ reverse passed) ++ clause.Where q ∷ [] →
    (start : ℕ) → SameRest start known all new
written_risen known plain all left rest passed new c q h cut test same pushed start slots focus addresses l ts trees w =
    let act = next_clause (frame_of slots focus addresses) in
    let d = clause.Where q in
    let others = reverse rest in
    let apart : (cs : List PlanClause) → in_turn act ts (map plan_clause_mean (cs ++ others)) trees
    ≡ go_on (in_turn act ts (map plan_clause_mean cs) trees) (λ n. in_turn act n (map plan_clause_mean others)) =
    λ cs. ap (λ ms. in_turn act ts ms trees) (map-append plan_clause_mean cs others) ∙ in_turn-append act ts (map plan_clause_mean cs) (map plan_clause_mean others) trees in
    let now : reverse new ≡ (d ∷ passed) ++ others =
    ap reverse pushed ∙ reverse-append (rest ++ reverse passed) (d ∷ [])
    ∙ ap (λ l. d ∷ l) (reverse-append rest (reverse passed) ∙ ap (λ l. l ++ others) (reverse-reverse passed)) in
    let was : reverse all ≡ (passed ++ c ∷ []) ++ others =
    ap reverse (sym h.whole ∙ ap (λ l. l ++ reverse passed) cut) ∙ reverse-append (rest ++ c ∷ []) (reverse passed)
    ∙ ap (λ l. reverse (reverse passed) ++ l) (reverse-append rest (c ∷ [])) ∙ ap (λ l. l ++ c ∷ others) (reverse-reverse passed)
    ∙ sym (append_assoc passed (c ∷ []) others) in
    ap (λ cs. in_turn act ts (map plan_clause_mean cs) trees) now
    ∙ apart (d ∷ passed)
    ∙ ap (λ o. go_on o (λ n. in_turn act n (map plan_clause_mean others)))
    (sym (h.by.swaps q test slots focus addresses ts trees w) ∙ same slots focus addresses ts trees w)
    ∙ sym (apart (passed ++ c ∷ []))
    ∙ ap (λ cs. in_turn act ts (map plan_clause_mean cs) trees) (sym was)

-- a test that rises
pub test_risen : (known : List Held) (plain : Bool) (all left rest passed new : List PlanClause) (c : PlanClause) → TakenOff known plain all left passed →
    left ≡ rest ++ c ∷ [] → Rises known c → new ≡ (rest ++ reverse passed) ++ c ∷ [] →
    (start : ℕ) → SameRest start known all new
test_risen known plain all left rest passed new c h cut (q, is, test) pushed start =
    written_risen known plain all left rest passed new c q h cut test
    (λ slots focus addresses ts trees w. ap (λ d. in_turn (next_clause (frame_of slots focus addresses)) ts (map plan_clause_mean (passed ++ d ∷ [])) trees) (sym is))
    (pushed ∙ ap (λ d. (rest ++ reverse passed) ++ d ∷ []) is) start

pub risen_long : (known : List Held) (plain : Bool) (all left rest passed new : List PlanClause) (c d : PlanClause) → TakenOff known plain all left passed →
    left ≡ rest ++ c ∷ [] → new ≡ (rest ++ reverse passed) ++ d ∷ [] → length new ≡ length all
risen_long known plain all left rest passed new c d h cut pushed =
    let was = ap length (sym h.whole ∙ ap (λ l. l ++ reverse passed) cut) in
    let now = ap length pushed in
    let a = length-append (rest ++ reverse passed) (d ∷ []) in
    let b = length-append rest (reverse passed) in
    let e = length-append (rest ++ c ∷ []) (reverse passed) in
    let g = length-append rest (c ∷ []) in
    omega (arith, was, now, a, b, e, g)

-- one that stays
pub all_unmoved : (known : List Held) (plain : Bool) (all left rest passed new : List PlanClause) (c : PlanClause) → TakenOff known plain all left passed →
    left ≡ rest ++ c ∷ [] → new ≡ (rest ++ c ∷ []) ++ reverse passed → new ≡ all
all_unmoved known plain all left rest passed new c h cut pushed =
    pushed ∙ ap (λ l. l ++ reverse passed) (sym cut) ∙ h.whole

-- either of both
pub taken_back : (known : List Held) (plain : Bool) (all left rest passed new : List PlanClause) (c : PlanClause) → TakenOff known plain all left passed →
    left ≡ rest ++ c ∷ [] → TakesBack known rest passed c new → ((start : ℕ) → SameRest start known all new) × (length new ≡ length all)
taken_back known plain all left rest passed new c h cut (inl stays) =
    let same = all_unmoved known plain all left rest passed new c h cut stays in
    (λ start. same_rest start known all new same, ap length same)
taken_back known plain all left rest passed new c h cut (inr (q, test, same, pushed)) = (
  λ start. written_risen known plain all left rest passed new c q h cut test same pushed start,
  risen_long known plain all left rest passed new c (clause.Where q) h cut pushed,
)

-- # The loop

-- what the clauses so far and those that are left give is what all give
pub record Arranged (all left : List PlanClause) (start : ℕ) (old now : List Held) (done : List PlanClause) : Type 0 where
  pub outer : Extends start old now
  pub leads : (slots : Slots) (focus : Option Focus) (addresses : List Text) → length slots ≡ start →
      (tuples : List (Tuple Item)) (trees : List Tree) → AllFit old slots tuples →
      Leads all left now slots (frame_of slots focus addresses) tuples trees done

pub none_arranged : (all turned left done : List PlanClause) (start : ℕ) (old : List Held) → start ≤ length old → turned ≡ reverse all →
    ((n : ℕ) → SameRest n old turned left) → done ≡ [] → Arranged all left start old old done
none_arranged all turned left done start old h is same none = record {
  outer = extends_itself start old h;
  leads = λ slots focus addresses l tuples trees w.
      let frame = frame_of slots focus addresses in
      subst (Leads all left old slots frame tuples trees) (sym none)
      (record {
        same =
            ap (λ cs. in_turn (next_clause frame) tuples (map plan_clause_mean cs) trees) (sym (ap reverse is ∙ reverse-reverse all))
            ∙ sym (same start slots focus addresses l tuples trees w);
        fits = w;
      });
}

pub clause_arranged : (all left rest left' done done' : List PlanClause) (start : ℕ) (old now now' : List Held) (c : PlanClause) →
    Arranged all left start old now done → left ≡ rest ++ c ∷ [] → SameMany start now c (c ∷ []) now' → Extends start now now' →
    done' ≡ done ++ c ∷ [] → ((n : ℕ) → SameRest n now' rest left') → Arranged all left' start old now' done'
clause_arranged all left rest left' done done' start old now now' c h cut is more pushed same = record {
  outer = extends_then start old now now' h.outer more;
  leads = λ slots focus addresses l tuples trees w.
      let frame = frame_of slots focus addresses in
      let act = next_clause frame in
      let next = leads_next all left rest start now now' done done' (c ∷ []) c slots focus addresses l tuples trees (h.leads slots focus addresses l tuples trees w) cut is pushed in
      record {
        same =
            next.same
            ∙ then_turns now' slots (in_turn act tuples (map plan_clause_mean done') trees) (λ n. in_turn act n (map plan_clause_mean (reverse rest))) (λ n. in_turn act n (map plan_clause_mean (reverse left'))) next.fits
            (λ ts f v. sym (same start slots focus addresses l ts f v));
        fits = next.fits;
      };
}

pub arranged_done : (all left done : List PlanClause) (start : ℕ) (old now : List Held) → Arranged all left start old now done → left ≡ [] →
    SameTurns start old all done
arranged_done all left done start old now h none slots focus addresses l tuples trees w =
    let act = next_clause (frame_of slots focus addresses) in
    let o = in_turn act tuples (map plan_clause_mean done) trees in
    sym ((h.leads slots focus addresses l tuples trees w).same
    ∙ ap (λ (cs : List PlanClause). go_on o (λ n. in_turn act n (map plan_clause_mean (reverse cs)))) none ∙ go_on_give o)

-- # The whole expression

pub flwor_sorted : (known : List Held) (cs ds : List PlanClause) (p : Plan) → SameTurns (length known) known cs ds →
    GivesSame known (plan.Flwor cs p) (plan.Flwor ds p)
flwor_sorted known cs ds p same slots focus addresses trees fits =
    let frame = frame_of slots focus addresses in
    ap (λ m. m frame trees) (plan_eq.plan-Flwor ds p)
    ∙ ap (λ o. go_on o (λ tuples. Forms.return_of (plan_mean p) (at_tuple frame) tuples))
    (same slots focus addresses (fits_length known slots fits) ([] ∷ []) trees (subst (Fits known) (sym (append-nil slots)) fits, tt))
    ∙ sym (ap (λ m. m frame trees) (plan_eq.plan-Flwor cs p))

-- # What a clause leaves

gives_itself : (known : List Held) (p : Plan) → GivesSame known p p
gives_itself known p slots focus addresses trees fits = refl

keys_themselves : (known : List Held) (keys : List (Plan × OrderModifier)) → AreAll (SameKey known) keys keys
keys_themselves known [] = tt
keys_themselves known (k ∷ keys) = ((gives_itself known k.0, refl), keys_themselves known keys)

itself_at : (start : ℕ) (old new : List Held) (c d : PlanClause) → c ≡ d → SameClause start old d d new → SameMany start old c (c ∷ []) new
itself_at start old new c d is h = subst (λ e. SameMany start old e (e ∷ []) new) (sym is) (one_follows start old new d d h)

pub for_itself : (start : ℕ) (old new : List Held) (c : PlanClause) (empties : AllowingEmpty) (at : Bool) (p : Plan) (held : Held) → c ≡ clause.For empties at p →
    IsHeld old held p → new ≡ old ++ with_position (each_of held) at → SameMany start old c (c ∷ []) new
for_itself start old new c empties at p held is as' bound =
    itself_at start old new c (clause.For empties at p) is
    (subst (SameClause start old (clause.For empties at p) (clause.For empties at p)) (sym bound) (for_follows start old empties at held p p (gives_itself old p) as'))

pub let_itself : (start : ℕ) (old new : List Held) (c : PlanClause) (p : Plan) (held : Held) → c ≡ clause.Let p → IsHeld old held p → new ≡ old ++ held ∷ [] →
    SameMany start old c (c ∷ []) new
let_itself start old new c p held is as' bound =
    itself_at start old new c (clause.Let p) is
    (subst (SameClause start old (clause.Let p) (clause.Let p)) (sym bound) (let_follows start old held p p (gives_itself old p) as'))

pub where_itself : (start : ℕ) (old new : List Held) (c : PlanClause) (p : Plan) → c ≡ clause.Where p → new ≡ old → SameMany start old c (c ∷ []) new
where_itself start old new c p is kept =
    itself_at start old new c (clause.Where p) is
    (subst (SameClause start old (clause.Where p) (clause.Where p)) (sym kept) (where_follows start old p p (gives_itself old p)))

pub order_itself : (start : ℕ) (old new : List Held) (c : PlanClause) (keys : List (Plan × OrderModifier)) → c ≡ clause.Order keys → new ≡ old → SameMany start old c (c ∷ []) new
order_itself start old new c keys is kept =
    itself_at start old new c (clause.Order keys) is
    (subst (SameClause start old (clause.Order keys) (clause.Order keys)) (sym kept) (order_follows start old keys keys (keys_themselves old keys)))

pub count_itself : (start : ℕ) (old new : List Held) (c : PlanClause) → c ≡ clause.Count → new ≡ old ++ Anything ∷ [] → SameMany start old c (c ∷ []) new
count_itself start old new c is bound =
    itself_at start old new c clause.Count is (subst (SameClause start old clause.Count clause.Count) (sym bound) (count_follows start old))

pub group_itself : (start : ℕ) (old new : List Held) (c : PlanClause) (numbers : List ℕ) → c ≡ clause.Group numbers → new ≡ forgotten start old → SameMany start old c (c ∷ []) new
group_itself start old new c numbers is bound =
    itself_at start old new c (clause.Group numbers) is
    (subst (SameClause start old (clause.Group numbers) (clause.Group numbers)) (sym bound) (group_follows start old numbers))

pub refused_itself : (start : ℕ) (old new : List Held) (c : PlanClause) (code : Code) → c ≡ clause.Refused code → new ≡ old → SameMany start old c (c ∷ []) new
refused_itself start old new c code is kept =
    itself_at start old new c (clause.Refused code) is
    (subst (SameClause start old (clause.Refused code) (clause.Refused code)) (sym kept) (refused_follows start old code))
