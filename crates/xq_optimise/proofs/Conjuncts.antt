-- Tests that can't be refused, one `where` after another.
use Rattle.std.proofs.Common.{◌≡◌, ℕ, List, [], ◌∷◌, ◌++◌, map, reverse, Bool, true, false, Ok, Err, refl, sym, ap, ◌∙◌, subst, ◌⊎◌, inl, inr}
use Rattle.std.specs.Prelude.{Option}
use Rattle.std.specs.List.{AllByRecursion}
use Rattle.std.proofs.lemmas.List.{append_assoc, append-nil, map-append, reverse-append, reverse-reverse}
use Rattle.xq_atoms.specs.Judged.{Judged}
use Rattle.xq_atoms.specs.Text.{Text}
use Rattle.xq_atoms.specs.declared.refusals.Code.{Code}
use Rattle.xq_trees.specs.Tree.{Tree}
use Rattle.xq_trees.specs.Tuples.{Tuple, satisfying}
use Rattle.xq_meaning.specs.declared.plans.Plan.{Plan}
use Rattle.xq_meaning.specs.declared.plans.Plan.TheVariants as plan
use Rattle.xq_meaning.specs.declared.plans.PlanClause.{PlanClause}
use Rattle.xq_meaning.specs.declared.plans.PlanClause.TheVariants as clause
use Rattle.xq_meaning.specs.Doing.{Doing, Outcome, go_on, give, in_turn, one_more, for_each}
use Rattle.xq_meaning.specs.Forms
use Rattle.xq_meaning.specs.Functions.{Focus}
use Rattle.xq_meaning.specs.Items.{Item}
use Rattle.xq_meaning.specs.PlanMeaning.{Slots, Frame, Meaning, at_tuple, next_clause, plan_mean, plan_clause_mean}
use Rattle.xq_meaning.specs.Same.{frame_of}
use Rattle.xq_meaning.proofs.PlanEquations as plan_eq
use Rattle.xq_optimise.specs.declared.held.Held.{Held}
use Rattle.xq_optimise.specs.Known.{Fits}
use Rattle.xq_optimise.specs.Sure.{SurelyTells, IsTest}
use Rattle.xq_optimise.specs.private.Joins.{IsOutside}
use Rattle.xq_optimise.specs.private.Parts.{AreAll, AllFit, GivesFitting, SameMany, AddsTests}
use Rattle.xq_optimise.specs.private.Wheres.{TakesTests}
use Rattle.xq_optimise.proofs.Fitting.{kept_all, where_fits}
use Rattle.xq_optimise.proofs.Flwor.{tuple_at, itself_follows}
use Rattle.xq_optimise.proofs.Leaving.{Quiet, and_quiet, tested_leaves}
use Rattle.xq_optimise.proofs.Tests.{true_first, false_first}

-- # What is told of each

module _ {A B : Type 0} (act : A → Doing B) (f : List Tree) where
  abbrev pub Tells : A → B → Type 0
  Tells x y = act x f ≡ (Ok y, f)

  told_after : (done : List B) (xs : List A) (ys : List B) → AreAll Tells xs ys →
      in_turn (one_more act) done xs f ≡ (Ok (done ++ ys), f)
  told_after done [] [] h = ap (λ l. (Ok l, f)) (sym (append-nil done))
  told_after done [] (y ∷ ys) h = absurd h
  told_after done (x ∷ xs) [] h = absurd h
  told_after done (x ∷ xs) (y ∷ ys) h =
      ap (λ o. go_on (go_on o (λ z. give (done ++ z ∷ []))) (λ n. in_turn (one_more act) n xs)) h.0
      ∙ told_after (done ++ y ∷ []) xs ys h.1 ∙ ap (λ l. (Ok l, f)) (append_assoc done (y ∷ []) ys)

  pub each_told : (xs : List A) (ys : List B) → AreAll Tells xs ys → for_each act xs f ≡ (Ok ys, f)
  each_told xs ys h = told_after [] xs ys h

-- # Tests of tuples

-- the answers for those that passed, and no for the others
abbrev merged : List Bool → List Bool → List Bool
merged [] cs = []
merged (false ∷ bs) cs = false ∷ merged bs cs
merged (true ∷ bs) [] = true ∷ merged bs []
merged (true ∷ bs) (c ∷ cs) = c ∷ merged bs cs

module _ (known : List Held) (slots : Slots) (focus : Option Focus) (addresses : List Text) (f : List Tree) where
  abbrev pub frame : Frame
  frame = frame_of slots focus addresses

  abbrev pub test_at : Meaning → Tuple Item → Doing Bool
  test_at m t = Forms.tested m (at_tuple frame t)

  -- a test that can't be refused has an answer at each tuple
  pub answers : (p : Plan) → SurelyTells known p → (ts : List (Tuple Item)) → AllFit known slots ts →
      (bs : List Bool) × AreAll (Tells (test_at (plan_mean p)) f) ts bs
  answers p h [] w = ([], tt)
  answers p h (t ∷ ts) w =
      let first = h (slots ++ t) focus addresses f w.0 in
      let rest = answers p h ts w.1 in
      (first.0 ∷ rest.0, (first.1, rest.1))

  pub where_told : (p : Plan) (ts : List (Tuple Item)) (bs : List Bool) → AreAll (Tells (test_at (plan_mean p)) f) ts bs →
      plan_clause_mean (clause.Where p) frame ts f ≡ (Ok (satisfying ts bs), f)
  where_told p ts bs h =
      ap (λ m. m frame ts f) (plan_eq.clause-Where p)
      ∙ ap (λ o. go_on o (λ tests. give (satisfying ts tests))) (each_told (test_at (plan_mean p)) f ts bs h)

  -- one test, and then others of those that passed
  merged_tells : (m : Meaning) (ms : List Meaning) (ts : List (Tuple Item)) (bs cs : List Bool) →
      AreAll (Tells (test_at m) f) ts bs → AreAll (Tells (test_at (Forms.and ms)) f) (satisfying ts bs) cs →
      AreAll (Tells (test_at (Forms.and (m ∷ ms))) f) ts (merged bs cs)
      × (satisfying ts (merged bs cs) ≡ satisfying (satisfying ts bs) cs)
  merged_tells m ms [] [] [] h k = (tt, refl)
  merged_tells m ms [] [] (c ∷ cs) h k = absurd k
  merged_tells m ms [] (b ∷ bs) cs h k = absurd h
  merged_tells m ms (t ∷ ts) [] cs h k = absurd h
  merged_tells m ms (t ∷ ts) (false ∷ bs) cs h k =
      let rest = merged_tells m ms ts bs cs h.1 k in
      ((false_first m ms (at_tuple frame t) f h.0, rest.0), rest.1)
  merged_tells m ms (t ∷ ts) (true ∷ bs) [] h k = absurd k
  merged_tells m ms (t ∷ ts) (true ∷ bs) (false ∷ cs) h k =
      let rest = merged_tells m ms ts bs cs h.1 k.1 in
      ((true_first m ms (at_tuple frame t) f h.0 ∙ k.0, rest.0), rest.1)
  merged_tells m ms (t ∷ ts) (true ∷ bs) (true ∷ cs) h k =
      let rest = merged_tells m ms ts bs cs h.1 k.1 in
      ((true_first m ms (at_tuple frame t) f h.0 ∙ k.0, rest.0), ap (λ l. t ∷ l) rest.1)

  none_told : (ts : List (Tuple Item)) → (cs : List Bool) × AreAll (Tells (test_at (Forms.and [])) f) ts cs × (satisfying ts cs ≡ ts)
  none_told [] = ([], tt, refl)
  none_told (t ∷ ts) = let rest = none_told ts in (true ∷ rest.0, (refl, rest.1), ap (λ l. t ∷ l) rest.2)

  pub conjunction_told : (ps : List Plan) (ts : List (Tuple Item)) (cs : List Bool) →
      AreAll (Tells (test_at (Forms.and (map plan_mean ps))) f) ts cs →
      plan_clause_mean (clause.Where (plan.And ps)) frame ts f ≡ (Ok (satisfying ts cs), f)
  conjunction_told ps ts cs h =
      where_told (plan.And ps) ts cs (subst (λ m. AreAll (Tells (test_at m) f) ts cs) (sym (plan_eq.plan-And ps)) h)

  -- # A test, and then others that leave the trees

  -- the others have an answer or a code at each tuple
  abbrev pub IsJudged : Meaning → List (Tuple Item) → Type 0
  IsJudged m ts = AllByRecursion (λ t. (given : Judged Bool) × (test_at m t f ≡ (given, f))) ts

  -- the first answers are known, and then one is refused
  abbrev pub Refuses : Meaning → Code → List (Tuple Item) → Type 0
  Refuses m code [] = ⊥
  Refuses m code (t ∷ ts) =
      (test_at m t f ≡ (Err code, f)) ⊎ ((b : Bool) × (test_at m t f ≡ (Ok b, f)) × Refuses m code ts)

  -- all are known, or one is refused
  told_or_refused : (m : Meaning) (ts : List (Tuple Item)) → IsJudged m ts →
      ((bs : List Bool) × AreAll (Tells (test_at m) f) ts bs) ⊎ ((code : Code) × Refuses m code ts)
  told_or_refused m [] h = inl ([], tt)
  told_or_refused m (t ∷ ts) ((Err code, e), h) = inr (code, inl e)
  told_or_refused m (t ∷ ts) ((Ok b, e), h) = later (told_or_refused m ts h)
    where
      later : ((bs : List Bool) × AreAll (Tells (test_at m) f) ts bs) ⊎ ((code : Code) × Refuses m code ts) →
          ((bs : List Bool) × AreAll (Tells (test_at m) f) (t ∷ ts) bs) ⊎ ((code : Code) × Refuses m code (t ∷ ts))
      later (inl (bs, told)) = inl (b ∷ bs, (e, told))
      later (inr (code, refused)) = inr (code, inr (b, e, refused))

  refused_at : (m : Meaning) (code : Code) (done : List Bool) (ts : List (Tuple Item)) → Refuses m code ts →
      in_turn (one_more (test_at m)) done ts f ≡ (Err code, f)
  refused_at m code done [] h = absurd h
  refused_at m code done (t ∷ ts) (inl e) =
      ap (λ o. go_on (go_on o (λ z. give (done ++ z ∷ []))) (λ n. in_turn (one_more (test_at m)) n ts)) e
  refused_at m code done (t ∷ ts) (inr (b, e, h)) =
      ap (λ o. go_on (go_on o (λ z. give (done ++ z ∷ []))) (λ n. in_turn (one_more (test_at m)) n ts)) e
      ∙ refused_at m code (done ++ b ∷ []) ts h

  where_refused : (p : Plan) (code : Code) (ts : List (Tuple Item)) → Refuses (plan_mean p) code ts →
      plan_clause_mean (clause.Where p) frame ts f ≡ (Err code, f)
  where_refused p code ts h =
      ap (λ m. m frame ts f) (plan_eq.clause-Where p)
      ∙ ap (λ o. go_on o (λ tests. give (satisfying ts tests))) (refused_at (plan_mean p) code [] ts h)

  -- what refuses one that passed the first refuses it in the conjunction
  refused_after : (m : Meaning) (ms : List Meaning) (code : Code) (ts : List (Tuple Item)) (bs : List Bool) →
      AreAll (Tells (test_at m) f) ts bs → Refuses (Forms.and ms) code (satisfying ts bs) →
      Refuses (Forms.and (m ∷ ms)) code ts
  refused_after m ms code [] [] h k = k
  refused_after m ms code [] (b ∷ bs) h k = absurd h
  refused_after m ms code (t ∷ ts) [] h k = absurd h
  refused_after m ms code (t ∷ ts) (false ∷ bs) h k =
      inr (false, false_first m ms (at_tuple frame t) f h.0, refused_after m ms code ts bs h.1 k)
  refused_after m ms code (t ∷ ts) (true ∷ bs) h (inl e) =
      inl (true_first m ms (at_tuple frame t) f h.0 ∙ e)
  refused_after m ms code (t ∷ ts) (true ∷ bs) h (inr (b, e, k)) =
      inr (b, true_first m ms (at_tuple frame t) f h.0 ∙ e, refused_after m ms code ts bs h.1 k)

  conjunction_refused : (ps : List Plan) (code : Code) (ts : List (Tuple Item)) → Refuses (Forms.and (map plan_mean ps)) code ts →
      plan_clause_mean (clause.Where (plan.And ps)) frame ts f ≡ (Err code, f)
  conjunction_refused ps code ts h =
      where_refused (plan.And ps) code ts (subst (λ m. Refuses m code ts) (sym (plan_eq.plan-And ps)) h)

  -- a test that can't be refused, and then the others of the tuples that passed
  apart : (p : Plan) (ps : List Plan) (ts : List (Tuple Item)) (bs : List Bool) → AreAll (Tells (test_at (plan_mean p)) f) ts bs →
      IsJudged (Forms.and (map plan_mean ps)) (satisfying ts bs) →
      plan_clause_mean (clause.Where (plan.And ps)) frame (satisfying ts bs) f
      ≡ plan_clause_mean (clause.Where (plan.And (p ∷ ps))) frame ts f
  apart p ps ts bs h judged = by (told_or_refused (Forms.and (map plan_mean ps)) (satisfying ts bs) judged)
    where
      by : ((cs : List Bool) × AreAll (Tells (test_at (Forms.and (map plan_mean ps))) f) (satisfying ts bs) cs)
          ⊎ ((code : Code) × Refuses (Forms.and (map plan_mean ps)) code (satisfying ts bs)) →
          plan_clause_mean (clause.Where (plan.And ps)) frame (satisfying ts bs) f
          ≡ plan_clause_mean (clause.Where (plan.And (p ∷ ps))) frame ts f
      by (inl (cs, told)) =
          let both = merged_tells (plan_mean p) (map plan_mean ps) ts bs cs h told in
          conjunction_told ps (satisfying ts bs) cs told
          ∙ ap (λ l. (Ok l, f)) (sym both.1)
          ∙ sym (conjunction_told (p ∷ ps) ts (merged bs cs) both.0)
      by (inr (code, refused)) =
          conjunction_refused ps code (satisfying ts bs) refused
          ∙ sym (conjunction_refused (p ∷ ps) code ts (refused_after (plan_mean p) (map plan_mean ps) code ts bs h refused))

  quiet_means : (qs : List Plan) → AllByRecursion (λ q. Quiet (plan_mean q)) qs → AllByRecursion Quiet (map plan_mean qs)
  quiet_means [] h = tt
  quiet_means (q ∷ qs) h = (h.0, quiet_means qs h.1)

  -- a test that can't be refused, before others that are judged
  judged_after : (p : Plan) (rs : List Plan) (t : Tuple Item) →
      (truth : Bool) × (test_at (plan_mean p) t f ≡ (Ok truth, f)) →
      (given : Judged Bool) × (test_at (Forms.and (map plan_mean rs)) t f ≡ (given, f)) →
      (given : Judged Bool) × (test_at (Forms.and (map plan_mean (p ∷ rs))) t f ≡ (given, f))
  judged_after p rs t (false, e) rest = (Ok false, false_first (plan_mean p) (map plan_mean rs) (at_tuple frame t) f e)
  judged_after p rs t (true, e) rest =
      (rest.0, true_first (plan_mean p) (map plan_mean rs) (at_tuple frame t) f e ∙ rest.1)

  -- tests that can't be refused, and others that leave the trees, leave them
  judged_at : (ps qs : List Plan) → AllByRecursion (SurelyTells known) ps → AllByRecursion (λ q. Quiet (plan_mean q)) qs →
      (t : Tuple Item) → Fits known (slots ++ t) →
      (given : Judged Bool) × (test_at (Forms.and (map plan_mean (ps ++ qs))) t f ≡ (given, f))
  judged_at [] qs all quiet t fits =
      tested_leaves (Forms.and (map plan_mean qs)) (and_quiet (map plan_mean qs) (quiet_means qs quiet)) (at_tuple frame t) f
  judged_at (p ∷ ps) qs all quiet t fits =
      judged_after p (ps ++ qs) t (all.0 (slots ++ t) focus addresses f fits) (judged_at ps qs all.1 quiet t fits)

  judged_each : (ps qs : List Plan) → AllByRecursion (SurelyTells known) ps → AllByRecursion (λ q. Quiet (plan_mean q)) qs →
      (ts : List (Tuple Item)) → AllFit known slots ts → IsJudged (Forms.and (map plan_mean (ps ++ qs))) ts
  judged_each ps qs all quiet [] w = tt
  judged_each ps qs all quiet (t ∷ ts) w = (judged_at ps qs all quiet t w.0, judged_each ps qs all quiet ts w.1)

  -- tests that can't be refused are a `where` each, before clauses that stand for the others
  pub split_told : (ps qs : List Plan) (rest : List PlanClause) → AllByRecursion (SurelyTells known) ps →
      AllByRecursion (λ q. Quiet (plan_mean q)) qs →
      ((ts : List (Tuple Item)) → in_turn (next_clause frame) ts (map plan_clause_mean rest) f
      ≡ plan_clause_mean (clause.Where (plan.And qs)) frame ts f) →
      (ts : List (Tuple Item)) → AllFit known slots ts →
      in_turn (next_clause frame) ts (map plan_clause_mean (map clause.Where ps ++ rest)) f
      ≡ plan_clause_mean (clause.Where (plan.And (ps ++ qs))) frame ts f
  split_told [] qs rest all quiet h ts w = h ts
  split_told (p ∷ ps) qs rest all quiet h ts w =
      let first = answers p all.0 ts w in
      let fitting = kept_all (λ t. Fits known (slots ++ t)) ts first.0 w in
      ap (λ o. go_on o (λ n. in_turn (next_clause frame) n (map plan_clause_mean (map clause.Where ps ++ rest)))) (where_told p ts first.0 first.1)
      ∙ split_told ps qs rest all.1 quiet h (satisfying ts first.0) fitting
      ∙ apart p (ps ++ qs) ts first.0 first.1 (judged_each ps qs all.1 quiet (satisfying ts first.0) fitting)

  -- no other
  pub nothing_left : (ts : List (Tuple Item)) →
      in_turn (next_clause frame) ts (map plan_clause_mean []) f ≡ plan_clause_mean (clause.Where (plan.And [])) frame ts f
  nothing_left ts =
      let none = none_told ts in
      ap (λ l. (Ok l, f)) (sym none.2) ∙ sym (conjunction_told [] ts none.0 none.1)

-- a conjunction is a `where` for each of the first tests, before clauses that stand for the others
conjuncts_follow : (start : ℕ) (known : List Held) (ps qs : List Plan) (rest : List PlanClause) →
    AllByRecursion (SurelyTells known) ps → AllByRecursion (λ q. Quiet (plan_mean q)) qs →
    ((slots : Slots) (focus : Option Focus) (addresses : List Text) (f : List Tree) (ts : List (Tuple Item)) →
    in_turn (next_clause (frame_of slots focus addresses)) ts (map plan_clause_mean rest) f
    ≡ plan_clause_mean (clause.Where (plan.And qs)) (frame_of slots focus addresses) ts f) →
    SameMany start known (clause.Where (plan.And (ps ++ qs))) (map clause.Where ps ++ rest) known
conjuncts_follow start known ps qs rest all quiet h slots focus addresses l ts trees w =
    record {
      same = split_told known slots focus addresses trees ps qs rest all quiet (h slots focus addresses trees) ts w;
      fits = itself_fits;
    }
  where
    itself_fits : GivesFitting known slots (plan_clause_mean (clause.Where (plan.And (ps ++ qs))) (frame_of slots focus addresses) ts trees)
    itself_fits =
        subst (λ m. GivesFitting known slots (m (frame_of slots focus addresses) ts trees)) (sym (plan_eq.clause-Where (plan.And (ps ++ qs))))
        (where_fits known slots (tuple_at known slots focus addresses) ts w (plan_mean (plan.And (ps ++ qs))) trees)

all_tell : (known : List Held) (ps : List Plan) → AllByRecursion (IsTest known) ps → AllByRecursion (SurelyTells known) ps
all_tell known [] h = tt
all_tell known (p ∷ ps) h = (h.0.tells, all_tell known ps h.1)

-- those at the end of a list that is turned round
others_quiet : (outer : ℕ) (ps qs : List Plan) → AllByRecursion (IsOutside outer) (ps ++ qs) → AllByRecursion (λ q. Quiet (plan_mean q)) qs
others_quiet outer (p ∷ ps) qs h = others_quiet outer ps qs h.1
others_quiet outer [] [] h = tt
others_quiet outer [] (q ∷ qs) h = (h.0.1, others_quiet outer [] qs h.1)

alone : (o : Outcome (List (Tuple Item))) → go_on o (λ ts f. (Ok ts, f)) ≡ o
alone (Ok ts, f) = refl
alone (Err code, f) = refl

in_order : (left tests : List Plan) → reverse (left ++ reverse tests) ≡ tests ++ reverse left
in_order left tests = reverse-append left (reverse tests) ∙ ap (λ l. l ++ reverse left) (reverse-reverse tests)

-- they are put at the end
pub conjuncts_add : (known : List Held) (ps left : List Plan) (before after : List PlanClause) → reverse left ≡ [] →
    TakesTests known (reverse ps) left before after → AddsTests known (plan.And ps) before after
conjuncts_add known ps left before after none (tests, is, all, added) = (
  map clause.Where tests ++ [],
  added ∙ ap (λ l. before ++ l) (sym (append-nil (map clause.Where tests))),
  λ start. subst (λ l. SameMany start known (clause.Where (plan.And l)) (map clause.Where tests ++ []) known) (sym whole)
      (conjuncts_follow start known tests [] [] (all_tell known tests all) tt (λ slots focus addresses f ts. nothing_left known slots focus addresses f ts)),
)
  where
    whole : ps ≡ tests ++ []
    whole = sym (reverse-reverse ps) ∙ ap reverse is ∙ in_order left tests ∙ ap (λ l. tests ++ l) none

-- and one for the others
pub others_add : (outer : ℕ) (known : List Held) (ps left others : List Plan) (before between after : List PlanClause) →
    AllByRecursion (IsOutside outer) ps → TakesTests known (reverse ps) left before between → others ≡ reverse left →
    after ≡ between ++ clause.Where (plan.And others) ∷ [] → AddsTests known (plan.And ps) before after
others_add outer known ps left others before between after outside (tests, is, all, added) turned more = (
  map clause.Where tests ++ clause.Where (plan.And others) ∷ [],
  more ∙ ap (λ l. l ++ clause.Where (plan.And others) ∷ []) added ∙ append_assoc before (map clause.Where tests) (clause.Where (plan.And others) ∷ []),
  λ start. subst (λ l. SameMany start known (clause.Where (plan.And l)) (map clause.Where tests ++ clause.Where (plan.And others) ∷ []) known) (sym whole)
      (conjuncts_follow start known tests others (clause.Where (plan.And others) ∷ []) (all_tell known tests all)
      (others_quiet outer tests others (subst (AllByRecursion (IsOutside outer)) whole outside))
      (λ slots focus addresses f ts. alone (plan_clause_mean (clause.Where (plan.And others)) (frame_of slots focus addresses) ts f))),
)
  where
    whole : ps ≡ tests ++ others
    whole = sym (reverse-reverse ps) ∙ ap reverse is ∙ in_order left tests ∙ ap (λ l. tests ++ l) (sym turned)

pub test_adds : (known : List Held) (p : Plan) (before after : List PlanClause) → after ≡ before ++ clause.Where p ∷ [] →
    AddsTests known p before after
test_adds known p before after added = (clause.Where p ∷ [], added, λ start. itself_follows start known p)

-- # The loop that takes them

pub none_taken : (known : List Held) (left : List Plan) (before : List PlanClause) → TakesTests known left left before before
none_taken known left before = ([], sym (append-nil left), tt, sym (append-nil before))

pub next_taken : (known : List Held) (old left rest : List Plan) (before done after : List PlanClause) (p : Plan) →
    TakesTests known old left before done → left ≡ rest ++ p ∷ [] → IsTest known p → after ≡ done ++ clause.Where p ∷ [] →
    TakesTests known old rest before after
next_taken known old left rest before done after p (tests, is, all, added) cut test more = (
  tests ++ p ∷ [],
  is ∙ ap (λ l. l ++ reverse tests) cut ∙ append_assoc rest (p ∷ []) (reverse tests)
      ∙ ap (λ l. rest ++ l) (sym (reverse-append tests (p ∷ []))),
  all-append tests (p ∷ []) all (test, tt),
  more ∙ ap (λ l. l ++ clause.Where p ∷ []) added ∙ append_assoc before (map clause.Where tests) (clause.Where p ∷ [])
      ∙ ap (λ l. before ++ l) (sym (map-append clause.Where tests (p ∷ []))),
)
  where
    all-append : (xs ys : List Plan) → AllByRecursion (IsTest known) xs → AllByRecursion (IsTest known) ys →
        AllByRecursion (IsTest known) (xs ++ ys)
    all-append [] ys a b = b
    all-append (x ∷ xs) ys a b = (a.0, all-append xs ys a.1 b)
