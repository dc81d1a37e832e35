-- Variables that are written out: a test that reads the value of a `let` in place of its slot.
use Rattle.std.proofs.Common.{◌≡◌, ℕ, zero, suc, ◌+◌, ◌<◌, List, [], ◌∷◌, ◌++◌, map, length, get_or, take, drop, Bool, Ok, Err, refl, sym, ap, ◌∙◌, subst, ◌⊎◌, inl, inr, arith}
use Rattle.std.specs.Prelude.{Option}
use Rattle.std.specs.List.{AllByRecursion}
use Rattle.std.proofs.lemmas.List.{append_assoc, append-nil, length-append, map-append, take-append-drop}
use Rattle.xq_atoms.specs.Text.{Text}
use Rattle.xq_expressions.specs.declared.operators.ComparisonOperator.TheVariants as comparing
use Rattle.xq_expressions.specs.declared.operators.Relation.{Relation}
use Rattle.xq_expressions.specs.declared.operators.Relation.TheVariants as relations
use Rattle.xq_trees.specs.declared.Axis.{Axis}
use Rattle.xq_trees.specs.Tree.{Tree}
use Rattle.xq_trees.specs.Tuples.{Tuple, satisfying, bound, value_at}
use Rattle.xq_meaning.specs.declared.joins.JoinKey.{JoinKey}
use Rattle.xq_meaning.specs.declared.joins.KeyForm.TheVariants as key_form
use Rattle.xq_meaning.specs.declared.node_tests.Test.{Test}
use Rattle.xq_meaning.specs.declared.operators.Operator.TheVariants as operator
use Rattle.xq_meaning.specs.declared.plans.Plan.{Plan}
use Rattle.xq_meaning.specs.declared.plans.Plan.TheVariants as plan
use Rattle.xq_meaning.specs.declared.plans.PlanClause.{PlanClause}
use Rattle.xq_meaning.specs.declared.plans.PlanClause.TheVariants as clause
use Rattle.xq_meaning.specs.Arguments.{effective}
use Rattle.xq_meaning.specs.Doing.{Outcome, go_on, give, judged, in_turn, on_trees}
use Rattle.xq_meaning.specs.Forms
use Rattle.xq_meaning.specs.Functions.{Focus}
use Rattle.xq_meaning.specs.Items.{Item, Node}
use Rattle.xq_meaning.specs.Operators.{operated}
use Rattle.xq_meaning.specs.PlanMeaning.{Slots, Frame, at_tuple, next_clause, plan_mean, plan_clause_mean}
use Rattle.xq_meaning.specs.Same.{frame_of}
use Rattle.xq_meaning.proofs.PlanEquations as plan_eq
use Rattle.xq_meaning.proofs.Turns.{go_on_give, in_turn-append}
use Rattle.xq_optimise.specs.declared.held.Held.{Held}
use Rattle.xq_optimise.specs.Known.{Fits}
use Rattle.xq_optimise.specs.Sure.{SurelyNodes, ReadsBelow, IsTest}
use Rattle.xq_optimise.specs.private.Joins.{StartsAt}
use Rattle.xq_optimise.specs.private.Order.{IsPassed, Rises, AtEach, SameAfter, SameBehind, Continues}
use Rattle.xq_optimise.specs.private.Parts.{AreAll, AllFit, general_comparison}
use Rattle.xq_optimise.proofs.Below.{comparison_is_test}
use Rattle.xq_optimise.proofs.Conjuncts.{Tells, test_at, where_told}
use Rattle.xq_optimise.proofs.Elements.{next_taken}
use Rattle.xq_optimise.proofs.Fitting.{fits_length, kept_all}
use Rattle.xq_optimise.proofs.JoinLaws.{slot_is, starts}
use Rattle.xq_optimise.proofs.Rising.{value_of, let_told}
use Rattle.xq_optimise.proofs.Tests.{nodes_are_texts}

-- # The variables of clauses that a test goes over

abbrev pub value_in : (known : List Held) (c : PlanClause) → IsPassed known c → List Plan
value_in known c (inl h) = []
value_in known c (inr h) = h.0 ∷ []

abbrev pub values_of : (known : List Held) (cs : List PlanClause) → AllByRecursion (IsPassed known) cs → List Plan
values_of known [] all = []
values_of known (c ∷ cs) all = value_in known c all.0 ++ values_of known cs all.1

abbrev pub both : (known : List Held) (cs ds : List PlanClause) → AllByRecursion (IsPassed known) cs → AllByRecursion (IsPassed known) ds →
    AllByRecursion (IsPassed known) (cs ++ ds)
both known [] ds h k = k
both known (c ∷ cs) ds h k = (h.0, both known cs ds h.1 k)

values_both : (known : List Held) (cs ds : List PlanClause) (h : AllByRecursion (IsPassed known) cs) (k : AllByRecursion (IsPassed known) ds) →
    values_of known (cs ++ ds) (both known cs ds h k) ≡ values_of known cs h ++ values_of known ds k
values_both known [] ds h k = refl
values_both known (c ∷ cs) ds h k =
    ap (λ l. value_in known c h.0 ++ l) (values_both known cs ds h.1 k)
    ∙ sym (append_assoc (value_in known c h.0) (values_of known cs h.1) (values_of known ds k))

-- # Tuples with the values of variables at their ends

all_more : {A B : Type 0} (R : A → B → Type 0) (xs : List A) (ys : List B) (x : A) (y : B) → AreAll R xs ys → R x y →
    AreAll R (xs ++ x ∷ []) (ys ++ y ∷ [])
all_more R [] [] x y h k = (k, tt)
all_more R [] (b ∷ ys) x y h k = absurd h
all_more R (a ∷ xs) [] x y h k = absurd h
all_more R (a ∷ xs) (b ∷ ys) x y h k = (h.0, all_more R xs ys x y h.1 k)

-- the value of one of them
value_among : {A : Type 0} (R : A → List Item → Type 0) (before : List A) (x : A) (after : List A) (vs : List (List Item)) →
    AreAll R (before ++ x ∷ after) vs → R x (value_at (length before) vs)
value_among R [] x after [] h = absurd h
value_among R [] x after (v ∷ vs) h = h.0
value_among R (a ∷ before) x after [] h = absurd h
value_among R (a ∷ before) x after (v ∷ vs) h = value_among R before x after vs h.1

value_behind : (n : ℕ) (env vs : Slots) (k : ℕ) → n ≡ length env + k → value_at n (env ++ vs) ≡ value_at k vs
value_behind n [] vs k is = ap (λ m. value_at m vs) (omega (arith, is))
value_behind zero (x ∷ env) vs k is = absurd (omega (arith, is))
value_behind (suc n) (x ∷ env) vs k is = value_behind n env vs k (omega (arith, is))

module _ (known : List Held) (slots : Slots) (focus : Option Focus) (addresses : List Text) (f : List Tree) where
  abbrev frame : Frame
  frame = frame_of slots focus addresses

  abbrev Gives : Tuple Item → Plan → List Item → Type 0
  Gives t p v = plan_mean p (at_tuple frame t) f ≡ (Ok v, f)

  -- a tuple whose slots are as known, and after it the values of these variables
  abbrev pub Stands : List Plan → Tuple Item → Type 0
  Stands values u =
      (t : Tuple Item) × (vs : List (List Item)) × (u ≡ t ++ vs) × Fits known (slots ++ t) × AreAll (Gives t) values vs

  below_at : (p : Plan) → ReadsBelow known p → (t u : Tuple Item) (vs : List (List Item)) → u ≡ t ++ vs → Fits known (slots ++ t) →
      plan_mean p (at_tuple frame u) f ≡ plan_mean p (at_tuple frame t) f
  below_at p below t u vs is fits =
      ap (λ (w : Tuple Item). plan_mean p (frame_of (slots ++ w) focus addresses) f) is
      ∙ ap (λ (env : Slots). plan_mean p (frame_of env focus addresses) f) (sym (append_assoc slots t vs))
      ∙ below (slots ++ t) vs focus addresses f fits

  nodes_at : (p : Plan) → SurelyNodes known p → ReadsBelow known p → (values : List Plan) (u : Tuple Item) → Stands values u →
      (v : List Item) × Gives u p v × Stands (values ++ p ∷ []) (u ++ v ∷ [])
  nodes_at p h below values u (t, vs, is, fits, all) =
      let told = h (slots ++ t) focus addresses f fits in
      let v = map Node told.0 in (
        v,
        below_at p below t u vs is fits ∙ told.1,
        (t, vs ++ v ∷ [], ap (λ w. w ++ v ∷ []) is ∙ append_assoc t vs (v ∷ []), fits, all_more (Gives t) values vs p v all told.1),
      )

  answers_at : (q : Plan) → IsTest known q → (values : List Plan) (us : List (Tuple Item)) → AllByRecursion (Stands values) us →
      (bs : List Bool) × AreAll (Tells (test_at known slots focus addresses f (plan_mean q)) f) us bs
  answers_at q h values [] w = ([], tt)
  answers_at q h values (u ∷ us) w =
      let first = one w.0 in
      let rest = answers_at q h values us w.1 in
      (first.0 ∷ rest.0, (first.1, rest.1))
    where
      one : Stands values u → (b : Bool) × (test_at known slots focus addresses f (plan_mean q) u f ≡ (Ok b, f))
      one (t, vs, is, fits, all) =
          let told = h.tells (slots ++ t) focus addresses f fits in
          (told.0, ap (λ o. go_on o (λ xs. judged (effective xs))) (below_at q h.below t u vs is fits) ∙ told.1)

  values_at : (p : Plan) → SurelyNodes known p → ReadsBelow known p → (values : List Plan) (us : List (Tuple Item)) → AllByRecursion (Stands values) us →
      (vs : List (List Item)) × AreAll (Tells (value_of known slots focus addresses f p) f) us vs × AllByRecursion (Stands (values ++ p ∷ [])) (bound us vs)
  values_at p h below values [] w = ([], tt, tt)
  values_at p h below values (u ∷ us) w =
      let first = nodes_at p h below values u w.0 in
      let rest = values_at p h below values us w.1 in
      (first.0 ∷ rest.0, (first.1, rest.1), (first.2, rest.2))

  -- one clause, and then all
  one_passed : (c : PlanClause) (is : IsPassed known c) (values : List Plan) (ts : List (Tuple Item)) → AllByRecursion (Stands values) ts →
      (us : List (Tuple Item)) × (plan_clause_mean c frame ts f ≡ (Ok us, f)) × AllByRecursion (Stands (values ++ value_in known c is)) us
  one_passed c (inl (q, is, h)) values ts w =
      let bs = answers_at q h values ts w in (
        satisfying ts bs.0,
        ap (λ d. plan_clause_mean d frame ts f) is ∙ where_told known slots focus addresses f q ts bs.0 bs.1,
        subst (λ l. AllByRecursion (Stands l) (satisfying ts bs.0)) (sym (append-nil values)) (kept_all (Stands values) ts bs.0 w),
      )
  one_passed c (inr (p, is, h, below)) values ts w =
      let vs = values_at p h below values ts w in (
        bound ts vs.0,
        ap (λ d. plan_clause_mean d frame ts f) is ∙ let_told known slots focus addresses f p ts vs.0 vs.1,
        vs.2,
      )

  all_passed : (cs : List PlanClause) (all : AllByRecursion (IsPassed known) cs) (values : List Plan) (ts : List (Tuple Item)) → AllByRecursion (Stands values) ts →
      (us : List (Tuple Item)) × (in_turn (next_clause frame) ts (map plan_clause_mean cs) f ≡ (Ok us, f))
      × AllByRecursion (Stands (values ++ values_of known cs all)) us
  all_passed [] all values ts w =
      (ts, refl, subst (λ l. AllByRecursion (Stands l) ts) (sym (append-nil values)) w)
  all_passed (c ∷ cs) all values ts w =
      let one = one_passed c all.0 values ts w in
      let rest = all_passed cs all.1 (values ++ value_in known c all.0) one.0 one.2 in (
        rest.0,
        ap (λ o. go_on o (λ n. in_turn (next_clause frame) n (map plan_clause_mean cs))) one.1 ∙ rest.1,
        subst (λ l. AllByRecursion (Stands l) rest.0) (append_assoc values (value_in known c all.0) (values_of known cs all.1)) rest.2,
      )

  none_stand : (ts : List (Tuple Item)) → AllFit known slots ts → AllByRecursion (Stands []) ts
  none_stand [] w = tt
  none_stand (t ∷ ts) w = ((t, [], sym (append-nil t), w.0, tt), none_stand ts w.1)

  pub come_through : (cs : List PlanClause) (all : AllByRecursion (IsPassed known) cs) (ts : List (Tuple Item)) → AllFit known slots ts →
      (us : List (Tuple Item)) × (in_turn (next_clause frame) ts (map plan_clause_mean cs) f ≡ (Ok us, f))
      × AllByRecursion (Stands (values_of known cs all)) us
  come_through cs all ts w = all_passed cs all [] ts (none_stand ts w)

  -- what a slot holds
  value_stands : (p : Plan) → ReadsBelow known p → (before after values : List Plan) → values ≡ before ++ p ∷ after →
      (n : ℕ) → n ≡ length known + length before → (us : List (Tuple Item)) → AllByRecursion (Stands values) us →
      AllByRecursion (λ u. plan_mean p (at_tuple frame u) f ≡ plan_mean (plan.Slot n) (at_tuple frame u) f) us
  value_stands p below before after values cut n at [] w = tt
  value_stands p below before after values cut n at (u ∷ us) w =
      (one w.0, value_stands p below before after values cut n at us w.1)
    where
      one : Stands values u → plan_mean p (at_tuple frame u) f ≡ plan_mean (plan.Slot n) (at_tuple frame u) f
      one (t, vs, is, fits, all) =
          let long = fits_length known (slots ++ t) fits in
          let v = value_at (length before) vs in
          let held : value_at n (slots ++ u) ≡ v =
          ap (λ (w : Tuple Item). value_at n (slots ++ w)) is ∙ ap (value_at n) (sym (append_assoc slots t vs))
          ∙ value_behind n (slots ++ t) vs (length before) (omega (arith, at, long)) in
          below_at p below t u vs is fits
          ∙ value_among (Gives t) before p after vs (subst (λ l. AreAll (Gives t) l vs) cut all)
          ∙ sym (slot_is n (at_tuple frame u) f ∙ ap (λ xs. (Ok xs, f)) held)

-- # The value that a slot stands for

-- the clauses so far, and how many variables are still before the wanted one
pub record Counted (known : List Held) (done : List PlanClause) (wanted before : ℕ) : Type 0 where
  pub all : AllByRecursion (IsPassed known) done
  pub at : wanted ≡ (length known + length (values_of known done all)) + before

pub none_counted : (known : List Held) (done : List PlanClause) (wanted before : ℕ) → done ≡ [] → wanted ≡ length known + before →
    Counted known done wanted before
none_counted known done wanted before none is =
    subst (λ d. Counted known d wanted before) (sym none) (record { all = tt; at = omega (arith, is) })

pub clause_counted : (known : List Held) (done done' : List PlanClause) (c : PlanClause) (wanted before before' : ℕ) → Counted known done wanted before →
    (is : IsPassed known c) → done' ≡ done ++ c ∷ [] → before ≡ length (value_in known c is) + before' → Counted known done' wanted before'
clause_counted known done done' c wanted before before' h is pushed next =
    let longer = ap length (values_both known done (c ∷ []) h.all (is, tt)) ∙ length-append (values_of known done h.all) (value_in known c is ++ []) in
    let last = ap length (append-nil (value_in known c is)) in
    let at = h.at in
    subst (λ d. Counted known d wanted before') (sym pushed)
    (record { all = both known done (c ∷ []) h.all (is, tt); at = omega (arith, at, next, longer, last) })

pub value_found : (known : List Held) (passed done rest : List PlanClause) (c : PlanClause) (p : Plan) (wanted : ℕ) → passed ≡ done ++ c ∷ rest →
    c ≡ clause.Let p → SurelyNodes known p → ReadsBelow known p → Counted known done wanted 0 → AllByRecursion (IsPassed known) rest →
    SameAfter known passed (plan.Slot wanted) p
value_found known passed done rest c p wanted cut is h below counted others slots focus addresses ts trees w =
    let frame = frame_of slots focus addresses in
    let own : IsPassed known c = inr (p, is, h, below) in
    let all = both known done (c ∷ rest) counted.all (own, others) in
    let through = come_through known slots focus addresses trees (done ++ c ∷ rest) all ts w in
    let at = counted.at in
    subst (AtEach (λ t f. plan_mean p (at_tuple frame t) f ≡ plan_mean (plan.Slot wanted) (at_tuple frame t) f))
    (sym (ap (λ cs. in_turn (next_clause frame) ts (map plan_clause_mean cs) trees) cut ∙ through.1))
    (value_stands known slots focus addresses trees p below (values_of known done counted.all) (values_of known rest others) (values_of known (done ++ c ∷ rest) all)
    (values_both known done (c ∷ rest) counted.all (own, others)) wanted (omega (arith, at)) through.0 through.2)

-- the clause binds a variable for these nodes, by slots that are known
abbrev pub Binds : List Held → PlanClause → Plan → Type 0
Binds known c p = (c ≡ clause.Let p) × SurelyNodes known p × ReadsBelow known p

-- the clause is a test of such slots and binds none, or it binds one of those that come before
abbrev pub Skips : List Held → PlanClause → ℕ → ℕ → Type 0
Skips known c before after =
    (Rises known c × (before ≡ after)) ⊎ ((p : Plan) × Binds known c p × (before ≡ after + 1))

all_behind : {A : Type 0} (P : A → Type 0) (xs ys : List A) → AllByRecursion P (xs ++ ys) → AllByRecursion P ys
all_behind P [] ys h = h
all_behind P (x ∷ xs) ys h = all_behind P xs ys h.1

-- at one place of the clauses
pub bound_found : (known : List Held) (passed : List PlanClause) (i : ℕ) (c : PlanClause) (p : Plan) (wanted before : ℕ) →
    AllByRecursion (IsPassed known) passed → i < length passed → c ≡ get_or passed i c → Counted known (take i passed) wanted before → before ≡ 0 →
    Binds known c p → SameAfter known passed (plan.Slot wanted) p
bound_found known passed i c p wanted before all within at counted none (is, sure, below) =
    let rest = drop (i + 1) passed in
    let cut : passed ≡ take i passed ++ c ∷ rest =
    sym (take-append-drop (i + 1) passed) ∙ ap (λ l. l ++ rest) (next_taken passed i c within at) ∙ append_assoc (take i passed) (c ∷ []) rest in
    value_found known passed (take i passed) rest c p wanted cut is sure below (subst (Counted known (take i passed) wanted) none counted)
    (all_behind (IsPassed known) (take i passed) (c ∷ rest) (subst (AllByRecursion (IsPassed known)) cut all)).1

pub clause_skipped : (known : List Held) (passed : List PlanClause) (i : ℕ) (c : PlanClause) (wanted before after : ℕ) → i < length passed →
    c ≡ get_or passed i c → Counted known (take i passed) wanted before → Skips known c before after → Counted known (take (i + 1) passed) wanted after
clause_skipped known passed i c wanted before after within at counted (inl (test, same)) =
    clause_counted known (take i passed) (take (i + 1) passed) c wanted before after counted (inl test) (next_taken passed i c within at) (omega (arith, same))
clause_skipped known passed i c wanted before after within at counted (inr (p, (is, sure, below), fewer)) =
    clause_counted known (take i passed) (take (i + 1) passed) c wanted before after counted (inr (p, is, sure, below)) (next_taken passed i c within at)
    (omega (arith, fewer))

-- # Parts

each_more : (P Q : Tuple Item → List Tree → Type 0) → ((t : Tuple Item) (f : List Tree) → P t f → Q t f) → (o : Outcome (List (Tuple Item))) → AtEach P o → AtEach Q o
each_more P Q up (Ok ts, f) h = every ts h
  where
    every : (us : List (Tuple Item)) → AllByRecursion (λ t. P t f) us → AllByRecursion (λ t. Q t f) us
    every [] k = tt
    every (u ∷ us) k = (up u f k.0, every us k.1)
each_more P Q up (Err code, f) h = tt

each_always : (P : Tuple Item → List Tree → Type 0) → ((t : Tuple Item) (f : List Tree) → P t f) → (o : Outcome (List (Tuple Item))) → AtEach P o
each_always P h (Ok ts, f) = every ts
  where
    every : (us : List (Tuple Item)) → AllByRecursion (λ t. P t f) us
    every [] = tt
    every (u ∷ us) = (h u f, every us)
each_always P h (Err code, f) = tt

abbrev key_at : ℕ → List (Axis × Test) → JoinKey
key_at slot scans = record { slot = slot; scans = scans; form = key_form.Value }

pub part_continues : (value part : Plan) (m slot : ℕ) (scans more whole : List (Axis × Test)) → StartsAt m scans value → whole ≡ scans ++ more →
    StartsAt m whole part → Continues value slot more part
part_continues value part m slot scans more whole from pushed is side at frame f same =
    let act = λ (zs : List Item) (s : Axis × Test). Forms.scan s.0 s.1 zs in
    sym (starts (key_at m (scans ++ more)) part (subst (λ ss. StartsAt m ss part) pushed is) frame f)
    ∙ in_turn-append act (value_at m frame.env) scans more f
    ∙ ap (λ o. go_on o (λ n. in_turn act n more)) (starts (key_at m scans) value from frame f ∙ same ∙ slot_is slot frame f)
    ∙ starts (key_at slot more) side at frame f

pub key_continues : (known : List Held) (passed : List PlanClause) (value side part : Plan) (slot : ℕ) (scans : List (Axis × Test)) →
    SameAfter known passed (plan.Slot slot) value → Continues value slot scans part → StartsAt slot scans side → SameAfter known passed side part
key_continues known passed value side part slot scans same next at slots focus addresses ts trees w =
    let frame = frame_of slots focus addresses in
    each_more (λ t f. plan_mean value (at_tuple frame t) f ≡ plan_mean (plan.Slot slot) (at_tuple frame t) f) (λ t f. plan_mean part (at_tuple frame t) f ≡ plan_mean side (at_tuple frame t) f)
    (λ t f e. next side at (at_tuple frame t) f e) (in_turn (next_clause frame) ts (map plan_clause_mean passed) trees) (same slots focus addresses ts trees w)

pub key_copied : (known : List Held) (passed : List PlanClause) (side part : Plan) (slot : ℕ) (scans : List (Axis × Test)) →
    StartsAt slot scans side → StartsAt slot scans part → SameAfter known passed side part
key_copied known passed side part slot scans at is slots focus addresses ts trees w =
    let frame = frame_of slots focus addresses in
    each_always (λ t f. plan_mean part (at_tuple frame t) f ≡ plan_mean side (at_tuple frame t) f)
    (λ t f. sym (starts (key_at slot scans) part is (at_tuple frame t) f) ∙ starts (key_at slot scans) side at (at_tuple frame t) f)
    (in_turn (next_clause frame) ts (map plan_clause_mean passed) trees)

-- # Tests

compared_is : (relation : Relation) (p q : Plan) (frame : Frame) (f : List Tree) (xs : List Item) → plan_mean p frame f ≡ (Ok xs, f) →
    plan_mean (general_comparison relation p q) frame f
    ≡ go_on (go_on (plan_mean q frame f) (λ ys. on_trees (λ ts. operated (operator.Comparison (comparing.General relation)) ts xs ys))) (λ zs. give zs)
compared_is relation p q frame f xs told =
    let op = operator.Comparison (comparing.General relation) in
    ap (λ m. m frame f) (plan_eq.plan-Chain p ((op, q) ∷ []))
    ∙ ap (λ o. go_on o (λ xs. in_turn (Forms.next_operand frame) xs ((op, plan_mean q) ∷ []))) told

-- a side of the test, written out
pub record IsSide (known : List Held) (passed : List PlanClause) (side part : Plan) : Type 0 where
  pub sure : SurelyNodes known part
  pub below : ReadsBelow known part
  pub same : SameAfter known passed side part

module _ (known : List Held) (passed : List PlanClause) (relation : Relation) (l r p q : Plan) (left : IsSide known passed l p) (right : IsSide known passed r q) where
  abbrev was : Plan
  was = general_comparison relation l r

  abbrev now : Plan
  now = general_comparison relation p q

  pub is_test : IsTest known now
  is_test =
      comparison_is_test known relation p q now refl (nodes_are_texts known p left.sure) left.below (nodes_are_texts known q right.sure) right.below

  module _ (slots : Slots) (focus : Option Focus) (addresses : List Text) (f : List Tree) where
    abbrev here : Tuple Item → Frame
    here = at_tuple (frame_of slots focus addresses)

    tells_alike : (values : List Plan) (us : List (Tuple Item)) (bs : List Bool) → AllByRecursion (Stands known slots focus addresses f values) us →
        AllByRecursion (λ u. plan_mean p (here u) f ≡ plan_mean l (here u) f) us → AllByRecursion (λ u. plan_mean q (here u) f ≡ plan_mean r (here u) f) us →
        AreAll (Tells (test_at known slots focus addresses f (plan_mean now)) f) us bs → AreAll (Tells (test_at known slots focus addresses f (plan_mean was)) f) us bs
    tells_alike values [] [] w a b h = tt
    tells_alike values [] (t ∷ bs) w a b h = absurd h
    tells_alike values (u ∷ us) [] w a b h = absurd h
    tells_alike values (u ∷ us) (t ∷ bs) w a b h =
        let given = nodes_at known slots focus addresses f p left.sure left.below values u w.0 in (
          ap (λ o. go_on o (λ xs. judged (effective xs)))
              (compared_is relation l r (here u) f given.0 (sym a.0 ∙ given.1)
              ∙ ap (λ o. go_on (go_on o (λ ys. on_trees (λ ts. operated (operator.Comparison (comparing.General relation)) ts given.0 ys))) (λ zs. give zs)) (sym b.0)
              ∙ sym (compared_is relation p q (here u) f given.0 given.1))
              ∙ h.0,
          tells_alike values us bs w.1 a.1 b.1 h.1,
        )

  pub test_behind : AllByRecursion (IsPassed known) passed → SameBehind known passed (clause.Where was) (clause.Where now)
  test_behind all slots focus addresses ts trees w =
      let frame = frame_of slots focus addresses in
      let act = next_clause frame in
      let through = come_through known slots focus addresses trees passed all ts w in
      let us = through.0 in
      let behind : (c : PlanClause) → in_turn act ts (map plan_clause_mean (passed ++ c ∷ [])) trees ≡ plan_clause_mean c frame us trees =
      λ c. ap (λ ms. in_turn act ts ms trees) (map-append plan_clause_mean passed (c ∷ []))
      ∙ in_turn-append act ts (map plan_clause_mean passed) (plan_clause_mean c ∷ []) trees
      ∙ ap (λ o. go_on o (λ n. in_turn act n (plan_clause_mean c ∷ []))) through.1
      ∙ go_on_give (plan_clause_mean c frame us trees) in
      let told = answers_at known slots focus addresses trees now is_test (values_of known passed all) us through.2 in
      let at : (s part : Plan) → SameAfter known passed s part → AllByRecursion (λ u. plan_mean part (at_tuple frame u) trees ≡ plan_mean s (at_tuple frame u) trees) us =
      λ s part h. subst (AtEach (λ t f. plan_mean part (at_tuple frame t) f ≡ plan_mean s (at_tuple frame t) f)) through.1 (h slots focus addresses ts trees w) in
      behind (clause.Where now) ∙ where_told known slots focus addresses trees now us told.0 told.1
      ∙ sym (behind (clause.Where was)
      ∙ where_told known slots focus addresses trees was us told.0
      (tells_alike slots focus addresses trees (values_of known passed all) us told.0 through.2 (at l p left.same) (at r q right.same) told.1))

pub written_stands : (known : List Held) (passed : List PlanClause) (next : PlanClause) (test l r p q new : Plan) (relation : Relation) →
    next ≡ clause.Where test → test ≡ general_comparison relation l r → relation ≡ relations.Equal →
    SurelyNodes known p × ReadsBelow known p × SameAfter known passed l p → SurelyNodes known q × ReadsBelow known q × SameAfter known passed r q →
    new ≡ general_comparison relations.Equal p q → AllByRecursion (IsPassed known) passed →
    IsTest known new × SameBehind known passed next (clause.Where new)
written_stands known passed next test l r p q new relation is what by (sure, below, same) (sure', below', same') made all =
    let left : IsSide known passed l p = record { sure = sure; below = below; same = same } in
    let right : IsSide known passed r q = record { sure = sure'; below = below'; same = same' } in
    let old : next ≡ clause.Where (general_comparison relations.Equal l r) = is ∙ ap clause.Where (what ∙ ap (λ w. general_comparison w l r) by) in (
      subst (IsTest known) (sym made) (is_test known passed relations.Equal l r p q left right),
      subst (λ (c : PlanClause). SameBehind known passed c (clause.Where new)) (sym old)
          (subst (λ (n : Plan). SameBehind known passed (clause.Where (general_comparison relations.Equal l r)) (clause.Where n)) (sym made)
          (test_behind known passed relations.Equal l r p q left right all)),
    )
