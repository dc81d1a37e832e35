-- Items up to a position: a `for` over what a predicate keeps, in place of a `for` and a `where`.
use Rattle.std.proofs.Common.{◌≡◌, ℕ, suc, ◌+◌, List, [], ◌∷◌, ◌++◌, map, reverse, length, Bool, true, false, Ok, Err, refl, sym, ap, ◌∙◌, subst, ◌⊎◌, inl, inr, arith}
use Rattle.std.specs.Prelude.{ℤ, pos, Option, Some}
use Rattle.std.specs.List.{enumerate_from, zip}
use Rattle.std.proofs.lemmas.List.Concat.{flat_map-cons}
use Rattle.std.proofs.lemmas.List.{append_assoc, append-nil, length-append, map-append, reverse-append}
use Rattle.xq_atoms.specs.Atom.{Integer}
use Rattle.xq_atoms.specs.Text.{Text}
use Rattle.xq_expressions.specs.declared.operators.AllowingEmpty.TheVariants as allowing
use Rattle.xq_expressions.specs.declared.operators.ComparisonOperator.TheVariants as comparing
use Rattle.xq_expressions.specs.declared.operators.Relation.{Relation}
use Rattle.xq_trees.specs.Tree.{Tree}
use Rattle.xq_trees.specs.Tuples.{Tuple, expanded, item_values, value_at, with_items}
use Rattle.xq_meaning.specs.declared.operators.Operator.{Operator}
use Rattle.xq_meaning.specs.declared.operators.Operator.TheVariants as operator
use Rattle.xq_meaning.specs.declared.plans.Plan.{Plan}
use Rattle.xq_meaning.specs.declared.plans.Plan.TheVariants as plan
use Rattle.xq_meaning.specs.declared.plans.PlanClause.{PlanClause}
use Rattle.xq_meaning.specs.declared.plans.PlanClause.TheVariants as clause
use Rattle.xq_meaning.specs.Arguments.{atomic, boolean, effective, whole}
use Rattle.xq_meaning.specs.Doing.{Doing, Outcome, ◌>>=◌, for_each, give, go_on, in_turn, judged, more, on_trees, one_more}
use Rattle.xq_meaning.specs.Forms
use Rattle.xq_meaning.specs.Functions.{Focus}
use Rattle.xq_meaning.specs.Items.{Item, Atom}
use Rattle.xq_meaning.specs.Operators.{keeps, operated}
use Rattle.xq_meaning.specs.PlanMeaning.{Slots, Frame, at_tuple, next_clause, plan_mean, plan_clause_mean}
use Rattle.xq_meaning.specs.Same.{frame_of}
use Rattle.xq_meaning.specs.Steps.{focuses_from}
use Rattle.xq_meaning.proofs.PlanEquations as plan_eq
use Rattle.xq_meaning.proofs.Turns.{in_turn-append}
use Rattle.xq_optimise.specs.declared.held.Held.{Held}
use Rattle.xq_optimise.specs.Known.{Fits}
use Rattle.xq_optimise.specs.private.Firsts.{ComparesSlot, IsBound, KeepsFirsts}
use Rattle.xq_optimise.specs.private.Order.{SameRest}
use Rattle.xq_optimise.specs.private.Parts.{AllFit, general_comparison}
use Rattle.xq_optimise.specs.private.Positions.{Compares, position_comparison, turned, value_comparison}
use Rattle.xq_optimise.specs.private.Ranges.{IsNarrower}
use Rattle.xq_optimise.proofs.Fitting.{fits_length}
use Rattle.xq_optimise.proofs.GroupLets.{passed_is}
use Rattle.xq_optimise.proofs.Keeping.{either, later}
use Rattle.xq_optimise.proofs.PositionTests.{answer, answer_turned, number_after, pairs_give, values_give}
use Rattle.xq_optimise.proofs.Splitting.{less_falls, less_equal_falls}

-- # Comparisons of the variable

-- an operator between two parts whose values are known
compared : (p q : Plan) (op : Operator) (frame : Frame) (f : List Tree) (xs ys zs : List Item) → plan_mean p frame f ≡ (Ok xs, f) → plan_mean q frame f ≡ (Ok ys, f) →
    operated op f xs ys ≡ Ok zs → plan_mean (plan.Chain p ((op, q) ∷ [])) frame f ≡ (Ok zs, f)
compared p q op frame f xs ys zs left right tells =
    ap (λ m. m frame f) (plan_eq.plan-Chain p ((op, q) ∷ []))
    ∙ ap (λ o. go_on o (λ vs. in_turn (Forms.next_operand frame) vs ((op, plan_mean q) ∷ []))) left
    ∙ ap (λ o. go_on (go_on o (λ vs. on_trees (λ ts. operated op ts xs vs))) (λ vs. give vs)) right
    ∙ ap (λ r. go_on (r, f) (λ vs. give vs)) tells

slot_value : (slot : ℕ) (frame : Frame) (f : List Tree) (i : ℕ) → value_at slot frame.env ≡ whole i → plan_mean (plan.Slot slot) frame f ≡ (Ok (whole i), f)
slot_value slot frame f i e = ap (λ m. m frame f) (plan_eq.plan-Slot slot) ∙ ap (λ xs. (Ok xs, f)) e

number_value : (n : ℤ) (frame : Frame) (f : List Tree) → plan_mean (plan.Int n) frame f ≡ (Ok (atomic (Integer n)), f)
number_value n frame f = ap (λ m. m frame f) (plan_eq.plan-Int n)

general_before : (slot : ℕ) (by : Relation) (n : ℤ) → ComparesSlot slot by n (general_comparison by (plan.Slot slot) (plan.Int n))
general_before slot by n frame f i e =
    compared (plan.Slot slot) (plan.Int n) (operator.Comparison (comparing.General by)) frame f _ _ _ (slot_value slot frame f i e) (number_value n frame f) (pairs_give by (pos i) n f)

value_before : (slot : ℕ) (by : Relation) (n : ℤ) → ComparesSlot slot by n (value_comparison by (plan.Slot slot) (plan.Int n))
value_before slot by n frame f i e =
    compared (plan.Slot slot) (plan.Int n) (operator.Comparison (comparing.Value by)) frame f _ _ _ (slot_value slot frame f i e) (number_value n frame f) (values_give by (pos i) n f)

general_behind : (slot : ℕ) (by : Relation) (n : ℤ) → ComparesSlot slot (turned by) n (general_comparison by (plan.Int n) (plan.Slot slot))
general_behind slot by n frame f i e =
    compared (plan.Int n) (plan.Slot slot) (operator.Comparison (comparing.General by)) frame f _ _ _ (number_value n frame f) (slot_value slot frame f i e)
    (pairs_give by n (pos i) f ∙ ap (λ b. Ok (boolean b)) (sym (answer_turned by n (pos i))))

value_behind : (slot : ℕ) (by : Relation) (n : ℤ) → ComparesSlot slot (turned by) n (value_comparison by (plan.Int n) (plan.Slot slot))
value_behind slot by n frame f i e =
    compared (plan.Int n) (plan.Slot slot) (operator.Comparison (comparing.Value by)) frame f _ _ _ (number_value n frame f) (slot_value slot frame f i e)
    (values_give by n (pos i) f ∙ ap (λ b. Ok (boolean b)) (sym (answer_turned by n (pos i))))

pub slot_before : (slot : ℕ) (by : Relation) (n : ℤ) (p q r : Plan) → Compares by p q r → p ≡ plan.Slot slot → q ≡ plan.Int n → ComparesSlot slot by n r
slot_before slot by n p q r (inl is) first second =
    subst (ComparesSlot slot by n) (sym (is ∙ ap (λ s. general_comparison by s q) first ∙ ap (λ s. general_comparison by (plan.Slot slot) s) second)) (general_before slot by n)
slot_before slot by n p q r (inr is) first second =
    subst (ComparesSlot slot by n) (sym (is ∙ ap (λ s. value_comparison by s q) first ∙ ap (λ s. value_comparison by (plan.Slot slot) s) second)) (value_before slot by n)

pub slot_behind : (slot : ℕ) (by : Relation) (n : ℤ) (p q r : Plan) → Compares by p q r → q ≡ plan.Slot slot → p ≡ plan.Int n → ComparesSlot slot (turned by) n r
slot_behind slot by n p q r (inl is) second first =
    subst (ComparesSlot slot (turned by) n) (sym (is ∙ ap (λ s. general_comparison by s q) first ∙ ap (λ s. general_comparison by (plan.Int n) s) second)) (general_behind slot by n)
slot_behind slot by n p q r (inr is) second first =
    subst (ComparesSlot slot (turned by) n) (sym (is ∙ ap (λ s. value_comparison by s q) first ∙ ap (λ s. value_comparison by (plan.Int n) s) second)) (value_behind slot by n)

-- # The first items

abbrev firsts_next : Bool → Item → List Item → List Item
firsts_next true x xs = x ∷ xs
firsts_next false x xs = []

-- from this position on, up to one at which it fails
abbrev pub firsts : (ℕ → Bool) → ℕ → List Item → List Item
firsts truth i [] = []
firsts truth i (x ∷ xs) = firsts_next (truth i) x (firsts truth (suc i) xs)

falls : (by : Relation) (n : ℤ) → IsBound by → (i : ℕ) → answer by (pos (suc i)) n ≡ true → answer by (pos i) n ≡ true
falls by n (inl is) i on' = subst (λ r. answer r (pos i) n ≡ true) (sym is) (less_falls n i (subst (λ r. answer r (pos (suc i)) n ≡ true) is on'))
falls by n (inr is) i on' = subst (λ r. answer r (pos i) n ≡ true) (sym is) (less_equal_falls n i (subst (λ r. answer r (pos (suc i)) n ≡ true) is on'))

next_is : (i : ℕ) → i + 1 ≡ suc i
next_is i = omega arith

module _ (known : List Held) (range test p : Plan) (by : Relation) (n : ℤ) (bound : IsBound by) (compares : ComparesSlot (length known + 1) by n test)
    (is : p ≡ position_comparison by n) (slots : Slots) (focus : Option Focus) (addresses : List Text) where
  abbrev frame : Frame
  frame = frame_of slots focus addresses

  abbrev truth : ℕ → Bool
  truth i = answer by (pos i) n

  off : (i : ℕ) → truth i ≡ false → truth (suc i) ≡ false
  off = later truth (falls by n bound)

  -- # What the predicate keeps

  passed_at : (inside : Frame) (x : Item) (i last : ℕ) (f : List Tree) →
      Forms.passed (plan_mean p) inside (record { item = x; position = i; last = last }) f ≡ (Ok (Forms.kept_if x (truth i)), f)
  passed_at inside x i last f =
      ap (λ q. Forms.passed (plan_mean q) inside (record { item = x; position = i; last = last }) f) is
      ∙ ap (λ o. go_on o (λ value. judged (keeps i value) >>= (λ keep. give (Forms.kept_if x keep))))
      (number_after inside.env (Some (record { item = x; position = i; last = last })) inside.addresses f (operator.Comparison (comparing.General by)) n
      ∙ ap (λ r. (r, f)) (pairs_give by (pos i) n f))

  none_passed : (inside : Frame) (xs done : List Item) (i last : ℕ) (f : List Tree) → truth i ≡ false →
      in_turn (more (Forms.passed (plan_mean p) inside)) done (focuses_from i last xs) f ≡ (Ok done, f)
  none_passed inside [] done i last f none' = refl
  none_passed inside (x ∷ xs) done i last f none' =
      ap (λ o. go_on (go_on o (λ ys. give (done ++ ys))) (λ next. in_turn (more (Forms.passed (plan_mean p) inside)) next (focuses_from (suc i) last xs)))
      (passed_at inside x i last f ∙ ap (λ b. (Ok (Forms.kept_if x b), f)) none')
      ∙ ap (λ l. in_turn (more (Forms.passed (plan_mean p) inside)) l (focuses_from (suc i) last xs) f) (append-nil done)
      ∙ none_passed inside xs done (suc i) last f (off i none')

  firsts_passed : (inside : Frame) (xs done : List Item) (i last : ℕ) (f : List Tree) →
      in_turn (more (Forms.passed (plan_mean p) inside)) done (focuses_from i last xs) f ≡ (Ok (done ++ firsts truth i xs), f)
  firsts_passed inside [] done i last f = ap (λ l. (Ok l, f)) (sym (append-nil done))
  firsts_passed inside (x ∷ xs) done i last f = by_truth (firsts_passed inside xs (done ++ x ∷ []) (suc i) last f) (either (truth i))
    where
      by_truth : in_turn (more (Forms.passed (plan_mean p) inside)) (done ++ x ∷ []) (focuses_from (suc i) last xs) f ≡ (Ok ((done ++ x ∷ []) ++ firsts truth (suc i) xs), f) →
          (truth i ≡ true) ⊎ (truth i ≡ false) →
          in_turn (more (Forms.passed (plan_mean p) inside)) done (focuses_from i last (x ∷ xs)) f ≡ (Ok (done ++ firsts truth i (x ∷ xs)), f)
      by_truth rest (inl holds') =
          ap (λ o. go_on (go_on o (λ ys. give (done ++ ys))) (λ next. in_turn (more (Forms.passed (plan_mean p) inside)) next (focuses_from (suc i) last xs)))
          (passed_at inside x i last f ∙ ap (λ b. (Ok (Forms.kept_if x b), f)) holds')
          ∙ rest
          ∙ ap (λ l. (Ok l, f)) (append_assoc done (x ∷ []) (firsts truth (suc i) xs) ∙ ap (λ b. done ++ firsts_next b x (firsts truth (suc i) xs)) (sym holds'))
      by_truth rest (inr none') =
          none_passed inside (x ∷ xs) done i last f none'
          ∙ ap (λ l. (Ok l, f)) (sym (append-nil done) ∙ ap (λ b. done ++ firsts_next b x (firsts truth (suc i) xs)) (sym none'))

  narrow_is : (inside : Frame) (f : List Tree) →
      plan_mean (plan.Filter range (p ∷ [])) inside f ≡ go_on (plan_mean range inside f) (λ xs. give (firsts truth 1 xs))
  narrow_is inside f =
      ap (λ m. m inside f) (plan_eq.plan-Filter range (p ∷ []))
      ∙ by_outcome (plan_mean range inside f)
    where
      by_outcome : (o : Outcome (List Item)) → go_on o (λ xs. in_turn (Forms.filtered inside) xs (plan_mean p ∷ [])) ≡ go_on o (λ xs. give (firsts truth 1 xs))
      by_outcome (Ok xs, g) = ap (λ o. go_on o (λ ys. give ys)) (firsts_passed inside xs [] 1 (length xs) g)
      by_outcome (Err code, g) = refl

  -- # What the test keeps

  -- the tuple with each item and its position, from this one on
  abbrev rows : Tuple Item → ℕ → List Item → List (Tuple Item)
  rows t i xs = map (λ (q : ℕ × Item). t ++ item_values Atom true q.0 q.1) (enumerate_from i xs)

  abbrev passing : Tuple Item → Doing (List (Tuple Item))
  passing u = Forms.tested (plan_mean test) (at_tuple frame u) >>= (λ keep. give (Forms.kept_if u keep))

  abbrev row : Tuple Item → ℕ → Item → Tuple Item
  row t i x = t ++ (x ∷ []) ∷ whole i ∷ []

  value_there : (before : Slots) (x : List Item) (w : List Item) → value_at (suc (length before)) (before ++ x ∷ w ∷ []) ≡ w
  value_there [] x w = refl
  value_there (b ∷ before) x w = value_there before x w

  row_passes : (t : Tuple Item) → Fits known (slots ++ t) → (i : ℕ) (x : Item) (f : List Tree) →
      passing (row t i x) f ≡ (Ok (Forms.kept_if (row t i x) (truth i)), f)
  row_passes t fits i x f =
      ap (λ o. go_on (go_on o (λ xs. judged (effective xs))) (λ keep. give (Forms.kept_if (row t i x) keep)))
      (compares (at_tuple frame (row t i x)) f i place)
    where
      place : value_at (length known + 1) (slots ++ row t i x) ≡ whole i
      place =
          ap (λ (k : ℕ). value_at k (slots ++ row t i x)) (next_is (length known))
          ∙ ap (λ (k : ℕ). value_at (suc k) (slots ++ row t i x)) (sym (fits_length known (slots ++ t) fits))
          ∙ ap (λ (env : Slots). value_at (suc (length (slots ++ t))) env) (sym (append_assoc slots t ((x ∷ []) ∷ whole i ∷ [])))
          ∙ value_there (slots ++ t) (x ∷ []) (whole i)

  none_kept : (t : Tuple Item) → Fits known (slots ++ t) → (xs : List Item) (done : List (Tuple Item)) (i : ℕ) (f : List Tree) → truth i ≡ false →
      in_turn (more passing) done (rows t i xs) f ≡ (Ok done, f)
  none_kept t fits [] done i f none' = refl
  none_kept t fits (x ∷ xs) done i f none' =
      ap (λ o. go_on (go_on o (λ ys. give (done ++ ys))) (λ next. in_turn (more passing) next (rows t (i + 1) xs)))
      (row_passes t fits i x f ∙ ap (λ b. (Ok (Forms.kept_if (row t i x) b), f)) none')
      ∙ ap (λ l. in_turn (more passing) l (rows t (i + 1) xs) f) (append-nil done)
      ∙ none_kept t fits xs done (i + 1) f (ap truth (next_is i) ∙ off i none')

  firsts_kept : (t : Tuple Item) → Fits known (slots ++ t) → (xs : List Item) (done : List (Tuple Item)) (i : ℕ) (f : List Tree) →
      in_turn (more passing) done (rows t i xs) f ≡ (Ok (done ++ rows t i (firsts truth i xs)), f)
  firsts_kept t fits [] done i f = ap (λ l. (Ok l, f)) (sym (append-nil done))
  firsts_kept t fits (x ∷ xs) done i f = by_truth (firsts_kept t fits xs (done ++ row t i x ∷ []) (i + 1) f) (either (truth i))
    where
      by_truth : in_turn (more passing) (done ++ row t i x ∷ []) (rows t (i + 1) xs) f ≡ (Ok ((done ++ row t i x ∷ []) ++ rows t (i + 1) (firsts truth (i + 1) xs)), f) →
          (truth i ≡ true) ⊎ (truth i ≡ false) →
          in_turn (more passing) done (rows t i (x ∷ xs)) f ≡ (Ok (done ++ rows t i (firsts truth i (x ∷ xs))), f)
      by_truth rest (inl holds') =
          ap (λ o. go_on (go_on o (λ ys. give (done ++ ys))) (λ next. in_turn (more passing) next (rows t (i + 1) xs)))
          (row_passes t fits i x f ∙ ap (λ b. (Ok (Forms.kept_if (row t i x) b), f)) holds')
          ∙ rest
          ∙ ap (λ l. (Ok l, f)) (append_assoc done (row t i x ∷ []) (rows t (i + 1) (firsts truth (i + 1) xs))
          ∙ ap (λ (k : ℕ). done ++ row t i x ∷ rows t (i + 1) (firsts truth k xs)) (next_is i)
          ∙ ap (λ b. done ++ rows t i (firsts_next b x (firsts truth (suc i) xs))) (sym holds'))
      by_truth rest (inr none') =
          none_kept t fits (x ∷ xs) done i f none'
          ∙ ap (λ l. (Ok l, f)) (sym (append-nil done) ∙ ap (λ b. done ++ rows t i (firsts_next b x (firsts truth (suc i) xs))) (sym none'))

  -- # All tuples

  expanded_next : (t : Tuple Item) (ts : List (Tuple Item)) (xs : List Item) (lists : List (List Item)) →
      expanded Atom false true (t ∷ ts) (xs ∷ lists) ≡ rows t 1 xs ++ expanded Atom false true ts lists
  expanded_next t ts xs lists = flat_map-cons (λ (q : Tuple Item × List Item). with_items Atom false true q.0 q.1) (t, xs) (zip ts lists)

  all_kept : (ts : List (Tuple Item)) → AllFit known slots ts → (lists : List (List Item)) (done : List (Tuple Item)) (f : List Tree) →
      in_turn (more passing) done (expanded Atom false true ts lists) f
      ≡ (Ok (done ++ expanded Atom false true ts (map (firsts truth 1) lists)), f)
  all_kept [] w lists done f = ap (λ l. (Ok l, f)) (sym (append-nil done))
  all_kept (t ∷ ts) w [] done f = ap (λ l. (Ok l, f)) (sym (append-nil done))
  all_kept (t ∷ ts) w (xs ∷ lists) done f =
      ap (λ us. in_turn (more passing) done us f) (expanded_next t ts xs lists)
      ∙ in_turn-append (more passing) done (rows t 1 xs) (expanded Atom false true ts lists) f
      ∙ ap (λ o. go_on o (λ next. in_turn (more passing) next (expanded Atom false true ts lists))) (firsts_kept t w.0 xs done 1 f)
      ∙ all_kept ts w.1 lists (done ++ rows t 1 (firsts truth 1 xs)) f
      ∙ ap (λ l. (Ok l, f)) (append_assoc done (rows t 1 (firsts truth 1 xs)) (expanded Atom false true ts (map (firsts truth 1) lists))
      ∙ ap (λ l. done ++ l) (sym (expanded_next t ts (firsts truth 1 xs) (map (firsts truth 1) lists))))

  abbrev ranged : Tuple Item → Doing (List Item)
  ranged t = plan_mean range (at_tuple frame t)

  abbrev narrow : Tuple Item → Doing (List Item)
  narrow t = plan_mean (plan.Filter range (p ∷ [])) (at_tuple frame t)

  -- the first items of each
  each_narrow : (ts : List (Tuple Item)) (done : List (List Item)) (f : List Tree) →
      in_turn (one_more narrow) (map (firsts truth 1) done) ts f ≡ go_on (in_turn (one_more ranged) done ts f) (λ lists. give (map (firsts truth 1) lists))
  each_narrow [] done f = refl
  each_narrow (t ∷ ts) done f =
      ap (λ o. go_on (go_on o (λ y. give (map (firsts truth 1) done ++ y ∷ []))) (λ next. in_turn (one_more narrow) next ts)) (narrow_is (at_tuple frame t) f)
      ∙ by_outcome (λ xs g. each_narrow ts (done ++ xs ∷ []) g) (ranged t f)
    where
      by_outcome : ((xs : List Item) (g : List Tree) →
          in_turn (one_more narrow) (map (firsts truth 1) (done ++ xs ∷ [])) ts g ≡ go_on (in_turn (one_more ranged) (done ++ xs ∷ []) ts g) (λ lists. give (map (firsts truth 1) lists))) →
          (o : Outcome (List Item)) →
          go_on (go_on (go_on o (λ xs. give (firsts truth 1 xs))) (λ y. give (map (firsts truth 1) done ++ y ∷ []))) (λ next. in_turn (one_more narrow) next ts)
          ≡ go_on (go_on (go_on o (λ y. give (done ++ y ∷ []))) (λ next. in_turn (one_more ranged) next ts)) (λ lists. give (map (firsts truth 1) lists))
      by_outcome rest (Ok xs, g) = ap (λ l. in_turn (one_more narrow) l ts g) (sym (map-append (firsts truth 1) done (xs ∷ []))) ∙ rest xs g
      by_outcome rest (Err code, g) = refl

  -- a `for` and a `where` give what a `for` over the filter gives
  both_are : (ts : List (Tuple Item)) (f : List Tree) → AllFit known slots ts →
      Forms.for_tuples allowing.No true (plan_mean (plan.Filter range (p ∷ []))) (at_tuple frame) ts f
      ≡ go_on (Forms.for_tuples allowing.No true (plan_mean range) (at_tuple frame) ts f) (λ us. Forms.where_tuples (plan_mean test) (at_tuple frame) us)
  both_are ts f w =
      ap (λ o. go_on o (λ lists. give (expanded Atom false true ts lists))) (each_narrow ts [] f)
      ∙ by_outcome (for_each ranged ts f)
    where
      by_outcome : (o : Outcome (List (List Item))) →
          go_on (go_on o (λ lists. give (map (firsts truth 1) lists))) (λ lists. give (expanded Atom false true ts lists))
          ≡ go_on (go_on o (λ lists. give (expanded Atom false true ts lists))) (λ us. Forms.where_tuples (plan_mean test) (at_tuple frame) us)
      by_outcome (Ok lists, g) =
          sym (passed_is (λ u. Forms.tested (plan_mean test) (at_tuple frame u)) (expanded Atom false true ts lists) g ∙ all_kept ts w lists [] g)
      by_outcome (Err code, g) = refl

-- # In a list of clauses that are left, the last first

pub firsts_narrow : (known : List Held) (range test p : Plan) → KeepsFirsts known test p → (rest new : List PlanClause) →
    new ≡ rest ++ clause.For allowing.No true (plan.Filter range (p ∷ [])) ∷ [] →
    IsNarrower known ((rest ++ clause.Where test ∷ []) ++ clause.For allowing.No true range ∷ []) new
firsts_narrow known range test p (by, n, bound, compares, is) rest new now = record {
  same = same_rest;
  long =
      let a = ap length now in
      let b = length-append rest (clause.For allowing.No true (plan.Filter range (p ∷ [])) ∷ []) in
      let c = length-append (rest ++ clause.Where test ∷ []) (clause.For allowing.No true range ∷ []) in
      let d = length-append rest (clause.Where test ∷ []) in
      omega (arith, a, b, c, d);
}
  where
    turned_to : (frame : Frame) (o : Outcome (List (Tuple Item))) →
        go_on (go_on o (λ us. Forms.where_tuples (plan_mean test) (at_tuple frame) us)) (λ next. in_turn (next_clause frame) next (map plan_clause_mean (reverse rest)))
        ≡ go_on o (λ next. in_turn (next_clause frame) next (plan_clause_mean (clause.Where test) ∷ map plan_clause_mean (reverse rest)))
    turned_to frame (Ok us, g) =
        ap (λ (m : Frame → List (Tuple Item) → Doing (List (Tuple Item))). go_on (m frame us g) (λ next. in_turn (next_clause frame) next (map plan_clause_mean (reverse rest)))) (sym (plan_eq.clause-Where test))
    turned_to frame (Err code, g) = refl

    same_rest : (start : ℕ) → SameRest start known ((rest ++ clause.Where test ∷ []) ++ clause.For allowing.No true range ∷ []) new
    same_rest start slots focus addresses l ts f w =
        let frame = frame_of slots focus addresses in
        let act = next_clause frame in
        let others = map plan_clause_mean (reverse rest) in
        let narrow = clause.For allowing.No true (plan.Filter range (p ∷ [])) in
        let before : reverse ((rest ++ clause.Where test ∷ []) ++ clause.For allowing.No true range ∷ []) ≡ clause.For allowing.No true range ∷ clause.Where test ∷ reverse rest =
        reverse-append (rest ++ clause.Where test ∷ []) (clause.For allowing.No true range ∷ [])
        ∙ ap (λ cs. clause.For allowing.No true range ∷ cs) (reverse-append rest (clause.Where test ∷ [])) in
        let after : reverse new ≡ narrow ∷ reverse rest = ap reverse now ∙ reverse-append rest (narrow ∷ []) in
        ap (λ cs. in_turn act ts (map plan_clause_mean cs) f) after
        ∙ ap (λ (m : Frame → List (Tuple Item) → Doing (List (Tuple Item))). go_on (m frame ts f) (λ next. in_turn act next others)) (plan_eq.clause-For allowing.No true (plan.Filter range (p ∷ [])))
        ∙ ap (λ o. go_on o (λ next. in_turn act next others)) (both_are known range test p by n bound compares is slots focus addresses ts f w)
        ∙ turned_to frame (Forms.for_tuples allowing.No true (plan_mean range) (at_tuple frame) ts f)
        ∙ sym (ap (λ (m : Frame → List (Tuple Item) → Doing (List (Tuple Item))). go_on (m frame ts f) (λ next. in_turn act next (plan_clause_mean (clause.Where test) ∷ others))) (plan_eq.clause-For allowing.No true range))
        ∙ sym (ap (λ cs. in_turn act ts (map plan_clause_mean cs) f) before)
