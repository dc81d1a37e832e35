-- A group join stands for a `let` of a FLWOR with a join.
use Rattle.std.proofs.Common.{◌≡◌, ℕ, List, [], ◌∷◌, ◌++◌, map, length, Bool, false, Ok, inr, refl, sym, ap, ◌∙◌, subst}
use Rattle.std.specs.Prelude.{Option, None}
use Rattle.std.proofs.lemmas.List.{append_assoc}
use Rattle.xq_atoms.specs.Text.{Text}
use Rattle.xq_expressions.specs.declared.operators.AllowingEmpty.{AllowingEmpty}
use Rattle.xq_expressions.specs.declared.operators.AllowingEmpty.TheVariants as allowing
use Rattle.xq_trees.specs.Tree.{Tree}
use Rattle.xq_trees.specs.declared.Axis.{Axis}
use Rattle.xq_trees.specs.Tuples.{Tuple, bound, value_at}
use Rattle.xq_meaning.specs.declared.joins.Join.{Join}
use Rattle.xq_meaning.specs.declared.joins.JoinKey.{JoinKey}
use Rattle.xq_meaning.specs.declared.joins.KeyForm.{KeyForm}
use Rattle.xq_meaning.specs.declared.joins.KeyForm.TheVariants as key_form
use Rattle.xq_meaning.specs.declared.node_tests.Test.{Test}
use Rattle.xq_meaning.specs.declared.plans.Plan.{Plan}
use Rattle.xq_meaning.specs.declared.plans.Plan.TheVariants as plan
use Rattle.xq_meaning.specs.declared.plans.PlanClause.{PlanClause}
use Rattle.xq_meaning.specs.declared.plans.PlanClause.TheVariants as clause
use Rattle.xq_meaning.specs.Doing.{go_on, give, in_turn, one_more, collected}
use Rattle.xq_meaning.specs.Forms
use Rattle.xq_meaning.specs.Functions as Functions
use Rattle.xq_meaning.specs.Functions.{Focus}
use Rattle.xq_meaning.specs.Items.{Item, Atom, atomized}
use Rattle.xq_meaning.specs.PlanMeaning.{Slots, Frame, Meaning, ClauseMeaning, slot, opened, at_tuple, carried, at_carried, comparison, formed, key_mean, keys_equal, if_equal, equal_items, flwor, join_tuples, plan_mean, plan_clause_mean}
use Rattle.xq_meaning.specs.Same.{frame_of}
use Rattle.xq_meaning.proofs.PlanEquations as plan_eq
use Rattle.xq_meaning.proofs.SameForms.{go_on_same}
use Rattle.xq_optimise.specs.declared.held.Held.{Held}
use Rattle.xq_optimise.specs.Known.{Fits}
use Rattle.xq_optimise.specs.Same.{GivesSame}
use Rattle.xq_optimise.specs.declared.group_joins.LetValue.TheVariants as let_value
use Rattle.xq_optimise.specs.private.Filters.{IsFilterGroup}
use Rattle.xq_optimise.specs.private.GroupValues.{IsGroup, StandsForLet, StandsForRange, IsLetOf, AddsValue, AddsRange}
use Rattle.xq_optimise.specs.private.Joins.{LeavesTrees, IsOutside}
use Rattle.xq_optimise.specs.private.Parts.{AllFit, IsHeld, AddsClauses, Follows, each_of, with_position}
use Rattle.xq_optimise.proofs.Fitting.{fits_length}
use Rattle.xq_optimise.proofs.Flwor.{for_follows, let_follows, one_follows}
use Rattle.xq_optimise.proofs.Ranges.{held_of_same}
use Rattle.xq_optimise.proofs.FilterLaws.{filter_same}
use Rattle.xq_optimise.proofs.GroupLets.{group_join_is}
use Rattle.xq_optimise.proofs.RangeJoins.{all_with, join_is}
use Rattle.xq_optimise.proofs.Leaving.{Leaves, Quiet, always, chain_quiet, collected_leaves, scan_leaves, tested_leaves, then_leaves, trees_leave, turns_leave}

-- a key leaves the trees
key_quiet : (key : JoinKey) → Quiet (key_mean key)
key_quiet key at =
    then_leaves (in_turn (λ (xs : List Item) (s : Axis × Test). Forms.scan s.0 s.1 xs) (value_at key.slot at.env) key.scans) (formed key.form)
    (turns_leave (λ (xs : List Item) (s : Axis × Test). Forms.scan s.0 s.1 xs) key.scans
    (always (λ (s : Axis × Test). (xs : List Item) → Leaves (Forms.scan s.0 s.1 xs)) (λ s xs. scan_leaves s.0 s.1 xs) key.scans) (value_at key.slot at.env))
    (λ xs. formed_leaves key.form xs)
  where
    formed_leaves : (form : KeyForm) (xs : List Item) → Leaves (formed form xs)
    formed_leaves key_form.Value xs f = (Ok xs, refl)
    formed_leaves key_form.Data xs f = trees_leave (λ trees. Ok (map Atom (atomized trees xs))) f
    formed_leaves key_form.String xs f = trees_leave (λ trees. Functions.string trees xs) f

equal_leaves : (join : Join) (frame : Frame) (t : Tuple Item) (x : Item) → Leaves (if_equal join frame t x)
equal_leaves join frame t x =
    then_leaves (Forms.tested (keys_equal join) (at_tuple frame (opened t (x ∷ [])))) (λ keep. give (Forms.kept_if x keep))
    (tested_leaves (keys_equal join) (chain_quiet (key_mean join.left) ((comparison join.equality, key_mean join.right) ∷ []) (key_quiet join.left) (key_quiet join.right, tt))
    (at_tuple frame (opened t (x ∷ []))))
    (λ keep f. (Ok (Forms.kept_if x keep), refl))

-- # The clause, by what the value gives at each tuple

module _ (known : List Held) (range whole : Plan) (join : Join) (slots : Slots) (focus : Option Focus) (addresses : List Text)
    (value_same : (t : Tuple Item) → Fits known (slots ++ t) → (f : List Tree) →
    equal_items (plan_mean range) join (frame_of slots focus addresses) t f ≡ plan_mean whole (at_tuple (frame_of slots focus addresses) t) f) where
  abbrev frame : Frame
  frame = frame_of slots focus addresses

  all_same : (ts : List (Tuple Item)) → AllFit known slots ts → (done : List (List Item)) (f : List Tree) →
      in_turn (one_more (equal_items (plan_mean range) join frame)) done ts f ≡ in_turn (one_more (λ t. plan_mean whole (at_tuple frame t))) done ts f
  all_same [] w done f = refl
  all_same (t ∷ ts) w done f =
      ap (λ o. go_on (go_on o (λ y. give (done ++ y ∷ []))) (λ n. in_turn (one_more (equal_items (plan_mean range) join frame)) n ts)) (value_same t w.0 f)
      ∙ go_on_same (go_on (plan_mean whole (at_tuple frame t) f) (λ y. give (done ++ y ∷ []))) (λ n. in_turn (one_more (equal_items (plan_mean range) join frame)) n ts)
      (λ n. in_turn (one_more (λ t. plan_mean whole (at_tuple frame t))) n ts) (λ n g. all_same ts w.1 n g)

  pub group_same : (ts : List (Tuple Item)) (f : List Tree) → AllFit known slots ts →
      plan_clause_mean (clause.GroupJoin range join) frame ts f ≡ plan_clause_mean (clause.Let whole) frame ts f
  group_same ts f w =
      ap (λ m. m frame ts f) (plan_eq.clause-GroupJoin range join)
      ∙ ap (λ o. go_on o (λ lists. give (bound ts lists))) (all_same ts w [] f)
      ∙ sym (ap (λ m. m frame ts f) (plan_eq.clause-Let whole))

  -- a `for` over them is the join
  for_same : join.carried ≡ None → LeavesTrees range → (ts : List (Tuple Item)) (f : List Tree) → AllFit known slots ts →
      plan_clause_mean (clause.Join range join) frame ts f ≡ plan_clause_mean (clause.For allowing.No false whole) frame ts f
  for_same none leaves ts f w =
      ap (λ m. m frame ts f) (plan_eq.clause-Join range join)
      ∙ join_is range join none leaves (λ at t xs. collected_leaves (if_equal join at t) xs (always (λ x. Leaves (if_equal join at t x)) (equal_leaves join at t) xs) []) frame ts f
      ∙ ap (λ o. go_on o (λ lists. give (all_with ts lists))) (all_same ts w [] f)
      ∙ sym (ap (λ m. m frame ts f) (plan_eq.clause-For allowing.No false whole))

group_leaves : (range : Plan) (join : Join) → LeavesTrees range → (frame : Frame) (t : Tuple Item) → Leaves (equal_items (plan_mean range) join frame t)
group_leaves range join leaves frame t =
    then_leaves (plan_mean range (at_carried join frame t)) (λ xs. collected (if_equal join frame t) xs) (leaves (at_carried join frame t))
    (λ xs. collected_leaves (if_equal join frame t) xs (always (λ x. Leaves (if_equal join frame t x)) (equal_leaves join frame t) xs) [])

-- the clause and the trees, for a value that gives the same at each tuple
pub group_found : (outer : ℕ) (known : List Held) (range whole : Plan) (join : Join) → join.carried ≡ None → LeavesTrees range →
    ((slots : Slots) (focus : Option Focus) (addresses : List Text) → length slots ≡ outer → (t : Tuple Item) → Fits known (slots ++ t) → (f : List Tree) →
    equal_items (plan_mean range) join (frame_of slots focus addresses) t f ≡ plan_mean whole (at_tuple (frame_of slots focus addresses) t) f) →
    IsLetOf outer known whole (let_value.Group range join)
group_found outer known range whole join none leaves same = (
  λ slots focus addresses long ts f w. group_same known range whole join slots focus addresses (same slots focus addresses long) ts f w,
  λ slots focus addresses long t f fits.
      let own = group_leaves range join leaves (frame_of slots focus addresses) t f in
      (own.0, sym (same slots focus addresses long t fits f) ∙ own.1),
  λ slots focus addresses long ts f w. for_same known range whole join slots focus addresses (same slots focus addresses long) none leaves ts f w,
)

-- # A FLWOR with a join

module _ (outer : ℕ) (known : List Held) (range : Plan) (join : Join) (none : join.carried ≡ None) (outside : IsOutside outer range)
    (slots : Slots) (focus : Option Focus) (addresses : List Text) (long : length slots ≡ outer) where
  abbrev here : Frame
  here = frame_of slots focus addresses

  -- the range gives the same in the frame of the FLWOR within
  range_same : (t : Tuple Item) (f : List Tree) → plan_mean range (at_carried join (at_tuple here t) []) f ≡ plan_mean range (at_carried join here t) f
  range_same t f =
      ap (λ c. plan_mean range (at_tuple (at_tuple here t) (carried c ((slots ++ t) ++ []))) f) none
      ∙ ap (λ (env : Slots). plan_mean range (frame_of env focus addresses) f) (append_assoc slots t [])
      ∙ outside.0 slots (t ++ []) focus addresses f (inr (sym long))
      ∙ sym (outside.0 slots [] focus addresses f (inr (sym long)))
      ∙ sym (ap (λ c. plan_mean range (at_tuple here (carried c (slots ++ t))) f) none)

  flwor_same : (t : Tuple Item) → Fits known (slots ++ t) → (f : List Tree) →
      equal_items (plan_mean range) join here t f ≡ plan_mean (plan.Flwor (clause.Join range join ∷ []) (plan.Slot (length known))) (at_tuple here t) f
  flwor_same t fits f =
      sym (ap (λ m. m (at_tuple here t) f) (plan_eq.plan-Flwor (clause.Join range join ∷ []) (plan.Slot (length known)))
      ∙ ap (λ (c : ClauseMeaning). flwor (c ∷ []) (plan_mean (plan.Slot (length known))) (at_tuple here t) f) (plan_eq.clause-Join range join)
      ∙ ap (λ (m : Meaning). flwor (join_tuples (plan_mean range) join ∷ []) m (at_tuple here t) f) (plan_eq.plan-Slot (length known))
      ∙ ap (λ n. flwor (join_tuples (plan_mean range) join ∷ []) (slot n) (at_tuple here t) f) (sym (fits_length known (slots ++ t) fits))
      ∙ group_join_is (plan_mean range) (plan_mean range) join join here t refl (range_same t) f)

pub flwor_found : (outer : ℕ) (known : List Held) (cs : List PlanClause) (p range : Plan) (join : Join) → cs ≡ clause.Join range join ∷ [] → join.carried ≡ None →
    IsOutside outer range → p ≡ plan.Slot (length known) → IsLetOf outer known (plan.Flwor cs p) (let_value.Group range join)
flwor_found outer known cs p range join one none outside last =
    subst (λ (v : Plan). IsLetOf outer known v (let_value.Group range join))
    (ap (λ (l : List PlanClause). plan.Flwor l (plan.Slot (length known))) (sym one) ∙ ap (plan.Flwor cs) (sym last))
    (group_found outer known range (plan.Flwor (clause.Join range join ∷ []) (plan.Slot (length known))) join none outside.1
    (λ slots focus addresses long t fits f. flwor_same outer known range join none outside slots focus addresses long t fits f))

-- the clause that was taken off is that join
pub popped_found : (outer : ℕ) (known : List Held) (cs rest : List PlanClause) (c : PlanClause) (p range : Plan) (join : Join) → IsGroup outer (length known) cs p →
    cs ≡ rest ++ c ∷ [] → c ≡ clause.Join range join → IsLetOf outer known (plan.Flwor cs p) (let_value.Group range join)
popped_found outer known cs [] c p range join (r, j, one, none, outside, last) cut is =
    let same : clause.Join r j ∷ [] ≡ clause.Join range join ∷ [] = sym one ∙ cut ∙ ap (λ d. d ∷ []) is in
    let ranges : r ≡ range = cc same in
    let joins : j ≡ join = cc same in
    flwor_found outer known cs p range join (cut ∙ ap (λ d. d ∷ []) is) (subst (λ (k : Join). k.carried ≡ None) joins none) (subst (IsOutside outer) ranges outside) last
popped_found outer known cs (d ∷ ds) c p range join (r, j, one, none, outside, last) cut is =
    absurd (too_long ds (sym one ∙ cut))
  where
    too_long : (es : List PlanClause) → clause.Join r j ∷ [] ≡ d ∷ (es ++ c ∷ []) → ⊥
    too_long [] e = cc e
    too_long (x ∷ es) e = cc e

-- # Predicates

pub filter_found : (outer : ℕ) (known : List Held) (start range : Plan) (ps : List Plan) (join : Join) → range ≡ start →
    IsFilterGroup outer known start ps join → IsLetOf outer known (plan.Filter start ps) (let_value.Group range join)
filter_found outer known start range ps join is (p, one, held, outside, compares) =
    subst (λ (r : Plan). IsLetOf outer known (plan.Filter start ps) (let_value.Group r join)) (sym is)
    (subst (λ (l : List Plan). IsLetOf outer known (plan.Filter start l) (let_value.Group start join)) (sym one)
    (group_found outer known start (plan.Filter start (p ∷ [])) join compares.3 outside.1
    (λ slots focus addresses long t fits f. filter_same outer known start p join held outside compares slots focus addresses long t fits f)))

-- # The clauses

pub let_itself : (outer : ℕ) (known : List Held) (value : Plan) → StandsForLet outer known value (clause.Let value)
let_itself outer known value slots focus addresses long ts f w = refl

-- a `let` whose value gives the same as another one, and the clause that stands for it
pub value_adds : (start : ℕ) (old mid new : List Held) (p q : Plan) (before after : List PlanClause) →
    GivesSame old p q → mid ≡ old → (held : Held) → IsHeld mid held q → new ≡ mid ++ held ∷ [] → AddsValue start mid q before after →
    AddsClauses start old (clause.Let p) before after new
value_adds start old mid new p q before after is kept held as' bound (d, pushed, stands) = (
  d ∷ [],
  pushed,
  one_follows start old new (clause.Let p) d
      (λ slots focus addresses long ts f w.
      let h = let_follows start old held p q is (held_of_same old held p q is (subst (λ k. IsHeld k held q) kept as')) slots focus addresses long ts f w in
      subst (λ k. Follows k slots (plan_clause_mean (clause.Let p) (frame_of slots focus addresses) ts f) (plan_clause_mean d (frame_of slots focus addresses) ts f))
      (sym (bound ∙ ap (λ k. k ++ held ∷ []) kept))
      (record { same = stands slots focus addresses long ts f (subst (λ k. AllFit k slots ts) (sym kept) w) ∙ h.same; fits = h.fits })),
)

-- # A `for`, and the clause that stands for it

pub range_itself : (outer : ℕ) (known : List Held) (empties : AllowingEmpty) (at : Bool) (range : Plan) → StandsForRange outer known empties at range (clause.For empties at range)
range_itself outer known empties at range slots focus addresses long ts f w = refl

-- where it drops empty sequences, and has no position
pub range_found : (outer : ℕ) (known : List Held) (empties : AllowingEmpty) (at : Bool) (range : Plan) (d : PlanClause) → empties ≡ allowing.No → at ≡ false →
    StandsForRange outer known allowing.No false range d → StandsForRange outer known empties at range d
range_found outer known empties at range d drops none stands =
    subst (λ (e : AllowingEmpty). StandsForRange outer known e at range d) (sym drops)
    (subst (λ (b : Bool). StandsForRange outer known allowing.No b range d) (sym none) stands)

pub range_adds : (start : ℕ) (old mid new : List Held) (empties : AllowingEmpty) (at : Bool) (p q : Plan) (before after : List PlanClause) →
    GivesSame old p q → mid ≡ old → (held : Held) → IsHeld mid held q → new ≡ mid ++ with_position (each_of held) at → AddsRange start mid empties at q before after →
    AddsClauses start old (clause.For empties at p) before after new
range_adds start old mid new empties at p q before after is kept held as' bound (d, pushed, stands) = (
  d ∷ [],
  pushed,
  one_follows start old new (clause.For empties at p) d
      (λ slots focus addresses long ts f w.
      let h = for_follows start old empties at held p q is (held_of_same old held p q is (subst (λ k. IsHeld k held q) kept as')) slots focus addresses long ts f w in
      subst (λ k. Follows k slots (plan_clause_mean (clause.For empties at p) (frame_of slots focus addresses) ts f) (plan_clause_mean d (frame_of slots focus addresses) ts f))
      (sym (bound ∙ ap (λ k. k ++ with_position (each_of held) at) kept))
      (record { same = stands slots focus addresses long ts f (subst (λ k. AllFit k slots ts) (sym kept) w) ∙ h.same; fits = h.fits })),
)
