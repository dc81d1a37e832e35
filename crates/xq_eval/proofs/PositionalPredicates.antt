-- Predicates whose value at an item its position tells, and what they keep.
use Rattle.std.proofs.Common.{◌≡◌, ℕ, suc, ◌+◌, ◌<◌, ◌++◌, List, [], ◌∷◌, length, map, drop, get_or, Bool, true, false, Ok, Err, Option, Some, None, refl, sym, ◌∙◌, ap, inl, inr}
use Rattle.std.specs.Prelude.{ℤ, pos, ◌<ℤ◌, IfSome}
use Rattle.std.specs.declared.cmp.Ordering.{Ordering}
use Rattle.std.specs.declared.cmp.Ordering.TheVariants.{Less, Equal, Greater}
use Rattle.std.specs.Ordering.{MatchOrdering, int_cmp}
use Rattle.std.specs.Cmp.{int_ranks, int_cmp_is}
use Rattle.std.specs.Global.{Vec}
use Rattle.xq_atoms.specs.declared.refusals.Code.{Code}
use Rattle.xq_atoms.specs.declared.comparisons.CompOp.{CompOp}
use Rattle.xq_atoms.specs.Atom.{Atomic, Integer}
use Rattle.xq_atoms.specs.Compare.{key, key_cmp, holds}
use Rattle.xq_atoms.specs.Decimal.{in_millionths}
use Rattle.xq_atoms.specs.Judged.{Judged, ◌>>=◌}
use Rattle.xq_expressions.specs.declared.operators.ComparisonOperator.TheVariants as comparing
use Rattle.xq_expressions.specs.declared.operators.Relation.{Relation}
use Rattle.xq_expressions.specs.declared.operators.Relation.TheVariants as relation
use Rattle.xq_expressions.specs.declared.signatures.Function.TheVariants.{Last, Position}
use Rattle.xq_trees.specs.declared.items.Item.{Item as Held}
use Rattle.xq_trees.specs.Items.{ItemView, Value, item_view, item_views}
use Rattle.xq_trees.specs.Tree.{Tree}
use Rattle.xq_meaning.specs.declared.plans.Plan.{Plan}
use Rattle.xq_meaning.specs.declared.plans.Plan.TheVariants as plan
use Rattle.xq_tuples.specs.declared.slots.SlotValue.{SlotValue}
use Rattle.xq_meaning.specs.declared.operators.Operator.{Operator}
use Rattle.xq_meaning.specs.declared.operators.Operator.TheVariants as operator
use Rattle.xq_meaning.specs.Arguments.{as_boolean, atomic, boolean}
use Rattle.xq_meaning.specs.Doing.{Outcome, go_on, give, in_turn, more, on_trees}
use Rattle.xq_meaning.specs.Forms as Forms
use Rattle.xq_meaning.specs.Functions.{Focus}
use Rattle.xq_meaning.specs.Items.{Item}
use Rattle.xq_meaning.specs.Operators.{keeps, operated, or_rest, related_by, some_pair}
use Rattle.xq_meaning.specs.PlanMeaning.{Frame, Meaning, plan_mean}
use Rattle.xq_meaning.specs.Readings.{item_at, items_at, IsIn, AreIn}
use Rattle.xq_meaning.specs.Steps.{focuses_from}
use Rattle.xq_meaning.proofs.PlanEquations.{plan-Int, plan-Call, plan-Chain}
use Rattle.xq_operators.proofs.Growth.{extends_itself}
use Rattle.xq_eval.specs.declared.positions.ByPosition.{ByPosition}
use Rattle.xq_eval.specs.declared.positions.ByPosition.TheVariants.{At, Same, Compared}
use Rattle.xq_eval.specs.private.AtHand.{GivesIn}
use Rattle.xq_eval.specs.private.Positions.{Compares, IsPositional, IsPositionalIn, turned, value_there}
use Rattle.xq_eval.proofs.Loops.{stops}
use Rattle.xq_eval.proofs.Steps.{more_next, passed_ok, passed_err, kept_read, spots_left}

-- # Integers at each item

-- an integer at hand
pub integer_there : (slots : List SlotValue) (p : Plan) (count : ℕ) (n : ℤ) → GivesIn slots (plan_mean p) (Integer n) → IsPositional slots p count (At n)
integer_there slots p count n h trees frame env = record { value_is = λ focus at. h trees (Forms.in_focus frame focus) env }

pub last_there : (slots : List SlotValue) (p : Plan) (count : ℕ) (n : ℤ) → p ≡ plan.Call Last [] → n ≡ pos count → IsPositional slots p count (At n)
last_there slots p count n is all trees frame env = record {
  value_is = λ focus at.
      ap (λ q. plan_mean q (Forms.in_focus frame focus) trees) is ∙ ap (λ (m : Meaning). m (Forms.in_focus frame focus) trees) (plan-Call Last [])
      ∙ ap (λ k. (Ok (atomic (Integer (pos k))), trees)) at ∙ ap (λ z. (Ok (atomic (Integer z)), trees)) (sym all);
}

-- two operands
pub two_values : (frame : Frame) (trees : List Tree) (p q : Plan) (op : Operator) (xs ys zs : List Item) → plan_mean p frame trees ≡ (Ok xs, trees) → plan_mean q frame trees ≡ (Ok ys, trees) → operated op trees xs ys ≡ Ok zs
    → plan_mean (plan.Chain p ((op, q) ∷ [])) frame trees ≡ (Ok zs, trees)
two_values frame trees p q op xs ys zs first second h =
    ap (λ (m : Meaning). m frame trees) (plan-Chain p ((op, q) ∷ []))
    ∙ ap (λ o. go_on o (λ ls. in_turn (Forms.next_operand frame) ls ((op, plan_mean q) ∷ []))) first
    ∙ ap (λ o. go_on (go_on o (λ ls. on_trees (λ ts. operated op ts xs ls))) (λ next. give next)) second
    ∙ ap (λ (r : Judged (List Item)). go_on (r, trees) (λ next. give next)) h

-- two operands that are one atom each
two_operands : (frame : Frame) (trees : List Tree) (p q : Plan) (op : Operator) (a b : Atomic) (xs : List Item) → plan_mean p frame trees ≡ (Ok (atomic a), trees) → plan_mean q frame trees ≡ (Ok (atomic b), trees)
    → operated op trees (atomic a) (atomic b) ≡ Ok xs → plan_mean (plan.Chain p ((op, q) ∷ [])) frame trees ≡ (Ok xs, trees)
two_operands frame trees p q op a b xs first second h = two_values frame trees p q op (atomic a) (atomic b) xs first second h

-- an operator from `last()`
pub from_last_there : (slots : List SlotValue) (p first part : Plan) (op : Operator) (count : ℕ) (last n : ℤ) (found : Option ℤ) → p ≡ plan.Chain first ((op, part) ∷ []) → first ≡ plan.Call Last [] → last ≡ pos count
    → GivesIn slots (plan_mean part) (Integer n) → IfSome found (λ z. (trees : List Tree) → operated op trees (atomic (Integer last)) (atomic (Integer n)) ≡ Ok (atomic (Integer z)))
    → IfSome found (λ z. IsPositional slots p count (At z))
from_last_there slots p first part op count last n None is asked all right h = tt
from_last_there slots p first part op count last n (Some z) is asked all right h = λ trees frame env. record {
  value_is = λ focus at.
      let here : Frame = Forms.in_focus frame focus in
      let left = (last_there slots first count last asked all trees frame env).value_is focus at in
      ap (λ q. plan_mean q here trees) is ∙ two_operands here trees first part op (Integer last) (Integer n) (atomic (Integer z)) left (right trees here env) (h trees);
}

-- # Comparisons

-- one pair decides
one_pair : (b : Bool) → (or_rest b (Ok false) >>= (λ answer. or_rest answer (Ok false))) ≡ Ok b
one_pair true = refl
one_pair false = refl

abbrev answer : CompOp → ℤ → ℤ → Bool
answer op a b = holds op (key_cmp (key (Integer a)) (key (Integer b)))

general_gives : (by : Relation) (a b : ℤ) (trees : List Tree) → operated (operator.Comparison (comparing.General by)) trees (atomic (Integer a)) (atomic (Integer b)) ≡ Ok (boolean (answer (related_by by) a b))
general_gives by a b trees =
    let pair : some_pair (related_by by) (Integer a ∷ []) (Integer b ∷ []) ≡ Ok (answer (related_by by) a b) = one_pair (answer (related_by by) a b) in
    ap as_boolean pair

-- both forms of a comparison
both_give : (by : Relation) (p q r : Plan) (frame : Frame) (trees : List Tree) (a b : ℤ) → Compares by p q r → plan_mean p frame trees ≡ (Ok (atomic (Integer a)), trees) → plan_mean q frame trees ≡ (Ok (atomic (Integer b)), trees)
    → plan_mean r frame trees ≡ (Ok (boolean (answer (related_by by) a b)), trees)
both_give by p q r frame trees a b (inl is) first second =
    ap (λ s. plan_mean s frame trees) is ∙ two_operands frame trees p q (operator.Comparison (comparing.General by)) (Integer a) (Integer b) (boolean (answer (related_by by) a b)) first second (general_gives by a b trees)
both_give by p q r frame trees a b (inr is) first second =
    ap (λ s. plan_mean s frame trees) is ∙ two_operands frame trees p q (operator.Comparison (comparing.Value by)) (Integer a) (Integer b) (boolean (answer (related_by by) a b)) first second refl

pub position_is : (p : Plan) (frame : Frame) (focus : Focus) (trees : List Tree) → p ≡ plan.Call Position [] → plan_mean p (Forms.in_focus frame focus) trees ≡ (Ok (atomic (Integer (pos focus.position))), trees)
position_is p frame focus trees is = ap (λ q. plan_mean q (Forms.in_focus frame focus) trees) is ∙ ap (λ (m : Meaning). m (Forms.in_focus frame focus) trees) (plan-Call Position [])

-- `position()` stands first
pub position_first : (slots : List SlotValue) (by : Relation) (p q r : Plan) (count : ℕ) (op : CompOp) (n : ℤ) → Compares by p q r → p ≡ plan.Call Position [] → op ≡ related_by by → IsPositional slots q count (At n) → IsPositional slots r count (Compared op n)
position_first slots by p q r count op n is asked same h trees frame env = record {
  value_is = λ focus at.
      both_give by p q r (Forms.in_focus frame focus) trees (pos focus.position) n is (position_is p frame focus trees asked) ((h trees frame env).value_is focus at)
      ∙ ap (λ o. (Ok (boolean (answer o (pos focus.position) n)), trees)) (sym same);
}

-- # Turned round

abbrev back : Ordering → Ordering
back Less = Greater
back Equal = Equal
back Greater = Less

holds_back : (by : Relation) (o : Ordering) → holds (related_by (turned by)) (back o) ≡ holds (related_by by) o
holds_back relation.Equal Less = refl
holds_back relation.Equal Equal = refl
holds_back relation.Equal Greater = refl
holds_back relation.NotEqual Less = refl
holds_back relation.NotEqual Equal = refl
holds_back relation.NotEqual Greater = refl
holds_back relation.Less Less = refl
holds_back relation.Less Equal = refl
holds_back relation.Less Greater = refl
holds_back relation.LessEqual Less = refl
holds_back relation.LessEqual Equal = refl
holds_back relation.LessEqual Greater = refl
holds_back relation.Greater Less = refl
holds_back relation.Greater Equal = refl
holds_back relation.Greater Greater = refl
holds_back relation.GreaterEqual Less = refl
holds_back relation.GreaterEqual Equal = refl
holds_back relation.GreaterEqual Greater = refl

ranks_back : (a b : ℤ) (o : Ordering) → MatchOrdering o (a <ℤ b) (a ≡ b) (b <ℤ a) → MatchOrdering (back o) (b <ℤ a) (b ≡ a) (a <ℤ b)
ranks_back a b Less h = h
ranks_back a b Equal h = sym h
ranks_back a b Greater h = h

order_back : (a b : ℤ) → back (int_cmp a b) ≡ int_cmp b a
order_back a b = int_cmp_is b a (back (int_cmp a b)) (ranks_back a b (int_cmp a b) (int_ranks a b))

answer_turned : (by : Relation) (a b : ℤ) → answer (related_by (turned by)) b a ≡ answer (related_by by) a b
answer_turned by a b =
    ap (holds (related_by (turned by))) (sym (order_back (in_millionths a) (in_millionths b)))
    ∙ holds_back by (int_cmp (in_millionths a) (in_millionths b))

-- `position()` stands second
pub position_second : (slots : List SlotValue) (by : Relation) (p q r : Plan) (count : ℕ) (op : CompOp) (n : ℤ) → Compares by p q r → q ≡ plan.Call Position [] → op ≡ related_by (turned by) → IsPositional slots p count (At n) → IsPositional slots r count (Compared op n)
position_second slots by p q r count op n is asked same h trees frame env = record {
  value_is = λ focus at.
      both_give by p q r (Forms.in_focus frame focus) trees n (pos focus.position) is ((h trees frame env).value_is focus at) (position_is q frame focus trees asked)
      ∙ ap (λ b. (Ok (boolean b), trees)) (sym (answer_turned by n (pos focus.position)))
      ∙ ap (λ o. (Ok (boolean (answer o (pos focus.position) n)), trees)) (sym same);
}

-- # What they keep

-- the same number at each
pub same_number : (trees : List Tree) (frame : Frame) (p : Plan) (last : ℕ) (value : Vec Held) (a : Atomic) → item_views value ≡ Value a ∷ []
    → ((focus : Focus) → plan_mean p (Forms.in_focus frame focus) trees ≡ (Ok (atomic a), trees)) → IsPositionalIn trees frame p last (Same value)
same_number trees frame p last value a one h = record { value_is = λ focus at. h focus ∙ ap (λ xs. (Ok (items_at trees xs), trees)) (sym one) }

module _ (trees : List Tree) (frame : Frame) (p : Plan) (items : List Held) (value : ByPosition) (positional : IsPositionalIn trees frame p (length items) value) where
  abbrev left : ℕ → List Focus
  left i = focuses_from (suc i) (length items) (items_at trees (map item_view (drop i items)))

  abbrev tried : List Item → List Focus → Outcome (List Item)
  tried done spots = in_turn (more (Forms.passed (plan_mean p) frame)) done spots trees

  abbrev spot : ℕ → Held → Focus
  spot i x = record { item = item_at trees (item_view x); position = i + 1; last = length items }

  -- one more was kept, or not
  pub kept_next : (i : ℕ) (x : Held) (done kept : List ItemView) (b : Bool) → i < length items → x ≡ get_or items i x → Ok b ≡ keeps (i + 1) (items_at trees (value_there value (i + 1))) → kept ≡ done ++ Forms.kept_if (item_view x) b
      → AreIn trees done → IsIn trees (item_view x) → AreIn trees kept × (tried (items_at trees kept) (left (i + 1)) ≡ tried (items_at trees done) (left i))
  kept_next i x done kept b within at answer is done_in x_in =
      let added = kept_read trees trees (item_view x) b (extends_itself trees) x_in in
      let passed = passed_ok (plan_mean p) frame (spot i x) (items_at trees (value_there value (i + 1))) b trees trees (positional.value_is (spot i x) refl) (sym answer) in
      let next = more_next (Forms.passed (plan_mean p) frame) done (Forms.kept_if (item_view x) b) kept (spot i x) trees trees (extends_itself trees) done_in (added.0, passed ∙ ap (λ ys. (Ok ys, trees)) added.1) is in
      (next.0, sym (ap (λ ss. tried (items_at trees done) ss) (spots_left trees items i x (length items) within at) ∙ ap (λ o. go_on o (λ ys. in_turn (more (Forms.passed (plan_mean p) frame)) ys (left (i + 1)))) next.1))

  -- a refusal at one
  pub kept_stops : (i : ℕ) (x : Held) (done : List ItemView) (code : Code) → i < length items → x ≡ get_or items i x → Err code ≡ keeps (i + 1) (items_at trees (value_there value (i + 1))) → (tried (items_at trees done) (left i)).0 ≡ Err code
  kept_stops i x done code within at answer =
      let act = Forms.passed (plan_mean p) frame in
      let refused = passed_err (plan_mean p) frame (spot i x) (items_at trees (value_there value (i + 1))) code trees trees (positional.value_is (spot i x) refl) (sym answer) in
      ap (λ ss. (tried (items_at trees done) ss).0) (spots_left trees items i x (length items) within at)
      ∙ stops (more act (items_at trees done) (spot i x) trees) (λ ys. in_turn (more act) ys (left (i + 1))) code (stops (act (spot i x) trees) (λ ys. give (items_at trees done ++ ys)) code refused)
