-- A join gives what a `for` and a `where` give.
use Rattle.std.proofs.Common.{◌≡◌, ℕ, ◌<◌, ◌≤◌, List, [], ◌∷◌, ◌++◌, map, length, reverse, get_or, false, Option, Some, None, Result, Ok, Err, inl, inr, refl, sym, ap, ◌∙◌, subst, arith}
use Rattle.std.specs.Prelude.{IfOk, IfSome}
use Rattle.std.specs.List.{AllByRecursion}
use Rattle.std.proofs.lemmas.List.{append-nil, map-append}
use Rattle.xq_atoms.specs.Text.{Text}
use Rattle.xq_expressions.specs.declared.operators.AllowingEmpty.TheVariants as allowing
use Rattle.xq_expressions.specs.declared.signatures.Function.{Function}
use Rattle.xq_expressions.specs.declared.signatures.Function.TheVariants as function
use Rattle.xq_trees.specs.declared.Axis.{Axis}
use Rattle.xq_trees.specs.Tree.{Tree}
use Rattle.xq_trees.specs.Tuples.{Tuple, value_at}
use Rattle.xq_meaning.specs.declared.joins.Equality.{Equality}
use Rattle.xq_meaning.specs.declared.joins.Join.{Join}
use Rattle.xq_meaning.specs.declared.joins.JoinKey.{JoinKey}
use Rattle.xq_meaning.specs.declared.joins.KeyForm.{KeyForm}
use Rattle.xq_meaning.specs.declared.joins.KeyForm.TheVariants as key_form
use Rattle.xq_meaning.specs.declared.node_tests.Test.{Test}
use Rattle.xq_meaning.specs.declared.plans.Plan.{Plan}
use Rattle.xq_meaning.specs.declared.plans.Plan.TheVariants as plan
use Rattle.xq_meaning.specs.declared.plans.PlanClause.{PlanClause}
use Rattle.xq_meaning.specs.declared.plans.PlanClause.TheVariants as clause
use Rattle.xq_meaning.specs.Doing.{Doing, Outcome, go_on, give, in_turn, on_trees}
use Rattle.xq_meaning.specs.Forms
use Rattle.xq_meaning.specs.Functions.{Focus, called}
use Rattle.xq_meaning.specs.Items.{Item}
use Rattle.xq_meaning.specs.Operators as Operators
use Rattle.xq_meaning.specs.PlanMeaning.{Slots, Frame, at_tuple, at_carried, carried, comparison, formed, key_mean, keys_equal, next_clause, next_step, plan_mean, plan_clause_mean, plan_step_mean}
use Rattle.xq_meaning.specs.Same.{frame_of}
use Rattle.xq_meaning.proofs.PlanEquations as plan_eq
use Rattle.xq_meaning.proofs.SameForms.{then_same, go_on_same, in_turn_same, for_tuples_same, where_tuples_same, SameAt}
use Rattle.xq_meaning.proofs.Turns.{go_on_give, in_turn-append}
use Rattle.xq_optimise.specs.declared.held.Held.{Held}
use Rattle.xq_optimise.specs.declared.held.Held.TheVariants as has
use Rattle.xq_optimise.specs.declared.held.Held.TheVariants.{Anything}
use Rattle.xq_optimise.specs.private.Joins.{scan_step, equal_plan, StartsAt, IsKey, IsKeys, IsRenamed, Carries, SameList, AddsJoin}
use Rattle.xq_optimise.specs.private.Order.{SameTurns}
use Rattle.xq_optimise.specs.private.Parts.{GivesHeld, GivesFitting, SameClause, SameMany, AddsClauses}
use Rattle.xq_optimise.proofs.Below.{scans_alike}
use Rattle.xq_optimise.proofs.Fitting.{for_fits, where_fits}
use Rattle.xq_optimise.proofs.Flwor.{one_follows}

-- # Keys

pub slot_is : (n : ℕ) (frame : Frame) (f : List Tree) → plan_mean (plan.Slot n) frame f ≡ (Ok (value_at n frame.env), f)
slot_is n frame f = ap (λ m. m frame f) (plan_eq.plan-Slot n)

pub scans_are : (frame : Frame) (scans : List (Axis × Test)) (xs : List Item) (f : List Tree) →
    in_turn (λ zs (s : Axis × Test). Forms.scan s.0 s.1 zs) xs scans f ≡ in_turn (next_step frame) xs (map plan_step_mean (map scan_step scans)) f
scans_are frame [] xs f = refl
scans_are frame (s ∷ ss) xs f =
    go_on_same (Forms.scan s.0 s.1 xs f) (λ next. in_turn (λ zs (s : Axis × Test). Forms.scan s.0 s.1 zs) next ss) (λ next. in_turn (next_step frame) next (map plan_step_mean (map scan_step ss))) (λ next g. scans_are frame ss next g)
    ∙ ap (λ m. go_on (m frame xs f) (λ next. in_turn (next_step frame) next (map plan_step_mean (map scan_step ss)))) (sym (plan_eq.step-Scan s.0 s.1))

-- what a key takes its form of
abbrev pub led : JoinKey → Frame → Doing (List Item)
led key frame = in_turn (λ zs (s : Axis × Test). Forms.scan s.0 s.1 zs) (value_at key.slot frame.env) key.scans

pub starts : (key : JoinKey) (p : Plan) → StartsAt key.slot key.scans p → (frame : Frame) (f : List Tree) → led key frame f ≡ plan_mean p frame f
starts key p at frame f = elim at [
  | inl is ↦ (
      ap (λ ss. in_turn (λ zs (s : Axis × Test). Forms.scan s.0 s.1 zs) (value_at key.slot frame.env) ss f) is.1
      ∙ sym (ap (λ q. plan_mean q frame f) is.0 ∙ slot_is key.slot frame f))
  | inr is ↦ (
      scans_are frame key.scans (value_at key.slot frame.env) f
      ∙ ap (λ o. go_on o (λ xs. in_turn (next_step frame) xs (map plan_step_mean (map scan_step key.scans)))) (sym (slot_is key.slot frame f))
      ∙ sym (ap (λ m. m frame f) (ap plan_mean is ∙ plan_eq.plan-Path (plan.Slot key.slot) (map scan_step key.scans))))
]

-- what follows where something was found
pub if_some : {A E : Type 0} (P R : A → Type 0) (r : Result (Option A) E) → ((x : A) → P x → R x) → IfOk r (λ o. IfSome o P) → IfOk r (λ o. IfSome o R)
if_some P R (Ok (Some x)) then' h = then' x h
if_some P R (Ok None) then' h = tt
if_some P R (Err e) then' h = h

pub only_one : {X : Type 0} (xs : List X) (x : X) → 1 ≤ length xs → length xs < 2 → x ≡ get_or xs 0 x → xs ≡ x ∷ []
only_one [] x h k is = absurd (omega (arith, h))
only_one (y ∷ []) x h k is = ap (λ z. z ∷ []) (sym is)
only_one (y ∷ z ∷ zs) x h k is = absurd (omega (arith, k))

-- the key as it is
pub plain_key : (key : JoinKey) (p : Plan) → key.form ≡ key_form.Value → StartsAt key.slot key.scans p → IsKey key p
plain_key key p form at frame f =
    ap (λ k. go_on (led key frame f) (formed k)) form ∙ go_on_give (led key frame f) ∙ starts key p at frame f

-- a call of one argument
pub called_is : (name : Function) (p : Plan) (frame : Frame) (f : List Tree) →
    plan_mean (plan.Call name (p ∷ [])) frame f ≡ go_on (plan_mean p frame f) (λ xs. on_trees (λ trees. called name trees frame.addresses frame.focus (xs ∷ [])))
called_is name p frame f = ap (λ m. m frame f) (plan_eq.plan-Call name (p ∷ [])) ∙ by (plan_mean p frame f)
  where
    by : (o : Outcome (List Item)) →
        go_on (go_on (go_on o (λ y. give ([] ++ y ∷ []))) (λ next. give next)) (λ values. on_trees (λ trees. called name trees frame.addresses frame.focus values))
        ≡ go_on o (λ xs. on_trees (λ trees. called name trees frame.addresses frame.focus (xs ∷ [])))
    by (Ok xs, g) = refl
    by (Err code, g) = refl

formed_key : (key : JoinKey) (form : KeyForm) (name : Function) (p part : Plan) → key.form ≡ form → StartsAt key.slot key.scans part → p ≡ plan.Call name (part ∷ []) →
    ((frame : Frame) (xs : List Item) (f : List Tree) → formed form xs f ≡ on_trees (λ trees. called name trees frame.addresses frame.focus (xs ∷ [])) f) → IsKey key p
formed_key key form name p part is at whole same frame f =
    ap (λ k. go_on (led key frame f) (formed k)) is
    ∙ go_on_same (led key frame f) (formed form) (λ xs. on_trees (λ trees. called name trees frame.addresses frame.focus (xs ∷ []))) (λ xs g. same frame xs g)
    ∙ ap (λ o. go_on o (λ xs. on_trees (λ trees. called name trees frame.addresses frame.focus (xs ∷ [])))) (starts key part at frame f)
    ∙ sym (ap (λ q. plan_mean q frame f) whole ∙ called_is name part frame f)

pub string_key : (key : JoinKey) (p part : Plan) → key.form ≡ key_form.String → StartsAt key.slot key.scans part → p ≡ plan.Call function.String (part ∷ []) → IsKey key p
string_key key p part is at whole = formed_key key key_form.String function.String p part is at whole (λ frame xs f. refl)

pub data_key : (key : JoinKey) (p part : Plan) → key.form ≡ key_form.Data → StartsAt key.slot key.scans part → p ≡ plan.Call function.Data (part ∷ []) → IsKey key p
data_key key p part is at whole = formed_key key key_form.Data function.Data p part is at whole (λ frame xs f. refl)

pub keys_are : (join : Join) (equality : Equality) (p left right : Plan) → p ≡ equal_plan equality left right → join.equality ≡ equality → IsKey join.left left → IsKey join.right right → IsKeys join p
keys_are join equality p left right is e l r frame f =
    let op = comparison equality in
    ap (λ o. go_on (key_mean join.left frame f) (λ xs. in_turn (Forms.next_operand frame) xs ((comparison o, key_mean join.right) ∷ []))) e
    ∙ then_same (key_mean join.left frame f) (plan_mean left frame f) (λ xs. in_turn (Forms.next_operand frame) xs ((op, key_mean join.right) ∷ [])) (λ xs. in_turn (Forms.next_operand frame) xs ((op, plan_mean right) ∷ []))
    (l frame f) (λ xs g. ap (λ o. go_on (go_on o (λ ys. on_trees (λ trees. Operators.operated op trees xs ys))) (λ next. give next)) (r frame g))
    ∙ sym (ap (λ m. m frame f) (ap plan_mean is ∙ plan_eq.plan-Chain left ((op, right) ∷ [])))

-- # Ranges

pub value_next : (slots : Slots) (xs : List Item) → value_at (length slots) (slots ++ xs ∷ []) ≡ xs
value_next [] xs = refl
value_next (x ∷ slots) xs = value_next slots xs

-- scans from slots that hold the same
scans_from : (old new : ℕ) (p q : Plan) → IsRenamed old new p q → (slots others : Slots) (focus : Option Focus) (addresses : List Text) (f : List Tree) →
    value_at new others ≡ value_at old slots → plan_mean q (frame_of others focus addresses) f ≡ plan_mean p (frame_of slots focus addresses) f
scans_from old new p q is slots others focus addresses f same =
    let here = frame_of slots focus addresses in
    let there = frame_of others focus addresses in
    elim is [
      | inl e ↦ (
          ap (λ m. plan_mean m there f) e.1 ∙ slot_is new there f ∙ ap (λ xs. (Ok xs, f)) same
          ∙ sym (ap (λ m. plan_mean m here f) e.0 ∙ slot_is old here f))
      | inr e ↦ (
          ap (λ m. m there f) (ap plan_mean e.2 ∙ plan_eq.plan-Path (plan.Slot new) e.0)
          ∙ then_same (plan_mean (plan.Slot new) there f) (plan_mean (plan.Slot old) here f) (λ xs. in_turn (next_step there) xs (map plan_step_mean e.0)) (λ xs. in_turn (next_step here) xs (map plan_step_mean e.0))
          (slot_is new there f ∙ ap (λ xs. (Ok xs, f)) same ∙ sym (slot_is old here f))
          (λ xs g. in_turn_same (next_step there) (next_step here) (map plan_step_mean e.0) (map plan_step_mean e.0) (scans_alike there here e.0 e.3) xs g)
          ∙ sym (ap (λ m. m here f) (ap plan_mean e.1 ∙ plan_eq.plan-Path (plan.Slot old) e.0)))
    ]

-- # Clauses

-- the range of the join gives what that of the `for` gives
abbrev pub SameRange : ℕ → Option ℕ → Plan → Plan → Type 0
SameRange outer c p q =
    (slots t : Slots) (focus : Option Focus) (addresses : List Text) (f : List Tree) → length slots ≡ outer →
    plan_mean q (frame_of (slots ++ carried c (slots ++ t)) focus addresses) f ≡ plan_mean p (frame_of (slots ++ t) focus addresses) f

-- whatever it carries
pub range_kept : (outer : ℕ) (p : Plan) → Carries outer None p → SameRange outer None p p
range_kept outer p h slots t focus addresses f l =
    h slots [] focus addresses f (inr (sym l)) ∙ sym (h slots t focus addresses f (inr (sym l)))

pub range_moved : (outer slot : ℕ) (p q : Plan) → IsRenamed slot outer p q → SameRange outer (Some slot) p q
range_moved outer slot p q is slots t focus addresses f l =
    scans_from slot outer p q is (slots ++ t) (slots ++ value_at slot (slots ++ t) ∷ []) focus addresses f
    (ap (λ n. value_at n (slots ++ value_at slot (slots ++ t) ∷ [])) (sym l) ∙ value_next slots (value_at slot (slots ++ t)))

module _ (outer : ℕ) (range moved test : Plan) (join : Join) (same : SameRange outer join.carried range moved) (is : IsKeys join test) where
  ranges_same : (slots : Slots) (focus : Option Focus) (addresses : List Text) → length slots ≡ outer → (tuples : List (Tuple Item)) →
      AllByRecursion (SameAt (at_carried join (frame_of slots focus addresses)) (at_tuple (frame_of slots focus addresses)) (plan_mean moved) (plan_mean range)) tuples
  ranges_same slots focus addresses l [] = tt
  ranges_same slots focus addresses l (t ∷ ts) = (λ f. same slots t focus addresses f l, ranges_same slots focus addresses l ts)

  keys_same : (frame : Frame) (tuples : List (Tuple Item)) → AllByRecursion (SameAt (at_tuple frame) (at_tuple frame) (keys_equal join) (plan_mean test)) tuples
  keys_same frame [] = tt
  keys_same frame (t ∷ ts) = (λ f. is (at_tuple frame t) f, keys_same frame ts)

  pub join_same : SameList outer (clause.For allowing.No false range ∷ clause.Where test ∷ []) (clause.Join moved join ∷ [])
  join_same slots focus addresses l tuples trees =
      let frame = frame_of slots focus addresses in
      go_on_give (plan_clause_mean (clause.Join moved join) frame tuples trees)
      ∙ ap (λ m. m frame tuples trees) (plan_eq.clause-Join moved join)
      ∙ then_same (Forms.for_tuples allowing.No false (plan_mean moved) (at_carried join frame) tuples trees) (Forms.for_tuples allowing.No false (plan_mean range) (at_tuple frame) tuples trees)
      (Forms.where_tuples (keys_equal join) (at_tuple frame)) (Forms.where_tuples (plan_mean test) (at_tuple frame))
      (for_tuples_same (at_carried join frame) (at_tuple frame) allowing.No false (plan_mean moved) (plan_mean range) tuples (ranges_same slots focus addresses l tuples) trees)
      (λ found g. where_tuples_same (at_tuple frame) (at_tuple frame) (keys_equal join) (plan_mean test) found (keys_same frame found) g)
      ∙ sym (
      ap (λ m. go_on (m frame tuples trees) (λ found. in_turn (next_clause frame) found (plan_clause_mean (clause.Where test) ∷ []))) (plan_eq.clause-For allowing.No false range)
      ∙ go_on_same (Forms.for_tuples allowing.No false (plan_mean range) (at_tuple frame) tuples trees) (λ found. in_turn (next_clause frame) found (plan_clause_mean (clause.Where test) ∷ [])) (Forms.where_tuples (plan_mean test) (at_tuple frame))
      (λ found g. go_on_give (plan_clause_mean (clause.Where test) frame found g) ∙ ap (λ m. m frame found g) (plan_eq.clause-Where test)))

-- # Lists

pub list_itself : (outer : ℕ) (cs : List PlanClause) → SameList outer cs cs
list_itself outer cs slots focus addresses l tuples trees = refl

pub list_is : (outer : ℕ) (cs ds : List PlanClause) → ds ≡ cs → SameList outer cs ds
list_is outer cs ds e = subst (SameList outer cs) (sym e) (list_itself outer cs)

pub list_then : (outer : ℕ) (cs ds es : List PlanClause) → SameList outer cs ds → SameList outer ds es → SameList outer cs es
list_then outer cs ds es h k slots focus addresses l tuples trees = k slots focus addresses l tuples trees ∙ h slots focus addresses l tuples trees

pub list_before : (outer : ℕ) (before cs ds : List PlanClause) → SameList outer cs ds → SameList outer (before ++ cs) (before ++ ds)
list_before outer before cs ds h slots focus addresses l tuples trees =
    let act = next_clause (frame_of slots focus addresses) in
    let o = in_turn act tuples (map plan_clause_mean before) trees in
    let split = λ (xs : List PlanClause). ap (λ ms. in_turn act tuples ms trees) (map-append plan_clause_mean before xs) ∙ in_turn-append act tuples (map plan_clause_mean before) (map plan_clause_mean xs) trees in
    split ds
    ∙ go_on_same o (λ n. in_turn act n (map plan_clause_mean ds)) (λ n. in_turn act n (map plan_clause_mean cs)) (λ n g. h slots focus addresses l n g)
    ∙ sym (split cs)

pub list_after : (outer : ℕ) (cs ds after : List PlanClause) → SameList outer cs ds → SameList outer (cs ++ after) (ds ++ after)
list_after outer cs ds after h slots focus addresses l tuples trees =
    let act = next_clause (frame_of slots focus addresses) in
    let split = λ (xs : List PlanClause). ap (λ ms. in_turn act tuples ms trees) (map-append plan_clause_mean xs after) ∙ in_turn-append act tuples (map plan_clause_mean xs) (map plan_clause_mean after) trees in
    split ds
    ∙ ap (λ o. go_on o (λ n. in_turn act n (map plan_clause_mean after))) (h slots focus addresses l tuples trees)
    ∙ sym (split cs)

-- all are made
pub joins_done : (outer : ℕ) (cs found left : List PlanClause) → SameList outer cs (found ++ reverse left) → left ≡ [] → SameList outer cs found
joins_done outer cs found left h none = subst (SameList outer cs) (ap (λ l. found ++ reverse l) none ∙ append-nil found) h

pub join_added : (outer : ℕ) (range moved test : Plan) (join : Join) (before after : List PlanClause) → SameRange outer join.carried range moved → IsKeys join test →
    after ≡ before ++ clause.Join moved join ∷ [] → AddsJoin outer range test before after
join_added outer range moved test join before after same is pushed =
    subst (SameList outer (before ++ clause.For allowing.No false range ∷ clause.Where test ∷ [])) (sym pushed)
    (list_before outer before (clause.For allowing.No false range ∷ clause.Where test ∷ []) (clause.Join moved join ∷ []) (join_same outer range moved test join same is))

-- clauses in another order, and then joins in their place
pub turns_then : (start : ℕ) (known : List Held) (cs ds es : List PlanClause) → SameTurns start known cs ds → SameList start ds es → SameTurns start known cs es
turns_then start known cs ds es h k slots focus addresses l tuples trees w =
    k slots focus addresses l tuples trees ∙ h slots focus addresses l tuples trees w

-- # A join that is there

pub join_follows : (start : ℕ) (known : List Held) (range : Plan) (join : Join) → SameClause start known (clause.Join range join) (clause.Join range join) (known ++ has.Item ∷ [])
join_follows start known range join slots focus addresses l tuples trees w = record {
  same = refl;
  fits =
      subst (λ m. GivesFitting (known ++ has.Item ∷ []) slots (m (frame_of slots focus addresses) tuples trees)) (sym (plan_eq.clause-Join range join))
      (kept (Forms.for_tuples allowing.No false (plan_mean range) (at_carried join (frame_of slots focus addresses)) tuples trees)
      (for_fits known slots (at_carried join (frame_of slots focus addresses)) tuples w allowing.No false Anything (plan_mean range) trees (any_held tuples)));
}
  where
    any_held : (ts : List (Tuple Item)) → AllByRecursion (λ (t : Tuple Item). (f : List Tree) → GivesHeld Anything (plan_mean range (at_carried join (frame_of slots focus addresses) t) f)) ts
    any_held [] = tt
    any_held (t ∷ ts) = ((λ f. any_value (plan_mean range (at_carried join (frame_of slots focus addresses) t) f)), any_held ts)
      where
        any_value : (o : Outcome (List Item)) → GivesHeld Anything o
        any_value (Ok xs, f) = tt
        any_value (Err code, f) = tt

    kept : (o : Outcome (List (Tuple Item))) → GivesFitting (known ++ has.Item ∷ []) slots o →
        GivesFitting (known ++ has.Item ∷ []) slots (go_on o (Forms.where_tuples (keys_equal join) (at_tuple (frame_of slots focus addresses))))
    kept (Ok found, f) h = where_fits (known ++ has.Item ∷ []) slots (at_tuple (frame_of slots focus addresses)) found h (keys_equal join) f
    kept (Err code, f) h = tt

pub join_adds : (start : ℕ) (old new : List Held) (range : Plan) (join : Join) (before after : List PlanClause) → new ≡ old ++ has.Item ∷ [] →
    after ≡ before ++ clause.Join range join ∷ [] → AddsClauses start old (clause.Join range join) before after new
join_adds start old new range join before after bound pushed =
    subst (λ k. AddsClauses start old (clause.Join range join) before after k) (sym bound)
    (clause.Join range join ∷ [], pushed, one_follows start old (old ++ has.Item ∷ []) (clause.Join range join) (clause.Join range join) (join_follows start old range join))

pub join_itself : (start : ℕ) (old new : List Held) (c : PlanClause) (range : Plan) (join : Join) → c ≡ clause.Join range join → new ≡ old ++ has.Item ∷ [] → SameMany start old c (c ∷ []) new
join_itself start old new c range join is bound =
    subst (λ x. SameMany start old x (x ∷ []) new) (sym is)
    (subst (SameMany start old (clause.Join range join) (clause.Join range join ∷ [])) (sym bound)
    (one_follows start old (old ++ has.Item ∷ []) (clause.Join range join) (clause.Join range join) (join_follows start old range join)))
