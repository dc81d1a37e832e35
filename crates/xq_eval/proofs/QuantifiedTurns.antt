-- A turn of a quantified expression, over the trees that it leaves.
use Rattle.std.proofs.Common.{◌≡◌, ℕ, zero, suc, ◌+◌, ◌<◌, ◌≤◌, ◌++◌, List, [], ◌∷◌, map, take, drop, length, refl, sym, ◌∙◌, ap, subst, arith, Ok, Err, Bool, not, Option, Some, None, Result, append_assoc, inl, inr}
use Rattle.std.specs.List.{AllByRecursion}
use Rattle.std.specs.Prelude.{IsErrAnd}
use Rattle.std.specs.Global.{Vec, Global}
use Rattle.std.specs.declared.rc.Rc.{Rc}
use Rattle.std.proofs.lemmas.Bool.{cases_lt}
use Rattle.xq_trees.specs.declared.items.Item.{Item as HeldItem}
use Rattle.xq_tuples.specs.Views.{values_of}
use Rattle.xq_trees.specs.Items.{item_views, ItemView}
use Rattle.xq_operators.specs.declared.contexts.EvalContext.{EvalContext as Held}
use Rattle.std.proofs.lemmas.List.{append-nil, length-append, length-map, map-append}
use Rattle.xq_atoms.specs.declared.refusals.Code.{Code}
use Rattle.xq_atoms.specs.declared.refusals.Fault.{Fault}
use Rattle.xq_atoms.specs.declared.refusals.Fault.TheVariants.{Code as OfCode, Want as OfWant}
use Rattle.xq_trees.specs.Tree.{Tree}
use Rattle.xq_trees.specs.Tuples.{Tuple}
use Rattle.xq_meaning.specs.Items.{Item}
use Rattle.xq_meaning.specs.Readings.{item_at, items_at, IsIn, AreIn, Extends}
use Rattle.xq_meaning.specs.Doing.{Doing, Outcome, go_on, first_that}
use Rattle.xq_meaning.specs.Forms as Forms
use Rattle.xq_meaning.specs.declared.plans.Plan.{Plan}
use Rattle.xq_meaning.specs.PlanMeaning.{Frame, Meaning, plan_mean}
use Rattle.xq_joins.specs.Keyed.{first_with}
use Rattle.xq_operators.specs.Views.{tuple_at, focus_at, frame_at, TupleIn, FocusIn, FrameIn, GivesAs}
use Rattle.xq_eval.specs.private.Results.{GivesPlain}
use Rattle.xq_operators.proofs.Growth.{tuple_grown, tuple_in_grown}
use Rattle.xq_trees.proofs.Lists.{all_append}
use Rattle.xq_eval.specs.private.Bindings.{Falls, stays, falls, Moved}
use Rattle.xq_eval.specs.private.Quantifying.{opened_at, at_top, holds, tried, resumed, weigh, all_weigh, some_weigh}
use Rattle.xq_eval.specs.private.Turns.{values_found, IsTurn, GivesTurn, Leaves}
use Rattle.xq_eval.proofs.Loops.{stops}
use Rattle.xq_eval.proofs.Quantifying.{at_top-env, same_top, found_top, code_top, falls_same, moved_same, none_left, falls_weigh, moved_weigh, turn_weigh, falls_shorter}

all_front : {A : Type 0} (P : A → Type 0) (xs ys : List A) → AllByRecursion P (xs ++ ys) → AllByRecursion P xs × AllByRecursion P ys
all_front P [] ys h = (tt, h)
all_front P (x ∷ xs) ys h = let k = all_front P xs ys h.1 in ((h.0, k.0), k.1)

all_after_one : {A : Type 0} (P : A → Type 0) (xs : List A) → AllByRecursion P xs → AllByRecursion P (drop 1 xs)
all_after_one P [] h = tt
all_after_one P (x ∷ xs) h = h.1

take_front : {A : Type 0} (xs ys : List A) (n : ℕ) → n ≡ length xs → take n (xs ++ ys) ≡ xs
take_front [] ys zero h = refl
take_front [] ys (suc n) h = absurd (omega arith)
take_front (x ∷ xs) ys zero h = absurd (omega arith)
take_front (x ∷ xs) ys (suc n) h = ap (λ zs. x ∷ zs) (take_front xs ys n (omega arith))

falls_in : (f : List Tree) (stack : Tuple ItemView) (items : List ItemView) (below : Tuple ItemView) (left : List ItemView) → Falls stack items below left → TupleIn f stack → AreIn f items → TupleIn f below × AreIn f left
falls_in f stack items below left stays h k = (h, k)
falls_in f stack items below left (falls es e before) h k =
    let b = falls_in f stack items (es ++ e ∷ []) [] before h k in
    let c = all_front (AreIn f) es (e ∷ []) b.0 in
    (c.0, all_after_one (IsIn f) e c.1.0)

-- what is left of a stack is its front
falls_front : (stack : Tuple ItemView) (items : List ItemView) (below : Tuple ItemView) (left : List ItemView) → Falls stack items below left → (gone : Tuple ItemView) × (stack ≡ below ++ gone)
falls_front stack items below left stays = ([], sym (append-nil stack))
falls_front stack items below left (falls es e before) =
    let b = falls_front stack items (es ++ e ∷ []) [] before in
    (e ∷ b.0, b.1 ∙ append_assoc es (e ∷ []) b.0)

pub moved_slots : (outer : ℕ) (others slots stack slots' stack' : Tuple ItemView) (items : List ItemView) → outer ≡ length others → slots ≡ others ++ map (take 1) stack → Moved outer slots stack items slots' stack'
    → slots' ≡ others ++ map (take 1) stack'
moved_slots outer others slots stack slots' stack' items h is moved =
    let front = falls_front stack items moved.below (moved.value ∷ moved.left) moved.falls in
    let firsts = map (take 1) moved.below in
    let many = length-map moved.below (take 1) in
    let long = length-append others firsts in
    let kept : take (outer + length moved.below) slots ≡ others ++ firsts =
    ap (take (outer + length moved.below)) (is ∙ ap (λ s. others ++ map (take 1) s) front.1 ∙ ap (λ s. others ++ s) (map-append (take 1) moved.below front.0) ∙ sym (append_assoc others firsts (map (take 1) front.0)))
    ∙ take_front (others ++ firsts) (map (take 1) front.0) (outer + length moved.below) (omega arith) in
    moved.in_slots ∙ ap (λ s. s ++ (moved.value ∷ []) ∷ []) kept ∙ append_assoc others firsts ((moved.value ∷ []) ∷ [])
    ∙ ap (λ s. others ++ s) (sym (ap (map (take 1)) moved.in_stack ∙ map-append (take 1) moved.below ((moved.value ∷ moved.left) ∷ [])))

below_parts : (n m k : ℕ) → m ≤ n → k ≤ m → (n ≤ m → k < m) → k < n
below_parts n m k h l s = elim (cases_lt m n) [ inl below ↦ omega arith | inr full ↦ let fewer = s full in omega arith ]

module _ (wanted : Bool) (test : Meaning) (parts : List Meaning) (frame : Frame) (whole : Outcome Bool) where
  -- the turn, at a stack over the trees before it
  pub record At (f : List Tree) (stack : Tuple ItemView) : Type 0 where
    pub within : length stack ≤ length parts
    pub is_in : TupleIn f stack
    pub rest : resumed wanted test (holds wanted test) parts frame (tuple_at f stack) f ≡ whole

  top_is : (f : List Tree) (stack : Tuple ItemView) (n : ℕ) → n ≡ length stack → drop n parts ≡ drop (length (tuple_at f stack)) parts
  top_is f stack n h = ap (λ k. drop k parts) (h ∙ sym (length-map stack (items_at f)))

  after_turn : (f f' : List Tree) (stack : Tuple ItemView) (items : List ItemView) (n : ℕ) → At f stack → Extends f f' → n ≡ length stack
      → holds wanted test (drop n parts) (at_top frame (tuple_at f stack)) f ≡ tried wanted test (items_at f' items) (drop n parts) (at_top frame (tuple_at f stack)) f'
      → resumed wanted test (tried wanted test (items_at f' items)) parts frame (tuple_at f' stack) f' ≡ whole
  after_turn f f' stack items n at grows h step =
      let es = tuple_at f stack in
      let many = length-map stack (items_at f) in
      let w = at.within in
      let top = subst (λ ps. holds wanted test ps (at_top frame es) f ≡ tried wanted test (items_at f' items) ps (at_top frame es) f') (top_is f stack n h) step in
      ap (λ s. resumed wanted test (tried wanted test (items_at f' items)) parts frame s f') (tuple_grown grows stack at.is_in)
      ∙ sym (same_top wanted test (holds wanted test) (tried wanted test (items_at f' items)) parts frame es f f' (omega arith) top)
      ∙ at.rest

  pub turn_moves : (f f' : List Tree) (stack stack' slots slots' : Tuple ItemView) (items : List ItemView) (outer n : ℕ) → At f stack → Extends f f' → n ≡ length stack
      → IsTurn wanted test (drop n parts) (at_top frame (tuple_at f stack)) f f' (Some items)
      → (length parts ≤ n → items ≡ []) → Moved outer slots stack items slots' stack' → At f' stack'
  turn_moves f f' stack stack' slots slots' items outer n at grows h step spent moved =
      let below = moved.below in
      let values = moved.value ∷ moved.left in
      let w = at.within in
      let shorter = falls_shorter stack items below values moved.falls in
      let lower : length below < length parts = below_parts (length parts) (length stack) (length below) at.within shorter.0 (λ full. shorter.1 (spent (omega arith)) (omega arith)) in
      let many = length-map below (items_at f') in
      let made = length-append below (values ∷ []) in
      let long = ap length moved.in_stack in
      let inside = falls_in f' stack items below values moved.falls (tuple_in_grown grows stack at.is_in) step.0 in
      let read : tuple_at f' stack' ≡ tuple_at f' below ++ items_at f' values ∷ [] = ap (tuple_at f') moved.in_stack ∙ map-append (items_at f') below (values ∷ []) in
      record {
        within = omega arith;
        is_in = subst (TupleIn f') (sym moved.in_stack) (all_append (AreIn f') below (values ∷ []) inside.0 (inside.1, tt));
        rest = ap (λ s. resumed wanted test (holds wanted test) parts frame s f') read
            ∙ sym (moved_same wanted test parts frame (tuple_at f' below) (item_at f' moved.value) (items_at f' moved.left) f' (omega arith))
            ∙ sym ((falls_same wanted test stack items (item_at f') below values parts frame f' moved.falls at.within).1)
            ∙ after_turn f f' stack items n at grows h step.1;
      }

  pub turn_ends : (f f' : List Tree) (stack : Tuple ItemView) (items : List ItemView) (n : ℕ) → At f stack → Extends f f' → n ≡ length stack
      → holds wanted test (drop n parts) (at_top frame (tuple_at f stack)) f ≡ tried wanted test (items_at f' items) (drop n parts) (at_top frame (tuple_at f stack)) f'
      → Falls stack items [] [] → whole ≡ (Ok (not wanted), f')
  turn_ends f f' stack items n at grows h step ended =
      sym (after_turn f f' stack items n at grows h step)
      ∙ (falls_same wanted test stack items (item_at f') [] [] parts frame f' ended at.within).1
      ∙ none_left wanted test parts frame f'

  pub turn_decides : (f f' : List Tree) (stack : Tuple ItemView) (n : ℕ) → At f stack → n ≡ length stack
      → holds wanted test (drop n parts) (at_top frame (tuple_at f stack)) f ≡ (Ok wanted, f') → whole ≡ (Ok wanted, f')
  turn_decides f f' stack n at h step =
      let es = tuple_at f stack in
      let many = length-map stack (items_at f) in
      let w = at.within in
      let top = subst (λ ps. holds wanted test ps (at_top frame es) f ≡ (Ok wanted, f')) (top_is f stack n h) step in
      sym at.rest ∙ found_top wanted test (holds wanted test) parts frame es f f' (omega arith) top

  pub turn_stops : (f f' : List Tree) (stack : Tuple ItemView) (n : ℕ) (e : Fault) → At f stack → n ≡ length stack
      → GivesTurn wanted test (drop n parts) (at_top frame (tuple_at f stack)) f f' (Err e) → GivesPlain whole f' (Err e)
  turn_stops f f' stack n (OfWant want) at h step = tt
  turn_stops f f' stack n (OfCode code) at h step =
      let es = tuple_at f stack in
      let many = length-map stack (items_at f) in
      let w = at.within in
      let top = subst (λ ps. (holds wanted test ps (at_top frame es) f).0 ≡ Err code) (top_is f stack n h) step in
      ap (λ o. o.0) (sym at.rest) ∙ code_top wanted test (holds wanted test) parts frame es f code (omega arith) top

-- what is left weighs less after a turn
pub moved_lighter : (width n outer : ℕ) (slots stack slots' stack' : Tuple ItemView) (items : List ItemView) → length stack ≤ n → length items < width → (n ≤ length stack → items ≡ []) → Moved outer slots stack items slots' stack'
    → weigh width (all_weigh width) n stack' < weigh width (all_weigh width) n stack
moved_lighter width n outer slots stack slots' stack' items within h spent moved =
    let below = moved.below in
    let values = moved.value ∷ moved.left in
    let shorter = falls_shorter stack items below values moved.falls in
    let lower : length below < n = below_parts n (length stack) (length below) within shorter.0 (λ full. shorter.1 (spent full) (omega arith)) in
    let now : weigh width (all_weigh width) n stack' ≡ weigh width (some_weigh width values) n below = ap (weigh width (all_weigh width) n) moved.in_stack ∙ sym (moved_weigh width n below moved.value moved.left lower) in
    let before : weigh width (some_weigh width items) n stack ≡ weigh width (some_weigh width values) n below = (falls_weigh width stack items below values n moved.falls within).1 in
    let lighter = turn_weigh width n stack items within h in
    omega arith

pub moved_within : (n outer : ℕ) (slots stack slots' stack' : Tuple ItemView) (items : List ItemView) → length stack ≤ n → (n ≤ length stack → items ≡ []) → Moved outer slots stack items slots' stack' → length stack' ≤ n
moved_within n outer slots stack slots' stack' items within spent moved =
    let below = moved.below in
    let values = moved.value ∷ moved.left in
    let shorter = falls_shorter stack items below values moved.falls in
    let lower : length below < n = below_parts n (length stack) (length below) within shorter.0 (λ full. shorter.1 (spent full) (omega arith)) in
    let made = length-append below (values ∷ []) in
    let long = ap length moved.in_stack in
    omega arith

-- # The frame of the variables that have a value

first_read : (f : List Tree) (e : List ItemView) → items_at f (take 1 e) ≡ take 1 (items_at f e)
first_read f [] = refl
first_read f (x ∷ e) = refl

firsts_read : (f : List Tree) (stack : Tuple ItemView) → tuple_at f (map (take 1) stack) ≡ map (take 1) (tuple_at f stack)
firsts_read f [] = refl
firsts_read f (e ∷ stack) = let k = first_read f e in let l = firsts_read f stack in cc

first_in : (f : List Tree) (e : List ItemView) → AreIn f e → AreIn f (take 1 e)
first_in f [] h = tt
first_in f (x ∷ e) h = (h.0, tt)

firsts_in : (f : List Tree) (stack : Tuple ItemView) → TupleIn f stack → TupleIn f (map (take 1) stack)
firsts_in f [] h = tt
firsts_in f (e ∷ stack) h = (first_in f e h.0, firsts_in f stack h.1)

pub frame_open : (f : List Tree) (frame inner : Held) (stack : Tuple ItemView) → values_of inner.slots.now ≡ values_of frame.slots.now ++ map (take 1) stack
    → inner.focus ≡ frame.focus → inner.addresses.now ≡ frame.addresses.now
    → frame_at f inner ≡ at_top (frame_at f frame) (tuple_at f stack)
frame_open f frame inner stack e focus addresses =
    let env : tuple_at f (values_of inner.slots.now) ≡ tuple_at f (values_of frame.slots.now) ++ map (take 1) (tuple_at f stack) =
    ap (tuple_at f) e ∙ map-append (items_at f) (values_of frame.slots.now) (map (take 1) stack) ∙ ap (λ s. tuple_at f (values_of frame.slots.now) ++ s) (firsts_read f stack) in
    (λ i. record { env = env i; focus = focus_at f (focus i); addresses = addresses i }) ∙ sym (at_top-env (frame_at f frame) (tuple_at f stack))

pub frame_open_in : (f : List Tree) (frame inner : Held) (stack : Tuple ItemView) → values_of inner.slots.now ≡ values_of frame.slots.now ++ map (take 1) stack
    → inner.focus ≡ frame.focus → inner.addresses.now ≡ frame.addresses.now → FrameIn f frame → TupleIn f stack → FrameIn f inner
frame_open_in f frame inner stack e focus addresses h k = record {
  slots_in = subst (TupleIn f) (sym e) (all_append (AreIn f) (values_of frame.slots.now) (map (take 1) stack) h.slots_in (firsts_in f stack k));
  focus_in = subst (FocusIn f) (sym focus) h.focus_in;
  addresses_in = subst (λ xs. length xs ≤ length f) (sym addresses) h.addresses_in;
}

-- # What one call for the next values gives

-- what a turn found
pub some_found : (wanted : Bool) (test : Meaning) (parts : List Meaning) (frame : Frame) (f f' : List Tree) (found : Option (Rc (Vec HeldItem) Global)) (items : Rc (Vec HeldItem) Global) → found ≡ Some items
    → IsTurn wanted test parts frame f f' (values_found found) → IsTurn wanted test parts frame f f' (Some (item_views items.value))
some_found wanted test parts frame f f' found items e h = subst (λ r. IsTurn wanted test parts frame f f' (values_found r)) e h

pub none_found : (wanted : Bool) (test : Meaning) (parts : List Meaning) (frame : Frame) (f f' : List Tree) (found : Option (Rc (Vec HeldItem) Global)) → found ≡ None
    → IsTurn wanted test parts frame f f' (values_found found) → holds wanted test parts frame f ≡ (Ok wanted, f')
none_found wanted test parts frame f f' found e h = subst (λ r. IsTurn wanted test parts frame f f' (values_found r)) e h

module _ (wanted : Bool) (test : Meaning) (part : Meaning) (rest : List Meaning) (frame : Frame) where
  -- with each of these values
  abbrev each : List Item → Doing Bool
  each xs = first_that wanted (λ x. holds wanted test rest (opened_at frame (x ∷ []))) xs

  pub turn_value : (parts : List Meaning) (xs : List Item) (f f' : List Tree) → parts ≡ part ∷ rest → part frame f ≡ (Ok xs, f')
      → holds wanted test parts frame f ≡ tried wanted test xs parts frame f'
  turn_value parts xs f f' e step = subst (λ ps. holds wanted test ps frame f ≡ tried wanted test xs ps frame f') (sym e) (ap (λ o. go_on o each) step)

  pub turn_refuses : (parts : List Meaning) (f : List Tree) → parts ≡ part ∷ rest → (code : Code) → (part frame f).0 ≡ Err code → (holds wanted test parts frame f).0 ≡ Err code
  turn_refuses parts f e code step = ap (λ ps. (holds wanted test ps frame f).0) e ∙ stops (part frame f) each code step

pub turn_tested : (wanted : Bool) (test : Meaning) (parts : List Meaning) (frame : Frame) (answer : Bool) (f f' : List Tree) → parts ≡ [] → Forms.tested test frame f ≡ (Ok answer, f')
    → holds wanted test parts frame f ≡ (Ok answer, f')
turn_tested wanted test parts frame answer f f' e step = ap (λ ps. holds wanted test ps frame f) e ∙ step

-- a refusal that `?` hands on
pub turn_refused : {R S B : Type 0} (view : R → S) (read : List Tree → S → B) (In : List Tree → S → Type 0) (o : Outcome B) (wanted : Bool) (test : Meaning) (parts : List Meaning) (frame : Frame) (f f' : List Tree) (e : Fault)
    (r : Result (Option (Rc (Vec HeldItem) Global)) Fault)
    → ((code : Code) → o.0 ≡ Err code → (holds wanted test parts frame f).0 ≡ Err code) → IsErrAnd r (λ e'. e' ≡ e) → GivesAs view read In o f' (Err e) → GivesTurn wanted test parts frame f f' r
turn_refused view read In o wanted test parts frame f f' (OfWant want) (Err e') codes h given = subst (λ x. GivesTurn wanted test parts frame f f' (Err x)) (sym h) tt
turn_refused view read In o wanted test parts frame f f' (OfCode code) (Err e') codes h given = subst (λ x. GivesTurn wanted test parts frame f f' (Err x)) (sym h) (codes code given)
turn_refused view read In o wanted test parts frame f f' e (Ok found) codes h given = elim h [ ]

-- the last variable's values, and those of them that are left
pub turn_left : (wanted : Bool) (p : Plan) (parts : List Meaning) (part : Meaning) (frame : Frame) (xs : List ItemView) (found : Option (List ItemView)) (f f' f'' : List Tree) → parts ≡ part ∷ [] → part frame f ≡ (Ok (items_at f' xs), f')
    → f'' ≡ f' → Leaves wanted p frame f' xs found → IsTurn wanted (plan_mean p) parts frame f f'' found
turn_left wanted p parts part frame xs None f f' f'' e step same h =
    let go : Outcome (List Item) → Outcome Bool = λ o. go_on o (λ ys. first_with wanted p ys frame) in
    subst (λ t. holds wanted (plan_mean p) parts frame f ≡ (Ok wanted, t)) (sym same)
    (subst (λ ps. holds wanted (plan_mean p) ps frame f ≡ (Ok wanted, f')) (sym e) (ap go step ∙ h))
turn_left wanted p parts part frame xs (Some ys) f f' f'' e step same h =
    let go : Outcome (List Item) → Outcome Bool = λ o. go_on o (λ ys. first_with wanted p ys frame) in
    subst (λ t. IsTurn wanted (plan_mean p) parts frame f t (Some ys)) (sym same)
    (h.0, subst (λ ps. holds wanted (plan_mean p) ps frame f ≡ tried wanted (plan_mean p) (items_at f' ys) ps frame f') (sym e) (ap go step ∙ h.1))
