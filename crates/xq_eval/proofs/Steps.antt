-- One turn of a loop from what its part gave.
use Rattle.std.proofs.Common.{◌≡◌, ℕ, zero, suc, ◌<◌, ◌≤◌, ◌+◌, ◌++◌, List, [], ◌∷◌, map, drop, length, get_or, slice_index_or, refl, sym, ◌∙◌, ap, subst, arith, add-one, Ok, Err, Bool, true, false}
use Rattle.std.specs.Prelude.{pos, reverse, if◌then◌else◌}
use Rattle.std.specs.List.{AllByRecursion, enumerate_from, zip}
use Rattle.std.proofs.Math.Seq.{drop-cons}
use Rattle.std.proofs.lemmas.List.{map-append, append-nil}
use Rattle.std.proofs.lemmas.List.Concat.{flat_map-cons}
use Rattle.xq_atoms.specs.declared.refusals.Code.{Code}
use Rattle.xq_atoms.specs.declared.refusals.Code.TheVariants.{XPTY0019}
use Rattle.xq_atoms.specs.declared.refusals.Fault.{Fault}
use Rattle.xq_atoms.specs.declared.refusals.Fault.TheVariants.{Code as OfCode, Want as OfWant}
use Rattle.xq_trees.specs.declared.items.Item.{Item as Held}
use Rattle.xq_trees.specs.Tree.{Tree}
use Rattle.xq_trees.specs.Tuples.{Tuple, item_values, empty_values, with_items, expanded, numbered, bound, satisfying}
use Rattle.xq_tuples.specs.Views.{values_of}
use Rattle.xq_trees.specs.Items.{ItemView, Value, item_view}
use Rattle.xq_atoms.specs.Atom.{Integer}
use Rattle.xq_atoms.specs.Judged.{Judged, ◌>>=◌ as ◌>>>=◌}
use Rattle.xq_meaning.specs.Items.{Place, Item, Node, atomized}
use Rattle.xq_meaning.specs.Arguments.{effective, all_nodes}
use Rattle.xq_meaning.specs.Operators.{keeps, gathered}
use Rattle.xq_meaning.specs.Functions.{Focus as Spot}
use Rattle.xq_meaning.specs.Steps.{focuses, focuses_from, in_axis_order, is_reverse, axis_nodes, context_node}
use Rattle.xq_meaning.specs.Content.{name_of}
use Rattle.xq_meaning.specs.declared.node_tests.Test.{Test}
use Rattle.xq_meaning.specs.declared.node_tests.Test.TheVariants.{Any}
use Rattle.xq_trees.specs.declared.Axis.{Axis}
use Rattle.xq_trees.specs.declared.Axis.TheVariants.{Child, DescendantOrSelf}
use Rattle.xq_expressions.specs.declared.operators.NamedNode.{NamedNode}
use Rattle.xq_meaning.specs.Readings.{item_at, items_at, IsIn, AreIn, Extends}
use Rattle.xq_meaning.specs.Doing.{Doing, Outcome, go_on, ◌>>=◌, give, judged, on_trees, in_turn, more, one_more, collected}
use Rattle.xq_meaning.specs.Forms as Forms
use Rattle.xq_meaning.specs.PlanMeaning.{Frame, Meaning, StepMeaning, at_tuple, plan_mean, plan_step_mean}
use Rattle.xq_meaning.specs.declared.plans.Plan.{Plan}
use Rattle.xq_meaning.specs.declared.plans.Plan.TheVariants as plan
use Rattle.xq_meaning.proofs.Growth.{AllGrowing}
use Rattle.xq_meaning.proofs.PlanGrowth.{plan_grows}
use Rattle.xq_meaning.specs.declared.plans.PlanStep.{PlanStep}
use Rattle.xq_meaning.specs.declared.plans.PlanStep.TheVariants as plan_step
use Rattle.xq_meaning.proofs.PlanEquations.{plan-Step, step-Each, step-Scan}
use Rattle.xq_operators.specs.declared.contexts.EvalContext.{EvalContext as Held_frame}
use Rattle.xq_operators.specs.Views.{tuple_at, focus_at, frame_at, TupleIn, TuplesIn, FocusIn, FrameIn, Goes, GivesAs, forget, on_axis, after_double_slash, parents_below, plant_named}
use Rattle.xq_eval.proofs.Loops.{stops}
use Rattle.xq_operators.proofs.ParentsBelow.{parents_suffice}
use Rattle.xq_operators.proofs.Growth.{items_grown, are_in_grown, tuple_grown, tuple_in_grown, item_at_grown, in_grown}
use Rattle.xq_trees.proofs.Lists.{all_append, all_reverse, map_reverse}

-- the results of one more, at the end of those so far
pub more_next : {A : Type 0} (act : A → Doing (List Item)) (done added done' : List ItemView) (x : A) (f f' : List Tree) → Extends f f' → AreIn f done
    → AreIn f' added × (act x f ≡ (Ok (items_at f' added), f')) → done' ≡ done ++ added
    → AreIn f' done' × (more act (items_at f done) x f ≡ (Ok (items_at f' done'), f'))
more_next act done added done' x f f' grows inside step e = (
  subst (AreIn f') (sym e) (all_append (IsIn f') done added (are_in_grown grows done inside) step.0),
  ap (λ o. go_on o (λ ys. give (items_at f done ++ ys))) step.1 ∙ ap (λ zs. (Ok zs, f')) (ap (λ zs. zs ++ items_at f' added) (sym (items_grown grows done inside)) ∙ sym (map-append (item_at f') done added) ∙ ap (items_at f') (sym e)),
)

pub tested_ok : {E : Type 0} (part : Forms.Meaning E) (frame : Forms.Frame E) (xs : List Item) (b : Bool) (f f' : List Tree) → part frame f ≡ (Ok xs, f') → effective xs ≡ Ok b → Forms.tested part frame f ≡ (Ok b, f')
tested_ok part frame xs b f f' step answer = ap (λ o. go_on o (λ ys. judged (effective ys))) step ∙ ap (λ r. judged r f') answer

pub tested_err : {E : Type 0} (part : Forms.Meaning E) (frame : Forms.Frame E) (xs : List Item) (code : Code) (f f' : List Tree) → part frame f ≡ (Ok xs, f') → effective xs ≡ Err code → (Forms.tested part frame f).0 ≡ Err code
tested_err part frame xs code f f' step answer = ap (λ o. o.0) (ap (λ o. go_on o (λ ys. judged (effective ys))) step) ∙ answer

-- a refusal of the first is that of all that goes on from it
pub go_on_stop : {R R' S S' B C : Type 0} (view : R → S) (read : List Tree → S → B) (In : List Tree → S → Type 0) (view' : R' → S') (read' : List Tree → S' → C) (In' : List Tree → S' → Type 0) (o : Outcome B) (next : B → Doing C) (f : List Tree) (e : Fault)
    → GivesAs view read In o f (Err e) → GivesAs view' read' In' (go_on o next) f (Err e)
go_on_stop view read In view' read' In' o next f (OfWant want) h = tt
go_on_stop view read In view' read' In' o next f (OfCode code) h = stops o next code h

pub list_next : {A : Type 0} (act : A → Doing (List Item)) (done : Tuple ItemView) (added : List ItemView) (done' : Tuple ItemView) (x : A) (f f' : List Tree) → Extends f f' → TupleIn f done
    → AreIn f' added × (act x f ≡ (Ok (items_at f' added), f')) → done' ≡ done ++ added ∷ []
    → TupleIn f' done' × (one_more act (tuple_at f done) x f ≡ (Ok (tuple_at f' done'), f'))
list_next act done added done' x f f' grows inside step e = (
  subst (TupleIn f') (sym e) (all_append (AreIn f') done (added ∷ []) (tuple_in_grown grows done inside) (step.0, tt)),
  ap (λ o. go_on o (λ y. give (tuple_at f done ++ y ∷ []))) step.1 ∙ ap (λ zs. (Ok zs, f')) (ap (λ zs. zs ++ items_at f' added ∷ []) (sym (tuple_grown grows done inside)) ∙ sym (map-append (items_at f') done (added ∷ [])) ∙ ap (tuple_at f') (sym e)),
)

pub passed_ok : {E : Type 0} (part : Forms.Meaning E) (frame : Forms.Frame E) (focus : Spot) (xs : List Item) (b : Bool) (f f' : List Tree) → part (Forms.in_focus frame focus) f ≡ (Ok xs, f') → keeps focus.position xs ≡ Ok b → Forms.passed part frame focus f ≡ (Ok (Forms.kept_if focus.item b), f')
passed_ok part frame focus xs b f f' step answer =
    ap (λ o. go_on o (λ v. judged (keeps focus.position v) >>= (λ k. give (Forms.kept_if focus.item k)))) step ∙ ap (λ r. go_on (judged r f') (λ k. give (Forms.kept_if focus.item k))) answer

pub passed_err : {E : Type 0} (part : Forms.Meaning E) (frame : Forms.Frame E) (focus : Spot) (xs : List Item) (code : Code) (f f' : List Tree) → part (Forms.in_focus frame focus) f ≡ (Ok xs, f') → keeps focus.position xs ≡ Err code → (Forms.passed part frame focus f).0 ≡ Err code
passed_err part frame focus xs code f f' step answer =
    ap (λ o. o.0) (ap (λ o. go_on o (λ v. judged (keeps focus.position v) >>= (λ k. give (Forms.kept_if focus.item k)))) step ∙ ap (λ r. go_on (judged r f') (λ k. give (Forms.kept_if focus.item k))) answer)

pub kept_read : (f f' : List Tree) (x : ItemView) (b : Bool) → Extends f f' → IsIn f x → AreIn f' (Forms.kept_if x b) × (Forms.kept_if (item_at f x) b ≡ items_at f' (Forms.kept_if x b))
kept_read f f' x true grows h = ((in_grown grows x h, tt), ap (λ y. y ∷ []) (sym (item_at_grown grows x h)))
kept_read f f' x false grows h = (tt, refl)

-- focuses

pub spots_left : (f : List Tree) (items : List Held) (i : ℕ) (x : Held) (n : ℕ) → i < length items → x ≡ get_or items i x
    → focuses_from (suc i) n (items_at f (map item_view (drop i items))) ≡ record { item = item_at f (item_view x); position = i + 1; last = n } ∷ focuses_from (suc (i + 1)) n (items_at f (map item_view (drop (i + 1) items)))
spots_left f items i x n h is = rw add-one (ap (λ xs. focuses_from (suc i) n (items_at f (map item_view xs))) (drop-cons items i x h ∙ ap (λ y. y ∷ drop (suc i) items) (sym is)))

pub element : {A : Type 0} (P : A → Type 0) (xs : List A) (i : ℕ) (x d : A) → AllByRecursion P xs → i < length xs → x ≡ slice_index_or xs i d → P x
element P [] i x d h k is = absurd (omega arith)
element P (y ∷ ys) zero x d h k is = subst P (sym is) h.0
element P (y ∷ ys) (suc i) x d h k is = element P ys i x d h.1 (omega arith) is

pub left_at : {X A : Type 0} (view : X → A) (xs : List X) (i : ℕ) (x d : X) → i < length xs → x ≡ slice_index_or xs i d → map view (drop i xs) ≡ view x ∷ map view (drop (i + 1) xs)
left_at view [] i x d h is = absurd (omega arith)
left_at view (y ∷ ys) zero x d h is = ap (λ z. view z ∷ map view ys) (sym is)
left_at view (y ∷ ys) (suc i) x d h is =
    let e : suc i + 1 ≡ suc (i + 1) = omega arith in
    let k : map view (drop i ys) ≡ view x ∷ map view (drop (i + 1) ys) = left_at view ys i x d (omega arith) is in
    rw e k

-- the frame of a tuple

pub frame_inner : (f : List Tree) (frame inner : Held_frame) (tuple : Tuple ItemView) → values_of inner.slots.now ≡ values_of frame.slots.now ++ tuple
    → inner.focus ≡ frame.focus → inner.addresses.now ≡ frame.addresses.now
    → frame_at f inner ≡ at_tuple (frame_at f frame) (tuple_at f tuple)
frame_inner f frame inner tuple e focus addresses =
    let env = ap (tuple_at f) e ∙ map-append (items_at f) (values_of frame.slots.now) tuple in
    λ i. record { env = env i; focus = focus_at f (focus i); addresses = addresses i }

pub frame_inner_in : (f : List Tree) (frame inner : Held_frame) (tuple : Tuple ItemView) → values_of inner.slots.now ≡ values_of frame.slots.now ++ tuple
    → inner.focus ≡ frame.focus → inner.addresses.now ≡ frame.addresses.now → FrameIn f frame → TupleIn f tuple → FrameIn f inner
frame_inner_in f frame inner tuple e focus addresses h k = record {
  slots_in = subst (TupleIn f) (sym e) (all_append (AreIn f) (values_of frame.slots.now) tuple h.slots_in k);
  focus_in = subst (FocusIn f) (sym focus) h.focus_in;
  addresses_in = subst (λ xs. length xs ≤ length f) (sym addresses) h.addresses_in;
}

-- what the clauses make of tuples of nodes that exist

pub bound_in : (f : List Tree) (tuples : List (Tuple ItemView)) (values : List (List ItemView)) → TuplesIn f tuples → TupleIn f values → TuplesIn f (bound tuples values)
bound_in f [] values h k = tt
bound_in f (t ∷ ts) [] h k = tt
bound_in f (t ∷ ts) (v ∷ vs) h k = (all_append (AreIn f) t (v ∷ []) h.0 (k.0, tt), bound_in f ts vs h.1 k.1)

pub kept_in : (f : List Tree) (tuples : List (Tuple ItemView)) (tests : List Bool) → TuplesIn f tuples → TuplesIn f (satisfying tuples tests)
kept_in f [] tests h = tt
kept_in f (t ∷ ts) [] h = tt
kept_in f (t ∷ ts) (true ∷ bs) h = (h.0, kept_in f ts bs h.1)
kept_in f (t ∷ ts) (false ∷ bs) h = kept_in f ts bs h.1

item_in : (f : List Tree) (at : Bool) (n : ℕ) (x : ItemView) → IsIn f x → TupleIn f (item_values Value at n x)
item_in f true n x h = ((h, tt), ((tt, tt), tt))
item_in f false n x h = ((h, tt), tt)

each_in : (f : List Tree) (at : Bool) (tuple : Tuple ItemView) (n : ℕ) (xs : List ItemView) → TupleIn f tuple → AreIn f xs → TuplesIn f (map (λ p. tuple ++ item_values Value at p.0 p.1) (enumerate_from n xs))
each_in f at tuple n [] h k = tt
each_in f at tuple n (x ∷ xs) h k = (all_append (AreIn f) tuple (item_values Value at n x) h (item_in f at n x k.0), each_in f at tuple (n + 1) xs h k.1)

empty_in : (f : List Tree) (at : Bool) → TupleIn f (empty_values Value at)
empty_in f true = (tt, ((tt, tt), tt))
empty_in f false = (tt, tt)

items_in : (f : List Tree) (allows at : Bool) (tuple : Tuple ItemView) (xs : List ItemView) → TupleIn f tuple → AreIn f xs → TuplesIn f (with_items Value allows at tuple xs)
items_in f true at tuple [] h k = (all_append (AreIn f) tuple (empty_values Value at) h (empty_in f at), tt)
items_in f true at tuple (x ∷ xs) h k = each_in f at tuple 1 (x ∷ xs) h k
items_in f false at tuple xs h k = each_in f at tuple 1 xs h k

pub expanded_in : (f : List Tree) (allows at : Bool) (tuples : List (Tuple ItemView)) (lists : List (List ItemView)) → TuplesIn f tuples → TupleIn f lists → TuplesIn f (expanded Value allows at tuples lists)
expanded_in f allows at [] lists h k = tt
expanded_in f allows at (t ∷ ts) [] h k = tt
expanded_in f allows at (t ∷ ts) (l ∷ ls) h k =
    subst (TuplesIn f) (sym (flat_map-cons (λ p. with_items Value allows at p.0 p.1) (t, l) (zip ts ls)))
    (all_append (TupleIn f) (with_items Value allows at t l) (expanded Value allows at ts ls) (items_in f allows at t l h.0 k.0) (expanded_in f allows at ts ls h.1 k.1))

numbered_from : (f : List Tree) (n : ℕ) (tuples : List (Tuple ItemView)) → TuplesIn f tuples → TuplesIn f (map (λ p. p.1 ++ (Value (Integer (pos p.0)) ∷ []) ∷ []) (enumerate_from n tuples))
numbered_from f n [] h = tt
numbered_from f n (t ∷ ts) h = (all_append (AreIn f) t ((Value (Integer (pos n)) ∷ []) ∷ []) h.0 ((tt, tt), tt), numbered_from f (n + 1) ts h.1)

pub numbered_in : (f : List Tree) (tuples : List (Tuple ItemView)) → TuplesIn f tuples → TuplesIn f (numbered Value tuples)
numbered_in f tuples h = numbered_from f 1 tuples h

abbrev pub same_tests : {A : Type 0} → List Tree → List A → List A
same_tests trees tests = tests

abbrev pub any_tests : {A : Type 0} → List Tree → List A → Type 0
any_tests trees tests = Unit {0}

-- items that have to be nodes, one by one

pub nodes_next : (trees : List Tree) (code : Code) (p : Place) (xs : List Item) → forget (all_nodes code (Node p ∷ xs)) ≡ forget (all_nodes code xs)
nodes_next trees code p xs = after (all_nodes code xs)
  where
    after : (r : Judged (List Place)) → forget (r >>>= (λ ps. Ok (p ∷ ps))) ≡ forget r
    after (Ok ps) = refl
    after (Err other) = refl

abbrev refused : {A : Type 0} → Judged A → Type 0
refused (Ok x) = ⊥
refused (Err code) = Unit {0}

then_ok : {A B : Type 0} (r : Judged A) (k : Doing B) (f : List Tree) → forget r ≡ Ok tt → go_on (judged r f) (λ _. k) ≡ k f
then_ok (Ok x) k f h = refl
then_ok (Err code) k f h = absurd (subst (λ (o : Judged (Unit {0})). refused o) h tt)

then_err : {A B : Type 0} (r : Judged A) (k : Doing B) (f : List Tree) (code : Code) → forget r ≡ Err code → (go_on (judged r f) (λ _. k)).0 ≡ Err code
then_err (Ok x) k f code h = absurd (subst (λ (o : Judged (Unit {0})). refused o) (sym h) tt)
then_err (Err other) k f code h = ap (λ (o : Judged (Unit {0})). (go_on (judged o f) (λ _. k)).0) h

pub slash_ok : {E : Type 0} (frame : Forms.Frame E) (xs : List Item) (part : Forms.Meaning E) (f : List Tree) → forget (all_nodes XPTY0019 xs) ≡ Ok tt
    → Forms.slash frame xs part f ≡ go_on (collected (λ focus. part (Forms.in_focus frame focus)) (focuses xs) f) (λ ys. on_trees (λ trees. gathered trees ys))
slash_ok frame xs part f h = then_ok (all_nodes XPTY0019 xs) (collected (λ focus. part (Forms.in_focus frame focus)) (focuses xs) >>= (λ ys. on_trees (λ trees. gathered trees ys))) f h

pub slash_err : {E : Type 0} (frame : Forms.Frame E) (xs : List Item) (part : Forms.Meaning E) (f : List Tree) (code : Code) → forget (all_nodes XPTY0019 xs) ≡ Err code → (Forms.slash frame xs part f).0 ≡ Err code
slash_err frame xs part f code h = then_err (all_nodes XPTY0019 xs) (collected (λ focus. part (Forms.in_focus frame focus)) (focuses xs) >>= (λ ys. on_trees (λ trees. gathered trees ys))) f code h

-- one thing after another, grouped to the right
pub then_after : {A B C : Type 0} (o : Outcome A) (a : A → Doing B) (b : B → Doing C) → go_on (go_on o a) b ≡ go_on o (λ x. a x >>= b)
then_after (Ok x, f) a b = refl
then_after (Err code, f) a b = refl

-- # Steps and constructors

abbrev reversed_if : {A : Type 0} → Bool → List A → List A
reversed_if b xs = if b then reverse xs else xs

reversed_read : {A B : Type 0} (f : A → B) (b : Bool) (xs : List A) → map f (reversed_if b xs) ≡ reversed_if b (map f xs)
reversed_read f true xs = map_reverse f xs
reversed_read f false xs = refl

reversed_in : {A : Type 0} (P : A → Type 0) (b : Bool) (xs : List A) → AllByRecursion P xs → AllByRecursion P (reversed_if b xs)
reversed_in P true xs h = all_reverse P xs h
reversed_in P false xs h = h

pub axis_order_read : (f : List Tree) (axis : Axis) (xs : List ItemView) → in_axis_order axis (items_at f xs) ≡ items_at f (in_axis_order axis xs)
axis_order_read f axis xs = sym (reversed_read (item_at f) (is_reverse axis) xs)

pub axis_order_in : (f : List Tree) (axis : Axis) (xs : List ItemView) → AreIn f xs → AreIn f (in_axis_order axis xs)
axis_order_in f axis xs h = reversed_in (IsIn f) (is_reverse axis) xs h

-- a step, from the nodes on its axis
pub step_is : (axis : Axis) (test : Test) (predicates : List Meaning) (frame : Frame) (f : List Tree)
    → Forms.step axis test predicates frame f ≡ go_on (on_axis axis test frame.focus f) (λ xs. in_turn (Forms.filtered frame) xs predicates >>= (λ ys. give (in_axis_order axis ys)))
step_is axis test predicates frame f =
    sym (then_after (judged (context_node frame.focus) f) (λ p. on_trees (λ trees. Ok (map Node (in_axis_order axis (axis_nodes trees axis test p))))) (λ xs. in_turn (Forms.filtered frame) xs predicates >>= (λ ys. give (in_axis_order axis ys))))

-- a step, from nodes where its predicates keep the same as from all on its axis
pub step_from : (axis : Axis) (test : Test) (predicates : List Meaning) (frame : Frame) (f : List Tree) (o : Outcome (List Item))
    → go_on o (λ xs. in_turn (Forms.filtered frame) xs predicates) ≡ go_on (on_axis axis test frame.focus f) (λ xs. in_turn (Forms.filtered frame) xs predicates)
    → Forms.step axis test predicates frame f ≡ go_on o (λ xs. in_turn (Forms.filtered frame) xs predicates >>= (λ ys. give (in_axis_order axis ys)))
step_from axis test predicates frame f o keeps =
    let filtering = λ (xs : List Item). in_turn (Forms.filtered frame) xs predicates in
    let ordered = λ (ys : List Item). give (in_axis_order axis ys) in
    step_is axis test predicates frame f
    ∙ sym (then_after (on_axis axis test frame.focus f) filtering ordered)
    ∙ ap (λ q. go_on q ordered) (sym keeps)
    ∙ then_after o filtering ordered

-- a named node, from the value that computes its name
pub named_is : (kind : NamedNode) (name part : Meaning) (frame : Frame) (f : List Tree)
    → Forms.named_node kind name part frame f ≡ go_on (name frame f) (λ xs. on_trees (λ trees. name_of kind (atomized trees xs)) >>= (λ good. part frame >>= (λ ys. plant_named kind good ys)))
named_is kind name part frame f = by_value (name frame f)
  where
    by_value : (o : Outcome (List Item))
        → go_on (go_on o (λ xs. on_trees (λ trees. Ok (atomized trees xs)))) (λ values. judged (name_of kind values) >>= (λ good. part frame >>= (λ ys. plant_named kind good ys)))
        ≡ go_on o (λ xs. on_trees (λ trees. name_of kind (atomized trees xs)) >>= (λ good. part frame >>= (λ ys. plant_named kind good ys)))
    by_value (Ok xs, g) = refl
    by_value (Err code, g) = refl

-- what leaves the trees as they are
pub same_goes : {old new : List Tree} {old_clean new_clean : Type 0} → new ≡ old → (new_clean → old_clean) → Goes old new old_clean new_clean
same_goes {old} same was = record { grows = record { added = []; is = same ∙ sym (append-nil old) }; was_clean = was }

-- a step to children after descendant-or-self::node()
pub double_slash_is : (p q : PlanStep) (test : Test) (frame : Frame) (xs : List Item) (f : List Tree) → p ≡ plan_step.Scan DescendantOrSelf Any → q ≡ plan_step.Scan Child test
    → go_on (plan_step_mean p frame xs f) (λ ys. plan_step_mean q frame ys) ≡ after_double_slash test xs f
double_slash_is p q test frame xs f hp hq =
    let first : plan_step_mean p frame xs f ≡ Forms.scan DescendantOrSelf Any xs f = ap (λ m. m frame xs f) (ap plan_step_mean hp ∙ step-Scan DescendantOrSelf Any) in
    ap (λ o. go_on o (λ ys. plan_step_mean q frame ys)) first
    ∙ ap (λ m. go_on (Forms.scan DescendantOrSelf Any xs f) (λ ys. m frame ys)) (ap plan_step_mean hq ∙ step-Scan Child test)

grow_all : (plans : List Plan) → AllGrowing (map plan_mean plans)
grow_all [] = tt
grow_all (p ∷ ps) = (plan_grows p, grow_all ps)

-- a step to children with predicates, after descendant-or-self::node()
pub parents_below_is : (p q : PlanStep) (of : Test) (predicates : List Plan) (frame : Frame) (xs : List Item) (f : List Tree) → p ≡ plan_step.Scan DescendantOrSelf Any → q ≡ plan_step.Each (plan.Step Child of predicates)
    → go_on (plan_step_mean p frame xs f) (λ ys. plan_step_mean q frame ys) ≡ go_on (parents_below of xs f) (λ ys. plan_step_mean q frame ys)
parents_below_is p q of predicates frame xs f hp hq =
    let ms = map plan_mean predicates in
    let first : plan_step_mean p frame xs f ≡ Forms.scan DescendantOrSelf Any xs f = ap (λ m. m frame xs f) (ap plan_step_mean hp ∙ step-Scan DescendantOrSelf Any) in
    let later : plan_step_mean q ≡ (λ frame xs. Forms.slash frame xs (Forms.step Child of ms)) =
    ap plan_step_mean hq ∙ step-Each (plan.Step Child of predicates) ∙ ap (λ (m : Meaning). λ (frame : Frame) (xs : List Item). Forms.slash frame xs m) (plan-Step Child of predicates) in
    ap (λ o. go_on o (λ ys. plan_step_mean q frame ys)) first
    ∙ ap (λ (m : StepMeaning). go_on (Forms.scan DescendantOrSelf Any xs f) (λ ys. m frame ys)) later
    ∙ parents_suffice of ms frame f (grow_all predicates) xs
    ∙ sym (ap (λ (m : StepMeaning). go_on (parents_below of xs f) (λ ys. m frame ys)) later)
