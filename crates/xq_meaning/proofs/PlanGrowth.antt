-- The list of trees only grows, whatever the plan is: by induction over plans.
use Rattle.std.proofs.Common.{List, [], ◌∷◌, map, false, subst, sym}
use Rattle.std.specs.List.{AllByRecursion}
use Rattle.xq_expressions.specs.declared.operators.OrderModifier.{OrderModifier}
use Rattle.xq_expressions.specs.declared.signatures.Function.{Function}
use Rattle.xq_expressions.specs.declared.operators.AllowingEmpty.TheVariants as allowing
use Rattle.xq_trees.specs.declared.Axis.{Axis}
use Rattle.xq_trees.specs.Tuples.{Tuple, value_at}
use Rattle.xq_meaning.specs.declared.joins.Join.{Join}
use Rattle.xq_meaning.specs.declared.joins.JoinKey.{JoinKey}
use Rattle.xq_meaning.specs.declared.joins.KeyForm.{KeyForm}
use Rattle.xq_meaning.specs.declared.joins.KeyForm.TheVariants as key_form
use Rattle.xq_meaning.specs.declared.node_tests.Test.{Test}
use Rattle.xq_meaning.specs.declared.operators.Operator.{Operator}
use Rattle.xq_meaning.specs.Items.{Item}
use Rattle.xq_meaning.specs.Doing.{in_turn, for_each}
use Rattle.xq_meaning.specs.Forms
use Rattle.xq_meaning.specs.declared.plans.Plan.{Plan, map-Plan, fold-roll-Plan, ind-Plan}
use Rattle.xq_meaning.specs.declared.plans.PlanClause.{PlanClause, map-PlanClause, fold-roll-PlanClause}
use Rattle.xq_meaning.specs.declared.plans.PlanStep.{PlanStep, map-PlanStep, fold-roll-PlanStep}
use Rattle.xq_meaning.specs.declared.plans.Plan.TheOpen.{Plan-F, PlanClause-F, PlanStep-F}
use Rattle.xq_meaning.specs.PlanMeaning.{Frame, Meaning, ClauseMeaning, StepMeaning, at_tuple, at_carried, comparison, formed, key_mean, keys_equal, join_tuples, if_equal, equal_items, group_join_tuples, next_clause, next_step, opened, plan_form, plan_clause, plan_step, plan_mean, plan_clause_mean, plan_step_mean}
use Rattle.xq_meaning.proofs.Growth.{Grows, TreeStore, AllGrowing, extends_itself, then_grows, in_turn_grows, for_each_grows, collected_grows, tested_grows, all_of, atoms_grow, call_grows, arrow_grows, sequence_grows, chain_grows, unary_grows, or_grows, and_grows, conditional_grows, filter_grows, slash_grows, map_grows, named_node_grows, unnamed_node_grows, root_grows, step_grows, quantified_grows, for_tuples_grows, let_tuples_grows, where_tuples_grows, return_grows, count_tuples_grows, group_tuples_grows}

-- # What is claimed of each part

abbrev Grown : Plan → Type 0
Grown p = TreeStore (plan_mean p)

abbrev ClauseGrows : ClauseMeaning → Type 0
ClauseGrows m = (frame : Frame) (tuples : List (Tuple Item)) → Grows (m frame tuples)

abbrev StepGrows : StepMeaning → Type 0
StepGrows m = (frame : Frame) (xs : List Item) → Grows (m frame xs)

-- a part with its proof
abbrev P : Type 0
P = (p : Plan) × Grown p

abbrev C : Type 0
C = (c : PlanClause) × ClauseGrows (plan_clause_mean c)

abbrev S : Type 0
S = (s : PlanStep) × StepGrows (plan_step_mean s)

-- # Lists of parts

plans : (ps : List P) → AllGrowing (map plan_mean (map (λ e. e.0) ps))
plans [] = tt
plans (p ∷ ps) = (p.1, plans ps)

operands : (rest : List (Operator × P)) → AllByRecursion (λ (o : Operator × Meaning). TreeStore o.1) (map (λ (o : Operator × Plan). (o.0, plan_mean o.1)) (map (λ (o : Operator × P). (o.0, o.1.0)) rest))
operands [] = tt
operands (o ∷ rest) = (o.1.1, operands rest)

calls : (cs : List (Function × List P)) → AllByRecursion (λ (c : Function × List Meaning). AllGrowing c.1) (map (λ (c : Function × List Plan). (c.0, map plan_mean c.1)) (map (λ (c : Function × List P). (c.0, map (λ e. e.0) c.1)) cs))
calls [] = tt
calls (c ∷ cs) = (plans c.1, calls cs)

ranges : (ps : List P) → AllByRecursion (λ (b : Forms.Binding _). TreeStore b.1) (map (λ range. (opened, range)) (map plan_mean (map (λ e. e.0) ps)))
ranges [] = tt
ranges (p ∷ ps) = (p.1, ranges ps)

steps : (frame : Frame) (ss : List S) → AllByRecursion (λ (m : StepMeaning). (xs : List Item) → Grows (next_step frame xs m)) (map plan_step_mean (map (λ e. e.0) ss))
steps frame [] = tt
steps frame (s ∷ ss) = (s.1 frame, steps frame ss)

clauses : (frame : Frame) (cs : List C) → AllByRecursion (λ (m : ClauseMeaning). (tuples : List (Tuple Item)) → Grows (next_clause frame tuples m)) (map plan_clause_mean (map (λ e. e.0) cs))
clauses frame [] = tt
clauses frame (c ∷ cs) = (c.1 frame, clauses frame cs)

abbrev keys_of : Frame → Meaning × OrderModifier → Type 0
keys_of frame spec = Grows (Forms.atoms_of spec.0 frame)

specs : (frame : Frame) (os : List (P × OrderModifier)) → AllByRecursion (keys_of frame) (map (λ (o : Plan × OrderModifier). (plan_mean o.0, o.1)) (map (λ (o : P × OrderModifier). (o.0.0, o.1)) os))
specs frame [] = tt
specs frame (o ∷ os) = (atoms_grow (plan_mean o.0.0) o.0.1 frame, specs frame os)

-- # Forms

abbrev plan_parts : Plan-F P C S → Plan-F Meaning ClauseMeaning StepMeaning
plan_parts y =
    map-Plan Plan PlanClause PlanStep Meaning ClauseMeaning StepMeaning plan_mean plan_clause_mean plan_step_mean
    (map-Plan P C S Plan PlanClause PlanStep (λ e. e.0) (λ e. e.0) (λ e. e.0) y)

form_grows : (y : Plan-F P C S) → TreeStore (plan_form (plan_parts y))
form_grows (Plan-F.Int n) = λ frame f. extends_itself f
form_grows (Plan-F.Dec m) = λ frame f. extends_itself f
form_grows (Plan-F.Str t) = λ frame f. extends_itself f
form_grows (Plan-F.Slot n) = λ frame f. extends_itself f
form_grows Plan-F.ContextItem = λ frame f. extends_itself f
form_grows Plan-F.Root = root_grows
form_grows (Plan-F.Sequence parts) = sequence_grows _ (plans parts)
form_grows (Plan-F.Flwor cs part) = λ frame f.
    then_grows (in_turn (next_clause frame) ([] ∷ []) (map plan_clause_mean (map (λ e. e.0) cs)) f) _ f (in_turn_grows (next_clause frame) _ (clauses frame cs) ([] ∷ []) f)
    (λ tuples. return_grows (plan_mean part.0) part.1 (at_tuple frame) tuples)
form_grows (Plan-F.Quantified which parts part) = quantified_grows which _ (plan_mean part.0) (ranges parts) part.1
form_grows (Plan-F.If test yes' no') = conditional_grows (plan_mean test.0) (plan_mean yes'.0) (plan_mean no'.0) test.1 yes'.1 no'.1
form_grows (Plan-F.Or parts) = or_grows _ (plans parts)
form_grows (Plan-F.And parts) = and_grows _ (plans parts)
form_grows (Plan-F.Chain first rest) = chain_grows (plan_mean first.0) _ first.1 (operands rest)
form_grows (Plan-F.Unary signs part) = unary_grows signs (plan_mean part.0) part.1
form_grows (Plan-F.Path start ss) = λ frame f.
    then_grows (plan_mean start.0 frame f) _ f (start.1 frame f) (in_turn_grows (next_step frame) _ (steps frame ss))
form_grows (Plan-F.Step axis test predicates) = step_grows axis test _ (plans predicates)
form_grows (Plan-F.Filter start predicates) = filter_grows (plan_mean start.0) _ start.1 (plans predicates)
form_grows (Plan-F.Call function parts) = call_grows function _ (plans parts)
form_grows (Plan-F.Arrow first cs) = arrow_grows (plan_mean first.0) _ first.1 (calls cs)
form_grows (Plan-F.Map start parts) = map_grows (plan_mean start.0) _ start.1 (plans parts)
form_grows (Plan-F.Named kind name part) = named_node_grows kind (plan_mean name.0) (plan_mean part.0) name.1 part.1
form_grows (Plan-F.Unnamed kind part) = unnamed_node_grows kind (plan_mean part.0) part.1

-- keys make no tree
key_grows : (key : JoinKey) → TreeStore (key_mean key)
key_grows key frame f =
    then_grows (in_turn (λ zs (axis, test). Forms.scan axis test zs) (value_at key.slot frame.env) key.scans f) _ f
    (in_turn_grows (λ zs (s : Axis × Test). Forms.scan s.0 s.1 zs) key.scans (all_of (λ (s : Axis × Test). (xs : List Item) → Grows (Forms.scan s.0 s.1 xs)) (λ s xs g. then_grows _ _ g (extends_itself g) (λ places h. extends_itself h)) key.scans) (value_at key.slot frame.env) f)
    (by key.form)
  where
    by : (form : KeyForm) (ys : List Item) → Grows (formed form ys)
    by key_form.Value ys g = extends_itself g
    by key_form.Data ys g = extends_itself g
    by key_form.String ys g = extends_itself g

equal_grows : (join : Join) → TreeStore (keys_equal join)
equal_grows join = chain_grows (key_mean join.left) ((comparison join.equality, key_mean join.right) ∷ []) (key_grows join.left) (key_grows join.right, tt)

join_grows : (m : Meaning) → TreeStore m → (join : Join) → ClauseGrows (join_tuples m join)
join_grows m h join frame tuples f =
    then_grows (Forms.for_tuples allowing.No false m (at_carried join frame) tuples f) _ f
    (for_tuples_grows allowing.No false m h (at_carried join frame) tuples f)
    (λ found. where_tuples_grows (keys_equal join) (equal_grows join) (at_tuple frame) found)

if_equal_grows : (join : Join) (frame : Frame) (tuple : Tuple Item) (x : Item) → Grows (if_equal join frame tuple x)
if_equal_grows join frame tuple x f =
    let at = at_tuple frame (opened tuple (x ∷ [])) in
    then_grows (Forms.tested (keys_equal join) at f) _ f (tested_grows (keys_equal join) (equal_grows join) at f) (λ keep g. extends_itself g)

equal_items_grow : (m : Meaning) → TreeStore m → (join : Join) (frame : Frame) (tuple : Tuple Item) → Grows (equal_items m join frame tuple)
equal_items_grow m h join frame tuple f =
    then_grows (m (at_carried join frame tuple) f) _ f (h (at_carried join frame tuple) f)
    (λ xs. collected_grows (if_equal join frame tuple) xs (all_of (λ x. Grows (if_equal join frame tuple x)) (if_equal_grows join frame tuple) xs))

group_join_grows : (m : Meaning) → TreeStore m → (join : Join) → ClauseGrows (group_join_tuples m join)
group_join_grows m h join frame tuples f =
    then_grows (for_each (equal_items m join frame) tuples f) _ f
    (for_each_grows (equal_items m join frame) tuples (all_of (λ t. Grows (equal_items m join frame t)) (equal_items_grow m h join frame) tuples) f)
    (λ lists g. extends_itself g)

abbrev clause_parts : PlanClause-F P C S → PlanClause-F Meaning ClauseMeaning StepMeaning
clause_parts y =
    map-PlanClause Plan PlanClause PlanStep Meaning ClauseMeaning StepMeaning plan_mean plan_clause_mean plan_step_mean
    (map-PlanClause P C S Plan PlanClause PlanStep (λ e. e.0) (λ e. e.0) (λ e. e.0) y)

clause_grows : (y : PlanClause-F P C S) → ClauseGrows (plan_clause (clause_parts y))
clause_grows (PlanClause-F.For empties at part) = λ frame. for_tuples_grows empties at (plan_mean part.0) part.1 (at_tuple frame)
clause_grows (PlanClause-F.Join part join) = λ frame. join_grows (plan_mean part.0) part.1 join frame
clause_grows (PlanClause-F.GroupJoin part join) = λ frame. group_join_grows (plan_mean part.0) part.1 join frame
clause_grows (PlanClause-F.Let part) = λ frame. let_tuples_grows (plan_mean part.0) part.1 (at_tuple frame)
clause_grows (PlanClause-F.Where part) = λ frame. where_tuples_grows (plan_mean part.0) part.1 (at_tuple frame)
clause_grows (PlanClause-F.Group slots) = λ frame. group_tuples_grows slots
clause_grows (PlanClause-F.Order os) = λ frame tuples f.
    let parts = map (λ (o : Plan × OrderModifier). (plan_mean o.0, o.1)) (map (λ (o : P × OrderModifier). (o.0.0, o.1)) os) in
    let keys = λ (t : Tuple Item). for_each (λ (spec : Meaning × OrderModifier). Forms.atoms_of spec.0 (at_tuple frame t)) parts in
    then_grows (for_each keys tuples f) _ f
    (for_each_grows keys tuples (all_of (λ t. Grows (keys t)) (λ t. for_each_grows (λ (spec : Meaning × OrderModifier). Forms.atoms_of spec.0 (at_tuple frame t)) parts (specs (at_tuple frame t) os)) tuples) f)
    (λ rows g. extends_itself g)
clause_grows PlanClause-F.Count = λ frame. count_tuples_grows
clause_grows (PlanClause-F.Refused code) = λ frame tuples f. extends_itself f

abbrev step_parts : PlanStep-F P C S → PlanStep-F Meaning ClauseMeaning StepMeaning
step_parts y =
    map-PlanStep Plan PlanClause PlanStep Meaning ClauseMeaning StepMeaning plan_mean plan_clause_mean plan_step_mean
    (map-PlanStep P C S Plan PlanClause PlanStep (λ e. e.0) (λ e. e.0) (λ e. e.0) y)

one_step_grows : (y : PlanStep-F P C S) → StepGrows (plan_step (step_parts y))
one_step_grows (PlanStep-F.Each part) = λ frame xs. slash_grows frame (plan_mean part.0) part.1 xs
one_step_grows (PlanStep-F.Scan direction node_test) = λ frame xs f.
    then_grows _ _ f (extends_itself f) (λ places g. extends_itself g)

-- # All plans

pub plan_grows : (p : Plan) → TreeStore (plan_mean p)
plan_grows =
    ind-Plan Grown (λ c. ClauseGrows (plan_clause_mean c)) (λ s. StepGrows (plan_step_mean s))
    (λ x y is. subst TreeStore (sym (fold-roll-Plan Meaning ClauseMeaning StepMeaning plan_form plan_clause plan_step x))
    (subst (λ z. TreeStore (plan_form (map-Plan Plan PlanClause PlanStep Meaning ClauseMeaning StepMeaning plan_mean plan_clause_mean plan_step_mean z))) is (form_grows y)))
    (λ x y is. subst ClauseGrows (sym (fold-roll-PlanClause Meaning ClauseMeaning StepMeaning plan_form plan_clause plan_step x))
    (subst (λ z. ClauseGrows (plan_clause (map-PlanClause Plan PlanClause PlanStep Meaning ClauseMeaning StepMeaning plan_mean plan_clause_mean plan_step_mean z))) is (clause_grows y)))
    (λ x y is. subst StepGrows (sym (fold-roll-PlanStep Meaning ClauseMeaning StepMeaning plan_form plan_clause plan_step x))
    (subst (λ z. StepGrows (plan_step (map-PlanStep Plan PlanClause PlanStep Meaning ClauseMeaning StepMeaning plan_mean plan_clause_mean plan_step_mean z))) is (one_step_grows y)))
