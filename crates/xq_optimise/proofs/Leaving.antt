-- Evaluations that leave the trees as they are, whatever they give.
use Rattle.std.proofs.Common.{◌≡◌, List, [], ◌∷◌, ◌++◌, map, Bool, true, false, Ok, Err, refl, ap, ◌∙◌}
use Rattle.std.specs.Prelude.{not}
use Rattle.std.specs.List.{AllByRecursion, flat_map}
use Rattle.xq_atoms.specs.Judged.{Judged}
use Rattle.xq_atoms.specs.declared.refusals.Code.TheVariants.{XPTY0019}
use Rattle.xq_expressions.specs.declared.operators.Sign.{Sign}
use Rattle.xq_expressions.specs.declared.signatures.Function.{Function}
use Rattle.xq_trees.specs.declared.Axis.{Axis}
use Rattle.xq_trees.specs.Tree.{Tree}
use Rattle.xq_meaning.specs.declared.node_tests.Test.{Test}
use Rattle.xq_meaning.specs.declared.operators.Operator.{Operator}
use Rattle.xq_meaning.specs.Arguments.{all_nodes}
use Rattle.xq_meaning.specs.Doing.{Doing, go_on, in_turn, one_more, more, collected, unless_found, first_that, ◌>>=◌, give, judged, on_trees}
use Rattle.xq_meaning.specs.Forms
use Rattle.xq_meaning.specs.Functions.{Focus}
use Rattle.xq_meaning.specs.Items.{Item, Place, Node}
use Rattle.xq_meaning.specs.Operators.{gathered, in_order, keeps}
use Rattle.xq_meaning.specs.PlanMeaning.{Frame, Meaning}
use Rattle.xq_meaning.specs.Steps.{axis_nodes, context_node, document_root, focuses, in_axis_order}

-- it gives a value or a code over the same trees
abbrev pub Leaves : {A : Type 0} → Doing A → Type 0
Leaves {A} act = (trees : List Tree) → (given : Judged A) × (act trees ≡ (given, trees))

pub judged_leaves : {A : Type 0} (r : Judged A) → Leaves (judged r)
judged_leaves r f = (r, refl)

pub trees_leave : {A : Type 0} (judge : List Tree → Judged A) → Leaves (on_trees judge)
trees_leave judge f = (judge f, refl)

-- # One after another

pub then_leaves : {A B : Type 0} (act : Doing A) (next : A → Doing B) → Leaves act → ((x : A) → Leaves (next x)) → Leaves (act >>= next)
then_leaves {A} {B} act next h k f = by (h f)
  where
    by : ((given : Judged A) × (act f ≡ (given, f))) → (given : Judged B) × (go_on (act f) next ≡ (given, f))
    by (Ok x, is) = let rest = k x f in (rest.0, ap (λ o. go_on o next) is ∙ rest.1)
    by (Err code, is) = (Err code, ap (λ o. go_on o next) is)

pub turns_leave : {A B : Type 0} (act : B → A → Doing B) (xs : List A) → AllByRecursion (λ x. (b : B) → Leaves (act b x)) xs → (b : B) →
    Leaves (in_turn act b xs)
turns_leave act [] all b f = (Ok b, refl)
turns_leave act (x ∷ xs) all b f = then_leaves (act b x) (λ next. in_turn act next xs) (all.0 b) (turns_leave act xs all.1) f

pub always : {A : Type 0} (P : A → Type 0) → ((x : A) → P x) → (xs : List A) → AllByRecursion P xs
always P h [] = tt
always P h (x ∷ xs) = (h x, always P h xs)

pub each_leaves : {A B : Type 0} (act : A → Doing B) (xs : List A) → AllByRecursion (λ x. Leaves (act x)) xs → (done : List B) →
    Leaves (in_turn (one_more act) done xs)
each_leaves {A} {B} act xs all = turns_leave (one_more act) xs (every xs all)
  where
    every : (ys : List A) → AllByRecursion (λ x. Leaves (act x)) ys → AllByRecursion (λ x. (done : List B) → Leaves (one_more act done x)) ys
    every [] h = tt
    every (y ∷ ys) h = ((λ done. then_leaves (act y) (λ z. give (done ++ z ∷ [])) h.0 (λ z f. (Ok (done ++ z ∷ []), refl))), every ys h.1)

pub collected_leaves : {A B : Type 0} (act : A → Doing (List B)) (xs : List A) → AllByRecursion (λ x. Leaves (act x)) xs → (done : List B) →
    Leaves (in_turn (more act) done xs)
collected_leaves {A} {B} act xs all = turns_leave (more act) xs (every xs all)
  where
    every : (ys : List A) → AllByRecursion (λ x. Leaves (act x)) ys → AllByRecursion (λ x. (done : List B) → Leaves (more act done x)) ys
    every [] h = tt
    every (y ∷ ys) h = ((λ done. then_leaves (act y) (λ zs. give (done ++ zs)) h.0 (λ zs f. (Ok (done ++ zs), refl))), every ys h.1)

pub first_leaves : {A : Type 0} (wanted : Bool) (act : A → Doing Bool) (xs : List A) → AllByRecursion (λ x. Leaves (act x)) xs →
    Leaves (first_that wanted act xs)
first_leaves wanted act [] all f = (Ok (not wanted), refl)
first_leaves wanted act (x ∷ xs) all f =
    then_leaves (act x) (λ answer. unless_found wanted answer (first_that wanted act xs)) all.0 (λ answer. by wanted answer (first_leaves wanted act xs all.1)) f
  where
    by : (w answer : Bool) → Leaves (first_that wanted act xs) → Leaves (unless_found w answer (first_that wanted act xs))
    by true true rest g = (Ok true, refl)
    by false false rest g = (Ok false, refl)
    by true false rest g = rest g
    by false true rest g = rest g

-- # The forms of plans

-- in every frame
abbrev pub Quiet : Meaning → Type 0
Quiet m = (frame : Frame) → Leaves (m frame)

in_frame : (frame : Frame) (parts : List Meaning) → AllByRecursion Quiet parts → AllByRecursion (λ (part : Meaning). Leaves (part frame)) parts
in_frame frame [] all = tt
in_frame frame (p ∷ parts) all = (all.0 frame, in_frame frame parts all.1)

pub tested_leaves : (part : Meaning) → Quiet part → (frame : Frame) → Leaves (Forms.tested part frame)
tested_leaves part h frame = then_leaves (part frame) _ (h frame) (λ xs f. (_, refl))

tests_leave : (frame : Frame) (parts : List Meaning) → AllByRecursion Quiet parts → AllByRecursion (λ (part : Meaning). Leaves (Forms.tested part frame)) parts
tests_leave frame [] all = tt
tests_leave frame (p ∷ parts) all = (tested_leaves p all.0 frame, tests_leave frame parts all.1)

pub call_quiet : (name : Function) (parts : List Meaning) → AllByRecursion Quiet parts → Quiet (Forms.call name parts)
call_quiet name parts all frame =
    then_leaves (in_turn (one_more (λ (part : Meaning). part frame)) [] parts) _ (each_leaves (λ (part : Meaning). part frame) parts (in_frame frame parts all) [])
    (λ values f. (_, refl))

pub sequence_quiet : (parts : List Meaning) → AllByRecursion Quiet parts → Quiet (Forms.sequence parts)
sequence_quiet parts all frame = collected_leaves (λ (part : Meaning). part frame) parts (in_frame frame parts all) []

pub or_quiet : (parts : List Meaning) → AllByRecursion Quiet parts → Quiet (Forms.or parts)
or_quiet parts all frame =
    then_leaves (first_that true (λ (part : Meaning). Forms.tested part frame) parts) _
    (first_leaves true (λ (part : Meaning). Forms.tested part frame) parts (tests_leave frame parts all)) (λ answer f. (_, refl))

pub and_quiet : (parts : List Meaning) → AllByRecursion Quiet parts → Quiet (Forms.and parts)
and_quiet parts all frame =
    then_leaves (first_that false (λ (part : Meaning). Forms.tested part frame) parts) _
    (first_leaves false (λ (part : Meaning). Forms.tested part frame) parts (tests_leave frame parts all)) (λ answer f. (_, refl))

pub if_quiet : (test positive negative : Meaning) → Quiet test → Quiet positive → Quiet negative → Quiet (Forms.conditional test positive negative)
if_quiet test positive negative h k l frame =
    then_leaves (Forms.tested test frame) (λ answer. Forms.chosen answer positive negative frame) (tested_leaves test h frame) (λ answer. by answer)
  where
    by : (answer : Bool) → Leaves (Forms.chosen answer positive negative frame)
    by true = k frame
    by false = l frame

pub unary_quiet : (signs : List Sign) (part : Meaning) → Quiet part → Quiet (Forms.unary signs part)
unary_quiet signs part h frame =
    then_leaves (Forms.atoms_of part frame) _ (then_leaves (part frame) _ (h frame) (λ xs f. (_, refl))) (λ values f. (_, refl))

pub chain_quiet : (first : Meaning) (rest : List (Operator × Meaning)) → Quiet first → AllByRecursion (λ (o : Operator × Meaning). Quiet o.1) rest →
    Quiet (Forms.chain first rest)
chain_quiet first rest h all frame =
    then_leaves (first frame) _ (h frame) (λ xs. turns_leave (Forms.next_operand frame) rest (every rest all) xs)
  where
    every : (os : List (Operator × Meaning)) → AllByRecursion (λ (o : Operator × Meaning). Quiet o.1) os →
        AllByRecursion (λ o. (xs : List Item) → Leaves (Forms.next_operand frame xs o)) os
    every [] k = tt
    every (o ∷ os) k = ((λ xs. then_leaves (o.1 frame) _ (k.0 frame) (λ ys f. (_, refl))), every os k.1)

pub bang_leaves : (part : Meaning) → Quiet part → (frame : Frame) (focuses : List Focus) (done : List Item) →
    Leaves (in_turn (more (λ focus. part (Forms.in_focus frame focus))) done focuses)
bang_leaves part h frame focuses done =
    collected_leaves (λ focus. part (Forms.in_focus frame focus)) focuses
    (always (λ focus. Leaves (part (Forms.in_focus frame focus))) (λ focus. h (Forms.in_focus frame focus)) focuses) done

pub map_quiet : (start : Meaning) (parts : List Meaning) → Quiet start → AllByRecursion Quiet parts → Quiet (Forms.simple_map start parts)
map_quiet start parts h all frame = then_leaves (start frame) _ (h frame) (λ xs. turns_leave (Forms.bang frame) parts (every parts all) xs)
  where
    every : (ps : List Meaning) → AllByRecursion Quiet ps → AllByRecursion (λ (p : Meaning). (xs : List Item) → Leaves (Forms.bang frame xs p)) ps
    every [] k = tt
    every (p ∷ ps) k = ((λ xs. bang_leaves p k.0 frame _ []), every ps k.1)

pub passed_leaves : (part : Meaning) → Quiet part → (frame : Frame) (focus : Focus) → Leaves (Forms.passed part frame focus)
passed_leaves part h frame focus =
    then_leaves (part (Forms.in_focus frame focus)) (λ value. judged (keeps focus.position value) >>= (λ keep. give (Forms.kept_if focus.item keep))) (h (Forms.in_focus frame focus))
    (λ value. then_leaves (judged (keeps focus.position value)) (λ keep. give (Forms.kept_if focus.item keep)) (judged_leaves (keeps focus.position value))
    (λ keep. judged_leaves (Ok (Forms.kept_if focus.item keep))))

pub filters_leave : (frame : Frame) (predicates : List Meaning) → AllByRecursion Quiet predicates → (xs : List Item) →
    Leaves (in_turn (Forms.filtered frame) xs predicates)
filters_leave frame predicates all = turns_leave (Forms.filtered frame) predicates (every predicates all)
  where
    every : (ps : List Meaning) → AllByRecursion Quiet ps → AllByRecursion (λ (p : Meaning). (xs : List Item) → Leaves (Forms.filtered frame xs p)) ps
    every [] k = tt
    every (p ∷ ps) k =
        ((λ xs. collected_leaves (Forms.passed p frame) _ (always (λ focus. Leaves (Forms.passed p frame focus)) (passed_leaves p k.0 frame) _) []), every ps k.1)

pub filter_quiet : (start : Meaning) (predicates : List Meaning) → Quiet start → AllByRecursion Quiet predicates → Quiet (Forms.filter_of start predicates)
filter_quiet start predicates h all frame = then_leaves (start frame) _ (h frame) (filters_leave frame predicates all)

pub step_quiet : (axis : Axis) (of : Test) (predicates : List Meaning) → AllByRecursion Quiet predicates → Quiet (Forms.step axis of predicates)
step_quiet axis of predicates all frame =
    then_leaves (judged (context_node frame.focus)) (λ p. on_trees (starts p) >>= rest) (judged_leaves (context_node frame.focus))
    (λ p. then_leaves (on_trees (starts p)) rest (trees_leave (starts p))
    (λ xs. then_leaves (in_turn (Forms.filtered frame) xs predicates) (λ ys. give (in_axis_order axis ys)) (filters_leave frame predicates all xs)
    (λ ys. judged_leaves (Ok (in_axis_order axis ys)))))
  where
    starts : Place → List Tree → Judged (List Item)
    starts p trees = Ok (map Node (in_axis_order axis (axis_nodes trees axis of p)))

    rest : List Item → Doing (List Item)
    rest xs = in_turn (Forms.filtered frame) xs predicates >>= (λ ys. give (in_axis_order axis ys))

pub slash_leaves : (part : Meaning) → Quiet part → (frame : Frame) (xs : List Item) → Leaves (Forms.slash frame xs part)
slash_leaves part h frame xs =
    then_leaves (judged (all_nodes XPTY0019 xs)) (λ places. collected (λ focus. part (Forms.in_focus frame focus)) (focuses xs) >>= (λ ys. on_trees (λ trees. gathered trees ys)))
    (judged_leaves (all_nodes XPTY0019 xs))
    (λ places. then_leaves (collected (λ focus. part (Forms.in_focus frame focus)) (focuses xs)) (λ ys. on_trees (λ trees. gathered trees ys)) (bang_leaves part h frame (focuses xs) [])
    (λ ys. trees_leave (λ trees. gathered trees ys)))

pub scan_leaves : (axis : Axis) (of : Test) (xs : List Item) → Leaves (Forms.scan axis of xs)
scan_leaves axis of xs =
    then_leaves (judged (all_nodes XPTY0019 xs)) (λ places. on_trees (λ trees. Ok (in_order trees (flat_map (axis_nodes trees axis of) places)))) (judged_leaves (all_nodes XPTY0019 xs))
    (λ places. trees_leave (λ trees. Ok (in_order trees (flat_map (axis_nodes trees axis of) places))))

pub root_quiet : Quiet Forms.root
root_quiet frame =
    then_leaves (judged (context_node frame.focus)) (λ p. on_trees (λ trees. document_root trees p)) (judged_leaves (context_node frame.focus))
    (λ p. trees_leave (λ trees. document_root trees p))
