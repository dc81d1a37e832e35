-- A FLWOR expression whose only clause is a `for` of one variable.
use Rattle.std.proofs.Common.{◌≡◌, ℕ, ◌+◌, List, [], ◌∷◌, ◌++◌, map, false, refl, ap, ◌∙◌, Ok, Err}
use Rattle.std.specs.List.{enumerate_from}
use Rattle.std.proofs.lemmas.List.{append-nil}
use Rattle.xq_expressions.specs.declared.operators.AllowingEmpty.TheVariants.{No}
use Rattle.xq_trees.specs.Tree.{Tree}
use Rattle.xq_trees.specs.Tuples.{expanded}
use Rattle.xq_meaning.specs.declared.plans.Plan.{Plan}
use Rattle.xq_meaning.specs.declared.plans.PlanClause.{PlanClause}
use Rattle.xq_meaning.specs.declared.plans.PlanClause.TheVariants as clause
use Rattle.xq_meaning.specs.Doing.{Doing, Outcome, go_on, give, in_turn, more, collected}
use Rattle.xq_meaning.specs.Items.{Item, Atom}
use Rattle.xq_meaning.specs.Forms as Forms
use Rattle.xq_meaning.specs.PlanMeaning.{Frame, Meaning, flwor, plan_mean, plan_clause_mean, at_tuple, next_clause}
use Rattle.xq_meaning.proofs.PlanEquations.{clause-For}

-- the tuples: each item in a slot of its own
each_alone : (n : ℕ) (xs : List Item) → map (λ (p : ℕ × Item). (p.1 ∷ []) ∷ []) (enumerate_from n xs) ≡ map (λ x. (x ∷ []) ∷ []) xs
each_alone n [] = refl
each_alone n (x ∷ xs) = ap (λ ts. ((x ∷ []) ∷ []) ∷ ts) (each_alone (n + 1) xs)

alone : (xs : List Item) → expanded Atom false false ([] ∷ []) (xs ∷ []) ≡ map (λ x. (x ∷ []) ∷ []) xs
alone xs = append-nil (map (λ (p : ℕ × Item). (p.1 ∷ []) ∷ []) (enumerate_from 1 xs)) ∙ each_alone 1 xs

collected_map_step : {B : Type 0} (o : Outcome (List B)) (done : List B) (next next' : List B → Doing (List B)) → ((b : List B) (g : List Tree) → next b g ≡ next' b g)
    → go_on (go_on o (λ ys. give (done ++ ys))) next ≡ go_on (go_on o (λ ys. give (done ++ ys))) next'
collected_map_step (Ok ys, g) done next next' h = h (done ++ ys) g
collected_map_step (Err code, g) done next next' h = refl

turns_map : {A C B : Type 0} (act : C → Doing (List B)) (view : A → C) (done : List B) (xs : List A) (f : List Tree) → in_turn (more act) done (map view xs) f ≡ in_turn (more (λ x. act (view x))) done xs f
turns_map act view done [] f = refl
turns_map act view done (x ∷ xs) f =
    collected_map_step (act (view x) f) done (λ n. in_turn (more act) n (map view xs)) (λ n. in_turn (more (λ y. act (view y))) n xs) (λ b g. turns_map act view b xs g)

-- from the value of what it ranges over
from_value : (part : Meaning) (frame : Frame) (o : Outcome (List Item))
    → go_on (go_on (go_on (go_on (go_on o (λ y. give (y ∷ []))) (λ ls. give ls)) (λ ls. give (expanded Atom false false ([] ∷ []) ls))) (λ ts. give ts)) (λ ts. Forms.return_of part (at_tuple frame) ts)
    ≡ go_on o (λ xs. collected (λ x. part (at_tuple frame ((x ∷ []) ∷ []))) xs)
from_value part frame (Ok xs, g) =
    ap (λ ts. Forms.return_of part (at_tuple frame) ts g) (alone xs) ∙ turns_map (λ t. part (at_tuple frame t)) (λ (x : Item). (x ∷ []) ∷ []) [] xs g
from_value part frame (Err code, g) = refl

-- a tuple without slots
no_slots : (frame : Frame) → at_tuple frame [] ≡ frame
no_slots frame = λ i. record { env = append-nil frame.env i; focus = frame.focus; addresses = frame.addresses }

pub lone_for_is : (clauses : List PlanClause) (source : Plan) (part : Meaning) (frame : Frame) (f : List Tree) → clauses ≡ clause.For No false source ∷ []
    → flwor (map plan_clause_mean clauses) part frame f ≡ go_on (plan_mean source frame f) (λ xs. collected (λ x. part (at_tuple frame ((x ∷ []) ∷ []))) xs)
lone_for_is clauses source part frame f is =
    ap (λ cs. flwor (map plan_clause_mean cs) part frame f) is
    ∙ ap (λ m. go_on (in_turn (next_clause frame) ([] ∷ []) (m ∷ []) f) (λ ts. Forms.return_of part (at_tuple frame) ts)) (clause-For No false source)
    ∙ from_value part frame (plan_mean source (at_tuple frame []) f)
    ∙ ap (λ fr. go_on (plan_mean source fr f) (λ xs. collected (λ x. part (at_tuple frame ((x ∷ []) ∷ []))) xs)) (no_slots frame)
