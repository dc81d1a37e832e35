-- Arithmetic on numbers at hand.
use Rattle.std.proofs.Common.{◌≡◌, ℕ, ◌+◌, ◌<◌, List, [], ◌∷◌, length, map, drop, get_or, Option, Some, None, Result, Ok, Err, sym, ◌∙◌, ap, subst}
use Rattle.std.specs.Prelude.{ℤ, IfSome, IsErrAnd}
use Rattle.xq_atoms.specs.declared.atoms.Atom.{Atom}
use Rattle.xq_atoms.specs.declared.refusals.Code.{Code}
use Rattle.xq_atoms.specs.declared.refusals.Fault.{Fault}
use Rattle.xq_atoms.specs.declared.refusals.Fault.TheVariants.{Code as OfCode}
use Rattle.xq_atoms.specs.Atom.{Atomic, Integer, Decimal, atomic_of}
use Rattle.xq_trees.specs.Items.{ItemView, Value}
use Rattle.xq_trees.specs.Tree.{Tree}
use Rattle.xq_trees.specs.Tuples.{value_at}
use Rattle.xq_tuples.specs.declared.slots.SlotValue.{SlotValue}
use Rattle.xq_tuples.specs.Views.{slot_items, values_of}
use Rattle.xq_meaning.specs.declared.operators.Operator.{Operator}
use Rattle.xq_meaning.specs.declared.plans.Plan.{Plan}
use Rattle.xq_meaning.specs.declared.plans.Plan.TheVariants as plan
use Rattle.xq_meaning.specs.Arguments.{atomic}
use Rattle.xq_meaning.specs.Doing.{Doing, Outcome, go_on, in_turn, on_trees}
use Rattle.xq_meaning.specs.Forms as Forms
use Rattle.xq_meaning.specs.Items.{Item}
use Rattle.xq_meaning.specs.Operators.{operated}
use Rattle.xq_meaning.specs.PlanMeaning.{Frame, Meaning, plan_mean}
use Rattle.xq_meaning.specs.Readings.{items_at}
use Rattle.xq_meaning.proofs.PlanEquations.{plan-Int, plan-Dec, plan-Slot, plan-Chain}
use Rattle.xq_operators.specs.Views.{tuple_at}
use Rattle.xq_joins.specs.Atoms.{Tells}
use Rattle.xq_eval.proofs.Counted.{slot_value}
use Rattle.xq_eval.proofs.Loops.{left_over}
use Rattle.xq_eval.specs.private.AtHand.{GivesIn}
use Rattle.xq_eval.specs.private.Numbers.{TellsResult, TellsNumber}

-- # Atoms at hand

-- a variable that is one atom
pub atom_there : {X : Type 0} (view : X → Atomic) (slots : List SlotValue) (n : ℕ) (slot : SlotValue) (items : List ItemView) (found : Option X) → n < length slots → slot ≡ get_or slots n slot → items ≡ slot_items slot
    → IfSome found (λ x. items ≡ Value (view x) ∷ []) → IfSome found (λ x. (trees : List Tree) → value_at n (tuple_at trees (values_of slots)) ≡ atomic (view x))
atom_there view slots n slot items (Some x) h e is one = λ trees. slot_value trees slots n slot h e ∙ ap (items_at trees) (sym is ∙ one)
atom_there view slots n slot items None h e is one = tt

-- # Plans

pub told_integer : (p : Plan) (n : ℤ) (frame : Frame) (trees : List Tree) → p ≡ plan.Int n → plan_mean p frame trees ≡ (Ok (atomic (Integer n)), trees)
told_integer p n frame trees is = ap (λ q. plan_mean q frame trees) is ∙ ap (λ (m : Meaning). m frame trees) (plan-Int n)

pub told_decimal : (p : Plan) (n : ℤ) (frame : Frame) (trees : List Tree) → p ≡ plan.Dec n → plan_mean p frame trees ≡ (Ok (atomic (Decimal n)), trees)
told_decimal p n frame trees is = ap (λ q. plan_mean q frame trees) is ∙ ap (λ (m : Meaning). m frame trees) (plan-Dec n)

pub slot_told : (p : Plan) (n : ℕ) (frame : Frame) (trees : List Tree) (slots : List SlotValue) (a : Atomic) → p ≡ plan.Slot n → frame.env ≡ tuple_at trees (values_of slots)
    → value_at n (tuple_at trees (values_of slots)) ≡ atomic a → plan_mean p frame trees ≡ (Ok (atomic a), trees)
slot_told p n frame trees slots a is env one =
    ap (λ q. plan_mean q frame trees) is ∙ ap (λ (m : Meaning). m frame trees) (plan-Slot n) ∙ ap (λ xs. (Ok xs, trees)) (ap (value_at n) env ∙ one)

pub told_slot : (p : Plan) (n : ℕ) (frame : Frame) (trees : List Tree) (slots : List SlotValue) (found : Option Atom) → p ≡ plan.Slot n → frame.env ≡ tuple_at trees (values_of slots)
    → IfSome found (λ atom. (same : List Tree) → value_at n (tuple_at same (values_of slots)) ≡ atomic (atomic_of atom)) → TellsNumber (plan_mean p frame trees) trees (Ok found)
told_slot p n frame trees slots (Some atom) is env one = slot_told p n frame trees slots (atomic_of atom) is env (one trees)
told_slot p n frame trees slots None is env one = tt

pub told_chain : (p first : Plan) (rest : List (Operator × Plan)) (frame : Frame) (trees : List Tree) (r : Result (Option Atom) Code) → p ≡ plan.Chain first rest
    → TellsNumber (Forms.chain (plan_mean first) (map (λ (op, p). (op, plan_mean p)) rest) frame trees) trees r → TellsNumber (plan_mean p frame trees) trees r
told_chain p first rest frame trees r is h =
    subst (λ o. TellsNumber o trees r) (sym (ap (λ q. plan_mean q frame trees) is ∙ ap (λ (m : Meaning). m frame trees) (plan-Chain first rest))) h

-- what comes after a number
pub told_after : (outcome : Outcome (List Item)) (next : List Item → Doing (List Item)) (trees : List Tree) (a : Atom) → TellsNumber outcome trees (Ok (Some a)) → go_on outcome next ≡ next (atomic (atomic_of a)) trees
told_after outcome next trees a h = ap (λ o. go_on o next) h

-- what comes after a refusal
pub told_refused : (outcome : Outcome (List Item)) (next : List Item → Doing (List Item)) (trees : List Tree) (code : Code) → outcome ≡ (Err code, trees) → go_on outcome next ≡ (Err code, trees)
told_refused outcome next trees code h = ap (λ o. go_on o next) h

pub handed_back : (outcome : Outcome (List Item)) (trees : List Tree) (code : Code) (r : Result (Option Atom) Code) → r ≡ Err code → outcome ≡ (Err code, trees) → TellsNumber outcome trees r
handed_back outcome trees code r is h = subst (TellsNumber outcome trees) (sym is) h

-- a number is an atom, and a refusal is handed on
pub number_told : (outcome : Outcome (List Item)) (trees : List Tree) (found : Option Atom) → TellsNumber outcome trees (Ok found) → Tells atomic outcome trees (Ok found)
number_told outcome trees (Some atom) h = h
number_told outcome trees None h = tt

pub number_refused : (outcome : Outcome (List Item)) (trees : List Tree) (code : Code) (r : Result (Option Atom) Fault) → IsErrAnd r (λ e. e ≡ OfCode code) → outcome ≡ (Err code, trees) → Tells atomic outcome trees r
number_refused outcome trees code (Err e) is h = subst (λ y. Tells atomic outcome trees (Err y)) (sym is) (ap (λ (o : Outcome (List Item)). o.0) h)
number_refused outcome trees code (Ok v) is h = elim is [ ]

-- an operator on two numbers
pub told_operand : (frame : Frame) (xs : List Item) (operator : Operator) (p : Plan) (trees : List Tree) (right : Atom) (r : Result (Option Atom) Code) → plan_mean p frame trees ≡ (Ok (atomic (atomic_of right)), trees)
    → TellsResult (operated operator trees xs (atomic (atomic_of right))) r → TellsNumber (Forms.next_operand frame xs (operator, plan_mean p) trees) trees r
told_operand frame xs operator p trees right r value h = by r h
  where
    is : Forms.next_operand frame xs (operator, plan_mean p) trees ≡ (operated operator trees xs (atomic (atomic_of right)), trees)
    is = ap (λ o. go_on o (λ ys. on_trees (λ trees. operated operator trees xs ys))) value

    by : (s : Result (Option Atom) Code) → TellsResult (operated operator trees xs (atomic (atomic_of right))) s → TellsNumber (Forms.next_operand frame xs (operator, plan_mean p) trees) trees s
    by (Ok (Some atom)) k = is ∙ ap (λ j. (j, trees)) k
    by (Ok None) k = tt
    by (Err code) k = is ∙ ap (λ j. (j, trees)) k

-- # Integers

pub integer_slot : (p : Plan) (n : ℕ) (slots : List SlotValue) (found : Option ℤ) → p ≡ plan.Slot n → IfSome found (λ z. (same : List Tree) → value_at n (tuple_at same (values_of slots)) ≡ atomic (Integer z))
    → IfSome found (λ z. GivesIn slots (plan_mean p) (Integer z))
integer_slot p n slots (Some z) is one = λ trees frame env. slot_told p n frame trees slots (Integer z) is env (one trees)
integer_slot p n slots None is one = tt

pub integer_chain : (p first : Plan) (rest : List (Operator × Plan)) (slots : List SlotValue) (found : Option ℤ) → p ≡ plan.Chain first rest → IfSome found (λ z. GivesIn slots (Forms.chain (plan_mean first) (map (λ (op, p). (op, plan_mean p)) rest)) (Integer z))
    → IfSome found (λ z. GivesIn slots (plan_mean p) (Integer z))
integer_chain p first rest slots (Some z) is h = λ trees frame env. ap (λ q. plan_mean q frame trees) is ∙ ap (λ (m : Meaning). m frame trees) (plan-Chain first rest) ∙ h trees frame env
integer_chain p first rest slots None is h = tt

-- an operator on two atoms
pub given_operand : (frame : Frame) (trees : List Tree) (left right next : Atomic) (operator : Operator) (p : Plan) → plan_mean p frame trees ≡ (Ok (atomic right), trees)
    → operated operator trees (atomic left) (atomic right) ≡ Ok (atomic next) → Forms.next_operand frame (atomic left) (operator, plan_mean p) trees ≡ (Ok (atomic next), trees)
given_operand frame trees left right next operator p value h = ap (λ o. go_on o (λ ys. on_trees (λ trees. operated operator trees (atomic left) ys))) value ∙ ap (λ j. (j, trees)) h

-- # Chains

abbrev pub left_of : Frame → List Tree → Atomic → List (Operator × Plan) → Outcome (List Item)
left_of frame trees total rest = in_turn (Forms.next_operand frame) (atomic total) (map (λ (op, p). (op, plan_mean p)) rest) trees

pub one_further : (frame : Frame) (trees : List Tree) (rest : List (Operator × Plan)) (i : ℕ) (x : Operator × Plan) (total next : Atomic) → i < length rest → x ≡ get_or rest i x
    → Forms.next_operand frame (atomic total) (x.0, plan_mean x.1) trees ≡ (Ok (atomic next), trees) → left_of frame trees total (drop i rest) ≡ left_of frame trees next (drop (i + 1) rest)
one_further frame trees rest i x total next h at is =
    ap (λ os. in_turn (Forms.next_operand frame) (atomic total) os trees) (left_over (λ (op, p). (op, plan_mean p)) rest i x h at)
    ∙ ap (λ o. go_on o (λ xs. in_turn (Forms.next_operand frame) xs (map (λ (op, p). (op, plan_mean p)) (drop (i + 1) rest)))) is

pub one_refused : (frame : Frame) (trees : List Tree) (rest : List (Operator × Plan)) (i : ℕ) (x : Operator × Plan) (total : Atomic) (code : Code) → i < length rest → x ≡ get_or rest i x
    → Forms.next_operand frame (atomic total) (x.0, plan_mean x.1) trees ≡ (Err code, trees) → left_of frame trees total (drop i rest) ≡ (Err code, trees)
one_refused frame trees rest i x total code h at is =
    ap (λ os. in_turn (Forms.next_operand frame) (atomic total) os trees) (left_over (λ (op, p). (op, plan_mean p)) rest i x h at)
    ∙ ap (λ o. go_on o (λ xs. in_turn (Forms.next_operand frame) xs (map (λ (op, p). (op, plan_mean p)) (drop (i + 1) rest)))) is
