-- Calls of concat with arguments that are one atomic value each.
use Rattle.std.proofs.Common.{◌≡◌, ℕ, ◌+◌, ◌<◌, ◌≤◌, List, [], ◌∷◌, ◌++◌, length, map, drop, get_or, Bool, true, Option, Result, Ok, Err, refl, sym, ◌∙◌, ap, subst, arith, append_assoc}
use Rattle.std.specs.Prelude.{IsErrAnd}
use Rattle.std.proofs.lemmas.List.{append-nil, map_push, length-append}
use Rattle.xq_atoms.specs.declared.atoms.Atom.{Atom}
use Rattle.xq_atoms.specs.declared.refusals.Code.{Code}
use Rattle.xq_atoms.specs.declared.refusals.Fault.{Fault}
use Rattle.xq_atoms.specs.declared.refusals.Fault.TheVariants.{Code as OfCode, Want as OfWant}
use Rattle.xq_atoms.specs.Atom.{Atomic, String}
use Rattle.xq_atoms.specs.Cast.{text_of}
use Rattle.xq_atoms.specs.Judged.{◌>>=◌}
use Rattle.xq_atoms.specs.Text.{Text}
use Rattle.xq_expressions.specs.declared.signatures.Function.{Function}
use Rattle.xq_expressions.specs.declared.signatures.Function.TheVariants.{Concat}
use Rattle.xq_trees.specs.Tree.{Tree}
use Rattle.xq_meaning.specs.declared.plans.Plan.{Plan}
use Rattle.xq_meaning.specs.declared.plans.Plan.TheVariants as plan
use Rattle.xq_meaning.specs.Arguments.{atomic, each, text}
use Rattle.xq_meaning.specs.Doing.{Outcome, go_on, give, in_turn, one_more, on_trees}
use Rattle.xq_meaning.specs.Forms as Forms
use Rattle.xq_meaning.specs.Functions.{called, concat, piece}
use Rattle.xq_meaning.specs.Items.{Item, atomized}
use Rattle.xq_meaning.specs.PlanMeaning.{Frame, Meaning, plan_mean}
use Rattle.xq_meaning.specs.Texts.{joined}
use Rattle.xq_meaning.proofs.PlanEquations.{plan-Str}
use Rattle.xq_joins.specs.Atoms.{Tells}
use Rattle.xq_eval.proofs.Loops.{left_over}
use Rattle.xq_eval.specs.private.Numbers.{AddsPiece}

-- # Texts

pub joined_push : (ts : List Text) (t : Text) → joined [] (ts ++ t ∷ []) ≡ joined [] ts ++ t
joined_push [] t = refl
joined_push (u ∷ []) t = ap (λ (l : List ℕ). l ++ t) (append-nil u)
joined_push (u ∷ v ∷ ts) t = ap (λ (l : List ℕ). (u ++ []) ++ l) (joined_push (v ∷ ts) t) ∙ sym (append_assoc (u ++ []) (joined [] (v ∷ ts)) t)

lone : Atomic → List Atomic
lone a = a ∷ []

pieces_of : (as' : List Atomic) → each piece (map lone as') ≡ Ok (map text_of as')
unfolding lone
pieces_of [] = refl
pieces_of (a ∷ as') = ap (λ r. r >>= (λ ys. Ok (text_of a ∷ ys))) (pieces_of as')

all_lone : (trees : List Tree) (as' : List Atomic) → map (atomized trees) (map atomic as') ≡ map lone as'
unfolding lone
all_lone trees [] = refl
all_lone trees (a ∷ as') = ap (λ l. (a ∷ []) ∷ l) (all_lone trees as')

concat_of : (as' : List Atomic) → concat (map lone as') ≡ Ok (text (joined [] (map text_of as')))
concat_of as' = ap (λ r. r >>= (λ pieces. Ok (text (joined [] pieces)))) (pieces_of as')

call_of : (trees : List Tree) (addresses : List Text) (frame : Frame) (as' : List Atomic) → 2 ≤ length as' → called Concat trees addresses frame.focus (map atomic as') ≡ Ok (text (joined [] (map text_of as')))
unfolding lone
call_of trees addresses frame [] h = absurd (omega arith)
call_of trees addresses frame (a ∷ []) h = absurd (omega arith)
call_of trees addresses frame (a ∷ b ∷ []) h = concat_of (a ∷ b ∷ [])
call_of trees addresses frame (a ∷ b ∷ c ∷ []) h = concat_of (a ∷ b ∷ c ∷ [])
call_of trees addresses frame (a ∷ b ∷ c ∷ d ∷ more) h = ap concat (all_lone trees (a ∷ b ∷ c ∷ d ∷ more)) ∙ concat_of (a ∷ b ∷ c ∷ d ∷ more)

-- # Arguments one after another

abbrev pub read_from : Frame → List Tree → List (List Item) → List Plan → Outcome (List (List Item))
read_from frame trees done parts = in_turn (one_more (λ (part : Meaning). part frame)) done (map plan_mean parts) trees

-- the values of the arguments so far, and the text of them
pub record Pieces (frame : Frame) (trees : List Tree) (parts : List Plan) (i : ℕ) (t : Text) : Type 0 where
  pub values : List Atomic
  pub long : length values ≡ i
  pub text : t ≡ joined [] (map text_of values)
  pub read : read_from frame trees [] parts ≡ read_from frame trees (map atomic values) (drop i parts)

pub none_yet : (frame : Frame) (trees : List Tree) (parts : List Plan) (t : Text) → t ≡ [] → Pieces frame trees parts 0 t
none_yet frame trees parts t none = record { values = []; long = refl; text = none; read = refl }

pub one_piece : (frame : Frame) (trees : List Tree) (parts : List Plan) (i : ℕ) (x : Plan) (old new : Text) (a : Atomic) → i < length parts → x ≡ get_or parts i x
    → plan_mean x frame trees ≡ (Ok (atomic a), trees) → new ≡ old ++ text_of a → Pieces frame trees parts i old → Pieces frame trees parts (i + 1) new
one_piece frame trees parts i x old new a h at is longer before =
    let act = one_more (λ (part : Meaning). part frame) in
    record {
      values = before.values ++ a ∷ [];
      long = (let n = length-append before.values (a ∷ []) in let m = before.long in omega (arith, n, m));
      text = longer ∙ ap (λ t. t ++ text_of a) before.text ∙ sym (ap (joined []) (map_push text_of before.values a) ∙ joined_push (map text_of before.values) (text_of a));
      read = before.read
          ∙ ap (λ ps. in_turn act (map atomic before.values) ps trees) (left_over plan_mean parts i x h at)
          ∙ ap (λ o. go_on (go_on o (λ y. give (map atomic before.values ++ y ∷ []))) (λ next. in_turn act next (map plan_mean (drop (i + 1) parts)))) is
          ∙ ap (λ done. read_from frame trees done (drop (i + 1) parts)) (sym (map_push atomic before.values a));
    }

pub call_refused : (frame : Frame) (trees : List Tree) (function : Function) (parts : List Plan) (i : ℕ) (x : Plan) (old : Text) (code : Code) → i < length parts → x ≡ get_or parts i x
    → plan_mean x frame trees ≡ (Err code, trees) → Pieces frame trees parts i old → (Forms.call function (map plan_mean parts) frame trees).0 ≡ Err code
call_refused frame trees function parts i x old code h at is before =
    let act = one_more (λ (part : Meaning). part frame) in
    let last = λ (values : List (List Item)). on_trees (λ trees. called function trees frame.addresses frame.focus values) in
    ap (λ (o : Outcome (List (List Item))). (go_on o last).0) (before.read
    ∙ ap (λ ps. in_turn act (map atomic before.values) ps trees) (left_over plan_mean parts i x h at)
    ∙ ap (λ o. go_on (go_on o (λ y. give (map atomic before.values ++ y ∷ []))) (λ next. in_turn act next (map plan_mean (drop (i + 1) parts)))) is)

pub call_told : (frame : Frame) (trees : List Tree) (function : Function) (parts : List Plan) (i : ℕ) (t : Text) → function ≡ Concat → 2 ≤ length parts → i ≡ length parts → drop i parts ≡ [] → Pieces frame trees parts i t
    → Forms.call function (map plan_mean parts) frame trees ≡ (Ok (atomic (String t)), trees)
call_told frame trees function parts i t is two all none before =
    let last = λ (values : List (List Item)). on_trees (λ trees. called Concat trees frame.addresses frame.focus values) in
    let many : 2 ≤ length before.values = (let n = before.long in omega (arith, n, all, two)) in
    ap (λ f. Forms.call f (map plan_mean parts) frame trees) is
    ∙ ap (λ (o : Outcome (List (List Item))). go_on o last) (before.read ∙ ap (λ ps. read_from frame trees (map atomic before.values) ps) none)
    ∙ ap (λ j. (j, trees)) (call_of trees frame.addresses frame before.values many)
    ∙ ap (λ s. (Ok (text s), trees)) (sym before.text)

-- a literal
pub literal_piece : (p : Plan) (t : Text) (frame : Frame) (trees : List Tree) → p ≡ plan.Str t → plan_mean p frame trees ≡ (Ok (atomic (String t)), trees)
literal_piece p t frame trees is = ap (λ q. plan_mean q frame trees) is ∙ ap (λ (m : Meaning). m frame trees) (plan-Str t)

-- it was added
pub was_added : (outcome : Outcome (List Item)) (trees : List Tree) (old new : Text) (b : Bool) → b ≡ true → AddsPiece outcome trees old new (Ok b) → AddsPiece outcome trees old new (Ok true)
was_added outcome trees old new b h k = subst (λ x. AddsPiece outcome trees old new (Ok x)) h k

-- a refusal that is handed on
pub piece_refused : (frame : Frame) (trees : List Tree) (function : Function) (parts : List Plan) (i : ℕ) (x : Plan) (old new : Text) (e : Fault) (r : Result (Option Atom) Fault) → IsErrAnd r (λ other. other ≡ e) → i < length parts → x ≡ get_or parts i x
    → AddsPiece (plan_mean x frame trees) trees old new (Err e) → Pieces frame trees parts i old → Tells atomic (Forms.call function (map plan_mean parts) frame trees) trees r
piece_refused frame trees function parts i x old new e r handed h at piece before = by r handed (stops e piece)
  where
    stops : (other : Fault) → AddsPiece (plan_mean x frame trees) trees old new (Err other) → Tells atomic (Forms.call function (map plan_mean parts) frame trees) trees (Err other)
    stops (OfCode code) k = call_refused frame trees function parts i x old code h at k before
    stops (OfWant want) k = tt

    by : (s : Result (Option Atom) Fault) → IsErrAnd s (λ other. other ≡ e) → Tells atomic (Forms.call function (map plan_mean parts) frame trees) trees (Err e) → Tells atomic (Forms.call function (map plan_mean parts) frame trees) trees s
    by (Err other) k g = subst (λ y. Tells atomic (Forms.call function (map plan_mean parts) frame trees) trees (Err y)) (sym k) g
    by (Ok v) k g = elim k [ ]
