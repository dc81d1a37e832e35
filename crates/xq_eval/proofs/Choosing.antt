-- Of the items that a predicate keeps whose value is one integer, none comes after its position.
use Rattle.std.proofs.Common.{◌≡◌, ℕ, zero, suc, ◌+◌, ◌-◌, ◌<◌, ◌++◌, List, [], ◌∷◌, length, take, drop, true, false, cond, get_or, ltb, Bool, Ok, Err, refl, sym, ◌∙◌, ap, arith}
use Rattle.std.specs.Prelude.{ℤ, pos, negsuc, int_lt, nat_abs}
use Rattle.std.specs.Ordering.{int_eq, is_eq}
use Rattle.std.specs.declared.cmp.Ordering.TheVariants.{Less, Equal, Greater}
use Rattle.std.proofs.lemmas.Bool.{lt-ltb}
use Rattle.std.proofs.lemmas.Cmp.{int_eq_equiv}
use Rattle.std.proofs.lemmas.List.{append-nil}
use Rattle.xq_atoms.specs.Atom.{Integer}
use Rattle.xq_expressions.specs.declared.signatures.Function.TheVariants.{Last}
use Rattle.xq_trees.specs.Tree.{Tree}
use Rattle.xq_meaning.specs.declared.plans.Plan.{Plan}
use Rattle.xq_meaning.specs.declared.plans.Plan.TheVariants as plan
use Rattle.xq_meaning.specs.Arguments.{atomic}
use Rattle.xq_meaning.specs.Doing.{Outcome, go_on, give, in_turn, more}
use Rattle.xq_meaning.specs.Forms as Forms
use Rattle.xq_meaning.specs.Functions.{Focus}
use Rattle.xq_meaning.specs.Items.{Item}
use Rattle.xq_meaning.specs.PlanMeaning.{Frame, plan_mean}
use Rattle.xq_meaning.specs.Steps.{focuses_from}
use Rattle.xq_meaning.proofs.PlanEquations.{plan-Int, plan-Call}
use Rattle.xq_eval.specs.private.Choosing.{chosen, Suffices, LastSuffices}
use Rattle.xq_eval.proofs.Steps.{passed_ok}

-- the value is known in lists of these lengths
module _ (p : Plan) (n : ℤ) (frame : Frame) (trees : List Tree) (Known : ℕ → Type 0) (value : (spot : Focus) → Known spot.last → plan_mean p (Forms.in_focus frame spot) trees ≡ (Ok (atomic (Integer n)), trees)) where
  act : Focus → List Tree → Outcome (List Item)
  act spot = Forms.passed (plan_mean p) frame spot

  tried : List Item → List Focus → Outcome (List Item)
  tried done spots = in_turn (more act) done spots trees

  -- one item is kept, or not
  one : (done : List Item) (spot : Focus) (rest : List Focus) → Known spot.last → tried done (spot ∷ rest) ≡ tried (done ++ Forms.kept_if spot.item (int_eq n (pos spot.position))) rest
  unfolding act tried
  one done spot rest known =
      ap (λ o. go_on (go_on o (λ ys. give (done ++ ys))) (λ next. in_turn (more act) next rest))
      (passed_ok (plan_mean p) frame spot (atomic (Integer n)) (int_eq n (pos spot.position)) trees trees (value spot known) refl)

  module _ (most : ℕ) (is : n ≡ pos most) where
    other : (k : ℕ) → most < k → int_eq n (pos k) ≡ false
    other k later =
        ap (λ m. int_eq m (pos k)) is
        ∙ ap (λ b. is_eq (cond b Less (cond (int_lt (pos k) (pos most)) Greater Equal))) (lt-ltb most k later)

    -- none after its position
    none : (k last : ℕ) (done xs : List Item) → Known last → most < k → tried done (focuses_from k last xs) ≡ (Ok done, trees)
    unfolding tried
    none k last done [] known later = refl
    none k last done (x ∷ xs) known later =
        one done (record { item = x; position = k; last = last }) (focuses_from (suc k) last xs) known
        ∙ ap (λ b. tried (done ++ Forms.kept_if x b) (focuses_from (suc k) last xs)) (other k later)
        ∙ ap (λ ys. tried ys (focuses_from (suc k) last xs)) (append-nil done)
        ∙ none (suc k) last done xs known (omega (arith, later))

    -- the one at its position is the only one
    earlier : (k : ℕ) → k < most → int_eq n (pos k) ≡ false
    earlier k before = ap (λ m. int_eq m (pos k)) is ∙ ap (λ b. is_eq (cond (ltb most k) Less (cond b Greater Equal))) (lt-ltb k most before) ∙ by (ltb most k)
      where
        by : (b : Bool) → is_eq (cond b Less Greater) ≡ false
        by true = refl
        by false = refl

    same : (k : ℕ) → k ≡ most → int_eq n (pos k) ≡ true
    same k at = ap (λ m. int_eq n (pos m)) at ∙ ap (λ m. int_eq n m) (sym is) ∙ int_eq_equiv.refl n

    pub only_kept : (left k last : ℕ) (done xs : List Item) (x : Item) → Known last → k + left ≡ most → left < length xs → x ≡ get_or xs left x → in_turn (more (Forms.passed (plan_mean p) frame)) done (focuses_from k last xs) trees ≡ (Ok (done ++ x ∷ []), trees)
    unfolding act tried
    only_kept left k last done [] x known at within there = absurd (omega (arith, within))
    only_kept zero k last done (y ∷ ys) x known at within there =
        one done (record { item = y; position = k; last = last }) (focuses_from (suc k) last ys) known
        ∙ ap (λ b. tried (done ++ Forms.kept_if y b) (focuses_from (suc k) last ys)) (same k (omega (arith, at)))
        ∙ none (suc k) last (done ++ y ∷ []) ys known (omega (arith, at))
        ∙ ap (λ z. (Ok (done ++ z ∷ []), trees)) (sym there)
    only_kept (suc left) k last done (y ∷ ys) x known at within there =
        one done (record { item = y; position = k; last = last }) (focuses_from (suc k) last ys) known
        ∙ ap (λ b. tried (done ++ Forms.kept_if y b) (focuses_from (suc k) last ys)) (earlier k (omega (arith, at)))
        ∙ ap (λ zs. tried zs (focuses_from (suc k) last ys)) (append-nil done)
        ∙ only_kept left (suc k) last done ys x known (omega (arith, at)) (omega (arith, within)) there

    -- so those up to there suffice
    up_to : (left k last last' : ℕ) (done xs : List Item) → Known last → Known last' → k + left ≡ suc most → tried done (focuses_from k last (take left xs)) ≡ tried done (focuses_from k last' xs)
    unfolding tried
    up_to zero k last last' done xs known known' at = sym (none k last' done xs known' (omega (arith, at)))
    up_to (suc left) k last last' done [] known known' at = refl
    up_to (suc left) k last last' done (x ∷ xs) known known' at =
        let next = done ++ Forms.kept_if x (int_eq n (pos k)) in
        one done (record { item = x; position = k; last = last }) (focuses_from (suc k) last (take left xs)) known
        ∙ up_to left (suc k) last last' next xs known known' (omega (arith, at))
        ∙ sym (one done (record { item = x; position = k; last = last' }) (focuses_from (suc k) last' xs) known')

pub literal_suffices : (predicates : List Plan) (n : ℤ) (most : ℕ) (rest : List Plan) → predicates ≡ plan.Int n ∷ rest → n ≡ pos most → Suffices predicates most
unfolding act tried
literal_suffices predicates n most rest are is frame xs trees =
    ap (λ ps. chosen ps frame (take most xs) trees) are
    ∙ ap (λ o. go_on o (chosen rest frame)) (up_to (plan.Int n) n frame trees (λ last. Unit {0}) (λ spot known. ap (λ m. m (Forms.in_focus frame spot) trees) (plan-Int n)) most is most 1 (length (take most xs)) (length xs) [] xs tt tt (omega arith))
    ∙ ap (λ ps. chosen ps frame xs trees) (sym are)

-- the last of some
last_one : (y : Item) (ys : List Item) → (x : Item) × ((x ≡ get_or (y ∷ ys) (length ys) x) × (drop (length ys) (y ∷ ys) ≡ x ∷ []))
last_one y [] = (y, (refl, refl))
last_one y (z ∷ zs) = last_one z zs

last_is : (y : Item) (ys : List Item) → drop (length (y ∷ ys) - 1) (y ∷ ys) ≡ (last_one y ys).0 ∷ []
last_is y ys = let e : length (y ∷ ys) - 1 ≡ length ys = omega arith in ap (λ n. drop n (y ∷ ys)) e ∙ (last_one y ys).1.1

last_again : (xs : List Item) → drop (length (drop (length xs - 1) xs) - 1) (drop (length xs - 1) xs) ≡ drop (length xs - 1) xs
last_again [] = refl
last_again (y ∷ ys) = ap (λ xs. drop (length xs - 1) xs) (last_is y ys) ∙ sym (last_is y ys)

-- `last()` keeps it
last_kept : (frame : Frame) (xs : List Item) (trees : List Tree) → Forms.filtered frame xs (plan_mean (plan.Call Last [])) trees ≡ (Ok (drop (length xs - 1) xs), trees)
last_kept frame [] trees = refl
last_kept frame (y ∷ ys) trees =
    let all = suc (length ys) in
    let value : (spot : Focus) → spot.last ≡ all → plan_mean (plan.Call Last []) (Forms.in_focus frame spot) trees ≡ (Ok (atomic (Integer (pos all))), trees) =
    λ spot known. ap (λ m. m (Forms.in_focus frame spot) trees) (plan-Call Last []) ∙ ap (λ n. (Ok (atomic (Integer (pos n))), trees)) known in
    let last = last_one y ys in
    only_kept (plan.Call Last []) (pos all) frame trees (λ last. last ≡ all) value all refl (length ys) 1 all [] (y ∷ ys) last.0 refl (omega arith) (omega arith) last.1.0
    ∙ ap (λ xs. (Ok xs, trees)) (sym (last_is y ys))

pub last_suffices : (predicates rest : List Plan) → predicates ≡ plan.Call Last [] ∷ rest → LastSuffices predicates
last_suffices predicates rest are frame xs trees =
    let last = drop (length xs - 1) xs in
    ap (λ ps. chosen ps frame last trees) are
    ∙ ap (λ o. go_on o (chosen rest frame)) (last_kept frame last trees ∙ ap (λ ys. (Ok ys, trees)) (last_again xs) ∙ sym (last_kept frame xs trees))
    ∙ ap (λ ps. chosen ps frame xs trees) (sym are)

-- a positive number
pub positive : (z : ℤ) → int_lt (pos 0) z ≡ true → z ≡ pos (nat_abs z)
positive (pos n) h = refl
positive (negsuc n) h = absurd (cc)

-- the first of a list
pub first_is : (ps : List Plan) (p : Plan) → true ≡ ltb 0 (length ps) → p ≡ get_or ps 0 p → ps ≡ p ∷ drop 1 ps
first_is [] p some is = absurd (cc)
first_is (q ∷ qs) p some is = ap (λ r. r ∷ qs) (sym is)

-- after what gives items, where the first suffice
pub keeps_first : (predicates : List Plan) (most : ℕ) (frame : Frame) (all : Outcome (List Item)) → Suffices predicates most → go_on (go_on all (λ xs. give (take most xs))) (chosen predicates frame) ≡ go_on all (chosen predicates frame)
keeps_first predicates most frame (Ok xs, trees) enough = enough frame xs trees
keeps_first predicates most frame (Err code, trees) enough = refl

-- or the last
pub keeps_last : (predicates : List Plan) (frame : Frame) (all : Outcome (List Item)) → LastSuffices predicates → go_on (go_on all (λ xs. give (drop (length xs - 1) xs))) (chosen predicates frame) ≡ go_on all (chosen predicates frame)
keeps_last predicates frame (Ok xs, trees) enough = enough frame xs trees
keeps_last predicates frame (Err code, trees) enough = refl
