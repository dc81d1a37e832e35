-- The steps of a walk over the children of a row.
use Rattle.std.proofs.Common.{◌≡◌, ℕ, zero, suc, ◌+◌, ◌-◌, ◌<◌, ◌≤◌, List, [], ◌∷◌, length, get_or, drop, map, Bool, true, false, ◌&&◌, refl, sym, ◌∙◌, ap, arith}
use Rattle.std.specs.Prelude.{nat_eq, nat_lt}
use Rattle.std.proofs.Math.Bool.{and-true}
use Rattle.std.proofs.lemmas.Bool.{le-leb, eq-eqb}
use Rattle.xq_trees.specs.Forest.{count, tops}
use Rattle.xq_trees.specs.Tree.{Label, may_precede, may_follow, may_stand, has_text}
use Rattle.xq_trees.specs.Rows.{Row, row_at, row_of, front, nest}
use Rattle.xq_trees.specs.private.Checks.{IsChecked, roots, label_of, child_ok, may_be_child, is_run}
use Rattle.xq_trees.specs.declared.NodeRow.{NodeRow}
use Rattle.xq_trees.specs.declared.Kind.{Kind}
use Rattle.std.proofs.Common.{length-drop}
use Rattle.xq_trees.proofs.Nests.{labels-nest}
use Rattle.xq_trees.proofs.Regions.{length-labels}
use Rattle.xq_trees.proofs.Checking.{roots_step, roots_stop, child_is_ok, count_run, EachRow-front, each_row, count-front-back}

pub length-map : {A B : Type 0} (f : A → B) (xs : List A) → length (map f xs) ≡ length xs
length-map f [] = refl
length-map f (x ∷ xs) = ap suc (length-map f xs)

pub row_at-map : (xs : List NodeRow) (i : ℕ) (x : NodeRow) → i < length xs → x ≡ get_or xs i x → row_at (map row_of xs) i ≡ row_of x
row_at-map [] i x h e = absurd (omega arith)
row_at-map (y ∷ xs) zero x h e = ap row_of (sym e)
row_at-map (y ∷ xs) (suc i) x h e = row_at-map xs i x (omega arith) e

pub false_unless : (b : Bool) → (b ≡ true → ⊥) → false ≡ b
false_unless true h = absurd (h refl)
false_unless false h = refl

-- the first root, and those after it
pub roots_next : (rs : List Row) (c stop : ℕ) → c < stop → stop ≤ length rs → IsChecked (drop c rs) → (n : ℕ) → n ≡ suc c + (row_at rs c).size → roots rs c stop ≡ row_at rs c ∷ roots rs n stop
roots_next rs c stop before within checked n e =
    roots_step rs c stop before (omega arith) checked ∙ ap (λ m. row_at rs c ∷ roots rs m stop) (sym e)

pub may_precede_none : (rs : List Row) (c stop : ℕ) (kind : Kind) → stop ≤ c → may_precede kind (map label_of (roots rs c stop)) ≡ true
may_precede_none rs c stop kind h = ap (λ xs. may_precede kind (map label_of xs)) (roots_stop rs c stop h)

pub may_precede_some : (rs : List Row) (c stop : ℕ) (kind : Kind) → c < stop → stop ≤ length rs → IsChecked (drop c rs) → may_precede kind (map label_of (roots rs c stop)) ≡ may_follow kind (row_at rs c).label.kind
may_precede_some rs c stop kind h w g = ap (λ xs. may_precede kind (map label_of xs)) (roots_next rs c stop h w g (suc c + (row_at rs c).size) refl)

-- what is left to test of a child, where the other tests passed
pub child_decided : (parent r : Row) (n : ℕ) (labels : List Label) (p : Bool) → r.level ≡ suc parent.level → may_stand parent.label.kind r.label.kind ≡ true → has_text r.label.kind r.label.value ≡ true → r.size < n → p ≡ may_precede r.label.kind labels → p ≡ child_ok parent n r labels
child_decided parent r n labels p l k t s hp =
    let a : nat_eq r.level (suc parent.level) ≡ true = eq-eqb _ _ l in
    let d : nat_lt r.size n ≡ true = le-leb _ _ s in
    let e = may_precede r.label.kind labels in
    hp
    ∙ sym (and-true e)
    ∙ sym (ap (λ b. b && (may_stand parent.label.kind r.label.kind && (has_text r.label.kind r.label.value && (e && nat_lt r.size n)))) a
    ∙ ap (λ b. b && (has_text r.label.kind r.label.value && (e && nat_lt r.size n))) k
    ∙ ap (λ b. b && (e && nat_lt r.size n)) t
    ∙ ap (λ b. e && b) d)

pub child_decided_at : (rs : List Row) (i c stop n : ℕ) (p : Bool) → n ≡ suc c + (row_at rs c).size → (row_at rs c).level ≡ suc (row_at rs i).level → may_stand (row_at rs i).label.kind (row_at rs c).label.kind ≡ true → has_text (row_at rs c).label.kind (row_at rs c).label.value ≡ true → (row_at rs c).size < stop - c → p ≡ may_precede (row_at rs c).label.kind (map label_of (roots rs n stop)) → p ≡ may_be_child (row_at rs i) rs c stop
child_decided_at rs i c stop n p e l k t s hp =
    child_decided (row_at rs i) (row_at rs c) (stop - c) (map label_of (roots rs n stop)) p l k t s hp
    ∙ ap (λ m. child_ok (row_at rs i) (stop - c) (row_at rs c) (map label_of (roots rs m stop))) e

pub run_step : (parent : Row) (rs : List Row) (c stop : ℕ) → c < stop → stop ≤ length rs → IsChecked (drop c rs) → is_run parent (stop - c) (roots rs c stop) ≡ (may_be_child parent rs c stop && is_run parent (stop - c - suc (row_at rs c).size) (roots rs (suc c + (row_at rs c).size) stop))
run_step parent rs c stop h w g = ap (is_run parent (stop - c)) (roots_step rs c stop h (omega arith) g)

pub run_fails : (parent : Row) (rs : List Row) (c stop : ℕ) → c < stop → stop ≤ length rs → IsChecked (drop c rs) → may_be_child parent rs c stop ≡ false → is_run parent (stop - c) (roots rs c stop) ≡ false
run_fails parent rs c stop h w g e =
    run_step parent rs c stop h w g ∙ ap (λ b. b && is_run parent (stop - c - suc (row_at rs c).size) (roots rs (suc c + (row_at rs c).size) stop)) e

-- one child further
pub record RunGoesOn (parent : Row) (rs : List Row) (c stop m : ℕ) : Type 0 where
  pub within : m ≤ stop
  pub same : is_run parent (stop - c) (roots rs c stop) ≡ is_run parent (stop - m) (roots rs m stop)

pub run_goes_on : (parent : Row) (rs : List Row) (c stop m : ℕ) → c < stop → stop ≤ length rs → IsChecked (drop c rs) → m ≡ suc c + (row_at rs c).size → may_be_child parent rs c stop ≡ true → RunGoesOn parent rs c stop m
run_goes_on parent rs c stop m h w g hm e =
    let k = (child_is_ok parent (stop - c) (row_at rs c) _ e).room in
    let d : suc c + (row_at rs c).size ≡ m = sym hm in
    let n : stop - c - suc (row_at rs c).size ≡ stop - m = omega (arith, hm) in
    record {
      within = omega (arith, hm, k);
      same =
          run_step parent rs c stop h w g
          ∙ ap (λ b. b && is_run parent (stop - c - suc (row_at rs c).size) (roots rs (suc c + (row_at rs c).size) stop)) e
          ∙ ap (λ i. is_run parent i (roots rs (suc c + (row_at rs c).size) stop)) n
          ∙ ap (λ i. is_run parent (stop - m) (roots rs i stop)) d;
    }

-- a run ends within the rows
pub run_within : (parent : Row) (rs : List Row) (c n : ℕ) → c ≤ length rs → IsChecked (drop c rs) → is_run parent n (roots rs c (c + n)) ≡ true → c + n ≤ length rs
run_within parent rs c n h g e =
    let tail = drop c rs in
    let m : c + n - c ≡ n = omega arith in
    let k : count (front n (nest tail)) ≡ n = count_run parent n (front n (nest tail)) (EachRow-front n (nest tail) (each_row tail g)) (ap (λ i. is_run parent n (tops (front i (nest tail)))) (sym m) ∙ e) in
    let l : count (nest tail) ≡ length tail = sym (length-labels (nest tail)) ∙ ap length (labels-nest tail) in
    omega (arith, k, l, count-front-back n (nest tail), length-drop c rs)
