-- The test of rows, from the last row to the first, and what it shows.
use Rattle.std.proofs.Common.{◌≡◌, ℕ, zero, suc, ◌+◌, ◌-◌, ◌<◌, ◌≤◌, List, [], ◌∷◌, length, drop, map, Bool, true, false, ◌&&◌, refl, sym, ◌∙◌, ap, subst, arith}
use Rattle.std.proofs.Math.Seq.{drop-cons}
use Rattle.std.proofs.lemmas.Bool.{leb-true, eqb-true, le-leb, eq-eqb}
use Rattle.std.proofs.lemmas.List.{drop-drop}
use Rattle.xq_trees.specs.Forest.{Forest, end, node, count, labels, tops, EachNode}
use Rattle.std.specs.Prelude.{nat_le}
use Rattle.xq_trees.specs.Tree.{Label, may_stand, has_text, may_precede, is_legal}
use Rattle.xq_trees.specs.Rows.{Row, front, back, nest, no_row, row_at}
use Rattle.xq_trees.specs.private.Checks.{label_of, child_ok, is_run, RowOk, IsChecked, NamesOk, AreNamed, roots}

pub both : (a b : Bool) → (a && b) ≡ true → (a ≡ true) × (b ≡ true)
both true b h = (refl, h)
both false b h = absurd (cc)

pub both_true : (a b : Bool) → a ≡ true → b ≡ true → (a && b) ≡ true
both_true true b h g = g
both_true false b h g = absurd (cc)

-- what holds at each node of a forest holds at each node of its front and back
module _ {A : Type 0} (P : A → List A → Type 0) where
  pub EachNode-front : (n : ℕ) (f : Forest A) → EachNode P f → EachNode P (front n f)
  EachNode-front zero f h = tt
  EachNode-front (suc n) end h = tt
  EachNode-front (suc n) (node a below beside) h = (h.0, (h.1.0, EachNode-front (n - count below) beside h.1.1))

  pub EachNode-back : (n : ℕ) (f : Forest A) → EachNode P f → EachNode P (back n f)
  EachNode-back zero f h = h
  EachNode-back (suc n) end h = tt
  EachNode-back (suc n) (node a below beside) h = EachNode-back (n - count below) beside h.1.1

  pub EachNode-both : (n : ℕ) (f : Forest A) → EachNode P (front n f) → EachNode P (back n f) → EachNode P f
  EachNode-both zero f h g = g
  EachNode-both (suc n) end h g = tt
  EachNode-both (suc n) (node a below beside) h g = (h.0, (h.1.0, EachNode-both (n - count below) beside h.1.1 g))

pub EachRow-front : (n : ℕ) (f : Forest Row) → EachNode RowOk f → EachNode RowOk (front n f)
EachRow-front n f h = EachNode-front RowOk n f h

pub EachRow-back : (n : ℕ) (f : Forest Row) → EachNode RowOk f → EachNode RowOk (back n f)
EachRow-back n f h = EachNode-back RowOk n f h

pub EachRow-both : (n : ℕ) (f : Forest Row) → EachNode RowOk (front n f) → EachNode RowOk (back n f) → EachNode RowOk f
EachRow-both n f h g = EachNode-both RowOk n f h g

pub each_row : (rs : List Row) → IsChecked rs → EachNode RowOk (nest rs)
each_row [] h = tt
each_row (r ∷ rs) h = (h.0, (EachRow-front r.size (nest rs) (each_row rs h.1), EachRow-back r.size (nest rs) (each_row rs h.1)))

pub checked : (rs : List Row) → EachNode RowOk (nest rs) → IsChecked rs
checked [] h = tt
checked (r ∷ rs) h = (h.0, checked rs (EachRow-both r.size (nest rs) h.1.0 h.1.1))

pub each_named : (rs : List Row) → AreNamed rs → EachNode NamesOk (nest rs)
each_named [] h = tt
each_named (r ∷ rs) h = (h.0, (EachNode-front NamesOk r.size (nest rs) (each_named rs h.1), EachNode-back NamesOk r.size (nest rs) (each_named rs h.1)))

pub named : (rs : List Row) → EachNode NamesOk (nest rs) → AreNamed rs
named [] h = tt
named (r ∷ rs) h = (h.0, named rs (EachNode-both NamesOk r.size (nest rs) h.1.0 h.1.1))

pub count-front-back : {A : Type 0} (n : ℕ) (f : Forest A) → count (front n f) + count (back n f) ≡ count f
count-front-back zero f = omega arith
count-front-back (suc n) end = omega arith
count-front-back (suc n) (node a below beside) = let e = count-front-back (n - count below) beside in omega arith

pub record ChildOk (parent : Row) (n : ℕ) (r : Row) (labels : List Label) : Type 0 where
  pub level : r.level ≡ suc parent.level
  pub kind : may_stand parent.label.kind r.label.kind ≡ true
  pub text : has_text r.label.kind r.label.value ≡ true
  pub next : may_precede r.label.kind labels ≡ true
  pub room : r.size < n

pub child_is_ok : (parent : Row) (n : ℕ) (r : Row) (labels : List Label) → child_ok parent n r labels ≡ true → ChildOk parent n r labels
child_is_ok parent n r labels h =
    let a = both _ _ h in
    let b = both _ _ a.1 in
    let c = both _ _ b.1 in
    let d = both _ _ c.1 in
    record { level = eqb-true _ _ a.0; kind = b.0; text = c.0; next = d.0; room = leb-true _ _ d.1 }

pub child_ok_from : (parent : Row) (n : ℕ) (r : Row) (labels : List Label) → ChildOk parent n r labels → child_ok parent n r labels ≡ true
child_ok_from parent n r labels h =
    both_true _ _ (eq-eqb _ _ h.level) (both_true _ _ h.kind (both_true _ _ h.text (both_true _ _ h.next (le-leb _ _ h.room))))

pub run_below : (r : Row) (below : List Row) → RowOk r below → is_run r r.size below ≡ true
run_below r below h = (both (nat_le r.level 100) (is_run r r.size below) (both (is_legal r.label.kind r.label.name r.label.value) _ h).1).1

-- a run has as many rows as are wanted
pub count_run : (parent : Row) (n : ℕ) (f : Forest Row) → EachNode RowOk f → is_run parent n (tops f) ≡ true → count f ≡ n
count_run parent n end h g = sym (eqb-true _ _ g)
count_run parent n (node r below beside) h g =
    let w = both _ _ g in
    let c = child_is_ok parent n r (map label_of (tops beside)) w.0 in
    let k : count below ≡ r.size = count_run r r.size below h.1.0 (run_below r (tops below) h.0) in
    let b : count beside ≡ n - suc r.size = count_run parent (n - suc r.size) beside h.1.1 w.1 in
    let room = c.room in
    omega arith

pub size_is : (r : Row) (below : Forest Row) → EachNode RowOk below → RowOk r (tops below) → count below ≡ r.size
size_is r below h g = count_run r r.size below h (run_below r (tops below) g)

-- the parts of a cut forest
pub back-add : {A : Type 0} (m n : ℕ) (f : Forest A) → count (front m f) ≡ m → back n (back m f) ≡ back (m + n) f
back-add zero n f h = ap (λ k. back k f) (let e : n ≡ 0 + n = omega arith in e)
back-add (suc m) n end h = absurd (omega (arith, h))
back-add (suc m) n (node a below beside) h =
    let e : count (front (m - count below) beside) ≡ m - count below = omega (arith, h) in
    let s : suc m + n ≡ suc (m + n) = omega arith in
    let d : m - count below + n ≡ m + n - count below = omega (arith, h) in
    back-add (m - count below) n beside e ∙ ap (λ k. back k beside) d ∙ ap (λ k. back k (node a below beside)) (sym s)

pub count-front-add : {A : Type 0} (m n : ℕ) (f : Forest A) → count (front m f) ≡ m → count (front (m + n) f) ≡ m + count (front n (back m f))
count-front-add zero n f h = ap (λ k. count (front k f)) (let e : 0 + n ≡ n = omega arith in e) ∙ (let e : count (front n f) ≡ 0 + count (front n f) = omega arith in e)
count-front-add (suc m) n end h = absurd (omega (arith, h))
count-front-add (suc m) n (node a below beside) h =
    let e : count (front (m - count below) beside) ≡ m - count below = omega (arith, h) in
    let s : suc m + n ≡ suc (m + n) = omega arith in
    let d : m + n - count below ≡ m - count below + n = omega (arith, h) in
    let i : count (front (m - count below + n) beside) ≡ m - count below + count (front n (back (m - count below) beside)) = count-front-add (m - count below) n beside e in
    ap (λ k. count (front k (node a below beside))) s ∙ ap (λ k. suc (count below + count (front k beside))) d ∙ omega (arith, i, h)

-- the rows after n whole rows are what is beside them
pub skip : (rs : List Row) (n : ℕ) → IsChecked rs → count (front n (nest rs)) ≡ n → back n (nest rs) ≡ nest (drop n rs)
skip rs zero h g = refl
skip [] (suc n) h g = refl
skip (r ∷ rs) (suc n) h g =
    let below = front r.size (nest rs) in
    let beside = back r.size (nest rs) in
    let k : count below ≡ r.size = size_is r below (EachRow-front r.size (nest rs) (each_row rs h.1)) h.0 in
    let m : r.size + (n - count below) ≡ n = omega (arith, g, k) in
    let f : count (front (n - count below) beside) ≡ n - count below = omega (arith, g, k) in
    let c : count (front n (nest rs)) ≡ n = ap (λ x. count (front x (nest rs))) (sym m) ∙ count-front-add r.size (n - count below) (nest rs) k ∙ omega (arith, f, k, g) in
    back-add r.size (n - count below) (nest rs) k ∙ ap (λ x. back x (nest rs)) m ∙ skip rs n h.1 c

pub IsChecked-drop : (n : ℕ) (rs : List Row) → IsChecked rs → IsChecked (drop n rs)
IsChecked-drop zero rs h = h
IsChecked-drop (suc n) [] h = tt
IsChecked-drop (suc n) (r ∷ rs) h = IsChecked-drop n rs h.1

pub checked_later : (rs : List Row) (c d : ℕ) → IsChecked (drop c rs) → c ≤ d → IsChecked (drop d rs)
checked_later rs c d h l =
    let e : c + (d - c) ≡ d = omega arith in
    subst (λ n. IsChecked (drop n rs)) e (subst IsChecked (drop-drop (d - c) c rs) (IsChecked-drop (d - c) (drop c rs) h))

pub roots_stop : (rs : List Row) (c stop : ℕ) → stop ≤ c → roots rs c stop ≡ []
roots_stop rs c stop h = let e : stop - c ≡ 0 = omega arith in ap (λ n. tops (front n (nest (drop c rs)))) e

-- the first root, and those after its rows
pub roots_step : (rs : List Row) (c stop : ℕ) → c < stop → c < length rs → IsChecked (drop c rs) → roots rs c stop ≡ row_at rs c ∷ roots rs (suc c + (row_at rs c).size) stop
roots_step rs c stop l b h =
    let r = row_at rs c in
    let tail = drop (suc c) rs in
    let cons : drop c rs ≡ r ∷ tail = drop-cons rs c no_row b in
    let g : IsChecked (r ∷ tail) = subst IsChecked cons h in
    let below = front r.size (nest tail) in
    let k : count below ≡ r.size = size_is r below (EachRow-front r.size (nest tail) (each_row tail g.1)) g.0 in
    let m : stop - c ≡ suc (stop - suc c) = omega arith in
    let rest : back r.size (nest tail) ≡ nest (drop (suc c + r.size) rs) = skip tail r.size g.1 k ∙ ap nest (drop-drop r.size (suc c) rs) in
    let d : stop - suc c - count below ≡ stop - (suc c + r.size) = omega (arith, k) in
    ap (λ x. tops (front (stop - c) (nest x))) cons
    ∙ ap (λ n. tops (front n (nest (r ∷ tail)))) m
    ∙ ap (λ n. r ∷ tops (front n (back r.size (nest tail)))) d
    ∙ ap (λ x. r ∷ tops (front (stop - (suc c + r.size)) x)) rest
