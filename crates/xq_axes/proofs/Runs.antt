-- The runs that a lender gives are the rows of a tree in turn.
use Rattle.std.proofs.Common.{◌≡◌, ℕ, zero, suc, ◌+◌, ◌-◌, ◌<◌, ◌≤◌, List, [], ◌∷◌, ◌++◌, length, get_or, take, drop, min, refl, sym, ◌∙◌, ap, subst, inl, inr, arith}
use Rattle.std.proofs.Math.Seq.{drop-cons}
use Rattle.std.proofs.lemmas.List.{drop_all, length-take, length-drop, take_more, drop-append-le}
use Rattle.std.proofs.lemmas.List.FromFn.{get_or-enumerate_from, length-enumerate_from}
use Rattle.std.proofs.lemmas.Bool.{cases_lt}
use Rattle.xq_trees.specs.Forest.{count}
use Rattle.xq_trees.specs.Tree.{Tree, nodes}
use Rattle.xq_trees.specs.Rows.{Row, no_row, row_at, rows, placed_rows}
use Rattle.xq_trees.proofs.Encoding.{length-rows}
use Rattle.xq_sources.specs.Sources.{rows_between}
use Rattle.xq_sources.specs.Lenders.{IsRun}
use Rattle.xq_sources.specs.Lent.{lent_at}
use Rattle.xq_sources.proofs.Intervals.{between-places}
use Rattle.xq_axes.specs.Reads.{Span, span_end, IsRowIn, AreRowsIn, rows_to}

pub row_in_turn : (t : Tree) (s : Span) (n : ℕ) (ps : List (ℕ × Row)) (i : ℕ) (p : ℕ × Row) → AreRowsIn t s n ps → i < length ps → p ≡ lent_at ps i → IsRowIn t s (n + i) p
row_in_turn t s n [] i p h l e = absurd (omega (arith, l))
row_in_turn t s n (q ∷ ps) zero p h l e =
    let m : n ≡ n + 0 = omega arith in
    subst (λ k. IsRowIn t s k p) m (subst (IsRowIn t s n) (sym e) h.0)
row_in_turn t s n (q ∷ ps) (suc i) p h l e =
    let m : suc n + i ≡ n + suc i = omega arith in
    subst (λ k. IsRowIn t s k p) m (row_in_turn t s (suc n) ps i p h.1 (omega (arith, l)) e)

row_here : (t : Tree) (n : ℕ) → n < count (nodes t) → drop n (placed_rows t) ≡ (n, row_at (rows t) n) ∷ drop (suc n) (placed_rows t)
row_here t n h =
    let l : length (placed_rows t) ≡ count (nodes t) = length-enumerate_from 0 (rows t) ∙ length-rows t in
    let k : n < length (placed_rows t) = omega arith in
    let g : get_or (placed_rows t) n (n, no_row) ≡ (0 + n, row_at (rows t) n) = get_or-enumerate_from 0 (rows t) n (n, no_row) (omega (arith, length-rows t)) in
    let z : 0 + n ≡ n = omega arith in
    drop-cons (placed_rows t) n (n, no_row) k ∙ ap (λ (p : ℕ × Row). p ∷ drop (suc n) (placed_rows t)) (g ∙ ap (λ m. (m, row_at (rows t) n)) z)

part_rows : (t : Tree) (s : Span) (k m n : ℕ) → s.low ≤ n → m ≡ s.high + 1 - n → AreRowsIn t s n (take k (take m (drop n (placed_rows t))))
part_rows t s zero m n l e = tt
part_rows t s (suc k) zero n l e = tt
part_rows t s (suc k) (suc m) n l e =
    elim (cases_lt n (count (nodes t))) [
      | inl h ↦ subst (λ xs. AreRowsIn t s n (take (suc k) (take (suc m) xs))) (sym (row_here t n h))
          (record { from = l; to = omega (arith, e); is_there = h; place = refl; row = refl }, part_rows t s k m (suc n) (omega (arith, l)) (omega (arith, e)))
      | inr h ↦ (
          let z : length (placed_rows t) ≤ n = (let l : length (placed_rows t) ≡ count (nodes t) = length-enumerate_from 0 (rows t) ∙ length-rows t in omega arith) in
          subst (λ xs. AreRowsIn t s n (take (suc k) (take (suc m) xs))) (sym (drop_all n (placed_rows t) z)) tt)
    ]

between_is : (t : Tree) (n high : ℕ) → rows_between t n high ≡ take (high + 1 - n) (drop n (placed_rows t))
between_is t n high = between-places n 0 n high (rows t) (let z : n ≡ 0 + n = omega arith in z)

-- a run that begins at n
pub run_in_turn : (t : Tree) (s : Span) (n : ℕ) (run : List (ℕ × Row)) → s.low ≤ n → IsRun (rows_between t n s.high) run → AreRowsIn t s n run
run_in_turn t s n run l r =
    subst (AreRowsIn t s n) (sym (r.first ∙ ap (take (length run)) (between_is t n s.high))) (part_rows t s (length run) (s.high + 1 - n) n l refl)

length-between : (t : Tree) (n high : ℕ) → length (rows_between t n high) ≡ min (high + 1 - n) (count (nodes t) - n)
length-between t n high =
    ap length (between_is t n high) ∙ length-take (high + 1 - n) (drop n (placed_rows t))
    ∙ ap (min (high + 1 - n)) (length-drop n (placed_rows t) ∙ ap (λ l. l - n) (length-enumerate_from 0 (rows t) ∙ length-rows t))

-- it ends within the span and the tree, and holds a row where there is one
pub record RunEnds (t : Tree) (s : Span) (n : ℕ) (run : List (ℕ × Row)) : Type 0 where
  pub in_span : length run ≤ s.high + 1 - n
  pub in_tree : length run ≤ count (nodes t) - n
  pub some : n ≤ s.high → n < count (nodes t) → 0 < length run

pub run_ends : (t : Tree) (s : Span) (n : ℕ) (run : List (ℕ × Row)) → IsRun (rows_between t n s.high) run → RunEnds t s n run
run_ends t s n run r =
    let b = length-between t n s.high in
    let k : length run ≡ min (length run) (length (rows_between t n s.high)) = ap length r.first ∙ length-take (length run) (rows_between t n s.high) in
    record {
      in_span = omega (arith, b, k);
      in_tree = omega (arith, b, k);
      some = λ h g. r.some (omega (arith, b, h, g));
    }

-- one row more
pub rows_to-more : (rs : List Row) (low n : ℕ) → low ≤ n → n < length rs → rows_to rs low (n + 1) ≡ rows_to rs low n ++ row_at rs n ∷ []
rows_to-more rs low n l h =
    ap (drop low) (take_more rs n no_row h) ∙ drop-append-le low (take n rs) (row_at rs n ∷ []) (omega (arith, length-take n rs, l, h))

-- a row that is visited alone leads to the next one
pub one_on : (t : Tree) (s : Span) (n : ℕ) (p : ℕ × Row) (P : ℕ → Type 0) → IsRowIn t s n p → P (n + 1) → (n + 1 + 0 ≤ span_end t s) × P (n + 1 + 0)
one_on t s n p P r h =
    let a = r.from in
    let b = r.to in
    let c = r.is_there in
    let e : n + 1 ≡ n + 1 + 0 = omega arith in
    (omega (arith, a, b, c), subst P e h)
