-- One row more, picked or not.
use Rattle.std.proofs.Common.{◌≡◌, ℕ, ◌+◌, ◌≤◌, List, [], ◌∷◌, ◌++◌, Bool, ◌&&◌, cond, suc, sym, ◌∙◌, ap, arith}
use Rattle.std.proofs.lemmas.Bool.{and_left}
use Rattle.std.specs.Prelude.{Result, IfOk}
use Rattle.std.proofs.lemmas.Result.{IfOk-weaker}
use Rattle.smallvec.specs.SmallVec.{SmallVec}
use Rattle.xq_sources.specs.declared.lent.LentRow.{LentRow}
use Rattle.xq_trees.specs.declared.Axis.{Axis}
use Rattle.xq_meaning.specs.declared.node_tests.Test.{Test}
use Rattle.xq_trees.specs.Tree.{Tree}
use Rattle.xq_trees.specs.Rows.{Row, rows, row_at}
use Rattle.xq_sources.specs.Lent.{row_lent}
use Rattle.xq_axes.specs.private.Hits.{is_hit, is_wanted, row_passes, below_where, AreUnhit}
use Rattle.xq_axes.specs.Reads.{Span, span_end, IsRowIn}
use Rattle.xq_axes.proofs.Lists.{below_where-none}
use Rattle.xq_axes.proofs.Runs.{one_on}

pub picked : (f : ℕ → Bool) (n : ℕ) (xs : List ℕ) (b : Bool) → xs ≡ below_where f n → b ≡ f n → xs ++ cond b (n ∷ []) [] ≡ below_where f (n + 1)
picked f n xs b e h =
    let m : suc n ≡ n + 1 = omega arith in
    ap (λ l. l ++ cond b (n ∷ []) []) e ∙ ap (λ y. below_where f n ++ cond y (n ∷ []) []) h ∙ ap (below_where f) m

-- the row at n, as code holds it
pub wanted_is : (axis : Axis) (test now : Test) (t : Tree) (vs : List ℕ) (n : ℕ) (x : LentRow) (hit : Bool) → row_lent x ≡ row_at (rows t) n → now ≡ test → hit ≡ is_hit axis t vs n → (hit && row_passes now (row_lent x)) ≡ is_wanted axis test t vs n
wanted_is axis test now t vs n x hit r e h = ap (λ b. b && row_passes now (row_lent x)) h ∙ ap (λ k. is_hit axis t vs n && row_passes k (row_lent x)) e ∙ ap (λ y. is_hit axis t vs n && row_passes test y) r

-- rows that are on the axis from no context are not picked
pub picked_over : (axis : Axis) (test : Test) (t : Tree) (vs : List ℕ) (n m : ℕ) (xs : List ℕ) → n ≤ m → AreUnhit (is_hit axis t vs) n m → xs ≡ below_where (is_wanted axis test t vs) n → xs ≡ below_where (is_wanted axis test t vs) m
picked_over axis test t vs n m xs l h e =
    e ∙ sym (below_where-none (is_wanted axis test t vs) n m l (λ p a b. and_left (is_hit axis t vs p) (row_passes test (row_at (rows t) p)) (h p a b)))

-- a row that is judged alone leads to the next one
pub record Judged (t : Tree) (s : Span) (n : ℕ) (f : ℕ → Bool) (P : ℕ → Type 0) : Type 0 where
  pub within : n + 1 + 0 ≤ span_end t s
  pub unhit : AreUnhit f (n + 1) (n + 1 + 0)
  pub goes_on : P (n + 1 + 0)

pub judged_one : (t : Tree) (s : Span) (n : ℕ) (p : ℕ × Row) (f : ℕ → Bool) (P : ℕ → Type 0) → IsRowIn t s n p → P (n + 1) → Judged t s n f P
judged_one t s n p f P r h =
    let o = one_on t s n p P r h in
    record { within = o.0; unhit = λ q a b. absurd (omega (arith, a, b)); goes_on = o.1 }

-- what was found is handed over
pub same_places : {E : Type 0} (r : Result (SmallVec ℕ) E) (xs ys : List ℕ) → IfOk r (λ places. places.items ≡ xs) → xs ≡ ys → IfOk r (λ places. places.items ≡ ys)
same_places r xs ys found e = IfOk-weaker r (λ (places : SmallVec ℕ). places.items ≡ xs) (λ (places : SmallVec ℕ). places.items ≡ ys) (λ places same. same ∙ e) found
