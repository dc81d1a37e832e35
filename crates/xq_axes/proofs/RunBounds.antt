-- The loop over runs.
use Rattle.std.proofs.Common.{◌≡◌, ℕ, ◌+◌, ◌-◌, ◌^◌, ◌<◌, ◌≤◌, List, length, min, ap, inl, inr, arith}
use Rattle.std.proofs.lemmas.Bool.{cases_lt}
use Rattle.xq_trees.specs.Forest.{count}
use Rattle.xq_trees.specs.Tree.{Tree, nodes}
use Rattle.xq_trees.specs.Rows.{Row}
use Rattle.xq_sources.specs.Meters.{Readings, with_rows}
use Rattle.xq_sources.specs.Sources.{rows_between}
use Rattle.xq_sources.specs.Lenders.{IsRun}
use Rattle.xq_axes.specs.Reads.{Span, span_end}
use Rattle.xq_axes.proofs.Runs.{run_ends}

pub run_within : (t : Tree) (s : Span) (n : ℕ) (run : List (ℕ × Row)) → IsRun (rows_between t n s.high) run → n ≤ s.high → n ≤ span_end t s → n + length run ≤ span_end t s
run_within t s n run r h g = let e = run_ends t s n run r in omega (arith, e.in_span, e.in_tree, h, g)

-- no row is fetched after the span, and none before it twice
pub run_counted : (t : Tree) (s : Span) (n m now old new : ℕ) (run : List (ℕ × Row)) → IsRun (rows_between t n s.high) run → s.low ≤ n → n ≤ s.high → n + length run ≤ m → now ≤ old + (min n (span_end t s) - s.low) → new ≤ now + length run → new ≤ old + (min m (span_end t s) - s.low)
run_counted t s n m now old new run r l h p b c = let e = run_ends t s n run r in omega (arith, e.in_span, e.in_tree, l, h, p, b, c)

pub run_last : (t : Tree) (s : Span) (n : ℕ) (run : List (ℕ × Row)) → IsRun (rows_between t n s.high) run → length run ≡ 0 → s.low ≤ n → n ≤ s.high → n ≤ span_end t s → n ≡ span_end t s
run_last t s n run r z l h g =
    let e = run_ends t s n run r in
    let none : n < count (nodes t) → 0 < length run = λ k. e.some h k in
    elim (cases_lt n (count (nodes t))) [
      | inl k ↦ absurd (omega (arith, none k, z))
      | inr k ↦ omega (arith, k, l, h, g)
    ]

pub counted_rows : (old new : Readings) (k : ℕ) → new ≡ with_rows old k → new.rows ≤ old.rows + k
counted_rows old new k e = let r : new.rows ≡ min (old.rows + k) (2 ^ 64 - 1) = ap (λ (m : Readings). m.rows) e in omega (arith, r)
