use Rattle.std.proofs.Common.{◌≡◌, ◌+◌, length, [], ◌∷◌, sym, ap, subst, ◌∙◌, arith}
use Rattle.std.proofs.lemmas.List.{length-append}
use Rattle.xq_trees.specs.Rows.{rows, row_at}
use Rattle.xq_sources.specs.Lent.{placed_lent}
use Rattle.xq_axes.specs.private.Waiting.{AreSeen}
use Rattle.xq_axes.proofs.Runs.{one_on}
use Rattle.xq_axes.proofs.Looking.{seen_more, seen_row}
use Rattle.xq_axes.proofs.backward.PartVisitor.visit.Goals as goal

pub returns : goal.returns
returns c = λ start t s n r h. (
    let x = c.args.row.now in
    let old = c.args.self.now in
    let xs = old.seen.items in
    let at = h.1 in
    let items = c.in_ok-push.ensures.items in
    let len = ap length items in
    let more = length-append xs (record { level = x.level; is_plain = c.is_plain.result; passes = c.passes.result } ∷ []) in
    let row = seen_row start.test.now old.test.now x (row_at (rows t) (s.low + length xs)) c.is_plain.result c.passes.result (r.row ∙ ap (row_at (rows t)) at) c.is_plain.ensures c.passes.ensures h.0 in
    one_on t s n (placed_lent x) (λ m. (old.test.now ≡ start.test.now) × (m ≡ s.low + length c.push.new.self.items) × AreSeen start.test.now t s.low c.push.new.self.items) r
    (h.0, omega (arith, at, len, more), subst (AreSeen start.test.now t s.low) (sym items) (seen_more start.test.now t s.low xs _ h.2 row)))
