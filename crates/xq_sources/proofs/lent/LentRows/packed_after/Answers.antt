use Rattle.std.proofs.Common.{◌≡◌, length, drop, min, ap, ◌∙◌, arith}
use Rattle.std.proofs.lemmas.List.{length-drop}
use Rattle.xq_sources.specs.Lent.{placed_between}
use Rattle.xq_sources.proofs.Forms.{clamped}
use Rattle.xq_sources.proofs.lent.LentRows.packed_after.Goals as goal

pub returns : goal.returns
returns c =
    let rows = drop c.args.base c.args.rows.now.rows in
    let end : c.min-high.result ≡ min c.args.high (length rows) = (let many = length-drop c.args.base c.args.rows.now.rows in omega (arith, c.min-high.ensures, c.len.ensures.rows, many)) in
    let start : c.min-low.result ≡ min c.args.low (min c.args.high (length rows)) = c.min-low.ensures ∙ ap (min c.args.low) end in
    ap (λ low. placed_between rows low c.min-high.result) start
    ∙ ap (placed_between rows (min c.args.low (min c.args.high (length rows)))) end
    ∙ clamped rows c.args.low c.args.high
