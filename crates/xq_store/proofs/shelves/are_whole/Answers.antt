use Rattle.std.proofs.Common.{◌+◌, ◌∙◌}
use Rattle.std.proofs.lemmas.Bool.{eqb-true}
use Rattle.xq_sources.specs.Lent.{placed_lent}
use Rattle.xq_store.proofs.FrontLaws.{whole_rows}
use Rattle.xq_store.proofs.shelves.are_whole.Goals as goal

pub returns : goal.returns
returns c = λ yes t front.
    let rows = c.args.rows.now in
    whole_rows t rows (placed_lent c.in-Some.root) c.in-Some.ensures.row (eqb-true (c.in-Some.root.size + 1) c.len.result yes ∙ c.len.ensures) front
