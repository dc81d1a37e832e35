use Rattle.std.proofs.Common.{◌≡◌, ◌++◌, ◌∷◌, [], subst}
use Rattle.std.specs.Prelude.{OnOk}
use Rattle.xq_trees.specs.Rows.{Row}
use Rattle.xq_build.proofs.Contents.{row_of_parts}
use Rattle.xq_build.proofs.content.append_row.Goals as goal

pub returns : goal.returns
returns c =
    subst (λ (r : Row). OnOk c.push_parts.result (c.push_parts.new.self.rows ≡ c.args.rows.now.rows ++ r ∷ []))
    (row_of_parts c.args.row.now.row c.size.result c.level.result c.kind.result c.name.result.now c.value.result.now
    c.size.ensures c.level.ensures c.kind.ensures c.name.ensures c.value.ensures)
    c.push_parts.ensures.rows
