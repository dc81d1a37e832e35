use Rattle.std.proofs.Common.{◌∙◌, ap, false, map, sym}
use Rattle.std.specs.Prelude.{filter}
use Rattle.xq_trees.specs.Levels.{flat}
use Rattle.xq_build.specs.private.Content.{is_kept}
use Rattle.xq_build.proofs.Contents.{settled_same, settled_kept}
use Rattle.xq_build.proofs.content.settled.Goals as goal

pub returns-then-are_settled : goal.returns-then-are_settled
returns-then-are_settled c = sym (settled_same (map flat c.args.rows.rows) (sym c.are_settled.ensures ∙ c.if-are_settled.true))

pub returns-then-are_settled-2 : goal.returns-then-are_settled-2
returns-then-are_settled-2 c =
    sym (settled_kept false (map flat c.in_ok-all.all.rows) (sym c.are_settled-2.ensures ∙ c.if-are_settled-2.true)) ∙ ap (filter is_kept) c.in_ok-all.ensures
