use Rattle.std.proofs.Common.{sym, ◌∙◌}
use Rattle.xq_build.proofs.Contents.{kept_added, none_kept}
use Rattle.xq_build.proofs.content.append_kept.Goals as goal

pub returns-then-not-is_kept : goal.returns-then-not-is_kept
returns-then-not-is_kept c = none_kept c.args.rows.now.rows c.args.row.now.row (sym c.is_kept.ensures ∙ c.if-not-is_kept.true)

pub returns : goal.returns
returns c = kept_added c.args.rows.now.rows c.append_row.new.rows.rows c.args.row.now.row (sym c.is_kept.ensures ∙ c.if-not-is_kept.false) c.in_ok-append_row.ensures
