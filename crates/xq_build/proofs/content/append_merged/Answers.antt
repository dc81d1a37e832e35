use Rattle.std.proofs.Common.{◌∙◌, sym}
use Rattle.xq_build.proofs.Contents.{one_lengthened, one_added}
use Rattle.xq_build.proofs.content.append_merged.Goals as goal

pub returns-then-branch : goal.returns-then-branch
returns-then-branch c =
    let w = one_lengthened c.args.rows.now.rows c.extend_last.new.self.rows c.args.row.now.row c.value.result.now
    (sym c.if-branch.true ∙ c.in_ok-continues_text.ensures.told) (c.in_ok-continues_text.ensures.nameless c.if-branch.true) c.value.ensures c.in_ok-extend_last.ensures.rows in
    record { merges = w.merges; apart = w.apart }

pub returns : goal.returns
returns c =
    let w = one_added c.args.rows.now.rows c.append_row.new.rows.rows c.args.row.now.row (sym c.if-branch.false ∙ c.in_ok-continues_text.ensures.told) c.in_ok-append_row.ensures in
    record { merges = w.merges; apart = w.apart }
