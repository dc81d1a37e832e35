use Rattle.std.proofs.Common.{◌+◌, ◌-◌, sym, ap, subst, ◌∙◌}
use Rattle.xq_sources.specs.Lent.{placed_lent}
use Rattle.xq_packed.specs.Packed.{row}
use Rattle.xq_axes.specs.Reads.{AreCopied}
use Rattle.xq_axes.proofs.Runs.{one_on}
use Rattle.xq_axes.proofs.Copying.{copied_more}
use Rattle.xq_axes.proofs.copies.CopiedVisitor.visit.Goals as goal

pub returns : goal.returns
returns c = λ _ t s n r h. (
    let x = c.args.row.now in
    let old = c.args.self.now in
    let pushed =
    ap (λ level. row x.size level x.kind c.name.result.now c.value.result.now) c.saturating_sub-level.ensures
    ∙ ap (λ name. row x.size (x.level - old.level) x.kind name c.value.result.now) c.name.ensures
    ∙ ap (λ value. row x.size (x.level - old.level) x.kind x.texts.name value) c.value.ensures in
    one_on t s n (placed_lent x) (λ m. AreCopied t s m old.level c.push_parts.new.self.rows) r
    (subst (AreCopied t s (n + 1) old.level) (sym c.in_ok-push_parts.ensures.rows)
    (copied_more t s n old.level x _ old.rows.rows r h pushed)))
