use Rattle.std.proofs.Common.{Ok, ◌≡◌, map, sym, ap, subst, ◌∙◌}
use Rattle.std.specs.Prelude.{IfSome, length, slice_range}
use Rattle.xq_trees.specs.Items.{item_view, item_views}
use Rattle.xq_meaning.specs.Forms as Forms
use Rattle.xq_meaning.specs.PlanMeaning.{plan_mean}
use Rattle.xq_meaning.specs.Readings.{items_at, AreIn, IsIn}
use Rattle.xq_eval.specs.declared.positions.Span.{Span}
use Rattle.xq_eval.specs.private.Positions.{KeepsSpan}
use Rattle.xq_eval.proofs.Spans.{span_kept, span_in}
use Rattle.xq_eval.proofs.positions.keep_positional.Goals as goal

pub returns-in_ok-copied-in-Some : goal.returns-in_ok-copied-in-Some
returns-in_ok-copied-in-Some c = λ trees frame p positional inside.
    let items = c.args.items.now in
    let span = c.in-Some.span in
    let keeping = subst (λ r. IfSome r (λ (s : Span). KeepsSpan c.args.value.now (length items) s)) c.in-Some.is c.span_of.ensures in
    let copies : item_views c.in_ok-copied-in-Some.field-0 ≡ map item_view (slice_range items span.from span.to) = c.in_ok-copied-in-Some.ensures in
    subst (λ vs. AreIn trees vs × (Forms.filtered frame (items_at trees (map item_view items)) (plan_mean p) trees ≡ (Ok (items_at trees vs), trees))) (sym copies)
    (span_in (IsIn trees) item_view items span.from span.to inside, span_kept trees frame p items c.args.value.now span positional keeping)
