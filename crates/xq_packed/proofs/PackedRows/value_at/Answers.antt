use Rattle.std.proofs.Common.{rules, ◌≡◌, ◌<◌, length, string_bytes, sym, ap, ◌∙◌, subst, arith}
use Rattle.std.proofs.lemmas.Str.{IsUtf8-string_bytes, IsCharBoundary-from_take}
use Rattle.std.specs.Prelude.{slice_range, IsCharBoundary}
use Rattle.xq_trees.specs.Rows.{Row}
use Rattle.xq_packed.specs.private.Shapes.{value_end, value_start}
use Rattle.xq_packed.proofs.Standing.{inside, told}
use Rattle.xq_packed.proofs.PackedRows.value_at.Goals as goal

pub start_at-start-requires : goal.start_at-start-requires
start_at-start-requires c =
    let text = string_bytes c.self.inside.text in
    let names = c.self.inside.names in
    let shapes = c.self.inside.shapes.items in
    let here : c.args.at < length shapes = inside text names shapes c.args.at c.args.self.now c.self.view_is c.requires in
    omega (arith, here, ap length c.deref.ensures.value)

pub index-requires : goal.index-requires
index-requires c =
    let text = string_bytes c.self.inside.text in
    let names = c.self.inside.names in
    let shapes = c.self.inside.shapes.items in
    let here : c.args.at < length shapes = inside text names shapes c.args.at c.args.self.now c.self.view_is c.requires in
    search (rules, here)

pub range-requires-clause-start_le_end : goal.range-requires-clause-start_le_end
range-requires-clause-start_le_end c =
    let text = string_bytes c.self.inside.text in
    let names = c.self.inside.names in
    let shapes = c.self.inside.shapes.items in
    let t = told text names shapes c.args.at c.index.result.now c.args.self.now c.self.invariant c.self.view_is c.requires c.index.ensures in
    let from : c.start_at-start.result ≡ value_start 0 shapes c.args.at = c.start_at-start.ensures ∙ ap (λ ss. value_start 0 ss c.args.at) c.deref.ensures.value in
    omega (arith, t.placed.shape.rises, from, c.value_end-end.ensures)

pub range-requires-clause-start_boundary : goal.range-requires-clause-start_boundary
range-requires-clause-start_boundary c above =
    let text = string_bytes c.self.inside.text in
    let names = c.self.inside.names in
    let shapes = c.self.inside.shapes.items in
    let t = told text names shapes c.args.at c.index.result.now c.args.self.now c.self.invariant c.self.view_is c.requires c.index.ensures in
    let from : c.start_at-start.result ≡ value_start 0 shapes c.args.at = c.start_at-start.ensures ∙ ap (λ ss. value_start 0 ss c.args.at) c.deref.ensures.value in
    subst (λ i. IsCharBoundary c.deref-2.result.now i) (sym from)
    (subst (λ s. IsCharBoundary s (value_start 0 shapes c.args.at)) (sym c.deref-2.ensures)
    (IsCharBoundary-from_take text (value_start 0 shapes c.args.at) (IsUtf8-string_bytes c.self.inside.text) t.placed.start_within t.placed.start_cut))

pub range-requires-clause-end_boundary : goal.range-requires-clause-end_boundary
range-requires-clause-end_boundary c =
    let text = string_bytes c.self.inside.text in
    let names = c.self.inside.names in
    let shapes = c.self.inside.shapes.items in
    let t = told text names shapes c.args.at c.index.result.now c.args.self.now c.self.invariant c.self.view_is c.requires c.index.ensures in
    subst (λ i. IsCharBoundary c.deref-2.result.now i) (sym c.value_end-end.ensures)
    (subst (λ s. IsCharBoundary s (value_end c.index.result.now)) (sym c.deref-2.ensures)
    (IsCharBoundary-from_take text (value_end c.index.result.now) (IsUtf8-string_bytes c.self.inside.text) t.placed.shape.within t.placed.shape.cut))

pub returns : goal.returns
returns c =
    let text = string_bytes c.self.inside.text in
    let names = c.self.inside.names in
    let shapes = c.self.inside.shapes.items in
    let t = told text names shapes c.args.at c.index.result.now c.args.self.now c.self.invariant c.self.view_is c.requires c.index.ensures in
    let from : c.start_at-start.result ≡ value_start 0 shapes c.args.at = c.start_at-start.ensures ∙ ap (λ ss. value_start 0 ss c.args.at) c.deref.ensures.value in
    c.range.ensures.value
    ∙ ap (λ s. slice_range s c.start_at-start.result c.value_end-end.result) c.deref-2.ensures
    ∙ ap (λ i. slice_range text i c.value_end-end.result) from
    ∙ ap (λ i. slice_range text (value_start 0 shapes c.args.at) i) c.value_end-end.ensures
    ∙ ap (λ (r : Row). r.label.value) (sym t.stands)
