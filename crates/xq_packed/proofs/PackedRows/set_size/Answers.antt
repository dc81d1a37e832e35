use Rattle.std.proofs.Common.{rules, ◌<◌, length, set, string_bytes, sym, ap, ◌∙◌, subst}
use Rattle.xq_packed.specs.declared.shapes.Shape.{Shape}
use Rattle.xq_packed.specs.Packed.{Packed}
use Rattle.xq_packed.specs.Changes.{with_size}
use Rattle.xq_packed.specs.private.Shapes.{rows_of_shapes, IsKept}
use Rattle.xq_packed.proofs.Standing.{inside}
use Rattle.xq_packed.proofs.Changing.{sized_shape, kept-sized, rows-sized}
use Rattle.xq_packed.proofs.PackedRows.set_size.Goals as goal

pub index_mut-requires : goal.index_mut-requires
index_mut-requires c =
    let text = string_bytes c.self.inside.text in
    let names = c.self.inside.names in
    let shapes = c.self.inside.shapes.items in
    let here : c.args.at < length shapes = inside text names shapes c.args.at c.args.self.now c.self.view_is c.requires in
    search (rules, here)

pub invariant_of-self : goal.invariant_of-self
invariant_of-self c =
    let text = string_bytes c.self.inside.text in
    let names = c.self.inside.names in
    let shapes = c.self.inside.shapes.items in
    let s = c.index_mut.result.now in
    subst (λ (q : Shape). IsKept text names (set shapes c.args.at (sized_shape c.args.size q))) (sym c.index_mut.ensures.value) (kept-sized text names shapes c.args.at c.args.size s c.self.invariant)

pub returns-clause-rows : goal.returns-clause-rows
returns-clause-rows c =
    let text = string_bytes c.self.inside.text in
    let names = c.self.inside.names in
    let shapes = c.self.inside.shapes.items in
    let s = c.index_mut.result.now in
    ap (λ (q : Shape). rows_of_shapes text names 0 (set shapes c.args.at (sized_shape c.args.size q))) c.index_mut.ensures.value
    ∙ rows-sized text names 0 shapes c.args.at c.args.size s
    ∙ ap (λ (p : Packed). with_size c.args.at c.args.size p.rows) c.self.view_is
