use Rattle.std.proofs.Common.{rules, ◌<◌, length, string_bytes, sym, ap, ◌∙◌}
use Rattle.xq_trees.specs.Rows.{Row}
use Rattle.xq_packed.proofs.Standing.{inside, told}
use Rattle.xq_packed.proofs.Numbering.{name-numbered}
use Rattle.xq_packed.proofs.PackedRows.name_at.Goals as goal

pub index-requires : goal.index-requires
index-requires c =
    let text = string_bytes c.self.inside.text in
    let names = c.self.inside.names in
    let shapes = c.self.inside.shapes.items in
    let here : c.args.at < length shapes = inside text names shapes c.args.at c.args.self.now c.self.view_is c.requires in
    search (rules, here)

pub get-requires : goal.get-requires
get-requires c =
    let text = string_bytes c.self.inside.text in
    let names = c.self.inside.names in
    let shapes = c.self.inside.shapes.items in
    (told text names shapes c.args.at c.index.result.now c.args.self.now c.self.invariant c.self.view_is c.requires c.index.ensures).placed.shape.named

pub returns : goal.returns
returns c =
    let text = string_bytes c.self.inside.text in
    let names = c.self.inside.names in
    let shapes = c.self.inside.shapes.items in
    let t = told text names shapes c.args.at c.index.result.now c.args.self.now c.self.invariant c.self.view_is c.requires c.index.ensures in
    sym (name-numbered names c.index.result.now.name c.get.result.now c.get.ensures).1
    ∙ ap (λ (r : Row). r.label.name) (sym t.stands)
