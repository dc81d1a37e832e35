use Rattle.std.proofs.Common.{rules, ◌<◌, length, string_bytes}
use Rattle.xq_packed.proofs.Standing.{inside, describes}
use Rattle.xq_packed.proofs.PackedRows.shape_at.Goals as goal

pub index-requires : goal.index-requires
index-requires c =
    let text = string_bytes c.self.inside.text in
    let names = c.self.inside.names in
    let shapes = c.self.inside.shapes.items in
    let here : c.args.at < length shapes = inside text names shapes c.args.at c.args.self.now c.self.view_is c.requires in
    search (rules, here)

pub returns : goal.returns
returns c =
    let text = string_bytes c.self.inside.text in
    let names = c.self.inside.names in
    let shapes = c.self.inside.shapes.items in
    describes text names shapes c.args.at c.index.result.now c.args.self.now c.self.invariant c.self.view_is c.requires c.index.ensures
