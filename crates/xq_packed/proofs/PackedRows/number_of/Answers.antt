use Rattle.std.proofs.Common.{◌≡◌, false, string_bytes, subst}
use Rattle.std.specs.Prelude.{bytes_eq, IfSome}
use Rattle.std.specs.List.{list_any}
use Rattle.xq_packed.specs.Packed.{Packed, IsNumberOf, NoneNamed}
use Rattle.xq_packed.proofs.Standing.{none-named}
use Rattle.xq_packed.proofs.Judging.{if_none}
use Rattle.xq_packed.proofs.PackedRows.number_of.Goals as goal

pub returns-clause-number : goal.returns-clause-number
returns-clause-number c =
    subst (λ (p : Packed). IfSome c.number_of.result (λ number. IsNumberOf p.names number c.args.name.now)) c.self.view_is c.number_of.ensures.number

pub returns-clause-none : goal.returns-clause-none
returns-clause-none c =
    let text = string_bytes c.self.inside.text in
    let names = c.self.inside.names in
    let shapes = c.self.inside.shapes.items in
    let name = c.args.name.now in
    if_none (list_any (bytes_eq name) names ≡ false) (NoneNamed c.args.self.now.rows name) (none-named text names shapes name c.args.self.now c.self.invariant c.self.view_is) c.number_of.result c.number_of.ensures.none
