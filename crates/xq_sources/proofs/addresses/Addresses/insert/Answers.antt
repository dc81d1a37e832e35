use Rattle.std.proofs.Common.{map, string_bytes, sym, ap, subst, ◌∙◌}
use Rattle.std.specs.List.{insert}
use Rattle.xq_sources.specs.Addresses.{Rise}
use Rattle.xq_sources.proofs.Rising.{map-insert, rise_insert}
use Rattle.xq_sources.proofs.addresses.Addresses.insert.Goals as goal

pub returns-clause-ok : goal.returns-clause-ok
returns-clause-ok c =
    ap (map string_bytes) c.in_ok-insert.ensures.items ∙ map-insert string_bytes c.self.inside.list.items c.args.place c.in_ok-added.added ∙ ap (insert (map string_bytes c.self.inside.list.items) c.args.place) c.in_ok-added.ensures.ok ∙ ap (λ l. insert l c.args.place c.args.address.now) c.self.view_is

pub invariant_of-self-2 : goal.invariant_of-self-2
invariant_of-self-2 c =
    subst Rise (sym (returns-clause-ok c)) (rise_insert c.args.self.now c.args.place c.args.address.now (subst Rise c.self.view_is c.self.invariant) c.requires)
