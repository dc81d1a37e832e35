use Rattle.std.proofs.Common.{map, string_bytes, sym, ap, subst, ◌∙◌}
use Rattle.std.specs.List.{remove}
use Rattle.xq_sources.specs.Addresses.{Rise}
use Rattle.xq_sources.proofs.Rising.{map-remove, rise_remove}
use Rattle.xq_sources.proofs.addresses.Addresses.remove.Goals as goal

pub returns : goal.returns
returns c = ap (map string_bytes) c.remove-removed.ensures.items ∙ map-remove string_bytes c.self.inside.list.items c.args.place ∙ ap (λ l. remove l c.args.place) c.self.view_is

pub invariant_of-self : goal.invariant_of-self
invariant_of-self c = subst Rise (sym (returns c)) (rise_remove c.args.self.now c.args.place (subst Rise c.self.view_is c.self.invariant))
