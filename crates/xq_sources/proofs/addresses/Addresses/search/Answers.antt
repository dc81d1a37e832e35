use Rattle.std.proofs.Common.{◌+◌, ◌-◌, ◌/◌, map, string_bytes, Some, sym, ap, subst, ◌∙◌, arith}
use Rattle.std.specs.Prelude.{slice_get}
use Rattle.std.proofs.lemmas.List.{length-map}
use Rattle.xq_sources.specs.Addresses.{Rise}
use Rattle.xq_sources.proofs.Rising.{goes_left, goes_right, is_after, is_same, text_at}
use Rattle.xq_sources.proofs.addresses.Addresses.search.Goals as goal

pub loop-low-preserved-in-Less : goal.loop-low-preserved-in-Less
loop-low-preserved-in-Less c =
    let items = c.self.inside.list.items in
    let middle = c.loop-low.low + (c.loop-low.high - c.loop-low.low) / 2 in
    let here = text_at items middle c.index.result.now (let many = length-map items string_bytes in let w = c.loop-low.invariant.within in omega (arith, many, w)) c.index.ensures ∙ ap Some (sym c.as_str.ensures.value) in
    goes_right (map string_bytes items) c.args.address.now c.as_str.result.now c.loop-low.low middle c.loop-low.high c.self.invariant c.loop-low.invariant here (omega arith) (sym c.cmp.ensures ∙ c.in-Less.is)

pub returns-in-Equal-clause-found : goal.returns-in-Equal-clause-found
returns-in-Equal-clause-found c =
    let items = c.self.inside.list.items in
    let middle = c.loop-low.low + (c.loop-low.high - c.loop-low.low) / 2 in
    let here = text_at items middle c.index.result.now (let many = length-map items string_bytes in let w = c.loop-low.invariant.within in omega (arith, many, w)) c.index.ensures ∙ ap Some (sym c.as_str.ensures.value) in
    ap (λ l. slice_get l middle) (sym c.self.view_is) ∙ here ∙ ap Some (is_same c.as_str.result.now c.args.address.now (sym c.cmp.ensures ∙ c.in-Equal.is))

pub returns-in-Equal-clause-rise : goal.returns-in-Equal-clause-rise
returns-in-Equal-clause-rise c = subst Rise c.self.view_is c.self.invariant

pub loop-low-preserved : goal.loop-low-preserved
loop-low-preserved c =
    let items = c.self.inside.list.items in
    let middle = c.loop-low.low + (c.loop-low.high - c.loop-low.low) / 2 in
    let here = text_at items middle c.index.result.now (let many = length-map items string_bytes in let w = c.loop-low.invariant.within in omega (arith, many, w)) c.index.ensures ∙ ap Some (sym c.as_str.ensures.value) in
    goes_left (map string_bytes items) c.args.address.now c.as_str.result.now c.loop-low.low middle c.loop-low.high c.self.invariant c.loop-low.invariant here (omega arith) (omega arith) (is_after c.as_str.result.now c.args.address.now (sym c.cmp.ensures ∙ c.in-Greater.is))
