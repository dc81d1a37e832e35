use Rattle.std.proofs.Common.{◌≡◌, ◌==◌, Some, None, ap, sym, ◌∙◌, rules, tests}
use Rattle.std.specs.Prelude.{position, slice_get, option_and_then}
use Rattle.std.proofs.lemmas.Iterator.{YieldsList-from_slice}
use Rattle.std.proofs.lemmas.Iterator.Search.{position_from_yields_List}
use Rattle.xq_tuples.specs.private.KeyRows.{keys_at}
use Rattle.xq_tuples.proofs.groups.slot_key.Goals as goal

pub returns-in-Some : goal.returns-in-Some
returns-in-Some c =
    let found : c.position.result ≡ position (λ s. s == c.args.slot) c.args.slots.now = position_from_yields_List (λ s. s == c.args.slot) _ _ c.position.result c.position.ensures.ran (YieldsList-from_slice c.args.slots.now (cc)) (λ x b q k. search (rules, tests)) in
    let here : position (λ s. s == c.args.slot) c.args.slots.now ≡ Some c.in-Some.place = sym found ∙ c.in-Some.is in
    c.key_of_variable.ensures ∙ ap (option_and_then (slice_get (keys_at c.args.number c.args.columns.now))) (sym here)

pub returns-in-None : goal.returns-in-None
returns-in-None c =
    let found : c.position.result ≡ position (λ s. s == c.args.slot) c.args.slots.now = position_from_yields_List (λ s. s == c.args.slot) _ _ c.position.result c.position.ensures.ran (YieldsList-from_slice c.args.slots.now (cc)) (λ x b q k. search (rules, tests)) in
    let here : position (λ s. s == c.args.slot) c.args.slots.now ≡ None = sym found ∙ c.in-None.is in
    ap (option_and_then (slice_get (keys_at c.args.number c.args.columns.now))) (sym here)
