use Rattle.std.proofs.Common.{◌≡◌, not, ap, sym, ◌∙◌, rules, tests}
use Rattle.std.specs.List.{find}
use Rattle.std.specs.Option.{option_map}
use Rattle.std.proofs.lemmas.Iterator.{YieldsList-from_slice}
use Rattle.std.proofs.lemmas.Iterator.Search.{find_from_yields_List}
use Rattle.xq_atoms.specs.Compare.{key_of}
use Rattle.xq_trees.specs.Tuples.{is_nothing}
use Rattle.xq_tuples.proofs.Comparing.{like_found, like_found-all}
use Rattle.xq_tuples.proofs.order.are_of_one_kind.Goals as goal

pub returns-in-Some : goal.returns-in-Some
returns-in-Some c =
    let keys = c.args.keys.now in
    let found : option_map (λ key. key.now) c.find.result ≡ find (λ key. not (is_nothing (key_of key))) keys = find_from_yields_List (λ key. not (is_nothing (key_of key))) _ _ c.find.result c.find.ensures.ran (YieldsList-from_slice keys (cc)) (λ x b q k. search (rules, tests)) in
    let here = sym (ap (option_map (λ key. key.now)) c.in-Some.is) ∙ found in
    c.are_like.ensures ∙ ap (λ o. like_found key_of o keys) here ∙ like_found-all key_of keys

pub returns-in-None : goal.returns-in-None
returns-in-None c =
    let keys = c.args.keys.now in
    let found : option_map (λ key. key.now) c.find.result ≡ find (λ key. not (is_nothing (key_of key))) keys = find_from_yields_List (λ key. not (is_nothing (key_of key))) _ _ c.find.result c.find.ensures.ran (YieldsList-from_slice keys (cc)) (λ x b q k. search (rules, tests)) in
    let here = sym (ap (option_map (λ key. key.now)) c.in-None.is) ∙ found in
    ap (λ o. like_found key_of o keys) here ∙ like_found-all key_of keys
