use Rattle.std.proofs.Common.{◌≡◌, ◌<◌, ◌+◌, [], ◌∷◌, ◌++◌, map, take, length, ap, sym, ◌∙◌, arith, rules, to_z, of_z, w64}
use Rattle.std.specs.List.{enumerate_from}
use Rattle.std.proofs.lemmas.List.{map_push, map_more, length-map, length-take}
use Rattle.xq_atoms.specs.Compare.{Number, key_of}
use Rattle.xq_tuples.specs.private.Ranks.{first_of}
use Rattle.xq_tuples.proofs.Lists.{enumerate_push}
use Rattle.xq_tuples.proofs.order.small_numbers.Goals as goal

pub loop-number-preserved : goal.loop-number-preserved
loop-number-preserved c =
    let n = c.loop-number.number in
    let column = c.args.column.now in
    let key = c.index-column-number.result in
    let keys = map key_of (take n column) in
    let within : n < length column = omega arith in
    let long : length keys ≡ n = omega (arith, length-map (take n column) key_of, length-take n column) in
    let next : map key_of (take (n + 1) column) ≡ keys ++ key_of key ∷ [] = map_more key_of column n key within ∙ ap (λ k. keys ++ key_of k ∷ []) (sym c.index-column-number.is) in
    let same : to_z w64 (of_z w64 c.in-Some.first) ≡ c.in-Some.first = search rules in
    let meant = ap Number same ∙ sym c.in-Some.ensures in
    ap (map first_of) c.in_ok-push.ensures.items
    ∙ map_push first_of c.loop-number.rows.items (record { first = to_z w64 (of_z w64 c.in-Some.first); number = n })
    ∙ (λ t. c.loop-number.invariant t ++ (n, meant t) ∷ [])
    ∙ sym (ap (enumerate_from 0) next ∙ enumerate_push 0 keys (key_of key) n (omega (arith, long)))
