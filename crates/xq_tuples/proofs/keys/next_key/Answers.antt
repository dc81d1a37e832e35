use Rattle.std.proofs.Common.{◌≡◌, [], map, drop, slice_index_or, ap, sym, ◌∙◌, arith}
use Rattle.std.specs.Vec.Iter.{into_iter_items}
use Rattle.std.proofs.lemmas.List.{nil_from_length}
use Rattle.xq_atoms.specs.Atom.{atomic_of}
use Rattle.xq_tuples.specs.Keys.{values_in}
use Rattle.xq_tuples.proofs.keys.next_key.Goals as goal

pub returns-in-Some-clause-key : goal.returns-in-Some-clause-key
returns-in-Some-clause-key c = ap (λ keys. slice_index_or (map values_in keys) 0 []) (sym c.in-Some.ensures.items)

pub returns-in-Some-clause-later : goal.returns-in-Some-clause-later
returns-in-Some-clause-later c = ap (λ keys. drop 1 (map values_in keys)) (sym c.in-Some.ensures.items)

pub returns-in-None-clause-key : goal.returns-in-None-clause-key
returns-in-None-clause-key c =
    let old = c.args.keys.now in
    let none : into_iter_items old ≡ [] = nil_from_length _ (omega (arith, old.rest.ok.0, c.in-None.ensures.cases.0)) in
    ap (map atomic_of) c.new.ensures.items ∙ ap (λ keys. slice_index_or (map values_in keys) 0 []) (sym none)

pub returns-in-None-clause-later : goal.returns-in-None-clause-later
returns-in-None-clause-later c =
    let old = c.args.keys.now in
    let left = c.next.new.self in
    let none : into_iter_items old ≡ [] = nil_from_length _ (omega (arith, old.rest.ok.0, c.in-None.ensures.cases.0)) in
    let gone : into_iter_items left ≡ [] = nil_from_length _ (omega (arith, left.rest.ok.0, c.in-None.ensures.cases.1)) in
    ap (map values_in) gone ∙ ap (λ keys. drop 1 (map values_in keys)) (sym none)
