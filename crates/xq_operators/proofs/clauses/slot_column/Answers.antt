use Rattle.std.proofs.Common.{◌≡◌, ◌<◌, ◌++◌, ◌∷◌, [], ◌∙◌, ap, sym, subst, arith, length, map, take, slice_index_or}
use Rattle.std.proofs.lemmas.List.{map-append, take_more, length-append}
use Rattle.xq_trees.specs.Tuples.{Tuple, value_at}
use Rattle.xq_meaning.specs.Forms as Forms
use Rattle.xq_tuples.specs.Keys.{values_in}
use Rattle.xq_tuples.specs.Views.{values_of}
use Rattle.xq_meaning.specs.Items.{Item, atomized}
use Rattle.xq_meaning.specs.Readings.{items_at}
use Rattle.xq_operators.specs.Views.{tuple_at, tuples_at}
use Rattle.xq_operators.proofs.Streams.{value_read}
use Rattle.xq_operators.proofs.clauses.slot_column.Goals as goal

pub loop-index-preserved : goal.loop-index-preserved
loop-index-preserved g c =
    let i = c.loop-index.invariant in
    let old = g.L.TreeSource.forest c.args.source.now in
    let now = g.L.TreeSource.forest c.loop-index.source in
    let tuples = c.args.tuples.now in
    let slot = c.args.slot in
    let n = c.loop-index.index in
    let tuple = slice_index_or tuples n [] in
    let atoms = c.in_ok-slot_key.field-0 in
    let read = λ (t : Tuple Item). atomized old (value_at slot t) in
    let within : n < length tuples = omega (arith, c.loop-index-test.true, c.len-index-end.ensures) in
    record {
      keeps = c.slot_key.ensures.keeps ∙ i.keeps;
      was_clean = λ k. i.was_clean (c.slot_key.ensures.was_clean k);
      long = omega (arith, ap length c.in_ok-push.ensures.items, length-append c.loop-index.column.items (atoms ∷ []), i.long);
      value = λ k.
          let one : values_in atoms ≡ read (tuple_at old tuple) =
          subst (λ f. values_in atoms ≡ atomized f (items_at f (value_at slot (values_of c.tuple.result.now)))) i.keeps (c.in_ok-slot_key.ensures.value k)
          ∙ ap (λ t. atomized old (items_at old (value_at slot t))) c.tuple.ensures ∙ ap (atomized old) (sym (value_read old slot tuple)) in
          ap (map values_in) c.in_ok-push.ensures.items ∙ map-append values_in c.loop-index.column.items (atoms ∷ [])
          ∙ ap (λ l. l ++ values_in atoms ∷ []) (i.value (c.slot_key.ensures.was_clean k))
          ∙ ap (λ a. Forms.slot_values old (tuples_at old (take n tuples)) slot ++ a ∷ []) one
          ∙ sym (ap (λ ts. Forms.slot_values old (tuples_at old ts) slot) (take_more tuples n [] within)
          ∙ ap (map read) (map-append (tuple_at old) (take n tuples) (tuple ∷ []))
          ∙ map-append read (tuples_at old (take n tuples)) (tuple_at old tuple ∷ []));
    }
