use Rattle.std.proofs.Common.{◌≡◌, ◌∙◌, ap, sym, subst, map, length, nat_eq}
use Rattle.xq_trees.specs.Tuples.{firsts, grouped}
use Rattle.xq_trees.specs.Items.{Value}
use Rattle.xq_meaning.specs.Doing.{judged}
use Rattle.xq_meaning.specs.Forms as Forms
use Rattle.xq_tuples.specs.Keys.{rows_in}
use Rattle.xq_meaning.specs.Items.{Atom}
use Rattle.xq_operators.specs.Views.{tuples_at, GivesTuples}
use Rattle.xq_operators.proofs.Streams.{gives_stream, grouped_read, grouped_in}
use Rattle.xq_tuples.proofs.Columns.{rows_as_long}
use Rattle.xq_operators.proofs.clauses.group.Goals as goal

pub group_by_keys-requires-clause-keys : goal.group_by_keys-requires-clause-keys
group_by_keys-requires-clause-keys g c = rows_as_long (length c.args.tuples) c.in_ok-columns.columns.items c.in_ok-columns.ensures.long

pub returns-clause-gives : goal.returns-clause-gives
returns-clause-gives g c = λ k inside.
    let old = g.W.TreeSource.forest c.args.world.now in
    let slots = firsts nat_eq c.args.slots.now in
    let tuples = c.args.tuples in
    let held = c.deref-2.result.now in
    let columns = rows_in c.in_ok-columns.columns in
    let held_are : held ≡ slots = c.deref-2.ensures.value ∙ c.in_ok-slots.ensures in
    let columns_are : columns ≡ map (Forms.slot_values old (tuples_at old tuples)) slots = c.in_ok-columns.ensures.value k ∙ ap (map (Forms.slot_values old (tuples_at old tuples))) (c.deref.ensures.value ∙ c.in_ok-slots.ensures) in
    subst (λ f. GivesTuples (Forms.group_tuples c.args.slots.now (tuples_at old tuples) old) f c.group_by_keys.result) (sym c.slot_columns.ensures.keeps)
    (subst (λ m. GivesTuples (judged m old) old c.group_by_keys.result) (λ i. grouped Atom (held_are i) (tuples_at old tuples) (columns_are i))
    (gives_stream old (grouped Value held tuples columns) (grouped Atom held (tuples_at old tuples) columns) c.group_by_keys.result (grouped_read old held tuples columns) (grouped_in old held tuples columns inside) c.group_by_keys.ensures.stream c.group_by_keys.ensures.refused))
