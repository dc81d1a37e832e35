use Rattle.std.proofs.Common.{◌≡◌, Ok, length, sym, subst, ◌∙◌, ap}
use Rattle.std.specs.List.{All}
use Rattle.std.specs.Prelude.{IfOk, IfErr}
use Rattle.std.proofs.lemmas.List.{length-map}
use Rattle.xq_atoms.specs.Answers.{IsRefusal}
use Rattle.xq_trees.specs.Tuples.{grouped}
use Rattle.xq_trees.specs.Items.{Value}
use Rattle.xq_tuples.specs.Keys.{column_of, row_of}
use Rattle.xq_tuples.proofs.Columns.{lists_as_long}
use Rattle.xq_tuples.proofs.streams.Tuples.group.Goals as goal

pub group_by_keys-requires : goal.group_by_keys-requires
group_by_keys-requires c = record {
  slots = c.requires.slots ∙ sym (length-map c.args.keys.items column_of) ∙ ap length (sym c.in_ok-columns.ensures.keys) ∙ length-map c.in_ok-columns.columns.items row_of;
  keys = subst (λ columns. All (λ column. length column ≡ length c.args.self) columns) (sym c.in_ok-columns.ensures.keys) (lists_as_long (length c.args.self) c.args.keys.items c.requires.keys);
}

pub returns-clause-stream : goal.returns-clause-stream
returns-clause-stream c =
    subst (λ columns. IfOk c.group_by_keys.result (λ stream. grouped Value c.args.slots.now c.args.self columns ≡ Ok stream)) c.in_ok-columns.ensures.keys c.group_by_keys.ensures.stream

pub returns-clause-refused : goal.returns-clause-refused
returns-clause-refused c =
    subst (λ columns. IfErr c.group_by_keys.result (IsRefusal (grouped Value c.args.slots.now c.args.self columns))) c.in_ok-columns.ensures.keys c.group_by_keys.ensures.refused
