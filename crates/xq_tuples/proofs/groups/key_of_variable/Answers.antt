use Rattle.std.proofs.Common.{map, Some, None, Bor, Option, ap, sym, ◌∙◌}
use Rattle.std.specs.Prelude.{slice_index_or}
use Rattle.std.specs.Global.{Vec}
use Rattle.std.specs.Option.{option_map}
use Rattle.xq_atoms.specs.declared.atoms.Atom.{Atom}
use Rattle.xq_tuples.specs.private.KeyRows.{key_view, key_at}
use Rattle.xq_tuples.proofs.Reading.{read_at}
use Rattle.xq_tuples.proofs.groups.key_of_variable.Goals as goal

pub returns-in-Some : goal.returns-in-Some
returns-in-Some c =
    let number = c.args.number in
    ap Some (c.key_in.ensures ∙ ap (λ keys. slice_index_or (map key_view keys) number None) c.as_slice.ensures.value)
    ∙ ap (option_map (λ (column : Bor (Vec (Option Atom))). key_at number column.now)) (sym c.in-Some.is)
    ∙ read_at (key_at number) c.args.columns.now c.args.place c.get.result c.get.ensures.lookup.0 c.get.ensures.lookup.1

pub returns-in-None : goal.returns-in-None
returns-in-None c =
    let number = c.args.number in
    ap (option_map (λ (column : Bor (Vec (Option Atom))). key_at number column.now)) (sym c.in-None.is)
    ∙ read_at (key_at number) c.args.columns.now c.args.place c.get.result c.get.ensures.lookup.0 c.get.ensures.lookup.1
