use Rattle.std.proofs.Common.{map, slice_index_or, ap, sym, ◌∙◌}
use Rattle.std.specs.Global.{Vec}
use Rattle.xq_atoms.specs.declared.atoms.GroupKey.{GroupKey}
use Rattle.xq_atoms.specs.Compare.{Key, Nothing, key_of}
use Rattle.xq_tuples.specs.private.Groups.{compared_of}
use Rattle.xq_tuples.specs.private.Ranks.{key_in}
use Rattle.xq_tuples.proofs.Reading.{read_or, read_or-is}
use Rattle.xq_tuples.proofs.order.key_of_tuple.Goals as goal

pub returns-in-Some : goal.returns-in-Some
returns-in-Some c = λ empty.
    let number = c.args.number in
    let key : Vec GroupKey → Key = λ column. key_in number (compared_of column) in
    c.key_at.ensures
    ∙ ap (λ keys. slice_index_or (map key_of keys) number (key_of c.args.empty.now)) c.as_slice.ensures.value
    ∙ ap (slice_index_or (compared_of c.in-Some.column.now) number) empty
    ∙ ap (read_or key Nothing) (sym c.in-Some.is)
    ∙ read_or-is key Nothing c.args.columns.now c.args.index c.get.result c.get.ensures.lookup.0 c.get.ensures.lookup.1

pub returns-in-None : goal.returns-in-None
returns-in-None c = λ empty.
    let key : Vec GroupKey → Key = λ column. key_in c.args.number (compared_of column) in
    empty ∙ ap (read_or key Nothing) (sym c.in-None.is) ∙ read_or-is key Nothing c.args.columns.now c.args.index c.get.result c.get.ensures.lookup.0 c.get.ensures.lookup.1
