use Rattle.std.proofs.Common.{None, ap, sym, ◌∙◌}
use Rattle.xq_tuples.specs.private.KeyRows.{key_view}
use Rattle.xq_tuples.proofs.Reading.{read_or, read_or-is}
use Rattle.xq_tuples.proofs.keys.key_in.Goals as goal

pub returns-in-Some : goal.returns-in-Some
returns-in-Some c =
    ap key_view c.as_ref.ensures.value ∙ ap (read_or key_view None) (sym c.in-Some.is) ∙ read_or-is key_view None c.args.column.now c.args.number c.get.result c.get.ensures.lookup.0 c.get.ensures.lookup.1

pub returns-in-None : goal.returns-in-None
returns-in-None c =
    ap (read_or key_view None) (sym c.in-None.is) ∙ read_or-is key_view None c.args.column.now c.args.number c.get.result c.get.ensures.lookup.0 c.get.ensures.lookup.1
