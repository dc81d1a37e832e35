use Rattle.std.proofs.Common.{◌∙◌, ap, arith}
use Rattle.sqlite.specs.Values.{bound}
use Rattle.xq_tables.proofs.additions.insert_together.Goals as goal

pub returns-clause-added : goal.returns-clause-added
returns-clause-added g c clean =
    c.in_ok-_count.ensures.added clean c.args.address.now c.args.rows.now c.args.numbers.now c.requires.eight (omega (arith, c.requires.eight, c.requires.numbered)) (ap bound c.deref.ensures.value ∙ c.in_ok-values.ensures)
