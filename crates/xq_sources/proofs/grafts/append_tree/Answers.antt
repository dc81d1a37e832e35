use Rattle.std.proofs.Common.{sym, ◌∙◌, rules}
use Rattle.std.proofs.lemmas.Grind.{get_or_default_zero}
use Rattle.std.specs.Prelude.{IsTrue}
use Rattle.xq_sources.proofs.Meets.{is_next}
use Rattle.xq_sources.proofs.grafts.append_tree.Goals as goal

pub returns-in-Ok-clause-next : goal.returns-in-Ok-clause-next
returns-in-Ok-clause-next c front more same planted =
    let found = c.in-Some.ensures.lookup in
    let may : IsTrue c.may_come.result = search rules in
    let end = found.1 ∙ get_or_default_zero c.args.ends.now c.args.tree c.in-Some.end.now found.3.0 in
    is_next front more c.args.ends.now c.args.tree c.args.under c.args.parent c.args.last c.kind-kind.result c.in-Some-get.root.row c.args.rows.now.rows c.append_own.new.self.rows c.start_of-start.result c.in-Some.end.now same planted found.3.0 c.start_of-start.ensures end (sym c.in-Some-get.ensures.row) c.kind-kind.ensures (c.may_come.ensures may) c.in-Ok.ensures.fit c.in-Ok.ensures.rows
