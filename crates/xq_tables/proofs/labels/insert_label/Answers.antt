use Rattle.std.proofs.Common.{◌≡◌, nat_abs, ◌∙◌, rules}
use Rattle.std.proofs.lemmas.Int.{to_z-of_z}
use mir.Val.{of_z, to_z}
use mir.Syntax.{w64}
use Rattle.sqlite.specs.Held.{state}
use Rattle.xq_tables.proofs.Adds.{label_inside}
use Rattle.xq_tables.proofs.Numbers.{number_within}
use Rattle.xq_tables.proofs.labels.insert_label.Goals as goal

pub returns-clause-numbered : goal.returns-clause-numbered
returns-clause-numbered g c clean =
    let old = state g.S.Store c.args.transaction.now.conn.now in
    let new = state g.S.Store c.execute.new.self.conn.now in
    let id = c.last_insert_rowid-number.result in
    let same : to_z w64 (of_z w64 id) ≡ id = search (rules, to_z-of_z) in
    let low = rw same at c.if-number-lt0.false in
    let high = rw same at c.if-number-gt-MOST.false in
    let within = number_within id low high in
    rw same (label_inside old new c.args.name.now (nat_abs id) _ c.in_ok-_count._count within.1 (within.0 ∙ c.last_insert_rowid-number.ensures) (λ outside. (c.in_ok-_count.ensures.ended outside).0) (rw c.params-to_sql.ensures at (c.in_ok-_count.ensures.runs clean)))
