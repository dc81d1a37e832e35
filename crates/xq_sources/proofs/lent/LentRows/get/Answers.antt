use Rattle.std.proofs.Common.{Some, sym, ap, ◌∙◌, arith}
use Rattle.xq_sources.proofs.Forms.{as_many, is_got, none_got}
use Rattle.xq_sources.proofs.lent.LentRows.get.Goals as goal

pub returns-then-at-high-clause-row : goal.returns-then-at-high-clause-row
returns-then-at-high-clause-row c =
    ap Some c.packed_row.ensures
    ∙ sym (is_got c.self.inside.form c.in-Packed.rows c.in-Packed.base c.in-Packed.low c.in-Packed.high c.args.self.now c.in-Packed.is c.self.view_is c.self.invariant c.args.at c.if-at-high.true)

pub returns-then-at-high-clause-within : goal.returns-then-at-high-clause-within
returns-then-at-high-clause-within c =
    omega (arith, as_many c.self.inside.form c.in-Packed.rows c.in-Packed.base c.in-Packed.low c.in-Packed.high c.args.self.now c.in-Packed.is c.self.view_is c.self.invariant, c.if-at-high.true)

pub returns-else-at-high-clause-row : goal.returns-else-at-high-clause-row
returns-else-at-high-clause-row c =
    sym (none_got c.self.inside.form c.in-Packed.rows c.in-Packed.base c.in-Packed.low c.in-Packed.high c.args.self.now c.in-Packed.is c.self.view_is c.self.invariant c.args.at c.if-at-high.false)
