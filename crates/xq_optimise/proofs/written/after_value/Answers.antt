use Rattle.std.proofs.Common.{◌≡◌, Option, subst}
use Rattle.std.specs.Prelude.{IfSome}
use Rattle.xq_meaning.specs.declared.joins.JoinKey.{JoinKey}
use Rattle.xq_meaning.specs.declared.joins.KeyForm.TheVariants as key_form
use Rattle.xq_optimise.specs.private.Joins.{StartsAt}
use Rattle.xq_optimise.proofs.WrittenOut.{part_continues}
use Rattle.xq_optimise.proofs.written.after_value.Goals as goal

pub returns : goal.returns
returns c =
    let from = subst (λ (o : Option JoinKey). IfSome o (λ key. (key.form ≡ key_form.Value) × StartsAt key.slot key.scans c.args.value.now)) c.in-Some.is c.in_ok-start.ensures in
    part_continues c.args.value.now c.in_ok-path_from.field-0 c.in-Some.start.slot c.args.key.slot c.in-Some.start.scans c.args.key.scans c.append.new.self
    from.1 c.in_ok-append.ensures c.in_ok-path_from.ensures
