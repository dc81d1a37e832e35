use Rattle.std.proofs.Common.{◌≡◌, Option, arith, subst}
use Rattle.std.specs.Prelude.{IfSome}
use Rattle.xq_meaning.specs.declared.joins.JoinKey.{JoinKey}
use Rattle.xq_meaning.specs.declared.joins.KeyForm.TheVariants as key_form
use Rattle.xq_meaning.specs.declared.plans.Plan.{Plan}
use Rattle.xq_optimise.specs.private.Filters.{LeadsTo}
use Rattle.xq_optimise.specs.private.FirstTests.{SameAtNode}
use Rattle.xq_optimise.specs.private.Joins.{StartsAt}
use Rattle.xq_optimise.proofs.AtNodes as nodes
use Rattle.xq_optimise.proofs.JoinLaws.{if_some}
use Rattle.xq_optimise.proofs.at_nodes.key_at_node.Goals as goal

pub returns : goal.returns
returns c =
    let p = c.args.plan.now in
    let key = c.in-Some.key in
    let told = subst (λ (o : Option JoinKey). IfSome o (λ k. (k.form ≡ key_form.Value) × StartsAt k.slot k.scans p)) c.in-Some.is c.in_ok-key.ensures in
    if_some (λ (part : Plan). LeadsTo key.scans part) (λ (part : Plan). SameAtNode c.args.slot p part) c.focus_part.result
    (λ part h. nodes.key_at_node c.args.slot p part key (omega arith) told.0 told.1 h) c.focus_part.ensures
