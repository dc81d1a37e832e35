use Rattle.std.proofs.Common.{List, Option, subst}
use Rattle.std.specs.Prelude.{IfSome}
use Rattle.xq_trees.specs.declared.Axis.{Axis}
use Rattle.xq_meaning.specs.declared.node_tests.Test.{Test}
use Rattle.xq_meaning.specs.declared.plans.Plan.{Plan}
use Rattle.xq_optimise.specs.private.Filters.{LeadsTo}
use Rattle.xq_optimise.specs.private.PlainTests.{LeadsAlike}
use Rattle.xq_optimise.proofs.JoinLaws.{if_some}
use Rattle.xq_optimise.proofs.plain_tests.led_from_node.Goals as goal

pub returns : goal.returns
returns c =
    let part = c.args.part.now in
    let scans = c.in-Some.scans in
    let told = subst (λ (o : Option (List (Axis × Test))). IfSome o (λ s. LeadsTo s part)) c.in-Some.is c.in_ok-scans.ensures in
    if_some (λ (plain : Plan). LeadsTo scans plain) (λ (plain : Plan). LeadsAlike part plain) c.focus_part.result (λ plain h. (scans, told, h)) c.focus_part.ensures
