use Rattle.std.proofs.Common.{length, subst, ◌∙◌}
use Rattle.xq_meaning.specs.declared.plans.Plan.TheVariants as plan
use Rattle.xq_optimise.specs.Same.{GivesSame}
use Rattle.xq_optimise.specs.private.Joins.{SameList}
use Rattle.xq_optimise.specs.private.Order.{SameTurns}
use Rattle.xq_optimise.proofs.Forms as forms
use Rattle.xq_optimise.proofs.Rising.{flwor_sorted}
use Rattle.xq_optimise.proofs.walk.joined.Goals as goal

pub returns-in_ok-joined-in-Flwor-clause-same : goal.returns-in_ok-joined-in-Flwor-clause-same
returns-in_ok-joined-in-Flwor-clause-same c =
    let known = c.args.known.now.items in
    let list = c.in-Flwor.list in
    let part = c.in-Flwor.part in
    let first = c.in_ok-first-in-Flwor.first in
    let sorted = c.in_ok-sorted-in-Flwor.sorted in
    let used = c.in_ok-used-in-Flwor.used in
    let joined = c.in_ok-joined-in-Flwor.joined in
    let one = c.in_ok-first-in-Flwor.ensures.kept in
    let two = c.in_ok-sorted-in-Flwor.ensures.kept ∙ one in
    let risen = subst (λ k. SameTurns (length k) k first sorted) one c.in_ok-sorted-in-Flwor.ensures.same in
    let shorter = subst (λ k. GivesSame k (plan.Flwor sorted part) (plan.Flwor used part)) two
    (subst (λ p. GivesSame c.arranged.new.known.items (plan.Flwor sorted p) (plan.Flwor used p)) c.get.ensures c.in_ok-used-in-Flwor.ensures.same) in
    let turns = subst (λ n. SameList n used joined) (c.len-outer.ensures ∙ c.args.known.now.ok.0) c.in_ok-joined-in-Flwor.ensures in
    forms.gives_at known c.args.plan (plan.Flwor list part) (plan.Flwor joined part) c.in-Flwor.is
    (forms.then_gives known (plan.Flwor list part) (plan.Flwor first part) (plan.Flwor joined part) (c.in_ok-first-in-Flwor.ensures.same part)
    (forms.then_gives known (plan.Flwor first part) (plan.Flwor sorted part) (plan.Flwor joined part) (flwor_sorted known first sorted part risen)
    (forms.then_gives known (plan.Flwor sorted part) (plan.Flwor used part) (plan.Flwor joined part) shorter
    (flwor_sorted known used joined part (λ slots focus addresses l tuples trees w. turns slots focus addresses l tuples trees)))))

pub returns-in_ok-joined-in-Flwor-clause-kept : goal.returns-in_ok-joined-in-Flwor-clause-kept
returns-in_ok-joined-in-Flwor-clause-kept c =
    c.in_ok-used-in-Flwor.ensures.kept ∙ c.in_ok-sorted-in-Flwor.ensures.kept ∙ c.in_ok-first-in-Flwor.ensures.kept
