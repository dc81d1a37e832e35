use Rattle.std.proofs.Common.{sym, subst, ℕ, Option}
use Rattle.std.proofs.lemmas.Result.{IfOk-weaker}
use Rattle.xq_optimise.specs.private.Joins.{Carries}
use Rattle.xq_optimise.proofs.JoinLaws.{SameRange, range_kept, range_moved, join_added}
use Rattle.xq_optimise.proofs.joins.with_range.Goals as goal

pub returns-in-None : goal.returns-in-None
returns-in-None c = λ test carries is.
    let outer = c.args.outer in
    let range = c.args.range in
    let join = c.args.join in
    let same = subst (λ (o : Option ℕ). SameRange outer o range range) (sym c.in-None.is) (range_kept outer range (subst (λ (o : Option ℕ). Carries outer o range) c.in-None.is carries)) in
    IfOk-weaker c.pushed-in-None.result _ _
    (λ after h. join_added outer range range test join c.args.found after same is h) c.pushed-in-None.ensures

pub returns-in_ok-moved-in-Some : goal.returns-in_ok-moved-in-Some
returns-in_ok-moved-in-Some c = λ test carries is.
    let outer = c.args.outer in
    let range = c.args.range in
    let join = c.args.join in
    let slot = c.in-Some.field-0 in
    let moved = c.in_ok-moved-in-Some.moved in
    let at = c.in_ok-moved-in-Some.ensures slot (subst (λ (o : Option ℕ). Carries outer o range) c.in-Some.is carries) in
    let same = subst (λ (o : Option ℕ). SameRange outer o range moved) (sym c.in-Some.is) (range_moved outer slot range moved at) in
    IfOk-weaker c.pushed.result _ _
    (λ after h. join_added outer range moved test join c.args.found after same is h) c.pushed.ensures
