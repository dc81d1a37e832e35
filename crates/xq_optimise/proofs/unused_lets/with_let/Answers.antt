use Rattle.std.proofs.Common.{◌≡◌, ◌∷◌, ◌++◌, [], ap, length, refl, rules, subst, true, ◌∙◌}
use Rattle.std.proofs.lemmas.Result.{IfOk-weaker}
use Rattle.xq_meaning.specs.declared.plans.PlanClause.TheVariants as clause
use Rattle.xq_optimise.specs.Sure.{SurelyNodes}
use Rattle.xq_optimise.specs.private.Joins.{IsOutside}
use Rattle.xq_optimise.specs.private.Parts.{SameClauses}
use Rattle.xq_optimise.proofs.Elements.{on_ok}
use Rattle.xq_optimise.proofs.Loops.{scope_left}
use Rattle.xq_optimise.proofs.UnusedLets.{drop_last, keep_last}
use Rattle.xq_optimise.proofs.unused_lets.with_let.Goals as goal

pub returns-then-is_dropped-clause-same : goal.returns-then-is_dropped-clause-same
returns-then-is_dropped-clause-same c =
    let known = c.args.known.now.items in
    let last = c.followed.new.known.items in
    let found = c.in_ok-found.found in
    let start = c.len-outer.ensures ∙ c.args.known.now.ok.0 in
    let same = subst (λ n. SameClauses n known c.args.before found last) start c.in_ok-found.ensures.same in
    let dropped : c.is_unused-is_dropped.result ≡ true = search rules in
    let told = c.is_unused-is_dropped.ensures dropped in
    let nodes = subst (λ k. SurelyNodes k c.args.value) c.deref.ensures.value (subst (SurelyNodes c.deref.result.now) (c.get.ensures ∙ c.in_ok-value.ensures) told.0) in
    let outside = subst (λ k. IsOutside (length k) c.args.part.now) c.deref.ensures.value told.1 in
    drop_last known last c.args.before found (c.args.before ++ clause.Let c.args.value ∷ []) c.args.value c.args.part.now refl same nodes outside.0

pub returns-then-is_dropped-clause-kept : goal.returns-then-is_dropped-clause-kept
returns-then-is_dropped-clause-kept c =
    scope_left c.len-outer.result c.args.known.now.items c.followed.new.known.items c.followed.new.known.items c.truncate.new.self.items (c.len-outer.ensures ∙ c.args.known.now.ok.0)
    c.in_ok-found.ensures.outer.outer refl c.truncate.ensures.items

pub returns-clause-same : goal.returns-clause-same
returns-clause-same c =
    let known = c.args.known.now.items in
    let last = c.followed.new.known.items in
    let found = c.in_ok-found.found in
    let start = c.len-outer.ensures ∙ c.args.known.now.ok.0 in
    let same = subst (λ n. SameClauses n known c.args.before found last) start c.in_ok-found.ensures.same in
    IfOk-weaker c.pushed.result _ _
    (λ after h. keep_last known last c.args.before found (c.args.before ++ clause.Let c.args.value ∷ []) after (clause.Let c.args.value) c.args.part.now refl
    (h ∙ ap (λ v. found ++ clause.Let v ∷ []) (c.into_inner.ensures ∙ c.in_ok-value.ensures)) same) c.pushed.ensures

pub returns-clause-kept : goal.returns-clause-kept
returns-clause-kept c =
    on_ok c.pushed.result
    (scope_left c.len-outer.result c.args.known.now.items c.followed.new.known.items c.followed.new.known.items c.truncate.new.self.items (c.len-outer.ensures ∙ c.args.known.now.ok.0)
    c.in_ok-found.ensures.outer.outer refl c.truncate.ensures.items)
