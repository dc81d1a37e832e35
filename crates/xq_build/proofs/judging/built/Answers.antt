use Rattle.std.proofs.Common.{◌∙◌, [], sym, map, subst, refl, length, arith, ◌≤◌, ◌<◌}
use Rattle.std.proofs.lemmas.Result.{err_from_is_err_and}
use Rattle.std.proofs.lemmas.List.{length-map}
use Rattle.std.specs.Prelude.{Err}
use Rattle.xq_trees.specs.Levels.{flat}
use Rattle.xq_meaning.specs.Content.{label}
use Rattle.xq_build.specs.private.Leaves.{leaves}
use Rattle.xq_build.specs.private.Attributes.{JudgedAs}
use Rattle.xq_build.proofs.Contents.{rooted}
use Rattle.xq_build.proofs.Judges.{built_refused, built_high, built_large, built_whole}
use Rattle.xq_build.proofs.judging.built.Goals as goal

pub returns-in_err-judge_attributes : goal.returns-in_err-judge_attributes
returns-in_err-judge_attributes c = λ f e.
    (let p = err_from_is_err_and c.from_residual.result c.from_residual.ensures.1 in
    rw (p.1, p.2) (built_refused (label c.args.kind c.args.name.now []) f (leaves f) c.in_err-judge_attributes.field-0.0 refl
    (subst (λ o. JudgedAs o (Err c.in_err-judge_attributes.field-0.0)) (e.fault c.args.kind) c.in_err-judge_attributes.ensures)))

pub returns-then-not-are_low : goal.returns-then-not-are_low
returns-then-not-are_low c = λ f e.
    built_high (label c.args.kind c.args.name.now []) f (leaves f) refl (sym (e.fault c.args.kind) ∙ c.in_ok-judge_attributes.ensures)
    (sym e.low ∙ sym c.are_low.ensures ∙ c.if-not-are_low.true)

pub returns-then-len-ge-MAX_NODES : goal.returns-then-len-ge-MAX_NODES
returns-then-len-ge-MAX_NODES c = λ f e.
    (let many : 1000000 ≤ length (map flat c.args.content.rows) = omega (arith, length-map c.args.content.rows flat) in
    built_large (label c.args.kind c.args.name.now []) f (leaves f) refl (sym (e.fault c.args.kind) ∙ c.in_ok-judge_attributes.ensures)
    (sym e.low ∙ sym c.are_low.ensures ∙ c.if-not-are_low.false) (e.many many))

pub returns-in-Some : goal.returns-in-Some
returns-in-Some c = λ f e.
    (let ps = map flat c.args.content.rows in
    let few : length ps < 1000000 = omega (arith, length-map c.args.content.rows flat) in
    let levels = rw c.in-Some.is at c.in_ok-tree.ensures.some in
    built_whole (label c.args.kind c.args.name.now []) f ps (map flat c.put_root.new.self.rows) c.in-Some.tree (e.few few) c.in_ok-judge_attributes.ensures
    (sym c.are_low.ensures ∙ c.if-not-are_low.false) few (rooted c.args.kind c.args.name.now c.args.content.rows c.put_root.new.self.rows c.in_ok-put_root.ensures.rows) levels)
