use Rattle.std.proofs.Common.{◌≡◌, ◌∙◌, Option, ap, arith, subst}
use Rattle.std.specs.Prelude.{IfSome}
use Rattle.xq_meaning.specs.declared.joins.JoinKey.{JoinKey}
use Rattle.xq_meaning.specs.declared.joins.KeyForm.TheVariants as key_form
use Rattle.xq_meaning.specs.declared.plans.Plan.{Plan}
use Rattle.xq_meaning.specs.declared.plans.Plan.TheVariants as plan
use Rattle.xq_optimise.specs.private.Filters.{LeadsTo}
use Rattle.xq_optimise.specs.private.Joins.{StartsAt}
use Rattle.xq_optimise.specs.private.Ranges.{IsNodeSide}
use Rattle.xq_optimise.proofs.JoinLaws.{if_some}
use Rattle.xq_optimise.proofs.NarrowRanges.{key_side, text_side}
use Rattle.xq_optimise.proofs.narrow.focus_side.Goals as goal

pub returns-in-Str : goal.returns-in-Str
returns-in-Str c =
    text_side c.args.known.now c.args.side.now (plan.Str c.in_ok-copy_of.field-0) c.in-Str.text c.in-Str.is
    (ap plan.Str (c.in_ok-copy_of.ensures ∙ c.as_str.ensures))

pub returns : goal.returns
returns c =
    let known = c.args.known.now in
    let side = c.args.side.now in
    let key = c.in-Some.key in
    let told = subst (λ (o : Option JoinKey). IfSome o (λ k. (k.form ≡ key_form.Value) × StartsAt k.slot k.scans side)) c.in-Some.is c.in_ok-key.ensures in
    if_some (λ (part : Plan). LeadsTo key.scans part) (λ (part : Plan). IsNodeSide known side part) c.focus_part.result
    (λ part h. key_side known side part key (omega arith) told.0 told.1 h) c.focus_part.ensures
