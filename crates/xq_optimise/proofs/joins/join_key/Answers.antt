use Rattle.std.proofs.Common.{◌≡◌, ◌∷◌, [], ◌∙◌, sym, ap, arith}
use Rattle.xq_expressions.specs.declared.signatures.Function.TheVariants as function
use Rattle.xq_meaning.specs.declared.joins.JoinKey.{JoinKey}
use Rattle.xq_meaning.specs.declared.joins.KeyForm.TheVariants as key_form
use Rattle.xq_meaning.specs.declared.plans.Plan.TheVariants as plan
use Rattle.xq_optimise.specs.private.Joins.{StartsAt, IsKey}
use Rattle.xq_optimise.proofs.JoinLaws.{if_some, only_one, plain_key, string_key, data_key}
use Rattle.xq_optimise.proofs.joins.join_key.Goals as goal

pub returns-in_default : goal.returns-in_default
returns-in_default c =
    let p = c.args.plan.now in
    if_some (λ (key : JoinKey). (key.form ≡ key_form.Value) × StartsAt key.slot key.scans p) (λ (key : JoinKey). IsKey key p) c.slot_key.result (λ key h. plain_key key p h.0 h.1) c.slot_key.ensures

pub returns-in-String : goal.returns-in-String
returns-in-String c =
    let p = c.args.plan.now in
    let part = c.part-item.result in
    let one : c.in-Call.parts ≡ part ∷ [] = sym c.as_slice.ensures ∙ only_one c.as_slice.result.now part (omega arith) (omega arith) c.part-item.is in
    let whole : p ≡ plan.Call function.String (part ∷ []) = c.in-Call.is ∙ ap (λ f. plan.Call f c.in-Call.parts) c.in-String.is ∙ ap (plan.Call function.String) one in
    if_some (λ (key : JoinKey). (key.form ≡ key_form.String) × StartsAt key.slot key.scans part) (λ (key : JoinKey). IsKey key p) c.slot_key-in-String.result (λ key h. string_key key p part h.0 h.1 whole) c.slot_key-in-String.ensures

pub returns-in-Data : goal.returns-in-Data
returns-in-Data c =
    let p = c.args.plan.now in
    let part = c.part-item.result in
    let one : c.in-Call.parts ≡ part ∷ [] = sym c.as_slice.ensures ∙ only_one c.as_slice.result.now part (omega arith) (omega arith) c.part-item.is in
    let whole : p ≡ plan.Call function.Data (part ∷ []) = c.in-Call.is ∙ ap (λ f. plan.Call f c.in-Call.parts) c.in-Data.is ∙ ap (plan.Call function.Data) one in
    if_some (λ (key : JoinKey). (key.form ≡ key_form.Data) × StartsAt key.slot key.scans part) (λ (key : JoinKey). IsKey key p) c.slot_key-in-Data.result (λ key h. data_key key p part h.0 h.1 whole) c.slot_key-in-Data.ensures
