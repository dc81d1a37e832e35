use Rattle.std.proofs.Common.{List, ◌++◌, ◌∷◌, [], ◌∙◌, sym, subst, arith, map, take}
use Rattle.std.specs.Prelude.{String, string_bytes}
use Rattle.std.specs.Global.{Global}
use Rattle.std.proofs.lemmas.List.{take_all}
use Rattle.xq_joins.specs.private.TextSets.{IsSetOf}
use Rattle.xq_joins.proofs.Lists.{seen_next}
use Rattle.xq_joins.proofs.TextSets.{none_in, one_more_in}
use Rattle.xq_joins.proofs.text_sets.set_of.Goals as goal

pub loop-text-init : goal.loop-text-init
loop-text-init c = none_in c.new-set.result c.new-set.ensures.empty

pub loop-text-preserved : goal.loop-text-preserved
loop-text-preserved c =
    let texts = c.args.texts.now in
    let n = c.loop-text.text-index in
    let text = c.text-item.result in
    let more = c.insert.new.self in
    subst (IsSetOf more) (sym (seen_next string_bytes texts n text (omega arith) c.text-item.is))
    (one_more_in c.loop-text.set more c.in_ok-from_str.field-0 (map string_bytes (take n texts)) (string_bytes text) c.loop-text.invariant c.in_ok-insert.ensures.updates
    (c.in_ok-from_str.ensures.ok ∙ c.as_str.ensures.value))

pub returns : goal.returns
returns c =
    subst (λ ts. IsSetOf c.loop-text.set (map string_bytes ts)) (take_all c.loop-text.text-index c.args.texts.now (omega arith)) c.loop-text.invariant
