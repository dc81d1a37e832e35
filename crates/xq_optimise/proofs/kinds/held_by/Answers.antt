use Rattle.std.proofs.Common.{subst}
use Rattle.std.specs.List.{AllByRecursion}
use Rattle.xq_optimise.specs.private.Kinds.{EndsInText, IsString}
use Rattle.xq_optimise.proofs.KindLaws.{map_held, sequence_held, texts_where}
use Rattle.xq_optimise.proofs.kinds.held_by.Goals as goal

pub returns-in-Map : goal.returns-in-Map
returns-in-Map c =
    texts_where c.args.known.now c.args.plan.now c.end_in_text.result c.texts_if.result c.texts_if.ensures
    (λ e. map_held c.args.known.now c.args.plan.now c.in-Map.field-0 c.in-Map.parts c.in-Map.is (subst EndsInText c.as_slice-in-Map.ensures (c.end_in_text.ensures e)))

pub returns-in-Sequence : goal.returns-in-Sequence
returns-in-Sequence c =
    texts_where c.args.known.now c.args.plan.now c.are_strings.result c.texts_if-in-Sequence.result c.texts_if-in-Sequence.ensures
    (λ e. sequence_held c.args.known.now c.args.plan.now c.in-Sequence.parts c.in-Sequence.is (subst (AllByRecursion IsString) c.as_slice-in-Sequence.ensures (c.are_strings.ensures e)))
