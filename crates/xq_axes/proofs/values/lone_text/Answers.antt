use Rattle.std.proofs.Common.{◌∙◌}
use Rattle.xq_axes.proofs.Texts.{text_of_lone}
use Rattle.xq_axes.proofs.values.lone_text.Goals as goal

pub returns-in-Text : goal.returns-in-Text
returns-in-Text c = λ t s v are. c.value.ensures ∙ text_of_lone t s v c.args.rows.now c.in_ok-node.node c.in_ok-below.below are c.in_ok-node.ensures.row c.in_ok-below.ensures.row c.if-node-eq1.true c.in-Text.is
