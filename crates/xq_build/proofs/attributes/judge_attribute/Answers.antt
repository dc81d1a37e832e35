use Rattle.xq_build.proofs.AttributeJudges.{doubled, fresh, fresh_name}
use Rattle.xq_build.proofs.attributes.judge_attribute.Goals as goal

pub returns-then-not-branch-clause-judged : goal.returns-then-not-branch-clause-judged
returns-then-not-branch-clause-judged c =
    doubled c.args.parent c.in_default.not-Document c.args.late c.args.name c.args.names.now.keys c.in_ok-insert.field-0 c.if-late.false c.in_ok-insert.ensures.added c.if-not-branch.true

pub returns-clause-judged : goal.returns-clause-judged
returns-clause-judged c =
    fresh c.args.parent c.in_default.not-Document c.args.late c.args.name c.args.names.now.keys c.in_ok-insert.field-0 c.if-late.false c.in_ok-insert.ensures.added c.if-not-branch.false

pub returns-clause-names : goal.returns-clause-names
returns-clause-names c =
    fresh_name c.args.name c.args.names.now.keys c.insert.new.self.keys c.in_ok-insert.field-0 c.in_ok-insert.ensures.added c.if-not-branch.false c.in_ok-insert.ensures.keys
