use Rattle.std.proofs.Common.{sym, ◌∙◌, ap, arith}
use Rattle.xq_trees.specs.Tree.{may_follow}
use Rattle.xq_trees.proofs.Walks.{may_precede_none, may_precede_some}
use Rattle.xq_trees.proofs.encodings.may_precede.Goals as goal

pub returns-then-next-stop : goal.returns-then-next-stop
returns-then-next-stop g c = sym (may_precede_none (g.R.TreeRows.listed c.args.rows.now) c.args.next c.args.stop c.args.kind (omega arith))

pub returns : goal.returns
returns g c =
    c.may_follow.ensures ∙ ap (may_follow c.args.kind) c.kind.ensures
    ∙ sym (may_precede_some (g.R.TreeRows.listed c.args.rows.now) c.args.next c.args.stop c.args.kind (omega arith) c.requires.within c.requires.checked)
