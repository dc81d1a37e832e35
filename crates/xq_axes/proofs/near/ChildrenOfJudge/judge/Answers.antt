use Rattle.std.proofs.Common.{◌≡◌, ◌+◌, ◌&&◌, not, nat_eq, sym, ap, ◌∙◌}
use Rattle.xq_trees.specs.Rows.{Row, rows}
use Rattle.xq_trees.specs.Tree.{is_attribute}
use Rattle.xq_trees.specs.RegionTests.{plain_row}
use Rattle.xq_axes.specs.declared.near.ChildrenOf.{ChildrenOf}
use Rattle.xq_axes.specs.private.Downward.{level_of}
use Rattle.xq_axes.proofs.OneNode.{child_hit, child_within, child_over}
use Rattle.xq_axes.proofs.near.ChildrenOfJudge.judge.Goals as goal
use Rattle.xq_axes.proofs.near.ChildrenOfJudge.judge.Goals.{then-is_parent, else-is_parent}

pub returns : goal.returns
returns c = λ start t s n r h. (
    let x = c.args.row.now in
    let own = c.args.self.now.owner in
    let plain = not (is_attribute x.kind) in
    let level : x.level ≡ level_of t n = ap (λ (y : Row). y.level) r.row in
    let size = ap (λ (y : Row). y.size) r.row in
    let kind : plain ≡ plain_row (rows t) n = ap (λ (y : Row). not (is_attribute y.label.kind)) r.row in
    let more = ap (λ (j : ChildrenOf). j.owner.level + 1) h.0 in
    let is : c.if-is_parent.result ≡ (nat_eq x.level (own.level + 1) && plain) = elim c.if-is_parent.branch [
      | then-is_parent w ↦ w.result-is ∙ w.is_plain.ensures ∙ sym (ap (λ b. b && plain) (sym c.is_parent.ensures ∙ w.if-is_parent.true))
      | else-is_parent w ↦ w.result-is ∙ w.if-is_parent.false ∙ sym (ap (λ b. b && plain) (sym c.is_parent.ensures ∙ w.if-is_parent.false))
    ] in (
      is ∙ ap (λ m. nat_eq x.level m && plain) more ∙ child_hit t s start.owner h.1 n r.is_there r.from r.to x.level plain level kind,
      child_within t s start.owner h.1 n r.is_there r.from r.to x.size size,
      child_over t s start.owner h.1 n r.is_there r.from r.to x.size size,
      h,
    ))
