use Rattle.std.proofs.Common.{◌≡◌, ◌+◌, ◌-◌, ◌∷◌, [], ◌++◌, ◌&&◌, true, false, refl, sym, ap, subst, ◌∙◌, arith}
use Rattle.std.proofs.lemmas.List.{append-nil}
use Rattle.xq_trees.specs.declared.Axis.TheVariants as axis
use Rattle.xq_sources.specs.Lent.{row_lent}
use Rattle.xq_axes.specs.declared.near.ChildrenOf.{ChildrenOf}
use Rattle.xq_axes.specs.private.Hits.{is_wanted, row_passes, below_where}
use Rattle.xq_axes.specs.private.Near.{AreFirst}
use Rattle.xq_axes.proofs.First.{first_full, first_added, first_same}
use Rattle.xq_axes.proofs.OneNode.{rest_within}
use Rattle.xq_axes.proofs.Picking.{picked, picked_over, wanted_is}
use Rattle.xq_axes.proofs.near.FirstChildrenVisitor.visit.Goals as goal
use Rattle.xq_axes.proofs.near.FirstChildrenVisitor.visit.Goals.{else-verdict-via-then-verdict+else-passes, else-verdict-via-else-verdict}

pub returns-then-self-eq0 : goal.returns-then-self-eq0
returns-then-self-eq0 c = λ start t s n r h. (
    let x = c.args.row.now in
    let old = c.args.self.now in
    let f = is_wanted axis.Child start.test.now t (start.judge.owner.place ∷ []) in
    let over = c.saturating_sub.ensures ∙ ap (λ (j : ChildrenOf). j.owner.last - x.pre) h.0 ∙ ap (λ p. start.judge.owner.last - p) r.place in
    let none = c.if-self-eq0.true in
    let next = n + 1 + c.saturating_sub.result in
    let full = first_full f n next start.left old.found.items (omega arith) (subst (λ left. AreFirst start.left (below_where f n) left old.found.items) none h.3) in (
      rest_within t s start.judge.owner h.1 n r.is_there r.from r.to c.saturating_sub.result over,
      (h.0, h.1, h.2, subst (λ left. AreFirst start.left (below_where f next) left old.found.items) (sym none) full),
    ))

pub returns-in_ok-push : goal.returns-in_ok-push
returns-in_ok-push c = λ start t s n r h. (
    let j = c.in_ok-verdict.ensures start.judge t s n r (h.0, h.1) in
    let x = c.args.row.now in
    let old = c.args.self.now in
    let new = c.push.new.self in
    let verdict = c.in_ok-verdict.verdict in
    let vs = start.judge.owner.place ∷ [] in
    let f = is_wanted axis.Child start.test.now t vs in
    let w = wanted_is axis.Child start.test.now old.test.now t vs n x verdict.is_hit r.row h.2 j.0 in
    let is = sym w ∙ ap (λ b. b && row_passes old.test.now (row_lent x)) c.if-verdict.true ∙ sym c.passes.ensures ∙ c.if-passes.true in
    let all = below_where f n in
    let added = first_added all old.found.items new.items n start.left old.left (old.left - 1) (let some = c.if-self-eq0.false in omega arith) h.3
    (c.in_ok-push.ensures.ok ∙ ap (λ p. old.found.items ++ p ∷ []) r.place) refl in
    let to_next = picked_over axis.Child start.test.now t vs (n + 1) (n + 1 + verdict.over) (all ++ n ∷ []) (omega arith) j.2 (picked f n all true refl (sym is)) in (
      j.1,
      (j.3.0, j.3.1, h.2, first_same start.left (old.left - 1) (all ++ n ∷ []) (below_where f (n + 1 + verdict.over)) new.items to_next added),
    ))

pub returns-else-verdict : goal.returns-else-verdict
returns-else-verdict c = λ start t s n r h. (
    let j = c.in_ok-verdict.ensures start.judge t s n r (h.0, h.1) in
    let x = c.args.row.now in
    let old = c.args.self.now in
    let verdict = c.in_ok-verdict.verdict in
    let vs = start.judge.owner.place ∷ [] in
    let f = is_wanted axis.Child start.test.now t vs in
    let passes = row_passes old.test.now (row_lent x) in
    let w = wanted_is axis.Child start.test.now old.test.now t vs n x verdict.is_hit r.row h.2 j.0 in
    let unwanted : (verdict.is_hit && passes) ≡ false = elim c.else-verdict.branch [
      | else-verdict-via-then-verdict+else-passes v ↦ ap (λ b. b && passes) v.if-verdict.true ∙ sym v.passes.ensures ∙ v.if-passes.false
      | else-verdict-via-else-verdict v ↦ ap (λ b. b && passes) v.if-verdict.false
    ] in
    let all = below_where f n in
    let to_next = picked_over axis.Child start.test.now t vs (n + 1) (n + 1 + verdict.over) all (omega arith) j.2 (sym (append-nil all) ∙ picked f n all false refl (sym unwanted ∙ w)) in (
      j.1,
      (j.3.0, j.3.1, h.2, first_same start.left old.left all (below_where f (n + 1 + verdict.over)) old.found.items to_next h.3),
    ))
