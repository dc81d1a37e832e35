use Rattle.std.proofs.Common.{◌≡◌, ℕ, ◌∷◌, [], ◌++◌, cond, refl, sym, ap, subst, ◌∙◌, arith}
use Rattle.std.specs.Global.{Vec}
use Rattle.std.proofs.lemmas.List.{append-nil}
use Rattle.smallvec.specs.SmallVec.{SmallVec}
use Rattle.xq_trees.specs.Forest.{count}
use Rattle.xq_trees.specs.Tree.{nodes}
use Rattle.xq_sources.specs.Sources.{tree_at}
use Rattle.xq_axes.specs.Reads.{span, span_end}
use Rattle.xq_axes.specs.private.Hits.{is_wanted, below_where, IsReached}
use Rattle.xq_axes.specs.private.Passing.{axis_above, AreHits}
use Rattle.xq_axes.proofs.Lists.{reached_none}
use Rattle.xq_axes.proofs.Sizes.{OnOk-if}
use Rattle.xq_axes.proofs.KnownParents.{one_rises}
use Rattle.xq_axes.proofs.Ranges.{last_is, above_all}
use Rattle.xq_axes.proofs.Scans.{above_bound}
use Rattle.xq_axes.proofs.Ancestors.{are_hits}
use Rattle.xq_axes.proofs.climbing.search_climbed.Goals as goal
use Rattle.xq_axes.proofs.climbing.search_climbed.Goals.{then-or_self+in_ok-push, else-or_self}

pub returns-clause-found : goal.returns-clause-found
returns-clause-found g c = λ k there are. (
    let t = tree_at (g.L.TreeSource.forest c.args.source.now) c.args.tree in
    let v = c.args.node in
    let or_self = c.args.or_self in
    let above = c.args.above.items in
    let hits = c.if-or_self.hits.items in
    let a = axis_above or_self in
    let test = c.args.test.now in
    let all : hits ≡ above ++ cond or_self (v ∷ []) [] = elim c.if-or_self.branch [
      | then-or_self+in_ok-push w ↦ ap (λ (h : Vec ℕ). h.items) w.hits-is ∙ w.in_ok-push.ensures.items ∙ ap (λ b. above ++ cond b (v ∷ []) []) (sym w.if-or_self.true)
      | else-or_self w ↦ ap (λ (h : Vec ℕ). h.items) w.hits-is ∙ sym (append-nil above) ∙ ap (λ b. above ++ cond b (v ∷ []) []) (sym w.if-or_self.false)
    ] in
    let us = c.new.result.places.now in
    let same : us ≡ hits = c.new.ensures.places ∙ c.deref.ensures.value in
    let known = subst (λ xs. AreHits a t (v ∷ []) (span 0 v) xs) (sym same) (are_hits or_self t v (span 0 v) above hits there refl are all) in
    let reached = subst (λ i. IsReached us i 0) (sym c.new.ensures.met) (reached_none us) in
    let w = c.search_rows.ensures.found k (refl, refl, known, reached) refl in
    OnOk-if c.search_rows.result (λ (found : SmallVec ℕ). found.items ≡ below_where (is_wanted a test t (v ∷ [])) (span_end t (span 0 v))) (λ (found : SmallVec ℕ). found.items ≡ below_where (is_wanted a test t (v ∷ [])) (count (nodes t)))
    (λ found e. e ∙ above_all or_self test t (v ∷ []) v (last_is (v ∷ []) v (one_rises v) refl)) w)

pub returns-clause-rows : goal.returns-clause-rows
returns-clause-rows g c = λ k. (
    let t = tree_at (g.L.TreeSource.forest c.args.source.now) c.args.tree in
    let v = c.args.node in
    let b = above_bound c.args.or_self t (v ∷ []) v (last_is (v ∷ []) v (one_rises v) refl) in
    let r = c.search_rows.ensures.rows k in
    omega (arith, b, r))
