use Rattle.std.proofs.Common.{◌≡◌, ◌∷◌, [], ℕ, refl, ◌∙◌}
use Rattle.smallvec.specs.SmallVec.{SmallVec}
use Rattle.xq_trees.specs.Forest.{count}
use Rattle.xq_trees.specs.Tree.{nodes}
use Rattle.xq_trees.specs.declared.Axis.TheVariants as axis
use Rattle.xq_sources.specs.Sources.{tree_at}
use Rattle.xq_axes.specs.Reads.{span, span_end}
use Rattle.xq_axes.specs.private.Hits.{is_wanted, below_where}
use Rattle.xq_axes.specs.private.Near.{AreBelow}
use Rattle.xq_axes.proofs.OneNode.{none_before, none_after, read_below, starts_there, to_children}
use Rattle.xq_axes.proofs.Sizes.{OnOk-if}
use Rattle.xq_axes.proofs.near.children_below.Goals as goal

pub returns-clause-found : goal.returns-clause-found
returns-clause-found g c = λ k is. (
    let t = tree_at (g.L.TreeSource.forest c.args.source.now) c.args.tree in
    let test = c.args.test.now in
    let owner = c.args.owner in
    let low = c.saturating_add-low.result in
    let s = span low owner.last in
    let below : AreBelow t s owner = record { is = is; low = starts_there t owner low is c.saturating_add-low.ensures; high = refl } in
    let read = c.search_rows.ensures.found k (refl, below) (none_before axis.Child to_children t s owner below test) in
    OnOk-if c.search_rows.result (λ (found : SmallVec ℕ). found.items ≡ below_where (is_wanted axis.Child test t (owner.place ∷ [])) (span_end t s)) (λ (found : SmallVec ℕ). found.items ≡ below_where (is_wanted axis.Child test t (owner.place ∷ [])) (count (nodes t)))
    (λ found e. e ∙ none_after axis.Child to_children t s owner below test) read)

pub returns-clause-rows : goal.returns-clause-rows
returns-clause-rows g c = λ k is. (
    let t = tree_at (g.L.TreeSource.forest c.args.source.now) c.args.tree in
    let owner = c.args.owner in
    let before = (g.L.TreeSource.meter c.args.source.now).rows in
    read_below axis.Child to_children t t owner owner.place c.saturating_add-low.result before before (g.L.TreeSource.meter c.search_rows.new.source).rows
    refl refl is c.saturating_add-low.ensures refl (c.search_rows.ensures.rows k))
