use Rattle.std.proofs.Common.{◌≡◌, ◌+◌, ◌∷◌, [], ℕ, min, refl, sym, ap, subst, ◌∙◌}
use Rattle.smallvec.specs.SmallVec.{SmallVec}
use Rattle.xq_trees.specs.Forest.{count}
use Rattle.xq_trees.specs.Tree.{nodes}
use Rattle.xq_trees.specs.declared.Axis.TheVariants as axis
use Rattle.xq_sources.specs.Sources.{tree_at}
use Rattle.xq_axes.specs.Reads.{span, span_end}
use Rattle.xq_axes.specs.private.Hits.{is_wanted, below_where}
use Rattle.xq_axes.specs.private.Near.{AreBelow}
use Rattle.xq_axes.proofs.OneNode.{none_before, none_after, read_below, starts_there, to_attributes}
use Rattle.xq_axes.proofs.Sizes.{OnOk-if}
use Rattle.xq_axes.proofs.near.attributes_of.Goals as goal

pub returns-clause-found : goal.returns-clause-found
returns-clause-found g c = λ k. (
    let t = tree_at (g.L.TreeSource.forest c.args.source.now) c.args.tree in
    let u = tree_at (g.L.TreeSource.forest c.owner_at.new.source) c.args.tree in
    let same : u ≡ t = ap (λ f. tree_at f c.args.tree) c.in_ok-owner.ensures.keeps in
    let test = c.args.test.now in
    let owner = c.in_ok-owner.owner in
    let place : owner.place ≡ c.args.place = c.in_ok-owner.ensures.place in
    let is = c.in_ok-owner.ensures.is (c.search_rows.ensures.was_clean k) in
    let low = c.saturating_add-low.result in
    let s = span low owner.last in
    let from = starts_there t owner low is (c.saturating_add-low.ensures ∙ ap (λ p. min (p + 1) 4294967295) (sym place)) in
    let below : AreBelow u s owner = subst (λ z. AreBelow z s owner) (sym same) (record { is = is; low = from; high = refl }) in
    let read = c.search_rows.ensures.found k (refl, below) (none_before axis.Attributes to_attributes u s owner below test) in
    OnOk-if c.search_rows.result (λ (found : SmallVec ℕ). found.items ≡ below_where (is_wanted axis.Attributes test u (owner.place ∷ [])) (span_end u s)) (λ (found : SmallVec ℕ). found.items ≡ below_where (is_wanted axis.Attributes test t (c.args.place ∷ [])) (count (nodes t)))
    (λ found e. e ∙ none_after axis.Attributes to_attributes u s owner below test
    ∙ ap (λ z. below_where (is_wanted axis.Attributes test z (owner.place ∷ [])) (count (nodes z))) same
    ∙ ap (λ p. below_where (is_wanted axis.Attributes test t (p ∷ [])) (count (nodes t))) place) read)

pub returns-clause-rows : goal.returns-clause-rows
returns-clause-rows g c = λ k.
    let trees = g.L.TreeSource.forest c.args.source.now in
    let same = ap (λ f. tree_at f c.args.tree) c.in_ok-owner.ensures.keeps in
    read_below axis.Attributes to_attributes (tree_at trees c.args.tree) (tree_at (g.L.TreeSource.forest c.owner_at.new.source) c.args.tree) c.in_ok-owner.owner c.args.place c.saturating_add-low.result
    (g.L.TreeSource.meter c.args.source.now).rows (g.L.TreeSource.meter c.owner_at.new.source).rows (g.L.TreeSource.meter c.search_rows.new.source).rows
    same c.in_ok-owner.ensures.place (c.in_ok-owner.ensures.is (c.search_rows.ensures.was_clean k)) c.saturating_add-low.ensures c.in_ok-owner.ensures.rows (c.search_rows.ensures.rows k)
