use Rattle.std.proofs.Common.{◌≡◌, ◌∷◌, [], ℕ, sym, ap, subst, ◌∙◌}
use Rattle.smallvec.specs.SmallVec.{SmallVec}
use Rattle.xq_trees.specs.Forest.{count}
use Rattle.xq_trees.specs.Tree.{nodes}
use Rattle.xq_trees.specs.declared.Axis.TheVariants as axis
use Rattle.xq_sources.specs.Sources.{tree_at}
use Rattle.xq_axes.specs.private.Hits.{is_wanted, below_where}
use Rattle.xq_axes.specs.private.Near.{IsOwner}
use Rattle.xq_axes.proofs.Last.{same_children, same_region}
use Rattle.xq_axes.proofs.Sizes.{OnOk-if}
use Rattle.xq_axes.proofs.near.children_of.Goals as goal

pub returns-clause-found : goal.returns-clause-found
returns-clause-found g c = λ k. (
    let t = tree_at (g.L.TreeSource.forest c.args.source.now) c.args.tree in
    let u = tree_at (g.L.TreeSource.forest c.owner_at.new.source) c.args.tree in
    let same : u ≡ t = ap (λ f. tree_at f c.args.tree) c.in_ok-owner.ensures.keeps in
    let test = c.args.test.now in
    let owner = c.in_ok-owner.owner in
    let is : IsOwner u owner = subst (λ z. IsOwner z owner) (sym same) (c.in_ok-owner.ensures.is (c.children_below.ensures.was_clean k)) in
    OnOk-if c.children_below.result (λ (found : SmallVec ℕ). found.items ≡ below_where (is_wanted axis.Child test u (owner.place ∷ [])) (count (nodes u))) (λ (found : SmallVec ℕ). found.items ≡ below_where (is_wanted axis.Child test t (c.args.place ∷ [])) (count (nodes t)))
    (λ found e. e ∙ same_children test t u c.args.place owner.place same c.in_ok-owner.ensures.place) (c.children_below.ensures.found k is))

pub returns-clause-rows : goal.returns-clause-rows
returns-clause-rows g c = λ k. (
    let t = tree_at (g.L.TreeSource.forest c.args.source.now) c.args.tree in
    let u = tree_at (g.L.TreeSource.forest c.owner_at.new.source) c.args.tree in
    let same : u ≡ t = ap (λ f. tree_at f c.args.tree) c.in_ok-owner.ensures.keeps in
    let owner = c.in_ok-owner.owner in
    let is : IsOwner u owner = subst (λ z. IsOwner z owner) (sym same) (c.in_ok-owner.ensures.is (c.children_below.ensures.was_clean k)) in
    same_region t u c.args.place owner.place (g.L.TreeSource.meter c.args.source.now).rows (g.L.TreeSource.meter c.owner_at.new.source).rows (g.L.TreeSource.meter c.children_below.new.source).rows
    same c.in_ok-owner.ensures.place c.in_ok-owner.ensures.rows (c.children_below.ensures.rows k is))
