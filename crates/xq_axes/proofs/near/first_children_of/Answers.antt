use Rattle.std.proofs.Common.{◌≡◌, ◌+◌, ◌∷◌, [], take, min, refl, sym, ap, subst, ◌∙◌}
use Rattle.xq_trees.specs.Forest.{count}
use Rattle.xq_trees.specs.Tree.{nodes}
use Rattle.xq_trees.specs.declared.Axis.TheVariants as axis
use Rattle.xq_sources.specs.Sources.{tree_at}
use Rattle.xq_axes.specs.Reads.{span}
use Rattle.xq_axes.specs.private.Hits.{is_wanted, below_where}
use Rattle.xq_axes.specs.private.Near.{AreBelow, AreFirst}
use Rattle.xq_axes.specs.declared.near.FirstChildren.{FirstChildren}
use Rattle.xq_axes.proofs.First.{first_none, first_same}
use Rattle.xq_axes.proofs.OneNode.{none_before, none_after, read_below, starts_there, to_children}
use Rattle.xq_axes.proofs.Picking.{same_places}
use Rattle.xq_axes.proofs.near.first_children_of.Goals as goal

pub returns-clause-found : goal.returns-clause-found
returns-clause-found g c = λ k. (
    let t = tree_at (g.L.TreeSource.forest c.args.source.now) c.args.tree in
    let u = tree_at (g.L.TreeSource.forest c.owner_at.new.source) c.args.tree in
    let same : u ≡ t = ap (λ f. tree_at f c.args.tree) c.in_ok-owner.ensures.keeps in
    let test = c.args.test.now in
    let most = c.args.most in
    let owner = c.in_ok-owner.owner in
    let place : owner.place ≡ c.args.place = c.in_ok-owner.ensures.place in
    let is = c.in_ok-owner.ensures.is (c.walk.ensures.was_clean k) in
    let low = c.saturating_add-low.result in
    let s = span low owner.last in
    let from = starts_there t owner low is (c.saturating_add-low.ensures ∙ ap (λ p. min (p + 1) 4294967295) (sym place)) in
    let below : AreBelow u s owner = subst (λ z. AreBelow z s owner) (sym same) (record { is = is; low = from; high = refl }) in
    let wanted = is_wanted axis.Child test u (owner.place ∷ []) in
    let none : AreFirst most (below_where wanted low) most c.new.result.items =
    first_same most most [] (below_where wanted low) c.new.result.items (sym (none_before axis.Child to_children u s owner below test))
    (subst (λ ns. AreFirst most [] most ns) (sym c.new.ensures.items) (first_none most)) in
    let start : FirstChildren = record { judge = record { owner = owner }; test = c.args.test; left = most; found = c.new.result } in
    let read = c.in_ok-walk.ensures.read k start (refl, below, refl, none) in
    same_places c.into_places.result _ _ c.into_places.ensures
    (read.3.found ∙ ap (take most) (none_after axis.Child to_children u s owner below test
    ∙ ap (λ z. below_where (is_wanted axis.Child test z (owner.place ∷ [])) (count (nodes z))) same
    ∙ ap (λ p. below_where (is_wanted axis.Child test t (p ∷ [])) (count (nodes t))) place)))

pub returns-clause-rows : goal.returns-clause-rows
returns-clause-rows g c = λ k.
    let trees = g.L.TreeSource.forest c.args.source.now in
    let same = ap (λ f. tree_at f c.args.tree) c.in_ok-owner.ensures.keeps in
    read_below axis.Child to_children (tree_at trees c.args.tree) (tree_at (g.L.TreeSource.forest c.owner_at.new.source) c.args.tree) c.in_ok-owner.owner c.args.place c.saturating_add-low.result
    (g.L.TreeSource.meter c.args.source.now).rows (g.L.TreeSource.meter c.owner_at.new.source).rows (g.L.TreeSource.meter c.walk.new.source).rows
    same c.in_ok-owner.ensures.place (c.in_ok-owner.ensures.is (c.walk.ensures.was_clean k)) c.saturating_add-low.ensures c.in_ok-owner.ensures.rows (c.walk.ensures.rows k)

pub returns-in_err-walk-clause-rows : goal.returns-in_err-walk-clause-rows
returns-in_err-walk-clause-rows g c = λ k.
    let trees = g.L.TreeSource.forest c.args.source.now in
    let same = ap (λ f. tree_at f c.args.tree) c.in_ok-owner.ensures.keeps in
    read_below axis.Child to_children (tree_at trees c.args.tree) (tree_at (g.L.TreeSource.forest c.owner_at.new.source) c.args.tree) c.in_ok-owner.owner c.args.place c.saturating_add-low.result
    (g.L.TreeSource.meter c.args.source.now).rows (g.L.TreeSource.meter c.owner_at.new.source).rows (g.L.TreeSource.meter c.walk.new.source).rows
    same c.in_ok-owner.ensures.place (c.in_ok-owner.ensures.is (c.walk.ensures.was_clean k)) c.saturating_add-low.ensures c.in_ok-owner.ensures.rows (c.walk.ensures.rows k)
