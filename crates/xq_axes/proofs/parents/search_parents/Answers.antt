use Rattle.std.proofs.Common.{◌≡◌, ℕ, [], ◌∷◌, Vec, Global, length, subst, ap, ◌∙◌, arith}
use Rattle.std.specs.Prelude.{IfOk, IfSome}
use Rattle.xq_trees.specs.Forest.{count}
use Rattle.xq_trees.specs.Tree.{nodes}
use Rattle.xq_trees.specs.declared.Axis.TheVariants as axes
use Rattle.xq_sources.specs.Sources.{tree_at}
use Rattle.xq_axes.specs.private.Hits.{is_among, is_wanted, below_where, IsRising}
use Rattle.xq_axes.specs.private.KnownParents.{AreTold}
use Rattle.xq_axes.proofs.KnownParents.{told_search, one_told, one_rises}
use Rattle.xq_axes.proofs.Sizes.{OnOk-if}
use Rattle.xq_axes.proofs.parents.search_parents.Goals as goal

pub returns-in_ok-parents-in-Some-2-clause-found : goal.returns-in_ok-parents-in-Some-2-clause-found
returns-in_ok-parents-in-Some-2-clause-found g c = λ k there up. (
    let t = tree_at (g.L.TreeSource.forest c.args.source.now) c.args.tree in
    let vs = c.args.places.now in
    let below = c.below_root.result.now in
    let told = c.in-Some-2.told.items in
    let us = c.in_ok-parents-in-Some-2.parents.items in
    let test = c.args.test.now in
    let are_told = subst (λ o. IfSome o (λ (parents : Vec ℕ Global). AreTold t below parents.items)) c.in-Some-2.is (c.in_ok-told.ensures.told (c.search_selves-in-Some-2.ensures.was_clean k)) in
    let all = subst (λ o. IfSome o (λ (parents : Vec ℕ Global). length parents.items ≡ length below)) c.in-Some-2.is c.in_ok-told.ensures.all in
    let same : (n : ℕ) → is_among us n ≡ is_among told n = λ n. c.in_ok-parents-in-Some-2.ensures.among n ∙ ap (λ xs. is_among xs n) c.deref.ensures.value in
    let own = subst (λ xs. IsRising xs → IfOk c.search_selves-in-Some-2.result (λ (found : Vec ℕ Global). found.items ≡ below_where (is_wanted axes.SelfNode test t xs) (count (nodes t)))) c.deref-in-Some-2.ensures.value (c.search_selves-in-Some-2.ensures.found k) c.in_ok-parents-in-Some-2.ensures.rising in
    OnOk-if c.search_selves-in-Some-2.result (λ (found : Vec ℕ Global). found.items ≡ below_where (is_wanted axes.SelfNode test t us) (count (nodes t))) (λ (found : Vec ℕ Global). found.items ≡ below_where (is_wanted axes.Parent test t vs) (count (nodes t)))
    (λ found e. e ∙ told_search test t us vs below told c.below_root.ensures are_told all same) own)

pub returns-in-Some-clause-found : goal.returns-in-Some-clause-found
returns-in-Some-clause-found g c = λ k there up. (
    let t = tree_at (g.L.TreeSource.forest c.args.source.now) c.args.tree in
    let vs = c.args.places.now in
    let u = c.in-Some.parent in
    let test = c.args.test.now in
    let least = c.in-len1.len_at_least in
    let less = c.in-len1.len_below in
    let one : length vs ≡ 1 = omega (arith, least, less) in
    OnOk-if c.search_selves.result (λ (found : Vec ℕ Global). found.items ≡ below_where (is_wanted axes.SelfNode test t (u ∷ [])) (count (nodes t))) (λ (found : Vec ℕ Global). found.items ≡ below_where (is_wanted axes.Parent test t vs) (count (nodes t)))
    (λ found e. e ∙ one_told test t vs u one (c.in-Some.ensures (c.search_selves.ensures.was_clean k))) (c.search_selves.ensures.found k (one_rises u)))
