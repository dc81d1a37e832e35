use Rattle.std.proofs.Common.{[], ◌∷◌, map, Err, sym, ◌∙◌, ap, subst}
use Rattle.std.specs.Prelude.{string_bytes}
use Rattle.std.proofs.lemmas.Result.{err_from_is_err_and}
use Rattle.xq_atoms.specs.Answers.{GivesUnlessWanting}
use Rattle.xq_trees.specs.Items.{item_view, Place}
use Rattle.xq_trees.specs.Tree.{Tree}
use Rattle.xq_meaning.specs.Content.{named_tree}
use Rattle.xq_meaning.specs.Forms.{planted}
use Rattle.xq_meaning.specs.Readings.{items_at}
use Rattle.xq_operators.proofs.Planting.{then_given, then_refused}
use Rattle.xq_operators.proofs.constructors.planted_named.Goals as goal

pub returns-in_err-tree-clause-gives : goal.returns-in_err-tree-clause-gives
returns-in_err-tree-clause-gives g c = λ clean here.
    let p = err_from_is_err_and c.from_residual-in_err-tree.result c.from_residual-in_err-tree.ensures.1 in
    let old = g.W.TreeSource.forest c.args.world.now in
    let views = map item_view c.args.content.now in
    let same = c.in_ok-named_in_place.ensures.left c.if-branch.false in
    let moved = ap (λ f. named_tree c.args.kind (string_bytes c.in_ok-name.name) f (items_at f views)) same
    ∙ ap (λ n. named_tree c.args.kind n old (items_at old views)) c.in_ok-name.ensures.ok in
    rw (p.1, p.2) (then_refused (λ node. Place node ∷ []) (named_tree c.args.kind c.args.name.now old (items_at old views)) planted old (g.W.TreeSource.forest c.named_tree.new.source) c.in_err-tree.field-0.0
    (subst (λ r. GivesUnlessWanting (λ (t : Tree). t) r (Err c.in_err-tree.field-0.0)) moved (c.in_err-tree.ensures.gives clean)))

pub returns-clause-gives : goal.returns-clause-gives
returns-clause-gives g c = λ clean here.
    let old = g.W.TreeSource.forest c.args.world.now in
    let views = map item_view c.args.content.now in
    let same = c.in_ok-named_in_place.ensures.left c.if-branch.false in
    let moved = ap (λ f. named_tree c.args.kind (string_bytes c.in_ok-name.name) f (items_at f views)) same
    ∙ ap (λ n. named_tree c.args.kind n old (items_at old views)) c.in_ok-name.ensures.ok in
    then_given (named_tree c.args.kind c.args.name.now old (items_at old views)) planted old (g.W.TreeSource.forest c.named_tree.new.source) (g.W.TreeSource.forest c.planted.new.world)
    c.in_ok-tree.tree c.in_ok-planted.field-0 (c.in_ok-tree.ensures.keeps ∙ same)
    (sym moved ∙ c.in_ok-tree.ensures.gives (c.in_ok-planted.ensures.goes.was_clean clean)) c.in_ok-planted.ensures.gives
