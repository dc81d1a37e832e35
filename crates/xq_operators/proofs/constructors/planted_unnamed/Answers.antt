use Rattle.std.proofs.Common.{Some, map, Ok, Err, sym, ◌∙◌, ap, subst}
use Rattle.std.specs.Prelude.{Option}
use Rattle.std.proofs.lemmas.Result.{err_from_is_err_and}
use Rattle.xq_atoms.specs.Answers.{GivesUnlessWanting}
use Rattle.xq_trees.specs.Items.{item_view}
use Rattle.xq_trees.specs.Tree.{Tree}
use Rattle.xq_meaning.specs.Content.{unnamed_tree}
use Rattle.xq_meaning.specs.Forms.{planted_if}
use Rattle.xq_meaning.specs.Readings.{items_at}
use Rattle.xq_operators.specs.Views.{node_if_any}
use Rattle.xq_operators.proofs.Planting.{then_given, then_refused}
use Rattle.xq_operators.proofs.constructors.planted_unnamed.Goals as goal

pub returns-in_err-tree-clause-gives : goal.returns-in_err-tree-clause-gives
returns-in_err-tree-clause-gives g c = λ clean here.
    let p = err_from_is_err_and c.from_residual-in_err-tree.result c.from_residual-in_err-tree.ensures.1 in
    let old = g.W.TreeSource.forest c.args.world.now in
    let views = map item_view c.args.content.now in
    let moved = ap (λ f. unnamed_tree c.args.kind f (items_at f views)) (c.in_ok-unnamed_in_place.ensures.left c.if-branch.false) in
    rw (p.1, p.2) (then_refused node_if_any (unnamed_tree c.args.kind old (items_at old views)) planted_if old (g.W.TreeSource.forest c.unnamed_tree.new.source) c.in_err-tree.field-0.0
    (subst (λ r. GivesUnlessWanting (λ (t : Option Tree). t) r (Err c.in_err-tree.field-0.0)) moved (c.in_err-tree.ensures.gives clean)))

pub returns-in_ok-planted-in-Some-clause-gives : goal.returns-in_ok-planted-in-Some-clause-gives
returns-in_ok-planted-in-Some-clause-gives g c = λ clean here.
    let old = g.W.TreeSource.forest c.args.world.now in
    let views = map item_view c.args.content.now in
    let same = c.in_ok-unnamed_in_place.ensures.left c.if-branch.false in
    let moved = ap (λ f. unnamed_tree c.args.kind f (items_at f views)) same in
    then_given (unnamed_tree c.args.kind old (items_at old views)) planted_if old (g.W.TreeSource.forest c.unnamed_tree.new.source) (g.W.TreeSource.forest c.planted.new.world)
    (Some c.in-Some.tree) c.in_ok-planted-in-Some.field-0 (c.in_ok-tree.ensures.keeps ∙ same)
    (sym moved ∙ c.in_ok-tree.ensures.gives (c.in_ok-planted-in-Some.ensures.goes.was_clean clean) ∙ ap Ok c.in-Some.is) c.in_ok-planted-in-Some.ensures.gives
