use Rattle.std.proofs.Common.{◌≡◌, Ok, Err, map, ap, sym, ◌∙◌, ◌++◌, subst, rules}
use Rattle.std.specs.Global.{Vec}
use Rattle.xq_atoms.specs.Judged.{◌>>=◌}
use Rattle.xq_trees.specs.Items.{item_view}
use Rattle.xq_meaning.specs.Operators.{from_nodes, in_order}
use Rattle.xq_functions.specs.Answers.{items_of, lent_items}
use Rattle.xq_trees.specs.declared.items.Node.{Node as Spot}
use Rattle.xq_functions.specs.private.Places.{place_at, united}
use Rattle.xq_functions.proofs.AnswerLemmas.{Gives-fault}
use Rattle.xq_functions.proofs.SetLemmas.{InResult, unite-spots, united-in}
use Rattle.xq_functions.proofs.sets.unite_nodes.Goals as goal

pub returns-in_err-spots : goal.returns-in_err-spots
returns-in_err-spots c trees left right =
    let xs = map item_view c.args.left.now in
    let ys = map item_view c.args.right.now in
    let is : c.from_residual.result ≡ Err c.in_err-spots.field-0.0 = search rules in
    Gives-fault (items_of trees) (from_nodes (λ ps qs. ps ++ qs) trees (lent_items trees c.args.left.now) (lent_items trees c.args.right.now)) (λ (spots : Vec Spot). spots.items) (united xs ys) c.in_err-spots.field-0.0 c.from_residual.result is c.in_err-spots.ensures
    (λ code e. unite-spots trees xs ys ∙ ap (λ r. r >>= λ s. Ok (in_order trees (map (place_at trees) s))) e)

pub returns : goal.returns
returns c trees left right =
    let xs = map item_view c.args.left.now in
    let ys = map item_view c.args.right.now in
    let spots = c.in_ok-spots.ensures in
    unite-spots trees xs ys ∙ ap (λ r. r >>= λ s. Ok (in_order trees (map (place_at trees) s))) spots
    ∙ ap (λ items. Ok items) (sym (c.in_ok-in_order.ensures.items trees (subst (InResult trees) spots (united-in trees xs ys left right))))
