use Rattle.std.proofs.Common.{◌+◌, ◌∷◌, drop, ap, sym, ◌∙◌, arith}
use Rattle.std.proofs.lemmas.List.{drop_more, drop_all}
use Rattle.xq_meaning.specs.Operators.{are_atoms}
use Rattle.xq_functions.specs.Answers.{lent_items}
use Rattle.xq_functions.proofs.sets.are_atoms.Goals as goal

pub returns-in-Node : goal.returns-in-Node
returns-in-Node c trees =
    let i = c.loop-item.item-index in
    let items = c.args.items.now in
    let here = drop_more items i c.item-item.result (omega arith) ∙ ap (λ x. x ∷ drop (i + 1) items) (sym c.item-item.is ∙ c.in-Node.is) in
    ap (λ xs. are_atoms (lent_items trees xs)) (sym here) ∙ c.loop-item.invariant trees

pub loop-item-preserved : goal.loop-item-preserved
loop-item-preserved c trees =
    let i = c.loop-item.item-index in
    let items = c.args.items.now in
    let here = drop_more items i c.item-item.result (omega arith) ∙ ap (λ x. x ∷ drop (i + 1) items) (sym c.item-item.is ∙ c.in-Atom.is) in
    ap (λ xs. are_atoms (lent_items trees xs)) (sym here) ∙ c.loop-item.invariant trees

pub returns : goal.returns
returns c trees =
    let i = c.loop-item.item-index in
    let items = c.args.items.now in
    ap (λ xs. are_atoms (lent_items trees xs)) (sym (drop_all i items (omega arith))) ∙ c.loop-item.invariant trees
