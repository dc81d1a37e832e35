use Rattle.std.proofs.Common.{◌++◌, ◌↔◌, sym, ap, subst, ◌∙◌}
use Rattle.std.specs.List.{Contains}
use Rattle.xq_trees.specs.declared.items.Node.{Node}
use Rattle.xq_trees.specs.Rising.{AreRising}
use Rattle.xq_axes.specs.Many.{AreSame}
use Rattle.xq_trees.proofs.Rising.{rising_seen}
use Rattle.xq_axes.proofs.steps.step.Goals as goal

pub returns-then-rises-clause-nodes : goal.returns-then-rises-clause-nodes
returns-then-rises-clause-nodes g c = λ k have. c.step_from.ensures.nodes k (rising_seen c.args.nodes.now c.rises.result c.rises.ensures c.if-rises.true) c.args.nodes.now (λ n. (λ m. m, λ m. m)) have

pub returns-then-rises-clause-there : goal.returns-then-rises-clause-there
returns-then-rises-clause-there g c = λ k have. c.step_from.ensures.there k (rising_seen c.args.nodes.now c.rises.result c.rises.ensures c.if-rises.true) c.args.nodes.now (λ n. (λ m. m, λ m. m)) have

pub returns-then-rises-clause-rows : goal.returns-then-rises-clause-rows
returns-then-rises-clause-rows g c = λ k tree all. c.step_from.ensures.rows k (rising_seen c.args.nodes.now c.rises.result c.rises.ensures c.if-rises.true) c.args.nodes.now (λ n. (λ m. m, λ m. m)) tree all

pub returns-clause-nodes : goal.returns-clause-nodes
returns-clause-nodes g c = λ k have. (
    let ns = c.args.nodes.now in
    let copied = c.in_ok-extend_from_slice.ensures.items ∙ ap (λ xs. xs ++ ns) c.in_ok-contexts.ensures.items in
    let same : AreSame c.deref.result.now ns = subst (λ xs. AreSame xs ns) (sym c.deref.ensures.value) (subst (λ xs. (n : Node) → Contains c.merge.result.items n ↔ Contains xs n) copied c.merge.ensures.members) in
    let rising = subst (λ xs. AreRising xs) (sym c.deref.ensures.value) c.merge.ensures.rising in
    c.step_from-2.ensures.nodes k rising ns same have)

pub returns-clause-there : goal.returns-clause-there
returns-clause-there g c = λ k have. (
    let ns = c.args.nodes.now in
    let copied = c.in_ok-extend_from_slice.ensures.items ∙ ap (λ xs. xs ++ ns) c.in_ok-contexts.ensures.items in
    let same : AreSame c.deref.result.now ns = subst (λ xs. AreSame xs ns) (sym c.deref.ensures.value) (subst (λ xs. (n : Node) → Contains c.merge.result.items n ↔ Contains xs n) copied c.merge.ensures.members) in
    let rising = subst (λ xs. AreRising xs) (sym c.deref.ensures.value) c.merge.ensures.rising in
    c.step_from-2.ensures.there k rising ns same have)

pub returns-clause-rows : goal.returns-clause-rows
returns-clause-rows g c = λ k tree all. (
    let ns = c.args.nodes.now in
    let copied = c.in_ok-extend_from_slice.ensures.items ∙ ap (λ xs. xs ++ ns) c.in_ok-contexts.ensures.items in
    let same : AreSame c.deref.result.now ns = subst (λ xs. AreSame xs ns) (sym c.deref.ensures.value) (subst (λ xs. (n : Node) → Contains c.merge.result.items n ↔ Contains xs n) copied c.merge.ensures.members) in
    let rising = subst (λ xs. AreRising xs) (sym c.deref.ensures.value) c.merge.ensures.rising in
    c.step_from-2.ensures.rows k rising ns same tree all)

pub returns-then-rises-clause-sees : goal.returns-then-rises-clause-sees
returns-then-rises-clause-sees g c = λ k tree all. c.step_from.ensures.sees k (rising_seen c.args.nodes.now c.rises.result c.rises.ensures c.if-rises.true) c.args.nodes.now (λ n. (λ m. m, λ m. m)) tree all

pub returns-clause-sees : goal.returns-clause-sees
returns-clause-sees g c = λ k tree all. (
    let ns = c.args.nodes.now in
    let copied = c.in_ok-extend_from_slice.ensures.items ∙ ap (λ xs. xs ++ ns) c.in_ok-contexts.ensures.items in
    let same : AreSame c.deref.result.now ns = subst (λ xs. AreSame xs ns) (sym c.deref.ensures.value) (subst (λ xs. (n : Node) → Contains c.merge.result.items n ↔ Contains xs n) copied c.merge.ensures.members) in
    let rising = subst (λ xs. AreRising xs) (sym c.deref.ensures.value) c.merge.ensures.rising in
    c.step_from-2.ensures.sees k rising ns same tree all)
