use Rattle.std.proofs.Common.{◌≡◌, ◌++◌, ◌+◌, ◌∷◌, [], drop, length, map, ap, ◌∙◌, subst, arith}
use Rattle.std.proofs.lemmas.List.{map-append, length-map, drop_all, drop-drop}
use Rattle.xq_trees.specs.Items.{item_view, item_views}
use Rattle.xq_eval.specs.private.Bindings.{values_left, stack_of, Falls, stays, falls}
use Rattle.xq_eval.proofs.bindings.next_value.Goals as goal

pub variables-init : goal.variables-init
variables-init c = record { within = omega arith; shorter = omega arith; falls = stays }

pub variables-preserved : goal.variables-preserved
variables-preserved c =
    let i = c.variables.invariant in
    let below = c.in-Some.below in
    let items = c.variables.items.value.items in
    let many = length-map items item_view in
    let same = ap (λ v. length v.items) c.deref.ensures in
    let used : drop c.variables.next (map item_view items) ≡ [] = drop_all c.variables.next (map item_view items) (omega arith) in
    let popped : stack_of c.variables.stack ≡ stack_of c.pop.new.self ++ values_left below ∷ [] = ap (map values_left) c.in-Some.ensures.items ∙ map-append values_left c.pop.new.self.items (below ∷ []) in
    let rest : drop 1 (values_left below) ≡ drop (below.current + 1) (item_views below.items.value) = drop-drop 1 below.current (item_views below.items.value) in
    let at_below = subst (λ s. Falls (stack_of c.args.stack.now) (item_views c.args.items.value) s []) popped
    (subst (Falls (stack_of c.args.stack.now) (item_views c.args.items.value) (stack_of c.variables.stack)) used i.falls) in
    record {
      within = omega arith;
      shorter = omega arith;
      falls = subst (Falls (stack_of c.args.stack.now) (item_views c.args.items.value) (stack_of c.pop.new.self)) rest (falls (stack_of c.pop.new.self) (values_left below) at_below);
    }
