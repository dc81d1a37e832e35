use Rattle.std.proofs.Common.{◌&&◌, map, refl, ap, ◌∙◌, sym}
use Rattle.xq_atoms.specs.Compare.{key_of}
use Rattle.xq_trees.specs.Tuples.{are_of_one_kind}
use Rattle.xq_tuples.proofs.order.sort_column.Goals as goal

pub returns-then-are_of_one_kind-clause-can_order : goal.returns-then-are_of_one_kind-clause-can_order
returns-then-are_of_one_kind-clause-can_order c =
    let kind = sym (c.are_of_one_kind.ensures ∙ ap (λ l. are_of_one_kind (map key_of l)) c.deref.ensures.value ∙ ap are_of_one_kind c.in_ok-keys.ensures.keys) ∙ c.if-are_of_one_kind.true in
    λ t. c.in_ok-keys.ensures.are_keys t && kind t

pub returns-else-are_of_one_kind-clause-refused : goal.returns-else-are_of_one_kind-clause-refused
returns-else-are_of_one_kind-clause-refused c =
    let kind = sym (c.are_of_one_kind.ensures ∙ ap (λ l. are_of_one_kind (map key_of l)) c.deref.ensures.value ∙ ap are_of_one_kind c.in_ok-keys.ensures.keys) ∙ c.if-are_of_one_kind.false in
    (refl, λ t. c.in_ok-keys.ensures.are_keys t && kind t)
