use Rattle.std.proofs.Common.{◌≡◌, ◌++◌, ◌+◌, ◌∷◌, [], take, drop, length, map, ap, ◌∙◌, sym, subst, arith, get_or}
use Rattle.std.proofs.lemmas.List.{map-append, length-map, take-map}
use Rattle.xq_trees.specs.Items.{item_view, item_views}
use Rattle.xq_tuples.specs.Views.{slot_items, values_of}
use Rattle.xq_eval.specs.private.Bindings.{values_left, stack_of, Falls}
use Rattle.xq_eval.proofs.NextValues.{next_left}
use Rattle.xq_eval.proofs.bindings.advance.Goals as goal

pub returns : goal.returns
returns c =
    let held = c.in-Some.items.value.items in
    let n = c.in-Some.current in
    let x = c.index.result.now in
    let below = stack_of c.next_value.new.stack in
    let left = map item_view (drop (n + 1) held) in
    let split : drop n (map item_view held) ≡ item_view x ∷ left = next_left item_view held n x (omega arith) (c.index.ensures ∙ ap (λ v. get_or v.items n x) c.deref.ensures) in
    let many = length-map c.next_value.new.stack.items values_left in
    let n' : c.args.outer + c.len.result ≡ c.args.outer + length below = omega arith in
    record {
      below = below;
      value = item_view x;
      left = left;
      falls = subst (Falls (stack_of c.args.stack.now) (item_views c.args.items.value) below) split c.in-Some.ensures.found;
      in_stack = ap (map values_left) c.in_ok-push-2.ensures.items ∙ map-append values_left c.next_value.new.stack.items _ ∙ ap (λ e. below ++ e ∷ []) split;
      in_slots = ap values_of c.in_ok-push.ensures.items ∙ map-append slot_items c.truncate.new.self.items (c.in_ok-value.value ∷ [])
          ∙ ap (λ s. s ++ slot_items c.in_ok-value.value ∷ []) (ap values_of c.truncate.ensures.items ∙ sym (take-map slot_items (c.args.outer + c.len.result) c.args.slots.now.items) ∙ ap (λ k. take k (values_of c.args.slots.now.items)) n')
          ∙ ap (λ v. take (c.args.outer + length below) (values_of c.args.slots.now.items) ++ v ∷ []) (c.in_ok-value.ensures.value ∙ ap (λ y. y ∷ []) c.in_ok-try_clone.ensures.item);
    }
