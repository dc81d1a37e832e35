use Rattle.std.proofs.Common.{◌≡◌, ◌∷◌, ◌++◌, [], map, length, get_or, ap, sym, ◌∙◌, arith, ℕ, List, Option, Some, Bor}
use Rattle.std.specs.Prelude.{slice_get}
use Rattle.std.specs.Global.{Vec}
use Rattle.std.specs.List.{range_with_len}
use Rattle.std.specs.Option.{option_map, option_copied}
use Rattle.std.proofs.lemmas.List.{map_push, length-map, append_assoc}
use Rattle.std.proofs.lemmas.List.Folds.{flat_map-map}
use Rattle.std.proofs.lemmas.List.FromFn.{map-range_with_len_more}
use Rattle.xq_atoms.specs.declared.atoms.Atom.{Atom}
use Rattle.xq_trees.specs.Tuples.{Tuple, Keyed, grouped_value, grouped_tuple, slot_key, value_at}
use Rattle.xq_trees.specs.Items.{ItemView, Value, item_views}
use Rattle.xq_tuples.specs.Views.{slot_items, values_of}
use Rattle.xq_tuples.specs.private.KeyRows.{key_view, keys_at}
use Rattle.xq_tuples.specs.private.Groups.{keyed_of}
use Rattle.xq_tuples.proofs.groups.push_joined.Goals as goal
use Rattle.xq_tuples.proofs.groups.push_joined.Goals.{in-Some-slot_key+in_ok-value-in-Some-slot_key, in-None+in_ok-value-in-None}

-- the tuple of a group, by the first tuple in it
by_first : (slots : List ℕ) (columns : List (Vec (Option Atom))) (stream : List (Tuple ItemView)) (group : List ℕ) (first n : ℕ) → slice_get group 0 ≡ Some first → n ≡ length (get_or stream first [])
    → map (λ slot. grouped_value Value (slot_key slots (keys_at first columns) slot) slot (map (keyed_of columns stream) group)) (range_with_len 0 n) ≡ grouped_tuple Value slots (map (keyed_of columns stream) group)
by_first slots columns stream [] first n e long = cc
by_first slots columns stream (number ∷ numbers) first n e long =
    let same : first ≡ number = cc in
    let end : n ≡ length (get_or stream number []) = long ∙ ap (λ (k : ℕ). length (get_or stream k [])) same in
    λ t. map (λ slot. grouped_value Value (slot_key slots (keys_at (same t) columns) slot) slot (map (keyed_of columns stream) (number ∷ numbers))) (range_with_len 0 (end t))

pub loop-slot-preserved : goal.loop-slot-preserved
loop-slot-preserved c =
    let slots = c.args.slots.now in
    let columns = c.args.columns.now in
    let stream = c.args.stream.now in
    let slot = c.loop-slot.slot in
    let keys = keys_at c.in-Some.first.now columns in
    let group = map (keyed_of columns stream) c.args.group.now in
    let value_of : ℕ → List ItemView = λ slot. grouped_value Value (slot_key slots keys slot) slot group in
    let seen = λ (key : Option (Bor Atom)). key_view (option_copied key) in
    let found = sym c.slot_key.ensures in
    let given : item_views c.match-slot_key.value ≡ value_of slot =
    elim c.match-slot_key.branch [
      | in-Some-slot_key+in_ok-value-in-Some-slot_key w ↦ ap item_views w.value-is ∙ w.in_ok-value-in-Some-slot_key.ensures.value ∙ ap (λ k. grouped_value Value k slot group) (sym (found ∙ ap (option_map seen) w.in-Some-slot_key.is))
      | in-None+in_ok-value-in-None w ↦
          ap item_views w.value-is ∙ w.in_ok-value-in-None.ensures.value ∙ sym (flat_map-map (λ (row : Keyed ItemView). value_at slot row.0) (keyed_of columns stream) c.args.group.now)
          ∙ ap (λ k. grouped_value Value k slot group) (sym (found ∙ ap (option_map seen) w.in-None.is))
    ] in
    let value : slot_items c.in_ok-of_items.field-0 ≡ value_of slot = c.in_ok-of_items.ensures.value ∙ given in
    let before = values_of c.args.joined.now.items in
    ap values_of c.in_ok-push.ensures.items ∙ map_push slot_items c.loop-slot.joined.items c.in_ok-of_items.field-0 ∙ (λ t. c.loop-slot.invariant t ++ value t ∷ []) ∙ append_assoc before (map value_of (range_with_len 0 slot)) (value_of slot ∷ [])
    ∙ ap (λ l. before ++ l) (sym (map-range_with_len_more value_of 0 slot slot (omega arith)))

pub returns-clause-tuple : goal.returns-clause-tuple
returns-clause-tuple c =
    let first = c.in-Some.first.now in
    let stream = c.args.stream.now in
    let end : c.loop-slot.slot ≡ length (get_or stream first []) = omega (arith, c.loop-slot.auto.slot-end, c.loop-slot-test.false, length-map c.found-slot-end.result.now slot_items, ap length c.found-slot-end.ensures) in
    c.loop-slot.invariant ∙ ap (λ l. values_of c.args.joined.now.items ++ l) (by_first c.args.slots.now c.args.columns.now stream c.args.group.now first c.loop-slot.slot (sym c.in-Some.ensures.value) end)
