use Rattle.std.proofs.Common.{◌≡◌, ℕ, ◌+◌, ◌*◌, ◌<◌, [], ◌∷◌, ◌++◌, List, map, length, get_or, max, true, refl, ap, sym, subst, ◌∙◌, arith}
use Rattle.std.specs.Global.{Vec}
use Rattle.std.specs.List.{flat_map}
use Rattle.std.proofs.lemmas.List.{length-map, map-id}
use Rattle.std.proofs.lemmas.Iterator.Adapters.{YieldsList-from_vec}
use Rattle.std.proofs.lemmas.Iterator.Consumers.{YieldsList-end, YieldsList-turn, YieldsList-from_enumerate}
use Rattle.xq_trees.specs.declared.items.Item.{Item}
use Rattle.xq_trees.specs.Items.{ItemView, Value, item_view, item_views}
use Rattle.xq_trees.specs.Tuples.{Tuple, expanded, with_each_or_empty}
use Rattle.xq_tuples.specs.Keys.{by_tuple}
use Rattle.xq_tuples.specs.Views.{slot_items, values_of}
use Rattle.xq_tuples.specs.private.Laid.{laid, slots_bound}
use Rattle.xq_tuples.proofs.Laid.{Stands, stands, IsLaid, IsLaid-none, IsLaid-more, all_wide, few_bound, few_enough, place_of, seen_all, seen_none, some_bound, flat_more, wide_expanded, length-or_empty}
use Rattle.xq_tuples.proofs.streams.Tuples.expand_empty.Goals as goal
use Rattle.xq_tuples.proofs.streams.Tuples.expand_empty.Goals.{In-Some, In_ok-push_each_or_empty, In-None}

abbrev items_in : ℕ × Vec Item → List ItemView
items_in p = item_views p.1

pub loop-index-init : goal.loop-index-init
loop-index-init c = IsLaid-none 0 _ _ refl (ap values_of c.new-slots.ensures.items) (seen_none items_in c.args.self (flat_map (λ (p : Tuple ItemView × List ItemView). with_each_or_empty Value c.args.at p.0 p.1)))

turned : (c : In-Some) → (c.in-Some.index ≡ length c.loop-index.yielded) × (length c.loop-index.yielded < length c.args.lists.items)
turned c =
    let xs = c.args.lists.items in
    let turn = YieldsList-turn (YieldsList-from_enumerate (YieldsList-from_vec xs (cc) (cc)) (cc)) c.loop-index.yielded c.loop-index.index-iterator c.loop-index.yielded_by c.next.result c.next.new.self (c.in-Some.index, c.in-Some.items) c.in-Some.is c.next.ensures.steps in
    place_of xs (length c.loop-index.yielded) (c.in-Some.index, c.in-Some.items) turn.0 turn.1

pub tuple-requires : goal.tuple-requires
tuple-requires c =
    let t = turned ((goal.at.tuple-requires c).In-Some) in
    omega (arith, t.0, t.1, c.requires)

turned_then : (c : In_ok-push_each_or_empty) → (c.in-Some.index ≡ length c.loop-index.yielded) × (length c.loop-index.yielded < length c.args.lists.items)
turned_then c =
    let xs = c.args.lists.items in
    let turn = YieldsList-turn (YieldsList-from_enumerate (YieldsList-from_vec xs (cc) (cc)) (cc)) c.loop-index.yielded c.loop-index.index-iterator c.loop-index.yielded_by c.next.result c.next.new.self (c.in-Some.index, c.in-Some.items) c.in-Some.is c.next.ensures.steps in
    place_of xs (length c.loop-index.yielded) (c.in-Some.index, c.in-Some.items) turn.0 turn.1

-- one list more
grown : (c : In_ok-push_each_or_empty) → IsLaid (c.loop-index.count + c.max-more.result) (values_of c.push_each_or_empty.new.slots.items) (expanded Value true c.args.at c.args.self (map items_in (c.loop-index.yielded ++ (c.in-Some.index, c.in-Some.items) ∷ [])))
grown c =
    let self = c.args.self in
    let at = c.args.at in
    let loop = c.loop-index in
    let items = c.in-Some.items in
    let k = length loop.yielded in
    let tuple = get_or self k [] in
    let t = turned_then c in
    let read = c.tuple.ensures ∙ ap (λ n. get_or self n []) t.0 in
    let more_is : c.max-more.result ≡ max (length (item_views items)) 1 = c.max-more.ensures ∙ ap (λ n. max n 1) (c.len.ensures ∙ items.ok.0 ∙ sym (length-map items.items item_view)) in
    let more = more_is ∙ sym (length-or_empty at tuple (item_views items)) in
    IsLaid-more loop.count (values_of loop.slots.items) (expanded Value true at self (map items_in loop.yielded)) _ _ (with_each_or_empty Value at tuple (item_views items)) _ loop.invariant
    (ap (λ m. loop.count + m) (more))
    (c.in_ok-push_each_or_empty.ensures.slots ∙ ap (λ u. values_of loop.slots.items ++ laid (with_each_or_empty Value at u (item_views items))) read)
    (flat_more items_in self loop.yielded (c.in-Some.index, items) [] k refl (omega (arith, t.1, c.requires)) (λ (p : Tuple ItemView × List ItemView). with_each_or_empty Value at p.0 p.1))

pub loop-index-preserved : goal.loop-index-preserved
loop-index-preserved c = grown ((goal.at.loop-index-preserved c).In_ok-push_each_or_empty)

-- the tuples are as wide as they should be
wide : (c : In_ok-push_each_or_empty) → Stands (c.loop-index.count + c.max-more.result) (c.self.inside.width + slots_bound c.args.at) (values_of c.push_each_or_empty.new.slots.items) (expanded Value true c.args.at c.args.self (map items_in (c.loop-index.yielded ++ (c.in-Some.index, c.in-Some.items) ∷ [])))
wide c =
    let i = c.self.inside in
    let lists = map items_in (c.loop-index.yielded ++ (c.in-Some.index, c.in-Some.items) ∷ []) in
    stands (i.width + slots_bound c.args.at) (c.loop-index.count + c.max-more.result) (values_of c.push_each_or_empty.new.slots.items) (expanded Value true c.args.at c.args.self lists)
    (wide_expanded true c.args.at i.width c.args.self lists (all_wide i.count i.width (values_of i.slots.items) c.args.self c.self.view_is (length-map i.slots.items slot_items ∙ c.self.invariant.long))) (grown c)

pub overflow_add-count : goal.overflow_add-count
overflow_add-count c =
    let s = (goal.at.overflow_add-count c).In_ok-push_each_or_empty in
    let slots = s.push_each_or_empty.new.slots in
    let n = s.loop-index.count + s.max-more.result in
    omega (arith, few_enough n (s.self.inside.width + slots_bound s.args.at) (omega (arith, some_bound s.args.at)), (wide s).long, length-map slots.items slot_items, slots.ok.0, slots.ok.1, slots.small)

stood : (c : In-None) → Stands c.loop-index.count (c.self.inside.width + slots_bound c.args.at) (values_of c.loop-index.slots.items) (expanded Value true c.args.at c.args.self (map item_views c.args.lists.items))
stood c =
    let i = c.self.inside in
    let xs = c.args.lists.items in
    let lists = map item_views xs in
    let values = values_of c.loop-index.slots.items in
    let ended = YieldsList-end (YieldsList-from_enumerate (YieldsList-from_vec xs (cc) (cc)) (cc)) c.loop-index.yielded c.loop-index.index-iterator c.loop-index.yielded_by c.next.result c.next.new.self c.in-None.is c.next.ensures.steps in
    let seen : map items_in c.loop-index.yielded ≡ lists = ap (map items_in) (sym (map-id c.loop-index.yielded) ∙ ended.0) ∙ seen_all item_views 0 xs in
    stands (i.width + slots_bound c.args.at) c.loop-index.count values (expanded Value true c.args.at c.args.self lists)
    (wide_expanded true c.args.at i.width c.args.self lists (all_wide i.count i.width (values_of i.slots.items) c.args.self c.self.view_is (length-map i.slots.items slot_items ∙ c.self.invariant.long)))
    (subst (λ l. IsLaid c.loop-index.count values (expanded Value true c.args.at c.args.self l)) seen c.loop-index.invariant)

pub overflow_add-width : goal.overflow_add-width
overflow_add-width c =
    let slots = c.self.inside.slots in
    omega (arith, c.self.invariant.narrow, slots.ok.0, slots.ok.1, slots.small, few_bound c.args.at, c.slots_bound.ensures)

pub of_slots-requires : goal.of_slots-requires
of_slots-requires c =
    let s = (goal.at.of_slots-requires c).In-None in
    let slots = s.loop-index.slots in
    record {
      long = sym (length-map slots.items slot_items) ∙ (stood s).long ∙ ap (λ n. s.loop-index.count * (s.self.inside.width + n)) (sym c.slots_bound.ensures);
      few = omega (arith, few_enough s.loop-index.count (s.self.inside.width + slots_bound s.args.at) (omega (arith, some_bound s.args.at)), (stood s).long, length-map slots.items slot_items, slots.ok.0, slots.ok.1, slots.small);
    }

pub returns-clause-stream : goal.returns-clause-stream
returns-clause-stream c =
    let s = (goal.at.returns-clause-stream c).In-None in
    c.of_slots.ensures ∙ ap (λ n. by_tuple s.loop-index.count (s.self.inside.width + n) (values_of s.loop-index.slots.items)) c.slots_bound.ensures ∙ (stood s).are
