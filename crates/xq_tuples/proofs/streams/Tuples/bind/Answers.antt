use Rattle.std.proofs.Common.{◌≡◌, ℕ, ◌+◌, ◌<◌, [], ◌∷◌, ◌++◌, List, map, length, get_or, refl, ap, sym, ◌∙◌, arith}
use Rattle.std.specs.Global.{Vec}
use Rattle.std.specs.List.{enumerate_from}
use Rattle.std.proofs.lemmas.List.{length-map, length_push, map-id}
use Rattle.std.proofs.lemmas.List.FromFn.{length-enumerate_from}
use Rattle.std.proofs.lemmas.Iterator.Adapters.{YieldsList-from_vec}
use Rattle.std.proofs.lemmas.Iterator.Consumers.{YieldsList-end, YieldsList-turn, YieldsList-from_enumerate}
use Rattle.xq_trees.specs.declared.items.Item.{Item}
use Rattle.xq_trees.specs.Items.{ItemView, item_views}
use Rattle.xq_trees.specs.Tuples.{Tuple, bound}
use Rattle.xq_tuples.specs.Views.{slot_items, values_of}
use Rattle.xq_tuples.specs.private.Laid.{laid}
use Rattle.xq_tuples.proofs.Copies.{slot_pushed}
use Rattle.xq_tuples.proofs.Laid.{IsLaid, IsLaid-none, IsLaid-more, Stands, stands, AreWide, all_wide, counted, one_laid, place_of, seen_all, seen_none, side_more, wide_bound}
use Rattle.xq_tuples.proofs.streams.Tuples.bind.Goals as goal
use Rattle.xq_tuples.proofs.streams.Tuples.bind.Goals.{In-Some, In-None}

abbrev items_in : ℕ × Vec Item → List ItemView
items_in p = item_views p.1

pub loop-index-init : goal.loop-index-init
loop-index-init c = IsLaid-none 0 _ _ refl (ap values_of c.in_ok-slots.ensures.items) (seen_none items_in c.args.self (map (λ (p : Tuple ItemView × List ItemView). p.0 ++ p.1 ∷ [])))

turned : (c : In-Some) → (c.in-Some.index ≡ length c.loop-index.yielded) × (length c.loop-index.yielded < length c.args.values.items)
turned c =
    let xs = c.args.values.items in
    let turn = YieldsList-turn (YieldsList-from_enumerate (YieldsList-from_vec xs (cc) (cc)) (cc)) c.loop-index.yielded c.loop-index.index-iterator c.loop-index.yielded_by c.next.result c.next.new.self (c.in-Some.index, c.in-Some.value) c.in-Some.is c.next.ensures.steps in
    place_of xs (length c.loop-index.yielded) (c.in-Some.index, c.in-Some.value) turn.0 turn.1

pub tuple-requires : goal.tuple-requires
tuple-requires c =
    let t = turned ((goal.at.tuple-requires c).In-Some) in
    omega (arith, t.0, t.1, c.requires)

pub loop-index-preserved : goal.loop-index-preserved
loop-index-preserved c =
    let self = c.args.self in
    let loop = c.loop-index in
    let k = length loop.yielded in
    let t = turned ((goal.at.loop-index-preserved c).In-Some) in
    let value = item_views c.in-Some.value in
    let before = values_of loop.slots.items in
    let tuple = get_or self k [] in
    let copied = c.in_ok-push_tuple.ensures.slots ∙ ap (λ l. before ++ l) (c.tuple.ensures ∙ ap (λ n. get_or self n []) t.0) in
    let pushed = slot_pushed before tuple c.push_tuple.new.slots.items c.push.new.self.items _ value copied c.in_ok-of_items.ensures.value c.in_ok-push.ensures.items in
    IsLaid-more k before (bound self (map items_in loop.yielded)) _ (values_of c.push.new.self.items) ((tuple ++ value ∷ []) ∷ []) _ loop.invariant
    (length_push loop.yielded (c.in-Some.index, c.in-Some.value))
    (one_laid before (tuple ++ value ∷ []) _ pushed)
    (side_more items_in self loop.yielded (c.in-Some.index, c.in-Some.value) [] k refl (omega (arith, t.1, c.requires)) (λ (p : Tuple ItemView × List ItemView). p.0 ++ p.1 ∷ []))

-- all of them have their values
finished : (w count : ℕ) (self : List (Tuple ItemView)) (values : List (List ItemView)) (xs : List (Vec Item)) (yielded : List (ℕ × Vec Item)) → AreWide w self → IsLaid (length yielded) values (bound self (map items_in yielded))
    → map (λ p. p) yielded ≡ enumerate_from 0 xs → length xs ≡ length self → length self ≡ count → Stands count (w + 1) values (bound self (map item_views xs))
finished w count self values xs yielded wide h e l c =
    let those = sym (map-id yielded) ∙ e in
    let seen : map items_in yielded ≡ map item_views xs = ap (map items_in) those ∙ seen_all item_views 0 xs in
    let all : count ≡ length yielded = omega (arith, c, l, ap length those, length-enumerate_from 0 xs) in
    stands (w + 1) count values (bound self (map item_views xs)) (wide_bound w self (map item_views xs) wide)
    (record { counted = all ∙ h.counted ∙ ap (λ vs. length (bound self vs)) seen; are = h.are ∙ ap (λ vs. laid (bound self vs)) seen })

stood : (c : In-None) → Stands c.self.inside.count (c.self.inside.width + 1) (values_of c.loop-index.slots.items) (bound c.args.self (map item_views c.args.values.items))
stood c =
    let i = c.self.inside in
    let xs = c.args.values.items in
    let slots = values_of i.slots.items in
    let ended = YieldsList-end (YieldsList-from_enumerate (YieldsList-from_vec xs (cc) (cc)) (cc)) c.loop-index.yielded c.loop-index.index-iterator c.loop-index.yielded_by c.next.result c.next.new.self c.in-None.is c.next.ensures.steps in
    finished i.width i.count c.args.self (values_of c.loop-index.slots.items) xs c.loop-index.yielded (all_wide i.count i.width slots c.args.self c.self.view_is (length-map i.slots.items slot_items ∙ c.self.invariant.long))
    c.loop-index.invariant ended.0 c.requires (counted i.count i.width slots c.args.self c.self.view_is)

pub of_slots-requires : goal.of_slots-requires
of_slots-requires c =
    let s = (goal.at.of_slots-requires c).In-None in
    record { long = sym (length-map s.loop-index.slots.items slot_items) ∙ (stood s).long; few = s.self.invariant.few }

pub returns-clause-stream : goal.returns-clause-stream
returns-clause-stream c = c.of_slots.ensures ∙ (stood ((goal.at.returns-clause-stream c).In-None)).are
