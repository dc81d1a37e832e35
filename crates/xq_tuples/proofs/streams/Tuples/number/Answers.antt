use Rattle.std.proofs.Common.{◌≡◌, ℕ, ◌+◌, ◌<◌, [], ◌∷◌, ◌++◌, List, take, length, get_or, refl, ap, sym, ◌∙◌, arith}
use Rattle.std.specs.Prelude.{pos}
use Rattle.std.proofs.lemmas.List.{length-map, take_all}
use Rattle.xq_atoms.specs.Atom.{Integer}
use Rattle.xq_trees.specs.Items.{ItemView, Value}
use Rattle.xq_trees.specs.Tuples.{Tuple, numbered}
use Rattle.xq_tuples.specs.Views.{slot_items, values_of}
use Rattle.xq_tuples.specs.private.Laid.{laid}
use Rattle.xq_tuples.proofs.Copies.{slot_pushed}
use Rattle.xq_tuples.proofs.Laid.{IsLaid, IsLaid-none, IsLaid-more, Stands, stands, AreWide, all_wide, counted, numbered_more, one_laid, wide_numbered}
use Rattle.xq_tuples.proofs.streams.Tuples.number.Goals as goal

pub tuple-requires : goal.tuple-requires
tuple-requires c =
    let i = c.self.inside in
    omega (arith, counted i.count i.width (values_of i.slots.items) c.args.self c.self.view_is, c.loop-index-test.true)

pub position_value-requires : goal.position_value-requires
position_value-requires c = omega (arith, c.loop-index-test.true, c.self.invariant.few)

pub loop-index-init : goal.loop-index-init
loop-index-init c = IsLaid-none 0 _ _ refl (ap values_of c.in_ok-slots.ensures.items) refl

pub loop-index-preserved : goal.loop-index-preserved
loop-index-preserved c =
    let i = c.self.inside in
    let self = c.args.self in
    let loop = c.loop-index in
    let index = loop.index in
    let within : index < length self = omega (arith, counted i.count i.width (values_of i.slots.items) self c.self.view_is, c.loop-index-test.true) in
    let value = Value (Integer (pos (index + 1))) ∷ [] in
    let before = values_of loop.slots.items in
    let tuple = get_or self index [] in
    let copied = c.in_ok-push_tuple.ensures.slots ∙ ap (λ l. before ++ l) c.tuple.ensures in
    let pushed = slot_pushed before tuple c.push_tuple.new.slots.items c.push.new.self.items _ value copied c.in_ok-position_value.ensures.value c.in_ok-push.ensures.items in
    IsLaid-more index before (numbered Value (take index self)) (index + 1) (values_of c.push.new.self.items) ((tuple ++ value ∷ []) ∷ []) _ loop.invariant refl (one_laid before (tuple ++ value ∷ []) _ pushed) (numbered_more self index within)

-- all of them have their numbers
finished : (w i count : ℕ) (self : List (Tuple ItemView)) (values : List (List ItemView)) → AreWide w self → IsLaid i values (numbered Value (take i self)) → i ≡ count → length self ≡ count → Stands count (w + 1) values (numbered Value self)
finished w i count self values wide h e l =
    let all : take i self ≡ self = take_all i self (omega (arith, e, l)) in
    stands (w + 1) count values (numbered Value self) (wide_numbered w self wide)
    (record { counted = sym e ∙ h.counted ∙ ap (λ ts. length (numbered Value ts)) all; are = h.are ∙ ap (λ ts. laid (numbered Value ts)) all })

pub of_slots-requires : goal.of_slots-requires
of_slots-requires c =
    let i = c.self.inside in
    let slots = values_of i.slots.items in
    let many = counted i.count i.width slots c.args.self c.self.view_is in
    let wide = all_wide i.count i.width slots c.args.self c.self.view_is (length-map i.slots.items slot_items ∙ c.self.invariant.long) in
    let stood = finished i.width c.loop-index.index i.count c.args.self (values_of c.loop-index.slots.items) wide c.loop-index.invariant (omega (arith, c.loop-index.auto.index-end, c.loop-index-test.false)) many in
    record { long = sym (length-map c.loop-index.slots.items slot_items) ∙ stood.long; few = c.self.invariant.few }

pub returns-clause-stream : goal.returns-clause-stream
returns-clause-stream c =
    let i = c.self.inside in
    let slots = values_of i.slots.items in
    let many = counted i.count i.width slots c.args.self c.self.view_is in
    let wide = all_wide i.count i.width slots c.args.self c.self.view_is (length-map i.slots.items slot_items ∙ c.self.invariant.long) in
    let stood = finished i.width c.loop-index.index i.count c.args.self (values_of c.loop-index.slots.items) wide c.loop-index.invariant (omega (arith, c.loop-index.auto.index-end, c.loop-index-test.false)) many in
    c.of_slots.ensures ∙ stood.are
