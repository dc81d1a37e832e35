use Rattle.std.proofs.Common.{◌≡◌, ◌<◌, [], ◌∷◌, ◌++◌, map, length, get_or, sym, ap, ◌∙◌, arith}
use Rattle.std.proofs.lemmas.List.{map_push, map_more, take_all}
use Rattle.std.proofs.lemmas.List.Elements.{All-get_or}
use Rattle.xq_trees.specs.Tuples.{value_at}
use Rattle.xq_trees.specs.Items.{item_view, item_views}
use Rattle.xq_tuples.specs.Views.{values_of}
use Rattle.xq_tuples.proofs.Laid.{counted}
use Rattle.xq_tuples.proofs.streams.Tuples.column.Goals as goal

pub value-requires : goal.value-requires
value-requires c =
    let self = c.args.self.now in
    let i = c.self.inside in
    let within : c.loop-index.index < length self = omega (arith, counted i.count i.width (values_of i.slots.items) self c.self.view_is, c.loop-index-test.true) in
    record {
      tuple = within;
      slot = All-get_or (λ t. c.args.slot < length t) self c.loop-index.index [] within c.requires;
    }

pub loop-index-preserved : goal.loop-index-preserved
loop-index-preserved c =
    let self = c.args.self.now in
    let i = c.self.inside in
    let index = c.loop-index.index in
    let within : index < length self = omega (arith, counted i.count i.width (values_of i.slots.items) self c.self.view_is, c.loop-index-test.true) in
    let value : item_views c.push_copies.new.copies ≡ value_at c.args.slot (get_or self index []) =
    c.in_ok-push_copies.ensures.items ∙ ap (λ l. map item_view l ++ map item_view c.value.result.now) c.new-value.ensures.items ∙ c.value.ensures in
    ap (map item_views) c.in_ok-push.ensures.items ∙ map_push item_views c.loop-index.column.items c.push_copies.new.copies ∙ (λ t. c.loop-index.invariant t ++ value t ∷ []) ∙ sym (map_more (value_at c.args.slot) self index [] within)

pub returns-clause-values : goal.returns-clause-values
returns-clause-values c =
    let i = c.self.inside in
    let self = c.args.self.now in
    let index = c.loop-index.index in
    c.loop-index.invariant ∙ ap (map (value_at c.args.slot)) (take_all index self (omega (arith, counted i.count i.width (values_of i.slots.items) self c.self.view_is, c.loop-index-test.false)))
