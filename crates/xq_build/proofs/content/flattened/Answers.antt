use Rattle.std.proofs.Common.{◌≡◌, ◌∙◌, List, map, ap, arith, drop, subst, sym, true}
use Rattle.std.specs.Prelude.{string_bytes}
use Rattle.std.specs.Option.{option_map}
use Rattle.std.proofs.lemmas.List.{drop_all}
use Rattle.xq_trees.specs.declared.items.Item.{Item}
use Rattle.xq_trees.specs.Items.{item_view}
use Rattle.xq_trees.specs.Levels.{flat}
use Rattle.xq_meaning.specs.Readings.{items_at}
use Rattle.xq_build.specs.private.Surplus.{is_full, AreSeen}
use Rattle.xq_build.proofs.Surpluses.{Next, alike_then, flattened_all, item_next}
use Rattle.xq_build.proofs.content.flattened.Goals as goal

pub returns-clause-flattens : goal.returns-clause-flattens
returns-clause-flattens g c = λ h.
    (let trees = g.L.TreeSource.forest c.args.source.now in
    let i = c.loop-item.invariant in
    flattened_all trees (option_map string_bytes c.loop-item.run) (items_at trees (map item_view (drop c.loop-item.item-index c.args.items.now))) (items_at trees (map item_view c.args.items.now))
    (map flat c.loop-item.rows.rows) (map flat c.append_run.new.rows.rows)
    (ap (λ (xs : List Item). items_at trees (map item_view xs)) (drop_all c.loop-item.item-index c.args.items.now (omega arith)))
    c.in_ok-append_run.ensures (i.is h) (i.childless h))

pub loop-item-preserved : goal.loop-item-preserved
loop-item-preserved g c =
    let i = c.loop-item.invariant in
    let trees = g.L.TreeSource.forest c.args.source.now in
    let before = map flat c.loop-item.rows.rows in
    let gauged : g.L.TreeSource.is_clean c.loop-item.source → c.reads-full.new.self.full ≡ true → is_full before ≡ true =
    λ h e. c.reads-full.ensures.full (i.full h) e in
    let step : g.L.TreeSource.is_clean c.take_item.new.source → Next trees c.args.items.now c.loop-item.item-index before (option_map string_bytes c.loop-item.run)
    (map flat c.take_item.new.rows.rows) (option_map string_bytes c.in_ok-run.run') c.take_item.new.seen.keys =
    λ h. (let hl = c.take_item.ensures.was_clean h in
    item_next trees (g.L.TreeSource.forest c.loop-item.source) c.args.items.now c.loop-item.item-index c.item-item.result before (option_map string_bytes c.loop-item.run)
    (map flat c.take_item.new.rows.rows) (option_map string_bytes c.in_ok-run.run') c.take_item.new.seen.keys i.keeps (omega arith) c.item-item.is
    (c.in_ok-run.ensures.takes h (λ e. gauged hl (sym c.reads-full.ensures.told ∙ e)) (subst (λ ts. AreSeen ts before c.loop-item.seen.keys) (sym i.keeps) (i.seen hl)))) in
    record {
      keeps = c.take_item.ensures.keeps ∙ i.keeps;
      was_clean = λ h. i.was_clean (c.take_item.ensures.was_clean h);
      is = λ h. alike_then _ _ _ (step h).is (i.is (c.take_item.ensures.was_clean h));
      childless = λ h k. i.childless (c.take_item.ensures.was_clean h) ((step h).childless k);
      full = λ h e. (step h).full (gauged (c.take_item.ensures.was_clean h) e);
      seen = λ h. (step h).seen;
    }
