use Rattle.std.proofs.Common.{map, subst, sym}
use Rattle.std.specs.Prelude.{string_bytes, None}
use Rattle.std.specs.Option.{option_map}
use Rattle.xq_trees.specs.declared.items.Item.{Item}
use Rattle.xq_trees.specs.Items.{item_view}
use Rattle.xq_trees.specs.Levels.{flat}
use Rattle.xq_meaning.specs.Readings.{item_at}
use Rattle.xq_build.specs.private.Surplus.{Takes}
use Rattle.xq_build.proofs.Surpluses.{seen_later, took_node, took_short}
use Rattle.xq_build.proofs.content.take_item.Goals as goal

pub returns-then-full-clause-takes : goal.returns-then-full-clause-takes
returns-then-full-clause-takes g c = λ h gauged seen.
    (let trees = g.L.TreeSource.forest c.args.source.now in
    let before = map flat c.args.rows.now.rows in
    let mid = map flat c.append_run.new.rows.rows in
    let after = map flat c.append_judged.new.rows.rows in
    let short = c.in_ok-append_judged-in-Node.ensures.shortens h (seen_later trees before _ mid c.args.seen.now.keys c.in_ok-append_run-in-Node.ensures seen) in
    let w = took_short trees c.in-Node.node (option_map string_bytes c.args.run) before mid after c.append_judged.new.seen.keys (gauged c.if-full.true) c.in_ok-append_run-in-Node.ensures short
    (c.in_ok-append_judged-in-Node.ensures.childless h) in
    subst (λ (x : Item). Takes trees (item_at trees (item_view x)) before (option_map string_bytes c.args.run) after None c.append_judged.new.seen.keys) (sym c.in-Node.is) w)

pub returns-in_ok-append_content-in-Node-clause-takes : goal.returns-in_ok-append_content-in-Node-clause-takes
returns-in_ok-append_content-in-Node-clause-takes g c = λ h gauged seen.
    (let trees = g.L.TreeSource.forest c.args.source.now in
    let before = map flat c.args.rows.now.rows in
    let after = map flat c.append_content.new.copies.rows in
    let w = took_node trees c.in-Node.node (option_map string_bytes c.args.run) before (map flat c.append_run.new.rows.rows) after c.args.seen.now.keys
    c.in_ok-append_run-in-Node.ensures (c.in_ok-append_content-in-Node.ensures.copied h) (c.in_ok-append_content-in-Node.ensures.childless h) seen in
    subst (λ (x : Item). Takes trees (item_at trees (item_view x)) before (option_map string_bytes c.args.run) after None c.args.seen.now.keys) (sym c.in-Node.is) w)
