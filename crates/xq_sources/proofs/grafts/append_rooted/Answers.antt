use Rattle.std.proofs.Common.{◌≡◌, ◌++◌, ◌∷◌, [], ◌-◌, List, true, length, map, refl, ap, ◌∙◌, subst, arith, append_assoc, rules}
use Rattle.xq_packed.specs.Changes.{resized, with_size}
use Rattle.xq_packed.specs.Packed.{row}
use Rattle.xq_trees.specs.Items.{item_view}
use Rattle.xq_trees.specs.Rows.{Row}
use Rattle.xq_sources.specs.Grafts.{lone}
use Rattle.xq_sources.specs.private.Meeting.{AreMet}
use Rattle.xq_sources.specs.private.Planted.{trees_after}
use Rattle.xq_sources.proofs.Meets.{are_rooted, with_size-after}
use Rattle.xq_sources.proofs.grafts.append_rooted.Goals as goal

pub returns-clause-rooted : goal.returns-clause-rooted
returns-clause-rooted c planted is =
    let rs = c.args.rows.now.rows in
    let trees = trees_after rs 0 c.args.ends.now in
    let root = (lone c.args.kind c.args.name.now []).root in
    let items = map item_view c.args.items.now in
    let pushed = c.in_ok-push_parts.ensures.rows in
    let did : c.in_ok-append_trees.field-0 ≡ true = search rules in
    let met = subst (λ (old : List Row). AreMet c.args.first root items trees old c.append_trees.new.rows.rows) pushed (c.in_ok-append_trees.ensures.met rs (row 0 0 c.args.kind c.args.name.now [] ∷ []) root refl pushed planted did) in
    let many : c.len.result - c.len-under.result ≡ length c.append_trees.new.rows.rows - length (rs ++ row 0 0 c.args.kind c.args.name.now [] ∷ []) = omega (arith, c.len.ensures.rows, c.len-under.ensures.rows, ap length pushed) in
    are_rooted c.args.first c.len-root.result (c.len.result - c.len-under.result) root items trees rs c.append_trees.new.rows.rows c.set_size.new.self.rows c.len-root.ensures.rows many (omega (arith, c.if-size-ge-MAX_NODES.false)) met c.set_size.ensures.rows

pub returns-clause-after : goal.returns-clause-after
returns-clause-after c =
    let rs = c.args.rows.now.rows in
    let first = row 0 0 c.args.kind c.args.name.now [] in
    let size = c.len.result - c.len-under.result in
    let more = c.append_trees.ensures.after in
    let all : c.append_trees.new.rows.rows ≡ rs ++ first ∷ more.0 = more.1 ∙ ap (λ (qs : List Row). qs ++ more.0) c.in_ok-push_parts.ensures.rows ∙ append_assoc rs (first ∷ []) more.0 in (
      resized size first ∷ more.0,
      c.set_size.ensures.rows
          ∙ ap (λ n. with_size n size c.append_trees.new.rows.rows) c.len-root.ensures.rows
          ∙ ap (with_size (length rs) size) all
          ∙ with_size-after rs more.0 first size,
    )
