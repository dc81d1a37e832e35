use Rattle.std.proofs.Common.{◌≡◌, ◌+◌, ◌++◌, ◌∷◌, [], ◌&&◌, ◌||◌, cond, eqb, nat_le, sym, ap, ◌∙◌}
use Rattle.xq_trees.specs.RegionTests.{plain_row}
use Rattle.xq_trees.specs.Rows.{rows, row_at}
use Rattle.xq_axes.specs.private.Hits.{is_among, row_passes}
use Rattle.xq_axes.specs.private.Downward.{level_of}
use Rattle.xq_axes.specs.private.Waiting.{waits, is_awaited, IsLooked}
use Rattle.xq_axes.specs.declared.backward.Seen.{Seen}
use Rattle.xq_axes.proofs.Sizes.{OnOk-then}
use Rattle.xq_axes.proofs.Looking.{looked_one, awaited_is}
use Rattle.xq_axes.proofs.backward.Look.look.Goals as goal

pub returns-clause-looked : goal.returns-clause-looked
returns-clause-looked c = λ test t hp er old. (
    let look = c.args.self.now in
    let d = look.direction in
    let vs = look.contexts.places.now in
    let levels = look.levels in
    let p = c.args.place in
    let row = c.args.row in
    let level = c.from-level.result in
    let context = c.meets-is_context.result in
    let plain : row.is_plain ≡ plain_row (rows t) p = ap (λ (s : Seen). s.is_plain) er in
    let passes : row.passes ≡ row_passes test (row_at (rows t) p) = ap (λ (s : Seen). s.passes) er in
    let e : level ≡ level_of t p = c.from-level.ensures ∙ ap (λ (s : Seen). s.level) er in
    let w : c.waits-waits.result ≡ (context && waits d level (plain_row (rows t) p)) = c.waits-waits.ensures ∙ ap (λ l. context && waits d l row.is_plain) (sym c.from-level.ensures) ∙ ap (λ b. context && waits d level b) plain in
    let h : c.is_wanted-is_hit.result ≡ (is_awaited d (is_among levels (level + 1)) (is_among levels level) (plain_row (rows t) p) && row_passes test (row_at (rows t) p)) =
    c.is_wanted-is_hit.ensures ∙ ap (λ b. is_awaited d b c.in_ok-is_beside.is_beside row.is_plain && row.passes) c.is_parent-is_parent.ensures
    ∙ ap (λ b. b && row.passes) (awaited_is d (is_among levels (level + 1)) c.in_ok-is_beside.is_beside row.is_plain)
    ∙ ap (λ b. is_awaited d (is_among levels (level + 1)) b row.is_plain && row.passes) c.in_ok-is_beside.ensures.awaited
    ∙ ap (λ b. is_awaited d (is_among levels (level + 1)) (is_among levels level) b && row.passes) plain
    ∙ ap (λ b. is_awaited d (is_among levels (level + 1)) (is_among levels level) (plain_row (rows t) p) && b) passes in
    OnOk-then c.push_if.result (c.push_if.new.found.items ≡ look.found.items ++ cond c.is_wanted-is_hit.result (p ∷ []) [])
    (IsLooked d test t vs p c.meets-is_context.new.self.left c.meet.new.self c.push_if.new.found.items)
    (λ f. looked_one d test t vs p look.contexts.left c.meets-is_context.new.self.left level levels c.meet.new.self look.found.items c.push_if.new.found.items context c.is_wanted-is_hit.result hp old e
    (c.meets-is_context.ensures.met old.rising old.reached) (λ m. c.in_ok-is_beside.ensures.levels m ∙ ap (λ b. (is_among levels m && nat_le m level) || (b && eqb level m)) w) h f)
    c.push_if.ensures)
