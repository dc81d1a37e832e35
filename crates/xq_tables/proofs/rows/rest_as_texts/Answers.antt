use Rattle.std.proofs.Common.{◌≡◌, ◌++◌, ◌∷◌, [], ◌∙◌, map, ap, ap₂, sym, string_bytes}
use Rattle.std.proofs.lemmas.List.{map-append}
use Rattle.sqlite_value.specs.Order.{Row, column}
use Rattle.sqlite_value.specs.declared.value.Value.{Value}
use Rattle.sqlite_value.specs.declared.value.Value.TheVariants.{Text}
use Rattle.xq_tables.proofs.Streams.{one_more, at_end}
use Rattle.xq_tables.proofs.rows.rest_as_texts.Goals as goal

pub returns-in_default-clause-texts : goal.returns-in_default-clause-texts
returns-in_default-clause-texts g c late =
    let moved = c.next.follows.holds-at-none in
    let mid = c.loop.rows.conn.now in
    let now = c.next.follows.lender-at-none.conn.now in
    at_end g.S.Store c.args.rows.now.conn.now mid now _ c.loop.invariant.1 moved.survives.clean (λ clean. rw c.in_ok-row.was at (moved.same clean)) late (rw (c.in_ok-row.was, c.in_default.is) at (moved.ok late))

pub loop-preserved : goal.loop-preserved
loop-preserved g c =
    let moved = c.next.follows.holds-at-none in
    let mid = c.loop.rows.conn.now in
    let now = c.next.follows.lender-at-none.conn.now in
    let row = c.in-Some.row.now in
    let text = c.in_ok-text_of.field-0 in
    let before = c.loop.texts.items in
    let first : Row → Value = λ r. column r 0 in
    let wider : map Text (map string_bytes c.push.new.self.items) ≡ map Text (map string_bytes before) ++ Text (string_bytes text) ∷ [] =
    ap (λ l. map Text (map string_bytes l)) c.in_ok-push.ensures.items ∙ ap (map Text) (map-append string_bytes before (text ∷ [])) ∙ map-append Text (map string_bytes before) (string_bytes text ∷ []) in (
      moved.same_reference ∙ c.loop.invariant.0,
      one_more g.S.Store c.args.rows.now.conn.now mid now _ c.loop.invariant.1 moved.survives.clean (λ clean. rw c.in_ok-row.was at (moved.same clean)) row _ moved.mode (λ clean. rw (c.in_ok-row.was, c.in-Some.is) at (moved.ok clean))
          (λ rows same. wider ∙ ap₂ (λ l x. l ++ x ∷ []) same c.in_ok-text_of.ensures ∙ sym (map-append first rows (row ∷ []))),
    )
