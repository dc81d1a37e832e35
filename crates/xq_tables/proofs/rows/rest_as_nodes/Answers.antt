use Rattle.std.proofs.Common.{◌≡◌, ◌++◌, ◌∷◌, [], ◌∙◌, map, ap, ap₂, sym}
use Rattle.std.proofs.lemmas.List.{map-append}
use Rattle.xq_trees.specs.Rows.{placed}
use Rattle.xq_tables.specs.Nodes.{cells}
use Rattle.xq_tables.specs.private.Columns.{node_of}
use Rattle.xq_tables.proofs.Streams.{one_more, at_end}
use Rattle.xq_tables.proofs.rows.rest_as_nodes.Goals as goal

pub returns-in_default-clause-nodes : goal.returns-in_default-clause-nodes
returns-in_default-clause-nodes g c late =
    let moved = c.next.follows.holds-at-none in
    let mid = c.loop.rows.conn.now in
    let now = c.next.follows.lender-at-none.conn.now in
    at_end g.S.Store c.args.rows.now.conn.now mid now _ c.loop.invariant.1 moved.survives.clean (λ clean. rw c.in_ok-row.was at (moved.same clean)) late (rw (c.in_ok-row.was, c.in_default.is) at (moved.ok late))

pub loop-preserved : goal.loop-preserved
loop-preserved g c =
    let moved = c.next.follows.holds-at-none in
    let mid = c.loop.rows.conn.now in
    let now = c.next.follows.lender-at-none.conn.now in
    let row = c.in-Some.row.now in
    let node = c.in_ok-node_row.field-0 in
    let before = c.loop.nodes.items in
    let wider : map cells (map placed c.push.new.self.items) ≡ map cells (map placed before) ++ cells (placed node) ∷ [] =
    ap (λ l. map cells (map placed l)) c.in_ok-push.ensures.items ∙ ap (map cells) (map-append placed before (node ∷ [])) ∙ map-append cells (map placed before) (placed node ∷ []) in (
      moved.same_reference ∙ c.loop.invariant.0,
      one_more g.S.Store c.args.rows.now.conn.now mid now _ c.loop.invariant.1 moved.survives.clean (λ clean. rw c.in_ok-row.was at (moved.same clean)) row _ moved.mode (λ clean. rw (c.in_ok-row.was, c.in-Some.is) at (moved.ok clean))
          (λ rows same. wider ∙ ap₂ (λ l x. l ++ x ∷ []) same c.in_ok-node_row.ensures.ok ∙ sym (map-append node_of rows (row ∷ []))),
    )
