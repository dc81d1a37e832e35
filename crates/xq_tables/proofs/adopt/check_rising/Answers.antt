use Rattle.std.proofs.Common.{◌≡◌, ◌∙◌, ◌+◌, Some, List, length, rules}
use Rattle.std.proofs.lemmas.Int.{to_z-of_z}
use mir.Val.{of_z, to_z}
use mir.Syntax.{w64}
use Rattle.sqlite_value.specs.Order.{Row}
use Rattle.xq_tables.specs.Documents.{AreApart, HaveInts}
use Rattle.xq_tables.proofs.Adopts.{HaveRisen, risen_more}
use Rattle.xq_tables.proofs.Streams.{one_longer, one_more, at_end, gives_then}
use Rattle.xq_tables.proofs.adopt.check_rising.Goals as goal

pub returns-in-Ok-None-clause-ok : goal.returns-in-Ok-None-clause-ok
returns-in-Ok-None-clause-ok g c late =
    let moved = c.next.follows.holds-at-none in
    let first = c.args.rows.now.conn.now in
    let mid = c.loop-count.rows.conn.now in
    let now = c.next.follows.lender-at-none.conn.now in
    let P : List Row → Type 0 = λ given. HaveRisen c.loop-count.last given × (c.loop-count.count ≡ length given) in
    gives_then g.S.Store first now P (λ given. AreApart given × HaveInts given × (c.loop-count.count ≡ length given)) (λ rows it. (it.0.apart, it.0.ints, it.1))
    (at_end g.S.Store first mid now P c.loop-count.invariant.1 moved.survives.clean (λ clean. rw c.in-Ok-None.is at (moved.same clean)) late (rw (c.in-Ok-None.is, c.in-Ok-None.field-0-is) at (moved.ok late)))

pub loop-count-preserved : goal.loop-count-preserved
loop-count-preserved g c =
    let moved = c.next.follows.holds-at-none in
    let first = c.args.rows.now.conn.now in
    let mid = c.loop-count.rows.conn.now in
    let now = c.next.follows.lender-at-none.conn.now in
    let row = c.in-Ok-Some.row.now in
    let id = c.in-Some.id in
    let P : List Row → Type 0 = λ given. HaveRisen c.loop-count.last given × (c.loop-count.count ≡ length given) in
    let Q : List Row → Type 0 = λ given. HaveRisen (Some id) given × (c.loop-count.count + 1 ≡ length given) in
    let h = rw c.in-Some.is at c.id_after.type_inv in
    let same : to_z w64 (of_z w64 id) ≡ id = search (rules, to_z-of_z) in
    rw same (
      moved.same_reference ∙ c.loop-count.invariant.0,
      one_more g.S.Store first mid now P c.loop-count.invariant.1 moved.survives.clean (λ clean. rw c.in-Ok-Some.is at (moved.same clean)) row Q moved.mode (λ clean. rw (c.in-Ok-Some.is, c.in-Ok-Some.field-0-is) at (moved.ok clean))
          (λ rows it. (risen_more c.loop-count.last rows row id it.0 c.in-Some.ensures.id c.in-Some.ensures.past, one_longer c.loop-count.count rows row it.1)),
    )
