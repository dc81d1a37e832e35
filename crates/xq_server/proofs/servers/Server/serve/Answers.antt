use Rattle.std.proofs.Common.{◌≡◌, ◌++◌, ◌∷◌, [], List, ℕ, refl, sym, subst, inl, inr, arith}
use Rattle.std.specs.Io.KnownBytes.{Appends}
use Rattle.xq_tables.specs.Documents.{IsClean, StandsFor}
use Rattle.xq_frame.specs.Next.{IsFrameOf}
use Rattle.xq_server.specs.Run.{written, bytes_of}
use Rattle.xq_server.specs.Service.{Served}
use Rattle.xq_server.proofs.Serving.{served_none, served_taken, served_more, serves_long, one_longer, sent_front, sent_whole, broken_off, all_sent}
use Rattle.xq_server.proofs.servers.Server.serve.Goals as goal

pub loop-count-init : goal.loop-count-init
loop-count-init g c = ([], [], served_none (IsClean g.S.Store) (StandsFor g.S.Store) c.args.self.now _ _, refl, λ clean up. up, omega arith)

pub returns-in-Cut-clause-served : goal.returns-in-Cut-clause-served
returns-in-Cut-clause-served g c =
    let so_far = c.loop-count.invariant in
    let got = c.in-Cut.ensures.taken in (
      so_far.0,
      so_far.1,
      got.0,
      written so_far.1,
      (
        served_taken (IsClean g.S.Store) (StandsFor g.S.Store) _ _ _ _ _ _ _ so_far.0 so_far.1 got.0 so_far.2 got.1,
        (got.2.0, got.2.1, refl, omega (arith, so_far.3, c.loop-count-test.true)),
        omega (arith, so_far.3, so_far.5, c.for_a_frame-tries.ensures, c.loop-count-test.true, c.in-Cut.ensures.borne),
      ),
    )

pub returns-in-End-clause-served : goal.returns-in-End-clause-served
returns-in-End-clause-served g c =
    let so_far = c.loop-count.invariant in
    let got = c.in-End.ensures.taken in (
      so_far.0,
      so_far.1,
      got.0,
      written so_far.1,
      (
        served_taken (IsClean g.S.Store) (StandsFor g.S.Store) _ _ _ _ _ _ _ so_far.0 so_far.1 got.0 so_far.2 got.1,
        (got.2.0, got.2.1, refl, omega (arith, so_far.3, c.loop-count-test.true)),
        omega (arith, so_far.3, so_far.5, c.for_a_frame-tries.ensures, c.loop-count-test.true, c.in-End.ensures.borne),
      ),
    )

pub returns-in-Fault-clause-served : goal.returns-in-Fault-clause-served
returns-in-Fault-clause-served g c =
    let so_far = c.loop-count.invariant in
    let got = c.in-Fault.ensures.taken in (
      so_far.0,
      so_far.1,
      got.0,
      written so_far.1,
      (
        served_taken (IsClean g.S.Store) (StandsFor g.S.Store) _ _ _ _ _ _ _ so_far.0 so_far.1 got.0 so_far.2 got.1,
        (got.2, refl, omega (arith, so_far.3, c.loop-count-test.true)),
        omega (arith, so_far.3, so_far.5, c.for_a_frame-tries.ensures, c.loop-count-test.true, c.in-Fault.ensures.borne),
      ),
    )

pub returns-clause-served : goal.returns-clause-served
returns-clause-served g c =
    let so_far = c.loop-count.invariant in
    (so_far.0, so_far.1, [], written so_far.1, (so_far.2, (refl, refl, omega (arith, so_far.3)), omega (arith, so_far.3, so_far.5)))

pub returns-in-NoRoom-clause-served : goal.returns-in-NoRoom-clause-served
returns-in-NoRoom-clause-served g c =
    let so_far = c.loop-count.invariant in
    let got = c.in-NoRoom.ensures.taken in (
      so_far.0,
      so_far.1,
      got.0,
      written so_far.1,
      (
        served_taken (IsClean g.S.Store) (StandsFor g.S.Store) _ _ _ _ _ _ _ so_far.0 so_far.1 got.0 so_far.2 got.1,
        (inl got.2, refl, omega (arith, so_far.3, c.loop-count-test.true)),
        omega (arith, so_far.3, so_far.5, c.for_a_frame-tries.ensures, c.loop-count-test.true, c.in-NoRoom.ensures.borne),
      ),
    )

pub returns-in-TooLong-clause-served : goal.returns-in-TooLong-clause-served
returns-in-TooLong-clause-served g c =
    let so_far = c.loop-count.invariant in
    let got = c.in-TooLong.ensures.taken in
    serves_long (IsClean g.S.Store) (StandsFor g.S.Store) _ _ _ _ _ _ _ _ so_far.0 so_far.1 got.0 c.args.max_frames c.send_long.result
    so_far.2 got.1 got.2 (omega (arith, so_far.3, c.loop-count-test.true)) c.send_long.ensures.ends _ _
    (omega (arith, so_far.3, so_far.5, c.for_a_frame-tries.ensures, c.loop-count-test.true, c.in-TooLong.ensures.borne, c.send_long.ensures.borne))

pub returns-in-Err-clause-served : goal.returns-in-Err-clause-served
returns-in-Err-clause-served g c =
    let so_far = c.loop-count.invariant in
    let got = c.in-Message.ensures.taken in (
      so_far.0,
      so_far.1,
      got.0,
      written so_far.1,
      (
        subst (λ s. Served (IsClean g.S.Store) (StandsFor g.S.Store) c.args.self.now s (g.R.Read.remaining c.args.reader.now.inner) (g.R.Read.remaining c.take_message.new.reader.inner)
            (g.W.Write.contents c.args.writer.now.inner) (g.W.Write.contents c.loop-count.writer.inner) so_far.0 so_far.1 got.0 (written so_far.1)) (sym c.in-Err.ensures.err.0)
            (served_taken (IsClean g.S.Store) (StandsFor g.S.Store) _ _ _ _ _ _ _ so_far.0 so_far.1 got.0 so_far.2 got.1),
        (inr (inl (c.in-Message.message.items, got.2.0, got.2.1)), refl, omega (arith, so_far.3, c.loop-count-test.true)),
        omega (arith, so_far.3, so_far.5, c.for_a_frame-tries.ensures, c.loop-count-test.true, c.in-Message.ensures.borne),
      ),
    )

pub returns-in-Err-send-clause-served : goal.returns-in-Err-send-clause-served
returns-in-Err-send-clause-served g c =
    let so_far = c.loop-count.invariant in
    let got = c.in-Message.ensures.taken in
    let message : List ℕ = c.in-Message.message.items in
    let reply = c.in-Ok.ensures.ok in
    let gave = c.in-Err-send.ensures.front in
    let split : bytes_of reply.0 ≡ gave.0 ++ gave.1 = sent_front _ _ _ (bytes_of reply.0) gave.0 gave.1 c.as_slice-in-Ok.ensures.value reply.1.out c.new-out.ensures.items gave.3 in
    let count = one_longer so_far.0 message c.loop-count.count so_far.3 in (
      so_far.0 ++ message ∷ [],
      so_far.1 ++ reply.0 ∷ [],
      [],
      written so_far.1 ++ gave.0,
      (
        served_more (IsClean g.S.Store) (StandsFor g.S.Store) _ c.loop-count.self c.answer.new.self _ _ _ _ _ _ so_far.0 so_far.1 c.frame_of.result message got.0 _ _ gave.0 reply.0
            so_far.2 got.1 got.2.0 got.2.1 (subst (IsFrameOf c.frame_of.result) c.as_slice.ensures.value c.frame_of.ensures) reply.1 gave.2,
        (broken_off so_far.1 reply.0 gave.0 gave.1 split, omega (arith, count, c.loop-count-test.true)),
        omega (arith, count, so_far.3, so_far.5, c.for_a_frame-tries.ensures, c.loop-count-test.true, c.in-Message.ensures.borne, c.in-Err-send.ensures.given_up),
      ),
    )

pub loop-count-preserved : goal.loop-count-preserved
loop-count-preserved g c =
    let so_far = c.loop-count.invariant in
    let got = c.in-Message.ensures.taken in
    let message : List ℕ = c.in-Message.message.items in
    let reply = c.in-Ok.ensures.ok in
    let whole = sent_whole _ _ _ (bytes_of reply.0) c.as_slice-in-Ok.ensures.value reply.1.out c.new-out.ensures.items in
    let gave : Appends (g.W.Write.contents c.loop-count.writer.inner) (g.W.Write.contents c.send.new.writer.inner) (bytes_of reply.0) =
    subst (Appends (g.W.Write.contents c.loop-count.writer.inner) (g.W.Write.contents c.send.new.writer.inner)) whole c.in-Ok-send.ensures.all in (
      so_far.0 ++ message ∷ [],
      so_far.1 ++ reply.0 ∷ [],
      subst (Served (IsClean g.S.Store) (StandsFor g.S.Store) c.args.self.now c.answer.new.self (g.R.Read.remaining c.args.reader.now.inner) (g.R.Read.remaining c.take_message.new.reader.inner)
          (g.W.Write.contents c.args.writer.now.inner) (g.W.Write.contents c.send.new.writer.inner) (so_far.0 ++ message ∷ []) (so_far.1 ++ reply.0 ∷ []) [])
          (all_sent so_far.1 reply.0 (bytes_of reply.0) refl)
          (served_more (IsClean g.S.Store) (StandsFor g.S.Store) _ c.loop-count.self c.answer.new.self _ _ _ _ _ _ so_far.0 so_far.1 c.frame_of.result message got.0 _ _ (bytes_of reply.0) reply.0
          so_far.2 got.1 got.2.0 got.2.1 (subst (IsFrameOf c.frame_of.result) c.as_slice.ensures.value c.frame_of.ensures) reply.1 gave),
      one_longer so_far.0 message c.loop-count.count so_far.3,
      λ clean up. so_far.4 (reply.1.was_clean clean) (c.in-Ok.ensures.was_open clean up),
      omega (arith, so_far.5, c.for_a_frame-tries.ensures, c.in-Message.ensures.borne, c.in-Ok-send.ensures.borne),
    )

pub returns-in-Err-send-clause-was_open : goal.returns-in-Err-send-clause-was_open
returns-in-Err-send-clause-was_open g c = λ clean up.
    c.loop-count.invariant.4 (c.in-Ok.ensures.ok.1.was_clean clean) (c.in-Ok.ensures.was_open clean up)
