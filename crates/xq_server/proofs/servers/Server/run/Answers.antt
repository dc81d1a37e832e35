use Rattle.std.proofs.Common.{◌++◌, ◌∷◌, [], List, ℕ, subst}
use Rattle.xq_tables.specs.Documents.{IsClean, StandsFor}
use Rattle.xq_server.specs.Run.{RanOver}
use Rattle.xq_server.proofs.Running.{no_frames, one_more, left_after}
use Rattle.xq_server.proofs.servers.Server.run.Goals as goal

pub frames-init : goal.frames-init
frames-init g c = ([], [], no_frames (IsClean g.S.Store) (StandsFor g.S.Store) c.args.self.now c.args.bytes.now c.args.out.now.items, λ clean up. up)

pub frames-preserved : goal.frames-preserved
frames-preserved g c =
    let so_far = c.frames.invariant in
    let starts = c.in-Frame.ensures in
    let r = c.in-Ok.ensures.ok in (
      so_far.0 ++ starts.0 ∷ [],
      so_far.1 ++ r.0 ∷ [],
      subst (λ (left : List ℕ). RanOver (IsClean g.S.Store) (StandsFor g.S.Store) c.args.self.now c.answer.new.self c.args.bytes.now
          c.args.out.now.items c.answer.new.out.items (so_far.0 ++ starts.0 ∷ []) (so_far.1 ++ r.0 ∷ []) left [])
          (left_after starts.0 starts.1 c.frames.rest.now c.in-Frame.frame.used starts.2.whole starts.2.same.used)
          (one_more (IsClean g.S.Store) (StandsFor g.S.Store) c.args.self.now c.frames.self c.answer.new.self c.args.bytes.now
          c.args.out.now.items c.frames.out.items c.answer.new.out.items so_far.0 so_far.1 c.frames.rest.now c.in-Frame.frame starts.0 starts.1 r.0
          so_far.2 starts.2 r.1),
      λ clean up. so_far.3 (r.1.was_clean clean) (c.in-Ok.ensures.was_open clean up),
    )
