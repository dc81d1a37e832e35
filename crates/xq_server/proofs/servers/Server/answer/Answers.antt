use Rattle.xq_tables.specs.Documents.{IsClean, StandsFor}
use Rattle.xq_server.proofs.Running.{replied, answered}
use Rattle.xq_server.proofs.servers.Server.answer.Goals as goal

pub returns-clause-ok : goal.returns-clause-ok
returns-clause-ok g c =
    let reply = replied c.reserve.new.self.items c.write_reply.new.out.items c.args.frame.now.tag c.carry_out-answer.result c.carry_out-answer.ensures.short c.write_reply.ensures in (
      reply.0,
      answered (IsClean g.S.Store) (StandsFor g.S.Store) c.args.self.now c.self.inside.store c.carry_out-answer.new.store
          c.args.frame.now.tag _ c.args.out.now.items c.reserve.new.self.items c.write_reply.new.out.items c.carry_out-answer.result reply.0
          c.reserve.ensures.items c.self.view_is reply.1 c.carry_out-answer.ensures.was_clean c.carry_out-answer.ensures.tells,
    )
