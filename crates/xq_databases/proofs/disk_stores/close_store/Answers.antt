use Rattle.std.proofs.Common.{not, ap, ◌∙◌}
use Rattle.xq_databases.proofs.Opened.{left_in}
use Rattle.xq_databases.proofs.disk_stores.close_store.Goals as goal

pub returns-in-Ok : goal.returns-in-Ok
returns-in-Ok g c clean =
    let outside = c.is_autocommit-settled.ensures.value ∙ ap not c.release-conn.ensures.outside in
    let copied = c.in-Ok.ensures.copied clean in
    left_in c.release-conn.result c.args.store c.release-conn.ensures.same (c.schema-schema.ensures.live copied.was_open).0 c.in-Ok.files copied
    (c.is_autocommit-settled.ensures.settled outside)
