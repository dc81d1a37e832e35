use Rattle.std.proofs.Common.{subst}
use Rattle.sqlite.specs.Files.{file_state}
use Rattle.sqlite.proofs.FileLemmas.{same_image}
use Rattle.xq_databases.specs.Opened.{IsFoundIn}
use Rattle.xq_databases.proofs.Found.{found_there}
use Rattle.xq_databases.proofs.databases.opened_in.Goals as goal

pub returns-in-Ok : goal.returns-in-Ok
returns-in-Ok g c now =
    let opened = c.in-Ok.ensures.opened now in
    let found = c.in-Ok.ensures.found now in
    let state = file_state c.in-Ok.conn in
    subst (λ i. IsFoundIn c.args.new_has_sums i state.now) (same_image c.probe_page_size.ensures.log c.probe_page_size.ensures.db)
    (found_there c.args.new_has_sums _ state opened.0 opened.1 found.holds found.reads)
