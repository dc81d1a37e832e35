use Rattle.std.proofs.Common.{◌≡◌, IfOk, rules, subst}
use Rattle.sqlite_pool.specs.Opening.{IsBlankFile}
use Rattle.sqlite_pool.specs.Stored.{used_size}
use Rattle.sqlite_wal.specs.PageSize.{bytes_of}
use Rattle.sqlite.specs.Files.{file_state, image_of}
use Rattle.sqlite.specs.State.{HasCleanDisk}
use Rattle.sqlite.proofs.FileLemmas.{same_image}
use Rattle.xq_databases.specs.Opened.{IsFoundIn, IsUnmade}
use Rattle.xq_databases.proofs.Found.{both_ok, made_there}
use Rattle.xq_databases.proofs.databases.database_in.Goals as goal

pub returns-in-Ok-true : goal.returns-in-Ok-true
returns-in-Ok-true g c =
    let has = c.args.new_has_sums in
    let image = image_of g.D.Disk c.args.files in
    let size : bytes_of c.unwrap-new_size.result ≡ 1024 = search rules in
    both_ok c.made_in.result _ _ _ (λ conn clean made now.
    let blank : IsUnmade has image = subst (λ n. IsBlankFile (used_size n has) image) size ((c.in-Ok-true.ensures.ok (clean now)).0 c.in-Ok-true.field-0-test) in
    made_there has image (file_state conn).now blank (made now).0 (made now).1) c.made_in.ensures.clean c.made_in.ensures.made

pub returns-in-Ok-false : goal.returns-in-Ok-false
returns-in-Ok-false g c =
    subst (λ i. IfOk c.opened_in.result (λ conn. HasCleanDisk (file_state conn) → IsFoundIn c.args.new_has_sums i (file_state conn).now))
    (same_image c.probe_blank.ensures.log c.probe_blank.ensures.db) c.opened_in.ensures
