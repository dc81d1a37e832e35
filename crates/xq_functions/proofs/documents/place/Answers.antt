use Rattle.std.proofs.Common.{◌≡◌, ◌+◌, Ok, ap, ◌∙◌, arith}
use Rattle.xq_functions.specs.private.Documents.{document_at}
use Rattle.xq_functions.proofs.DocumentLemmas.{document_found, document_absent}
use Rattle.xq_functions.proofs.documents.place.Goals as goal

pub returns-in-Ok : goal.returns-in-Ok
returns-in-Ok c =
    let from_first : c.in-Ok.tree ≡ 0 + c.in-Ok.tree = omega arith in
    ap (λ place. document_at (Ok place)) from_first ∙ document_found 0 c.args.addresses.now c.in-Ok.tree c.args.address.now c.search.ensures.rise c.in-Ok.ensures.found

pub returns-in-Err : goal.returns-in-Err
returns-in-Err c = document_absent 0 c.args.addresses.now c.in-Err.field-0 c.args.address.now c.in-Err.ensures.found
