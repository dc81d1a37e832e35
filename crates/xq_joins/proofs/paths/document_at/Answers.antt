use Rattle.std.proofs.Common.{subst}
use Rattle.xq_atoms.specs.Address.{IsAddress}
use Rattle.xq_joins.proofs.DocumentPaths.{found_document}
use Rattle.xq_joins.proofs.paths.document_at.Goals as goal

pub returns : goal.returns
returns c =
    let good = subst IsAddress c.as_bytes.ensures.value (c.address_ok.ensures.0 c.if-not-address_ok.false) in
    found_document c.args.addresses.now c.args.address.now c.in-Ok.tree good c.in-Ok.ensures.rise c.in-Ok.ensures.found
