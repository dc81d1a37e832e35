use Rattle.xq_server.proofs.Telling.{ok_where, address_is_utf8}
use Rattle.xq_server.proofs.answers.good_address.Goals as goal

pub unwrap-requires : goal.unwrap-requires
unwrap-requires c = ok_where _ _ _ c.from_utf8.result c.from_utf8.ensures.cases (address_is_utf8 c.args.bytes.now (c.address_ok.ensures.0 c.if-not-address_ok.false))
