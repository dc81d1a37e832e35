use Rattle.xq_store.proofs.FrontLaws.{packed_front}
use Rattle.xq_store.proofs.shelves.CachedDocument.whole.Goals as goal

pub returns : goal.returns
returns c = c.of_rows.ensures c.args.document (packed_front c.args.document c.into_rows.result c.into_rows.ensures)
