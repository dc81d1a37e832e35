use Rattle.xq_queries.proofs.Back.{reads_back}
use Rattle.xq_queries.proofs.laws.reads_back.Goals as goal

pub returns : goal.returns
returns c = reads_back c.print_spells.ensures c.tokens_derive.ensures c.quoted_gives.ensures
