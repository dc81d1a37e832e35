use Rattle.xq_frame.proofs.Splitting.{splits_in_one_way}
use Rattle.xq_frame.proofs.frames.splits_once.Goals as goal

pub returns : goal.returns
returns c = splits_in_one_way
