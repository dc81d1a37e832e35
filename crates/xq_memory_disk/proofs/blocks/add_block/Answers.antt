use Rattle.xq_memory_disk.proofs.Places.{push_full, joined_push}
use Rattle.xq_memory_disk.proofs.blocks.add_block.Goals as goal

pub returns-clause-full : goal.returns-clause-full
returns-clause-full c = rw c.in_ok-push.ensures.items (push_full _ c.in_ok-block.block c.requires c.in_ok-block.ensures.len)

pub returns-clause-same : goal.returns-clause-same
returns-clause-same c = λ i. rw c.in_ok-push.ensures.items (joined_push _ c.in_ok-block.block c.in_ok-block.ensures.zeros i)
