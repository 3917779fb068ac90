use Rattle.wq_groups.proofs.Partitions.{ShareGroup-partition_of}
use Rattle.wq_groups.proofs.laws.items_are_together_that_share_a_line.Goals as goal

pub returns : goal.returns
returns c = ShareGroup-partition_of
