use Rattle.wq_groups.proofs.Partitions.{the_only_one}
use Rattle.wq_groups.proofs.laws.partition_is_the_only_one.Goals as goal

pub returns : goal.returns
returns c = the_only_one
