use Rattle.wq_groups.proofs.Partitions.{IsPartition-partition_of, length-partition_of}
use Rattle.wq_groups.proofs.laws.groups_are_numbered_by_first_members.Goals as goal

pub returns-clause-partition : goal.returns-clause-partition
returns-clause-partition c = IsPartition-partition_of

pub returns-clause-items : goal.returns-clause-items
returns-clause-items c = λ ds t made once. length-partition_of ds t.names
