use Rattle.wq_groups.proofs.Partitions.{length-groups_of}
use Rattle.wq_commands.proofs.declaration.read_declaration.Goals as goal

pub new-requires-2 : goal.new-requires-2
new-requires-2 g c =
    length-groups_of c.in_ok-view.view c.in_ok-view.table c.in_ok-groups.groups c.in_ok-groups.ensures.groups
