use Rattle.wq_groups.specs.DeclaredGroups.{declared_waits}
use Rattle.wq_repair.proofs.Judged.{no_circle-safe}
use Rattle.wq_repair.proofs.Readied.{IsAssignment-start}
use Rattle.wq_repair.proofs.plain.ranks_of_start.Goals as goal

pub unreachable-requires : goal.unreachable-requires
unreachable-requires g c =
    let d = declared_waits c.args.start.now.declared in
    let declaration = c.workqueues_of-declared.ensures.declaration in
    let start = c.args.start.now.workqueues in
    let ready = c.requires.3 in
    let assigned = IsAssignment-start d c.requires.0 c.requires.1 c.requires.2 start declaration ready in
    no_circle-safe d start declaration assigned ready.safe (rw c.in-None.is at c.in_ok-ranks.ensures)
