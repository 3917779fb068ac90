use Rattle.wq_repair.specs.Following.{HasGrown}
use Rattle.wq_repair.proofs.NeededFound.{IsAmong}
use Rattle.wq_repair.proofs.needed.Found.add_lane.Given as goal

-- those so far are found
abbrev pub invariant-loop-group : goal.invariant-loop-group
invariant-loop-group g l = HasGrown l.initial.self l.self (IsAmong l.on l.group-index)
