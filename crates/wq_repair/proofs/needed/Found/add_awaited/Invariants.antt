use Rattle.wq_repair.specs.Following.{HasGrown}
use Rattle.wq_repair.proofs.NeededFound.{HeadBelow}
use Rattle.wq_repair.proofs.needed.Found.add_awaited.Given as goal

-- the heads so far are found
abbrev pub invariant-loop-arc : goal.invariant-loop-arc
invariant-loop-arc g l = HasGrown l.initial.self l.self (HeadBelow l.arcs l.arc-index)
