use Rattle.wq_repair.specs.Lanes.{AreBareNow}
use Rattle.wq_repair.proofs.lanes.bare_now.Given as goal

abbrev pub invariant-loop-group : goal.invariant-loop-group
invariant-loop-group g l = AreBareNow l.old l.comes l.given l.lane_of l.group l.bare.items
