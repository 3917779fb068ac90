use Rattle.test_runtime.proofs.sessions.lane_asks.give_up_all.Given as goal

abbrev pub decreases-loop-slot : goal.decreases-loop-slot
decreases-loop-slot l = goal.left-loop-slot l
