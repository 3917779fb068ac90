use Rattle.std.proofs.Common.{take}
use Rattle.std.specs.List.{All}
use Rattle.wq_core.specs.State.{IsBusy}
use Rattle.wq_core.specs.Held.{HeldLane}
use Rattle.wq_core.proofs.lanes.all_idle.Given as goal

abbrev pub invariant-loop-lane : goal.invariant-loop-lane
invariant-loop-lane g l = All (λ (h : HeldLane). ¬ IsBusy h.lane) (take l.lane-index l.lanes)
