-- The wiring of workqueues of declared groups, with the lanes of the items as a list of their own.
use Rattle.std.specs.Prelude.{ℕ, List}
use Rattle.wq_groups.specs.DeclaredGroups.{declared_waits}
use Rattle.wq_core.specs.Wiring.{Wiring}
use Rattle.wq_core.specs.Workqueues.{wiring_of}
use Rattle.wq_core.specs.Assigned.{Assigned}

-- the wiring in which the items are on these lanes
abbrev pub wires : Assigned → List ℕ → Wiring
wires a lane_of_item = record (wiring_of (declared_waits a.declared) a.workqueues) { lane_of_item = lane_of_item }
