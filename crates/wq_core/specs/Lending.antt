-- Lending: a lane that is handed out for writing.
use Rattle.std.specs.Prelude.{ℕ, List, slice_set}
use Rattle.std.specs.Borrow.{Lends, MutBor, Fml}
use Rattle.std.specs.declared.alloc.Allocator.{Ghosts}
use denote.RattleType.{RattleType}
use Rattle.wq_core.specs.Held.{HeldLane}
use Rattle.wq_core.specs.contracts.lane.Lane.{the_row as lane_row}
use Rattle.wq_core.specs.contracts.lanes.Lanes.{the_row as lanes_row}

-- in the end, lane q is as it was last written, and each other lane is as it was
abbrev pub LendsLane : (A : RattleType) → Ghosts A.Denot → MutBor (List HeldLane) → ℕ → MutBor HeldLane → Fml
LendsLane A heap lanes q lane = Lends (lanes_row A heap) (lane_row A heap) lanes lane (slice_set lanes.now q)
