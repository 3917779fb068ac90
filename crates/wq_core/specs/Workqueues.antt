-- Workqueues: an assignment, and which of its lanes are bare, which is to say that they have no rescuer.
use Rattle.std.specs.Prelude.{List, [], Bool}
use Rattle.wq_groups.specs.Declaration.{Declaration}
use Rattle.wq_groups.specs.Assignment.{Assignment}
use Rattle.wq_core.specs.Wiring.{Wiring, wiring}

-- an assignment, and for each lane in turn whether it is bare; a lane past the end of that list isn't
pub record Workqueues : Type 0 where
  pub assignment : Assignment
  pub bare : List Bool

-- these bare lanes, in any wiring
abbrev pub with_bare : Wiring → List Bool → Wiring
with_bare w bare = record w { bare = bare }

-- the wiring of a declaration's groups on these workqueues, without helpers
abbrev pub wiring_of : Declaration → Workqueues → Wiring
wiring_of d ws = with_bare (wiring d ws.assignment) ws.bare

-- the workqueues of an assignment: each has a rescuer
abbrev pub all_rescued : Assignment → Workqueues
all_rescued a = record { assignment = a; bare = [] }
