use Rattle.std.proofs.Common.{◌∙◌, sym}
use Rattle.wq_groups.proofs.Declarations.{waiting-item, awaited-item}
use Rattle.wq_core.specs.Workqueues.{wiring_of}
use Rattle.wq_core.specs.Wiring.{wiring, RescuedWaits}
use Rattle.wq_core.proofs.BareWaits.{Deadlocks-bare}
use Rattle.wq_core.proofs.CircleKnots.{Deadlocks-rescued_circle}
use Rattle.wq_core.proofs.LaneCircles.{Circle-map}
use Rattle.wq_core.proofs.Wirings.{IsWiring-wiring, IsWiring-with_bare}
use Rattle.wq_fixed.specs.Fixed.{start}
use Rattle.wq_fixed.proofs.Kept.{lane_now, waits_here, rescuer_here}
use Rattle.wq_fixed.proofs.laws.a_start_that_hangs_shows_that_all_do.Goals as goal

pub returns-clause-circle : goal.returns-clause-circle
returns-clause-circle c d f declaration fixed circle ws assignment keeps =
    Deadlocks-rescued_circle (wiring_of d ws) (IsWiring-with_bare (wiring d ws.assignment) ws.bare
    (IsWiring-wiring d ws.assignment declaration assignment))
    (Circle-map (RescuedWaits (wiring_of d (start f))) (RescuedWaits (wiring_of d ws))
    (lane_now d f ws declaration fixed assignment keeps) (waits_here d f ws declaration fixed assignment keeps)
    circle)

pub returns-clause-no_rescuer : goal.returns-clause-no_rescuer
returns-clause-no_rescuer c d f i j declaration fixed waits from to ws assignment keeps =
    let here = rescuer_here d f ws declaration fixed assignment keeps in
    Deadlocks-bare (wiring_of d ws) i j (IsWiring-with_bare (wiring d ws.assignment) ws.bare
    (IsWiring-wiring d ws.assignment declaration assignment)) waits
    (sym (here i (waiting-item d declaration i j waits)) ∙ from)
    (λ rescuer. to (here j (awaited-item d declaration i j waits) ∙ rescuer))
