use Rattle.wq_core.specs.Workqueues.{wiring_of}
use Rattle.wq_core.specs.Wiring.{wiring}
use Rattle.wq_core.proofs.CircleKnots.{Deadlocks-rescued_circle}
use Rattle.wq_core.proofs.Wirings.{IsWiring-wiring, IsWiring-with_bare}
use Rattle.wq_fixed.proofs.ChainsOfStart.{Circle-fewer}
use Rattle.wq_fixed.proofs.laws.a_chain_of_the_start_shows_the_fewest.Goals as goal

pub returns : goal.returns
returns c d f ws lanes declaration fixed assignment keeps chain within few =
    Deadlocks-rescued_circle (wiring_of d ws) (IsWiring-with_bare (wiring d ws.assignment) ws.bare
    (IsWiring-wiring d ws.assignment declaration assignment))
    (Circle-fewer d f ws declaration fixed assignment keeps lanes chain within few)
