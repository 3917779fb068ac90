use Rattle.wq_hang.proofs.Shortest.{IsWalk-stuck_run}
use Rattle.wq_hang.proofs.laws.a_stuck_run_has_a_walk.Goals as goal

pub returns : goal.returns
returns c = IsWalk-stuck_run
