use Rattle.wq_core.specs.Runs.{end_of}
use Rattle.wq_core.proofs.Sound.{IsSoundState-end_of}
use Rattle.wq_core.proofs.DeclaredSteps.{IsDeclaredStep-can_move}
use Rattle.wq_core.proofs.laws.a_lane_that_can_move_has_a_declared_step.Goals as goal

pub returns : goal.returns
returns c w steps q run only can = IsDeclaredStep-can_move w (end_of w steps) q (IsSoundState-end_of w steps run) only can
