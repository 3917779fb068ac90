use Rattle.wq_hang_command.proofs.HoldPromised.{KeepsHold-holds}
use Rattle.wq_hang_command.proofs.laws.a_hold_keeps_its_promise.Goals as goal

pub returns : goal.returns
returns c = KeepsHold-holds
