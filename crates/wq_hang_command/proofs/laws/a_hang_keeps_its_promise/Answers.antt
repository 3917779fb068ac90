use Rattle.wq_hang_command.proofs.Promised.{KeepsHang-hangs}
use Rattle.wq_hang_command.proofs.laws.a_hang_keeps_its_promise.Goals as goal

pub returns : goal.returns
returns c = KeepsHang-hangs
