use Rattle.std.proofs.Common.{inr}
use Rattle.wq_api.proofs.runtime.WqRuntime.wait.Goals as goal

pub returns-in-Err-written : goal.returns-in-Err-written
returns-in-Err-written g c = inr (c.in-Ok.began, c.row.new.seat, c.in-Ok.ensures, c.in-Err-written.ensures)
