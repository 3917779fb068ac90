use Rattle.std.proofs.Common.{inr}
use Rattle.wq_api.proofs.runtime.WqRuntime.flush.Goals as goal

pub returns-in-Err-be_told : goal.returns-in-Err-be_told
returns-in-Err-be_told g c = inr (c.in-Ok.asked, c.row.new.seat, c.in-Ok.ensures, c.in-Err-be_told.ensures)
