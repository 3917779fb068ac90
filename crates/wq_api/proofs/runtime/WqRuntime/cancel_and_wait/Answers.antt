use Rattle.std.proofs.Common.{inr}
use Rattle.wq_api.proofs.runtime.WqRuntime.cancel_and_wait.Goals as goal

pub returns-in-Err-be_told : goal.returns-in-Err-be_told
returns-in-Err-be_told g c =
    inr (c.in-Ok.rows.0, c.in-Ok.rows.1, c.two_rows.new.seat, c.in-Ok.ensures, c.in-Err-be_told.ensures)
