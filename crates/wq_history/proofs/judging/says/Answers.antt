use Rattle.wq_history.proofs.Words.{lane_at, IsBusy}
use Rattle.wq_history.proofs.Deeds.{same-word}
use Rattle.wq_history.proofs.judging.says.Goals as goal

pub returns-in-WaitAll : goal.returns-in-WaitAll
returns-in-WaitAll g c =
    let m = c.args.core.now in
    rw (c.in-WaitAll.is, ← c.lane_of.ensures.lane)
    (same-word (IsBusy (lane_at m.state c.lane_of.result)) c.is_busy.result c.args.yes c.is_busy.ensures)
