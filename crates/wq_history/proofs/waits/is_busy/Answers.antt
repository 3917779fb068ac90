use Rattle.wq_history.proofs.WaitEvents.{busy_below-next}
use Rattle.wq_history.proofs.waits.is_busy.Goals as goal

pub returns : goal.returns
returns g c =
    let m = c.args.core.now in
    busy_below-next m.wiring m.state c.args.q c.lane_unfinished_below.result c.next_number.ensures.machine.state
    (rw (← c.next_number.ensures.number) c.lane_unfinished_below.ensures)
