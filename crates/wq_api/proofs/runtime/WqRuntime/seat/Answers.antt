use Rattle.wq_api.proofs.runtime.WqRuntime.seat.Goals as goal

pub returns-clause-took : goal.returns-clause-took
returns-clause-took g c =
    let turn = c.call-seat.ensures.3 in record {
      old = c.call-seat.ensures.0;
      new = c.call-seat.ensures.1;
      wake = c.call-seat.ensures.2;
      holds = turn.0;
      makes = turn.1;
    }
