use Rattle.std.proofs.Common.{◌<◌}
use Rattle.wq_api.proofs.Calls.{seat_wakes}
use Rattle.wq_api.proofs.turns.HeldTurnsUnitSeatInResultSeatNoSeat.take.Goals as goal

pub returns-clause-wakes : goal.returns-clause-wakes
returns-clause-wakes g c =
    seat_wakes c.args.self.now c.seat.new.self c.seat.result (c.args.self.now.seats < 65535) c.nobody.result
    c.seat.ensures.made c.seat.ensures.refused
