use Rattle.std.proofs.Common.{refl}
use Rattle.wq_core.specs.State.{HasPending}
use Rattle.wq_core.specs.Wiring.{lane_of}
use Rattle.wq_core.proofs.machine.Core.may_cancel.Goals as goal

pub returns-clause-number : goal.returns-clause-number
returns-clause-number g c =
    let m = c.args.self.now in
    let some = c.in_ok-entry.ensures.some in
    let has : HasPending m.state c.args.item = record { lane = lane_of m.wiring c.args.item; entry = c.in_ok-entry.entry; pending = some.0; of_item = some.1 } in
    (has, (has, refl))
