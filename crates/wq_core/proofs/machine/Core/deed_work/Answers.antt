use Rattle.wq_core.specs.State.{lane_at}
use Rattle.wq_core.proofs.WorkChanges.{deed_work-one}
use Rattle.wq_core.proofs.machine.Core.deed_work.Goals as goal

pub returns-in-Start : goal.returns-in-Start
returns-in-Start g c =
    let m = c.args.self.now in
    record {
      work = deed_work-one m.wiring (lane_at m.state c.args.context.lane) c.args.context.number c.args.deed
          c.in-Start.is;
    }
