use Rattle.wq_core.proofs.RunLemmas.{idle_exactly}
use Rattle.wq_core.proofs.machine.Core.is_idle.Goals as goal

pub returns : goal.returns
returns g c =
    let core = c.self.inside in
    let idle = idle_exactly core.targets core.lane_of_item.items core.bare.items core.helpers core.lanes core.next in
    rw (← c.self.view_is) ((λ h. idle.0 (c.are_idle.ensures.0 h)), (λ h. c.are_idle.ensures.1 (idle.1 h)))
