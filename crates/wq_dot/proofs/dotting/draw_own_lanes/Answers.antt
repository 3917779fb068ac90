use Rattle.wq_dot.proofs.dotting.draw_own_lanes.Goals as goal

pub returns : goal.returns
returns g c = rw (c.new-assigned.ensures, c.in_ok-workqueues.ensures.workqueues) at c.draw_circles.ensures
