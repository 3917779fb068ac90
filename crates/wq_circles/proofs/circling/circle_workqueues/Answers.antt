use Rattle.std.proofs.Common.{refl}
use Rattle.wq_circles.proofs.circling.circle_workqueues.Goals as goal

pub returns : goal.returns
returns g c = record {
  circling = record {
    workqueues = c.args.workqueues;
    components = c.in_ok-components.components;
    waits = c.in_ok-waits.waits;
  };
  is = refl;
  workqueues = refl;
  components = rw c.new-assigned.ensures at c.in_ok-components.ensures.components;
  waits = rw c.new-assigned.ensures at c.in_ok-waits.ensures.arcs;
  printed = rw (c.new-assigned.ensures, c.deref.ensures.value, c.deref-2.ensures.value) at c.in_ok-end.ensures;
}
