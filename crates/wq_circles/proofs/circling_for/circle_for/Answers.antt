use Rattle.std.proofs.Common.{refl}
use Rattle.wq_circles.proofs.circling_for.circle_for.Goals as goal

pub held_circles-requires : goal.held_circles-requires
held_circles-requires g c = rw (c.new-assigned.ensures, c.as_slice.ensures.value) c.requires.named

pub print_held-requires-clause-named : goal.print_held-requires-clause-named
print_held-requires-clause-named g c = rw (c.new-assigned.ensures, c.as_slice-2.ensures.value) c.requires.named

pub print_held-requires-clause-held : goal.print_held-requires-clause-held
print_held-requires-clause-held g c =
    rw c.as_slice-2.ensures.value (rw c.as_slice.ensures.value at c.in_ok-held.ensures)

pub returns : goal.returns
returns g c = record {
  circling = record {
    workqueues = c.args.workqueues;
    named = c.args.named;
    held = c.in_ok-held.held;
  };
  is = refl;
  workqueues = refl;
  named_items = refl;
  are = rw (c.new-assigned.ensures, c.as_slice.ensures.value) at c.in_ok-held.ensures;
  printed = rw (c.new-assigned.ensures, c.as_slice-2.ensures.value) at c.in_ok-end.ensures;
}
