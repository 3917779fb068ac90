use Rattle.std.proofs.Common.{refl}
use Rattle.wq_hang_command.proofs.holding.hold_workqueues.Goals as goal

pub returns : goal.returns
returns g c = record {
  holding = record { workqueues = c.args.workqueues; named = c.args.named; answer = c.in_ok-answer.answer };
  is = refl;
  workqueues = refl;
  named_items = refl;
  answer = rw (c.new-assigned.ensures, c.as_slice.ensures.value) at c.in_ok-answer.ensures;
  printed = rw c.new-assigned.ensures at c.in_ok-end.ensures;
}
