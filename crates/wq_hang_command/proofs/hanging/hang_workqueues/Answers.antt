use Rattle.std.proofs.Common.{refl}
use Rattle.wq_hang_command.proofs.hanging.hang_workqueues.Goals as goal

pub returns : goal.returns
returns g c = record {
  hanging = record { workqueues = c.args.workqueues; answer = c.in_ok-answer.answer };
  is = refl;
  workqueues = refl;
  answer = rw c.new-assigned.ensures at c.in_ok-answer.ensures.answer;
  printed = rw c.new-assigned.ensures at c.in_ok-end.ensures;
}
