use Rattle.std.proofs.Common.{refl}
use Rattle.wq_around_command.proofs.checking.check_claim.Goals as goal

pub returns : goal.returns
returns g c = (
  c.in_ok-answer.answer,
  refl,
  record {
    answered = rw c.new-assigned.ensures at c.in_ok-answer.ensures.answer;
    least = rw c.new-assigned.ensures at c.in_ok-answer.ensures.least;
    circle = rw c.new-assigned.ensures at c.in_ok-answer.ensures.circle;
    none = rw c.new-assigned.ensures at c.in_ok-answer.ensures.none;
  },
  rw (c.table.ensures.is, c.new-assigned.ensures) at c.in_ok-end.ensures,
)
