use Rattle.std.proofs.Common.{refl}
use Rattle.wq_commands.proofs.deadlocking.find_verdict.Goals as goal

pub returns : goal.returns
returns g c = record {
  verdict = record {
    workqueues = c.args.workqueues;
    end = c.in_ok-found.field-0.end;
    hops = c.in_ok-found.field-0.found;
  };
  is = refl;
  workqueues = refl;
  status = refl;
  judged = rw c.new-assigned.ensures at c.in_ok-found.ensures;
}
