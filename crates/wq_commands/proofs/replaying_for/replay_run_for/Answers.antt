use Rattle.std.proofs.Common.{refl}
use Rattle.wq_commands.proofs.replaying_for.replay_run_for.Goals as goal

pub returns : goal.returns
returns g c = record {
  replayed = record {
    replayed = record {
      workqueues = c.args.workqueues;
      kept = c.args.run.kept;
      steps = c.args.run.steps;
      end = c.in_ok-end.end;
    };
    named = c.args.named;
  };
  is = refl;
  workqueues = refl;
  named_items = refl;
  keeps = refl;
  made = refl;
  ends = rw c.as_slice.ensures.value at (rw c.as_slice-2.ensures.value at c.in_ok-end.ensures);
  status = c.replay_end.ensures;
  printed = c.in_ok-text.ensures;
}
