use Rattle.wq_commands.proofs.JudgeLemmas.{ReplaysRun-judged}
use Rattle.wq_commands.proofs.laws.a_printed_run_is_replayed_to_a_deadlock.Goals as goal

pub returns : goal.returns
returns c = ReplaysRun-judged
