use Rattle.wq_commands.proofs.ReplayAnswers.{ReplaysRun-exist}
use Rattle.wq_commands.proofs.laws.a_replay_has_an_answer.Goals as goal

pub returns : goal.returns
returns c = ReplaysRun-exist
