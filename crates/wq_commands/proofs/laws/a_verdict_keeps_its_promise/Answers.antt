use Rattle.wq_commands.proofs.VerdictPromises.{KeepsVerdict-judges}
use Rattle.wq_commands.proofs.laws.a_verdict_keeps_its_promise.Goals as goal

pub returns : goal.returns
returns c = KeepsVerdict-judges
