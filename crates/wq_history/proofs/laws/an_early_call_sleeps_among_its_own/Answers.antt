use Rattle.wq_history.proofs.Sleeping.{early-sleeps}
use Rattle.wq_history.proofs.laws.an_early_call_sleeps_among_its_own.Goals as goal

pub returns : goal.returns
returns c = early-sleeps
