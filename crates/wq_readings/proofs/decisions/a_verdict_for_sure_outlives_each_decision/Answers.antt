use Rattle.wq_readings.proofs.DecisionLemmas.{safe-decided, hangs-decided}
use Rattle.wq_readings.proofs.decisions.a_verdict_for_sure_outlives_each_decision.Goals as goal

pub returns-clause-safe : goal.returns-clause-safe
returns-clause-safe c = safe-decided

pub returns-clause-hangs : goal.returns-clause-hangs
returns-clause-hangs c = hangs-decided
