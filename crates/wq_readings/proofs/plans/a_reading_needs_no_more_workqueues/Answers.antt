use Rattle.wq_readings.proofs.ReadingPlans.{plan-reading, lanes-more}
use Rattle.wq_readings.proofs.plans.a_reading_needs_no_more_workqueues.Goals as goal

pub returns-clause-plan : goal.returns-clause-plan
returns-clause-plan c = plan-reading

pub returns-clause-more : goal.returns-clause-more
returns-clause-more c = lanes-more
