use Rattle.wq_history.proofs.Wakes.{event-enough, closing-enough}
use Rattle.wq_history.proofs.laws.an_event_wakes_enough.Goals as goal

pub returns-clause-event : goal.returns-clause-event
returns-clause-event c = event-enough

pub returns-clause-closing : goal.returns-clause-closing
returns-clause-closing c = closing-enough
