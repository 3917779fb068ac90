use Rattle.wq_history.proofs.Deeds.{helper-event}
use Rattle.wq_history.proofs.waits.event_of.Goals as goal

pub returns-then-context-eq0 : goal.returns-then-context-eq0
returns-then-context-eq0 c = rw c.if-context-eq0.true c.rescuer_event.ensures

pub returns-else-context-eq0 : goal.returns-else-context-eq0
returns-else-context-eq0 c =
    helper-event c.args.context.now.lane c.args.context.now.number c.args.deed.now c.if-context-eq0.false
