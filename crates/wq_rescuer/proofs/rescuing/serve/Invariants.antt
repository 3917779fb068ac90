use Rattle.std.proofs.Common.{ℕ, List, Result}
use Rattle.wq_core.specs.Wiring.{items, HasContext}
use Rattle.wq_rescuer.specs.declared.body.BodyFault.{BodyFault}
use Rattle.wq_rescuer.specs.Executing.{HasExecuted, RanOnly}
use Rattle.wq_rescuer.proofs.Executions.{IsServing}
use Rattle.wq_rescuer.proofs.rescuing.serve.Given as goal

-- the seat counts as finished what the body ran, and that is of its lane; it counts what the executions left; and what
-- the body may do now, it might before
abbrev pub invariant-loop : goal.invariant-loop
invariant-loop g l =
    (goal.iterator-loop g).can_next l.iterator' × (goal.iterator-loop g).is_finite l.iterator'
    × IsServing (items g.N.Naming.wiring) l.fn.seat l.seat (g.B.Body.width l.body) (g.B.Body.runs l.body) l.rescued.finished l.rescued.faults
    × RanOnly g.N.Naming.wiring l.fn.q (g.B.Body.runs l.body)
    × HasContext g.N.Naming.wiring l.fn.q l.fn.helper
    × HasExecuted (g.B.Body.may g.N.Naming.wiring l.fn.body) l.fn.seat l.seat l.rescued.finished l.rescued.faults
    × ((i : ℕ) (answer : Result (Unit {0}) BodyFault) (before after : List ℕ)
    → g.B.Body.may g.N.Naming.wiring l.body i answer before after
    → g.B.Body.may g.N.Naming.wiring l.fn.body i answer before after)
