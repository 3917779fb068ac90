-- What it means that a declaration is solved.
use Rattle.std.specs.Prelude.{◌≡◌, ◌<◌, List}
use Rattle.wq_items.specs.Chain.{HasCircle}
use Rattle.wq_groups.specs.Declaration.{Declaration, GroupWaits}
use Rattle.wq_groups.specs.Assignment.{Assignment, IsAssignment}
use Rattle.wq_core.specs.Wiring.{wiring}
use Rattle.wq_core.specs.Deadlock.{IsSafe, Deadlocks, IsLeast}
use Rattle.wq_graph.specs.declared.arc.WaitArc.{WaitArc}
use Rattle.wq_graph.specs.Graph.{group_graph}
use Rattle.wq_levels.specs.Walks.{IsWalkedCircle}
use Rattle.wq_plan.specs.declared.answer.Answer.{Answer}
use Rattle.wq_plan.specs.declared.answer.Answer.TheVariants as answer
use Rattle.wq_plan.specs.Plan.{IsPlan, chain_of_plan}

-- the assignment is the plan, so the groups wait in no circle, no run ends stuck, and every assignment to fewer lanes
-- deadlocks; and the chain is the plan's
pub record IsPlanned (d : Declaration) (a : Assignment) (chain : List WaitArc) : Type 0 where
  pub plan : IsPlan d a
  pub no_circle : ¬ HasCircle (GroupWaits d) d.groups
  pub least : IsLeast d a
  pub longest : chain ≡ chain_of_plan d a.lane_of_group

-- the groups wait in a circle, and this is the circle of the walk; so every assignment deadlocks
pub record IsCircled (d : Declaration) (circle : List WaitArc) : Type 0 where
  pub has_circle : HasCircle (GroupWaits d) d.groups
  pub walked : IsWalkedCircle (group_graph d) circle
  pub deadlocks : (a : Assignment) → IsAssignment d.groups a → Deadlocks (wiring d a)

-- a plan if the groups wait in no circle, and the circle if they do
abbrev pub Solves : {A : Type 0} → Declaration → Answer A → Type 0
Solves d (answer.Plan assignment chain) = IsPlanned d assignment chain.items
Solves d (answer.Circle arcs) = IsCircled d arcs.items

-- no run of a plan ends stuck
abbrev pub PlanIsSafe : {A : Type 0} → Declaration → Answer A → Type 0
PlanIsSafe d (answer.Plan assignment chain) = IsSafe (wiring d assignment)
PlanIsSafe d (answer.Circle arcs) = Unit {0}

-- every assignment to fewer lanes than the plan has deadlocks; if the answer is a circle, every assignment deadlocks
abbrev pub FewerDeadlock : {A : Type 0} → Declaration → Answer A → Type 0
FewerDeadlock d (answer.Plan assignment chain) =
    (b : Assignment) → IsAssignment d.groups b → b.lanes < assignment.lanes → Deadlocks (wiring d b)
FewerDeadlock d (answer.Circle arcs) = (b : Assignment) → IsAssignment d.groups b → Deadlocks (wiring d b)
