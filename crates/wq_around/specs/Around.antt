-- What it means that a declaration is planned around fixed workqueues.
use Rattle.std.specs.Prelude.{◌≡◌, ◌⊎◌, ℕ, ◌-◌, List, [], ◌∷◌}
use Rattle.wq_groups.specs.Declaration.{Declaration}
use Rattle.wq_core.specs.Workqueues.{Workqueues}
use Rattle.wq_graph.specs.declared.arc.WaitArc.{WaitArc}
use Rattle.wq_levels.specs.Walks.{IsWalkedCircle}
use Rattle.wq_deadlock.specs.Judging.{bare_waits}
use Rattle.wq_fixed.specs.Fixed.{Fixed, IsLeastAround, AllDeadlock, fixed_lanes, start}
use Rattle.wq_around.specs.declared.answer.Around.{Around}
use Rattle.wq_around.specs.declared.answer.Around.TheVariants as around
use Rattle.wq_around.specs.Heights.{start_graph, AreHeights, IsPlanAround}
use Rattle.wq_around.specs.LongestChain.{IsBestChain}
use Rattle.wq_around.specs.Order.{IsOrder}

-- how many new workqueues there are
abbrev pub new_lanes : Fixed → Workqueues → ℕ
new_lanes f ws = ws.assignment.lanes - fixed_lanes f

-- no chain where nothing is new
abbrev pub IsChainOf : Declaration → Fixed → ℕ → List WaitArc → Type 0
IsChainOf d f most chain =
    ((most ≡ 0) × (chain ≡ []))
    ⊎ ((heights : List ℕ) × AreHeights (start_graph d f) f heights × IsBestChain d f heights most chain)

-- the workqueues are those of the heights; no run of them ends stuck, and any that keep the fixed ones and are fewer
-- deadlock; the order is one in which each waits only for those before it; and the chain shows how many are needed
pub record IsPlannedAround (d : Declaration) (f : Fixed) (ws : Workqueues) (sequence : List ℕ) (arcs : List WaitArc)
    : Type 0 where
  pub plan : IsPlanAround d f ws
  pub least : IsLeastAround d f ws
  pub order : IsOrder d ws sequence
  pub chain : IsChainOf d f (new_lanes f ws) arcs

-- in the start this is the first flush that leads to no rescuer; so all workqueues that keep the fixed ones deadlock
pub record IsHeldByNone (d : Declaration) (f : Fixed) (arc : WaitArc) : Type 0 where
  pub others : List WaitArc
  pub first : bare_waits d (start f) ≡ arc ∷ others
  pub deadlock : AllDeadlock d f

-- in the start no flush leads to no rescuer, and the lanes that have one wait in the circle of the walk; so all
-- workqueues that keep the fixed ones deadlock
pub record IsCircledAround (d : Declaration) (f : Fixed) (circle : List WaitArc) : Type 0 where
  pub none : bare_waits d (start f) ≡ []
  pub walked : IsWalkedCircle (start_graph d f) circle
  pub deadlock : AllDeadlock d f

-- a plan if there is one, and else what is in the way of each
abbrev pub PlansAround : {A : Type 0} → Declaration → Fixed → Around A → Type 0
PlansAround d f (around.Plan workqueues order chain) = IsPlannedAround d f workqueues order.items chain.items
PlansAround d f (around.NoRescuer arc) = IsHeldByNone d f arc
PlansAround d f (around.Circle arcs) = IsCircledAround d f arcs.items
