-- Verdicts on workqueues, some of which may have no rescuer.
use Rattle.std.specs.Prelude.{◌≡◌, ℕ, ◌&&◌, not, Bool, false, List, [], ◌∷◌, filter, slice_index_or}
use Rattle.wq_groups.specs.Declaration.{Declaration}
use Rattle.wq_groups.specs.Assignment.{IsAssignment, item_lane}
use Rattle.wq_graph.specs.declared.arc.WaitArc.{WaitArc}
use Rattle.wq_graph.specs.Graph.{arcs_by_place, lane_graph, without}
use Rattle.wq_levels.specs.Walks.{IsWalkedCircle}
use Rattle.wq_core.specs.declared.step.Step.{Step}
use Rattle.wq_core.specs.Workqueues.{Workqueues, wiring_of}
use Rattle.wq_core.specs.Deadlock.{IsSafe, DeadlocksBy}
use Rattle.wq_deadlock.specs.declared.judged.Judged.{Judged}
use Rattle.wq_deadlock.specs.declared.judged.Judged.TheVariants as judged
use Rattle.wq_deadlock.specs.CircleRun.{flushing_items, IsRunOf}

-- item i, which has this group, is on a workqueue without a rescuer
abbrev pub is_on_bare : Workqueues → List ℕ → ℕ → Bool
is_on_bare ws group_of i = slice_index_or ws.bare (item_lane ws.assignment group_of i) false

-- the flush leads from a workqueue that has a rescuer to one that has none
abbrev pub leads_to_bare : Workqueues → List ℕ → WaitArc → Bool
leads_to_bare ws group_of a = not (is_on_bare ws group_of a.src) && is_on_bare ws group_of a.dst

-- the flushes that lead from a workqueue that has a rescuer to one that has none, in order of place
abbrev pub bare_waits : Declaration → Workqueues → List WaitArc
bare_waits d ws = filter (leads_to_bare ws d.group_of) (arcs_by_place d.waits d.group_of)

-- the wait graph of the lanes that have a rescuer
abbrev pub rescued_graph : Declaration → Workqueues → List (List WaitArc)
rescued_graph d ws = without ws.bare (lane_graph d ws.assignment)

-- these items are queued first: if some flush leads to a workqueue without a rescuer, the item of the first such flush;
-- otherwise those of the circle of the walk among the lanes that have a rescuer
abbrev pub AreFirst : Declaration → Workqueues → List WaitArc → List ℕ → Type 0
AreFirst d ws (a ∷ more) first = first ≡ a.src ∷ []
AreFirst d ws [] first =
    (circle : List WaitArc) × IsWalkedCircle (rescued_graph d ws) circle × (first ≡ flushing_items circle)

-- these are workqueues of the declaration's groups; the steps queue these items first, and play what is queued to its
-- end; and they are a run that ends stuck, with each item queued once and flushing as declared
pub record IsHang (d : Declaration) (ws : Workqueues) (steps : List Step) : Type 0 where
  pub assignment : IsAssignment d.groups ws.assignment
  pub first : List ℕ
  pub are_first : AreFirst d ws (bare_waits d ws) first
  pub is_run : IsRunOf (wiring_of d ws) first steps
  pub deadlocks : DeadlocksBy (wiring_of d ws) steps

-- workqueues of the declaration's groups, no run of which ends stuck
pub record AreSafe (d : Declaration) (ws : Workqueues) : Type 0 where
  pub assignment : IsAssignment d.groups ws.assignment
  pub safe : IsSafe (wiring_of d ws)

-- what a verdict on workqueues means
abbrev pub IsJudged : {A : Type 0} → Declaration → Workqueues → Judged A → Type 0
IsJudged d ws judged.Safe = AreSafe d ws
IsJudged d ws (judged.Deadlock steps) = IsHang d ws steps.items
