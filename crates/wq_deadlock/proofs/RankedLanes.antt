-- What ranks of the lanes, and a circle of them, say about the safety of an assignment.
use Rattle.std.proofs.Common.{◌≡◌, ℕ, ◌≤◌, true, false, List, refl}
use Rattle.std.specs.Prelude.{IsTrue, ◌↔◌}
use Rattle.wq_groups.specs.Declaration.{Declaration, IsDeclaration}
use Rattle.wq_groups.specs.Assignment.{Assignment, IsAssignment}
use Rattle.wq_graph.specs.declared.arc.WaitArc.{WaitArc}
use Rattle.wq_graph.specs.Graph.{lane_graph}
use Rattle.wq_levels.specs.Ranks.{AreRanks}
use Rattle.wq_levels.specs.Walks.{IsWalkedCircle}
use Rattle.wq_core.specs.Wiring.{wiring}
use Rattle.wq_core.specs.Deadlock.{IsSafe}
use Rattle.wq_deadlock.proofs.CircleRuns.{IsCircleRun-exists, DeadlocksBy-circle_run}
use Rattle.wq_deadlock.proofs.Renumbered.{not_safe-by}
use Rattle.wq_deadlock.proofs.Verdicts.{IsSafeByRanks-ranks}

module _ (d : Declaration) (a : Assignment) (declaration : IsDeclaration d) (assignment : IsAssignment d.groups a) where
  -- ranks fall along every declared flush, so no run ends stuck
  pub IsSafe-ranked : a.lanes ≤ 4096 → (ranks : List ℕ) → AreRanks (lane_graph d a) ranks → IsTrue true ↔ IsSafe (wiring d a)
  IsSafe-ranked few ranks are = ((λ said. (IsSafeByRanks-ranks d a declaration assignment few ranks are).safe), (λ safe. refl))

  -- the run of the walked circle ends stuck
  not_safe : (circle : List WaitArc) → IsWalkedCircle (lane_graph d a) circle → ¬ IsSafe (wiring d a)
  not_safe circle walked =
      let run = IsCircleRun-exists d a declaration assignment circle walked in
      not_safe-by (wiring d a) run.0 (DeadlocksBy-circle_run d a declaration assignment circle walked run.0 run.1)

  pub IsSafe-walked : (circle : List WaitArc) → IsWalkedCircle (lane_graph d a) circle → IsTrue false ↔ IsSafe (wiring d a)
  IsSafe-walked circle walked = ((λ said. let bad : false ≡ true = said in absurd cc), (λ safe. absurd (not_safe circle walked safe)))
