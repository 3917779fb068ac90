-- Answers: what is said of workqueues.
use Rattle.std.specs.Prelude.{◌≡◌, ℕ, List, length}
use Rattle.wq_groups.specs.Declaration.{Declaration}
use Rattle.wq_groups.specs.Assignment.{IsAssignment}
use Rattle.wq_core.specs.declared.step.Step.{Step}
use Rattle.wq_core.specs.Workqueues.{Workqueues, wiring_of}
use Rattle.wq_core.specs.Deadlock.{IsSafe}
use Rattle.wq_hang.specs.declared.hop.Hop.{Hop}
use Rattle.wq_hang.specs.declared.answer.Answer.{Answer}
use Rattle.wq_hang.specs.declared.answer.Answer.TheVariants as answer
use Rattle.wq_hang.specs.Shortest.{IsFewest}
use Rattle.wq_hang.specs.Walk.{IsWalk, IsRoundOrFirst, BeginsUnsure, AreFirstAlike, needs, run_of_walk, unsure_hops}

-- a run that ends stuck, and the walk whose run it is. The unsure flushes of the walk are a reading of which it is a
-- shortest hang: no reading that keeps fewer hangs, and none that keeps as few hangs sooner. A walk that costs as much
-- as a flush that leads to a bare lane is that of the first such flush
pub record IsHangOf (d : Declaration) (ws : Workqueues) (hops : List Hop) (steps : List Step) : Type 0 where
  pub assignment : IsAssignment d.groups ws.assignment
  pub fewest : IsFewest (wiring_of d ws) (needs hops) steps
  pub one_each : length (needs hops) ≡ length (unsure_hops hops)
  pub beside : List ℕ
  pub walk : IsWalk (wiring_of d ws) hops beside
  pub first : IsRoundOrFirst (wiring_of d ws) hops beside
  pub begins : BeginsUnsure hops
  pub alike : AreFirstAlike (wiring_of d ws) hops
  pub run : steps ≡ run_of_walk (wiring_of d ws) hops beside

-- no run ends stuck, whatever the unsure flushes turn out to be; or a shortest one that does, of a reading that keeps
-- the fewest of them
abbrev pub IsAnswer : {A : Type 0} → Declaration → Workqueues → Answer A → Type 0
IsAnswer d ws answer.Safe = IsAssignment d.groups ws.assignment × IsSafe (wiring_of d ws)
IsAnswer d ws (answer.Hang hops steps) = IsHangOf d ws hops.items steps.items
