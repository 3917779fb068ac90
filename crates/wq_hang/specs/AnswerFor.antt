-- Answers: whether one of the items that must go on can be held up.
use Rattle.std.specs.Prelude.{◌≡◌, ℕ, List, length}
use Rattle.wq_groups.specs.Declaration.{Declaration}
use Rattle.wq_groups.specs.Assignment.{IsAssignment}
use Rattle.wq_core.specs.declared.step.Step.{Step}
use Rattle.wq_core.specs.Workqueues.{Workqueues, wiring_of}
use Rattle.wq_core.specs.MustGoOn.{IsSafeFor}
use Rattle.wq_hang.specs.declared.hop.Hop.{Hop}
use Rattle.wq_hang.specs.declared.answer.Held.{Held}
use Rattle.wq_hang.specs.declared.answer.Held.TheVariants as held
use Rattle.wq_hang.specs.ShortestFor.{IsFewestFor}
use Rattle.wq_hang.specs.Walk.{AreFirstAlike, needs, run_of_walk, unsure_hops}
use Rattle.wq_hang.specs.WalkFor.{IsWalkFor, pending_for}

-- a run that ends stuck for these items, and the walk whose run it is, which holds up x. The unsure flushes of the walk
-- are a reading of which it is a shortest such run: no reading that keeps fewer has one, and none that keeps as few has
-- a shorter one
pub record IsHeldBy (d : Declaration) (ws : Workqueues) (named : List ℕ) (x : ℕ) (hops : List Hop) (steps : List Step)
    : Type 0 where
  pub assignment : IsAssignment d.groups ws.assignment
  pub fewest : IsFewestFor (wiring_of d ws) named (needs hops) steps
  pub one_each : length (needs hops) ≡ length (unsure_hops hops)
  pub walk : IsWalkFor (wiring_of d ws) named x hops
  pub alike : AreFirstAlike (wiring_of d ws) hops
  pub run : steps ≡ run_of_walk (wiring_of d ws) hops (pending_for (wiring_of d ws) x hops)

-- no run ends stuck for these items, whatever the unsure flushes turn out to be; or a shortest one that does, of a
-- reading that keeps the fewest of them
abbrev pub IsAnswerFor : {A : Type 0} → Declaration → Workqueues → List ℕ → Held A → Type 0
IsAnswerFor d ws named held.Safe = IsAssignment d.groups ws.assignment × IsSafeFor (wiring_of d ws) named
IsAnswerFor d ws named (held.HeldUp x hops steps) = IsHeldBy d ws named x hops.items steps.items
