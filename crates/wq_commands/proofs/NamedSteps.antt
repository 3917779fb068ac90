-- The steps of a run by which an assignment deadlocks: there are few, and each can be printed.
use Rattle.std.proofs.Common.{◌≡◌, ℕ, ◌<◌, ◌≤◌, false, List, length, get_or, refl, subst, arith}
use Rattle.std.specs.Prelude.{nat_lt}
use Rattle.std.specs.List.{All}
use Rattle.std.proofs.lemmas.Bool.{le-ltb}
use Rattle.std.proofs.lemmas.List.Elements.{All-weaker}
use Rattle.wq_groups.specs.Assignment.{Assignment, IsAssignmentOf}
use Rattle.wq_core.specs.declared.step.Step.{Step}
use Rattle.wq_core.specs.declared.step.Step.TheVariants.{Queue, Cancel, Start, Wait, Over, WaitAll, OverAll, Finish, Help}
use Rattle.wq_core.specs.Wiring.{Wiring, items, wiring}
use Rattle.wq_core.specs.Runs.{IsHelp, HasNoHelp}
use Rattle.wq_core.specs.Deadlock.{DeadlocksBy}
use Rattle.wq_core.specs.Workqueues.{Workqueues, wiring_of, all_rescued}
use Rattle.wq_cert.specs.Ranges.{IsStepOf}
use Rattle.wq_cert.specs.RunText.{step_item}
use Rattle.wq_deadlock.specs.Bounds.{IsNamed}
use Rattle.wq_deadlock.proofs.BareLanes.{IsWiring-workqueues}
use Rattle.wq_deadlock.proofs.Named.{IsNamed-run}
use Rattle.wq_deadlock.proofs.RunLengths.{length-once}
use Rattle.wq_groups.specs.DeclaredGroups.{declared_waits, Declared}
use Rattle.wq_commands.proofs.AnswerLemmas.{IsSound, IsDeclaration-sound}

near : (q lanes : ℕ) → q < lanes → lanes ≤ 4096 → nat_lt 4095 q ≡ false
near q lanes within few = le-ltb 4095 q (omega (arith, within, few))

-- a step that names an item and one of few workqueues, and isn't a helper's, can be printed
IsStepOf-named : (w : Wiring) → w.lanes ≤ 4096 → (step : Step) → IsNamed w step → (¬ IsHelp step) → IsStepOf (items w) step
IsStepOf-named w few (Queue i) named own = (named, refl, own)
IsStepOf-named w few (Cancel i) named own = (named, refl, own)
IsStepOf-named w few (Start q i) named own = (named.1, near q w.lanes named.0 few, own)
IsStepOf-named w few (Wait q b) named own = (named.1, near q w.lanes named.0 few, own)
IsStepOf-named w few (Over q b) named own = (named.1, near q w.lanes named.0 few, own)
IsStepOf-named w few (WaitAll q b) named own = (named.1, near q w.lanes named.0 few, own)
IsStepOf-named w few (OverAll q b) named own = (named.1, near q w.lanes named.0 few, own)
IsStepOf-named w few (Finish q i) named own = (named.1, near q w.lanes named.0 few, own)
IsStepOf-named w few (Help q h deed) named own = (named.1, near q w.lanes named.0 few, own)

pub steps_of-named : (w : Wiring) → w.lanes ≤ 4096 → (steps : List Step) → All (IsNamed w) steps → HasNoHelp steps → All (IsStepOf (items w)) steps
steps_of-named w few steps named own = λ k d within. IsStepOf-named w few (get_or steps k d) (named k d within) (own k d within)

module _ (s : Declared) (sound : IsSound s) (ws : Workqueues) (assigned : IsAssignmentOf s.partition.groups ws.assignment) (steps : List Step) (deadlocks : DeadlocksBy (wiring_of (declared_waits s) ws) steps) where
  pub length-hang : length steps ≤ 45056
  length-hang =
      let declaration = IsDeclaration-sound s sound in
      omega (arith, length-once (wiring_of (declared_waits s) ws) steps deadlocks.run deadlocks.once, declaration.one_list_each, declaration.partition.few_items, declaration.few_flushes)

  pub IsStepOf-hang : All (IsStepOf (length s.table.names)) steps
  IsStepOf-hang =
      let w = wiring_of (declared_waits s) ws in
      let named = IsNamed-run w steps (IsWiring-workqueues (declared_waits s) ws (IsDeclaration-sound s sound) assigned.assignment) deadlocks.run in
      subst (λ n. All (IsStepOf n) steps) sound.table.one_list_each (steps_of-named w assigned.few steps named deadlocks.no_help)

  -- so the printer finds its item
  pub step_item-hang : All (λ (step : Step). step_item step < length s.table.names) steps
  step_item-hang = All-weaker (IsStepOf (length s.table.names)) (λ (step : Step). step_item step < length s.table.names) (λ step named. named.0) steps IsStepOf-hang

-- if each workqueue has a rescuer
module _ (s : Declared) (sound : IsSound s) (a : Assignment) (assigned : IsAssignmentOf s.partition.groups a) (steps : List Step) (deadlocks : DeadlocksBy (wiring (declared_waits s) a) steps) where
  pub length-deadlock : length steps ≤ 45056
  length-deadlock = length-hang s sound (all_rescued a) assigned steps deadlocks

  pub IsStepOf-deadlock : All (IsStepOf (length s.table.names)) steps
  IsStepOf-deadlock = IsStepOf-hang s sound (all_rescued a) assigned steps deadlocks

  pub step_item-deadlock : All (λ (step : Step). step_item step < length s.table.names) steps
  step_item-deadlock = step_item-hang s sound (all_rescued a) assigned steps deadlocks
