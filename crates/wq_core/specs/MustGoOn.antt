-- Items that must go on: runs by which one of them is held up. They may be on any lanes, bare ones, too.
use Rattle.std.specs.Prelude.{◌≡◌, ℕ, ◌≤◌, not, List, Contains, filter, slice_index_or, false}
use Rattle.std.specs.List.{range_with_len}
use Rattle.wq_core.specs.declared.step.Step.{Step}
use Rattle.wq_core.specs.Wiring.{Wiring, HasRescuer, items, lane_of, with_helpers, max_helpers}
use Rattle.wq_core.specs.State.{State, HasUnfinishedOf, empty_state}
use Rattle.wq_core.specs.Rules.{Lawful}
use Rattle.wq_core.specs.Runs.{IsRun, end_of, IsForcedStep, AsDeclaredFrom, IsOnce, HasNoHelp}

-- an entry of one of these items is unfinished, on whatever lane, and no step is lawful but queueings, cancellations,
-- starts of helpers and starts on bare lanes
pub record IsStuckFor (w : Wiring) (named : List ℕ) (s : State) : Type 0 where
  pub item : ℕ
  pub is_named : Contains named item
  pub left : HasUnfinishedOf s item
  pub no_step : (step : Step) → IsForcedStep w step → ¬ Lawful w s step

-- with 0 to 8 helpers of each lane, no run ends stuck for these items
abbrev pub IsSafeFor : Wiring → List ℕ → Type 0
IsSafeFor w named = (n : ℕ) → n ≤ max_helpers →
    (steps : List Step) → IsRun (with_helpers w n) steps
    → ¬ IsStuckFor (with_helpers w n) named (end_of (with_helpers w n) steps)

-- the steps are a run that ends stuck for these items, with each item queued once and flushing as declared, and none of
-- them is a helper's
pub record DeadlocksFor (w : Wiring) (named : List ℕ) (steps : List Step) : Type 0 where
  pub run : IsRun w steps
  pub once : IsOnce w steps
  pub as_declared : AsDeclaredFrom w (empty_state w) steps
  pub no_help : HasNoHelp steps
  pub stuck : IsStuckFor w named (end_of w steps)

-- the items whose lanes have a rescuer. A run ends stuck exactly if it ends stuck for these
abbrev pub rescued_items : Wiring → List ℕ
rescued_items w = filter (λ i. not (slice_index_or w.bare (lane_of w i) false)) (range_with_len 0 (items w))

-- of two wirings that differ in the bare lanes alone, each lane that has a rescuer in the first has one in the second
pub record HasFewerRescuers (v w : Wiring) : Type 0 where
  pub rest : v ≡ record w { bare = v.bare }
  pub rescuer : (q : ℕ) → HasRescuer v q → HasRescuer w q
