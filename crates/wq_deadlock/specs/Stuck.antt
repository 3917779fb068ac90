-- Lanes that are known to be stuck, while a machine is played.
use Rattle.std.specs.Prelude.{
  ◌≡◌,
  ◌<◌,
  ℕ,
  List,
  [],
  ◌∷◌,
  ◌++◌,
  Bool,
  true,
  false,
  slice_index_or,
  slice_set,
  Option,
  Some,
}
use Rattle.std.specs.Prelude.{None, Contains}
use Rattle.wq_core.specs.declared.entry.Waiting.{Waiting}
use Rattle.wq_core.specs.declared.entry.Running.{Running}
use Rattle.wq_core.specs.declared.step.Step.{Step}
use Rattle.wq_core.specs.declared.step.Step.TheVariants.{Queue, Cancel, Start, Wait, Over, WaitAll, OverAll, Finish}
use Rattle.wq_core.specs.declared.step.Step.TheVariants.{Help}
use Rattle.wq_core.specs.Wiring.{Wiring}
use Rattle.wq_core.specs.State.{State, lane_at, Runs}
use Rattle.wq_core.specs.Rules.{IsHeldBack, IsHolder}

-- for each lane, whether it is known to be stuck; for each item, the lanes whose wait it was found to hold back
pub record StuckLanes : Type 0 where
  pub known : List Bool
  pub waiting : List (List ℕ)

-- what lane q runs waits for this
abbrev pub Awaits : State → ℕ → Waiting → Type 0
Awaits s q flush = (r : Running) × Runs (lane_at s q) r × (r.waiting ≡ Some flush)

-- this item, if one is given, holds the wait back; otherwise nothing does
abbrev pub IsHeldBackBy : Wiring → State → Waiting → Option ℕ → Type 0
IsHeldBackBy w s flush None = ¬ IsHeldBack w s flush.whole flush.target flush.mark
IsHeldBackBy w s flush (Some i) = IsHolder w s flush.whole flush.target flush.mark i

-- lane q is known to be stuck
abbrev pub IsKnown : StuckLanes → ℕ → Type 0
IsKnown stuck q = slice_index_or stuck.known q false ≡ true

-- the lanes whose wait item i was found to hold back
abbrev pub held_back_by : StuckLanes → ℕ → List ℕ
held_back_by stuck i = slice_index_or stuck.waiting i []

-- the lists after this item, if any, was found to hold back the wait of lane q
abbrev pub with_waiting : List (List ℕ) → ℕ → Option ℕ → List (List ℕ)
with_waiting waiting q None = waiting
with_waiting waiting q (Some i) = slice_set waiting i (slice_index_or waiting i [] ++ (q ∷ []))

-- what is known after lane q was found to be stuck, and this item, if any, to hold back its wait
abbrev pub with_stuck : StuckLanes → ℕ → Option ℕ → StuckLanes
with_stuck stuck q holder =
    record { known = slice_set stuck.known q true; waiting = with_waiting stuck.waiting q holder }

-- item i is finished: the lanes whose wait it was found to hold back aren't known to be stuck any more
pub record IsReleased (old : StuckLanes) (i : ℕ) (new : StuckLanes) : Type 0 where
  pub known : (q : ℕ) → IsKnown new q → IsKnown old q × (¬ Contains (held_back_by old i) q)
  pub waiting : new.waiting ≡ slice_set old.waiting i []

-- each lane below this one that was known to be stuck still is
abbrev pub StayKnownBelow : ℕ → StuckLanes → StuckLanes → Type 0
StayKnownBelow lowest old new = (q : ℕ) → q < lowest → IsKnown old q → IsKnown new q

-- what is known after a step: only a finish lets other lanes move
abbrev pub IsAfter : StuckLanes → Step → StuckLanes → Type 0
IsAfter old (Queue i) new = new ≡ old
IsAfter old (Cancel i) new = new ≡ old
IsAfter old (Start q i) new = new ≡ old
IsAfter old (Wait q b) new = new ≡ old
IsAfter old (Over q b) new = new ≡ old
IsAfter old (WaitAll q b) new = new ≡ old
IsAfter old (OverAll q b) new = new ≡ old
IsAfter old (Finish q i) new = IsReleased old i new
IsAfter old (Help q h deed) new = new ≡ old
