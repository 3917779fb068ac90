-- Turns: what a call under a lock comes to, and what the lock relies on.
use Rattle.std.specs.Prelude.{◌≡◌, ℕ, ◌<◌, [], false}
use Rattle.wq_history.specs.declared.sleepers.Sleepers.{Sleepers}
use Rattle.wq_history.specs.declared.sleepers.Sleepers.TheVariants.{Contexts, ItemWaiters, LaneWaiters, Destroyers}
use Rattle.wq_history.specs.declared.sleepers.Wake.{Wake}
use Rattle.wq_history.specs.Waits.{WakesEnough}
use Rattle.wq_held.specs.declared.turn.Turn.{Turn}
use Rattle.wq_held.specs.declared.turn.Turn.TheVariants.{Answers, Sleeps}
use Rattle.wq_held.specs.Locked.{HeldView}

-- if the caller of a call sleeps, this holds of the group in which it sleeps
abbrev pub IfSleeps : {T : Type 0} → Turn T → (Sleepers → Type 0) → Type 0
IfSleeps (Answers answer wake) P = Unit {0}
IfSleeps (Sleeps among) P = P among

-- there is such a group of sleepers, if there are so many lanes and so many items
abbrev pub IsGroup : ℕ → ℕ → Sleepers → Type 0
IsGroup lanes items (Contexts q) = q < lanes
IsGroup lanes items (ItemWaiters i) = i < items
IsGroup lanes items (LaneWaiters q) = q < lanes
IsGroup lanes items Destroyers = Unit {0}

-- enough are woken by what has happened, which `enough` says; and if the caller of this call is to sleep, nothing has
-- happened, and there is such a group of sleepers
abbrev pub Wakes : {H T : Type 0} → ℕ → ℕ → (H → H → Wake → Type 0) → H → H → Turn T → Type 0
Wakes lanes items enough old new (Answers answer wake) = enough old new wake
Wakes lanes items enough old new (Sleeps among) = (new ≡ old) × IsGroup lanes items among

-- enough are woken by what became of the book
abbrev pub WakesEnoughOf : HeldView → HeldView → Wake → Type 0
WakesEnoughOf old new wake = WakesEnough old.book new.book wake

-- nothing has happened, and the book is open
abbrev pub IsFresh : HeldView → Type 0
IsFresh h = (h.book.rows ≡ []) × (h.book.closed ≡ false) × (h.seats ≡ 0)
