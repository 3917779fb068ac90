-- Readings: what the machine sees of a declaration once each unsure flush is decided.
use Rattle.std.specs.Prelude.{◌≡◌, ℕ, Bool, ◌≤◌, List, length, map}
use Rattle.wq_items.specs.declared.target.Target.{Target}
use Rattle.wq_items.specs.Table.{ItemWaitsBy}
use Rattle.wq_items.specs.Readings.{kept_of}
use Rattle.wq_core.specs.Wiring.{Wiring, items, declared_by}
use Rattle.wq_core.specs.Deadlock.{IsSafe}

-- the wiring of the reading that keeps the unsure flushes at these places
abbrev pub reading : Wiring → List ℕ → Wiring
reading w kept = record w { waits = map (kept_of kept) w.waits }

-- safe, whatever the unsure flushes turn out to be
abbrev pub IsSafeAnyway : Wiring → Type 0
IsSafeAnyway w = (kept : List ℕ) → IsSafe (reading w kept)

-- safe in no reading
abbrev pub HangsForSure : Wiring → Type 0
HangsForSure w = (kept : List ℕ) → ¬ IsSafe (reading w kept)

-- the second declares each flush that the first declares, if only the item, its target and the kind are looked at, and
-- at least as many of each item. Nothing else differs
pub record DeclaresMore (v w : Wiring) : Type 0 where
  pub rest : v ≡ record w { waits = v.waits }
  pub items : items v ≡ items w
  pub more : (whole : Bool) (i j : ℕ) → ItemWaitsBy v.waits whole i j → ItemWaitsBy w.waits whole i j
  pub counts : (i : ℕ) → length (declared_by v i) ≤ length (declared_by w i)

-- what a run shows of a flush: its target, and whether the whole workqueue of that is flushed
abbrev pub flush_of : Target → ℕ × Bool
flush_of t = (t.item, t.whole)

-- the same flushes of each item, in the same order, wherever they are declared and whether they are sure or not.
-- Nothing else differs
pub record SameButPlaces (v w : Wiring) : Type 0 where
  pub rest : v ≡ record w { waits = v.waits }
  pub flushes : map (map flush_of) v.waits ≡ map (map flush_of) w.waits
