-- What lawful steps say about an item, about what runs, and about what it waits for.
use Rattle.std.proofs.Common.{◌≡◌, ℕ, ◌<◌, Some, sym, subst, ◌∙◌, ap, Bool, false}
use Rattle.wq_items.specs.Table.{ItemWaitsBy}
use Rattle.wq_core.specs.declared.entry.Entry.{Entry}
use Rattle.wq_core.specs.declared.entry.Waiting.{Waiting}
use Rattle.wq_core.specs.declared.entry.Running.{Running}
use Rattle.wq_core.specs.declared.step.Step.TheVariants.{Over, Finish}
use Rattle.wq_core.specs.Wiring.{Wiring, IsWiring, items}
use Rattle.wq_core.specs.State.{Lane, State, lane_at, RunsIn, HasPending, HasUnfinishedOf}
use Rattle.wq_core.specs.Rules.{MayStart, MayStartFirst, MayBeOver, Lawful}
use Rattle.wq_core.specs.Held.{IsSoundState}
use Rattle.wq_items.proofs.Tables.{ItemWaits-below}
use Rattle.wq_core.proofs.LaneLemmas.{same_running, ItemWaits-by}
use Rattle.wq_core.proofs.Machines.{pending-own_lane}

-- ---- a rescuer has at most one item to start, one whose wait may be over, and one to finish

-- ---- items exist

pub pending-item : (w : Wiring) (s : State) (i : ℕ) → IsSoundState w s → HasPending s i → i < items w
pending-item w s i sound h = (pending-own_lane w s i sound h).0

pub start-item : (w : Wiring) (s : State) (q c i : ℕ) → IsSoundState w s → MayStart (lane_at s q) c i → i < items w
start-item w s q c i sound may =
    pending-item w s i sound (record { lane = q; entry = may.entry; pending = may.pending; of_item = may.of_item })

-- ---- what runs waits for a declared target

pub waiting-declared : (w : Wiring) (s : State) (q c : ℕ) (r : Running) (f : Waiting) → IsSoundState w s → RunsIn (lane_at s q) c r → r.waiting ≡ Some f
    → ItemWaitsBy w.waits f.whole r.entry.item f.target
waiting-declared w s q c r f sound runs waits = ((sound.running q c r runs).waits f waits).1

pub waiting-target : (w : Wiring) (s : State) (q c : ℕ) (r : Running) (f : Waiting) → IsWiring w → IsSoundState w s → RunsIn (lane_at s q) c r → r.waiting ≡ Some f
    → f.target < items w
waiting-target w s q c r f wiring sound runs waits = ItemWaits-below (items w) w.waits wiring.targets_are_items r.entry.item f.target (ItemWaits-by w.waits f.whole r.entry.item f.target (waiting-declared w s q c r f sound runs waits))
