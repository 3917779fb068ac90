-- What is waited for, and events of asks, whatever they are about.
use Rattle.std.proofs.Common.{◌≡◌, ℕ, Bool, ◌<◌, ◌↔◌, List, None, refl, IsTrue, true}
use Rattle.wq_items.specs.Table.{ItemWaitsBy}
use Rattle.wq_items.proofs.Tables.{ItemWaits-below}
use Rattle.wq_history.proofs.Words.{SaysUnfinishedOf, state_after, asks_waiting, IsUnfinishedBelow, Wiring, IsWiring}
use Rattle.wq_history.proofs.Words.{items, State, lane_at, IsBusy, IsBusyBelow, IsSoundState, Row, Subject, OfItem}
use Rattle.wq_history.proofs.Words.{OfLane, step_of, ask_event, told_event, IsThere, MayCome}
use Rattle.wq_core.proofs.LaneLemmas.{ItemWaits-by}

-- ---- waits

-- a declared target is an item
pub declared-item : (w : Wiring) (whole : Bool) (i b : ℕ) → IsWiring w → ItemWaitsBy w.waits whole i b → b < items w
declared-item w whole i b wiring waits = ItemWaits-below (items w) w.waits wiring.targets_are_items i b (ItemWaits-by w.waits whole i b waits)

-- a lane is busy exactly where an unfinished entry of it has a number below the next one
pub busy_below-next : (w : Wiring) (s : State) (q : ℕ) (found : Bool) → IsSoundState w s → IsTrue found ↔ IsBusyBelow (lane_at s q) s.next
    → IsTrue found ↔ IsBusy (lane_at s q)
busy_below-next w s q found sound is = (
  (λ yes. let below = is.0 yes in (below.entry, below.unfinished)),
  (λ (e, unfinished). is.1 (record { entry = e; unfinished = unfinished; below = sound.given q e unfinished })),
)

-- ---- asks

pub step_of-ask_event : (x : Subject) (said : Bool) → step_of (ask_event x) said ≡ None
step_of-ask_event (OfItem i) said = refl
step_of-ask_event (OfLane q) said = refl

-- when an ask may come
pub ask-exactly : (w : Wiring) (rows : List Row) (x : Subject) (said : Bool) (n : ℕ)
    → MayCome w rows (ask_event x) said n
    ↔ (IsThere w x × SaysUnfinishedOf (state_after w rows) x said × (n ≡ (state_after w rows).next))
ask-exactly w rows (OfItem i) said n = ((λ may. may), (λ may. may))
ask-exactly w rows (OfLane q) said n = ((λ may. may), (λ may. may))

-- when a caller may be told
pub told-exactly : (w : Wiring) (rows : List Row) (x : Subject) (said : Bool) (n : ℕ)
    → MayCome w rows (told_event x) said n
    ↔ ((said ≡ true) × (0 < asks_waiting x rows) × (¬ IsUnfinishedBelow (state_after w rows) x n))
told-exactly w rows (OfItem i) said n = ((λ may. may), (λ may. may))
told-exactly w rows (OfLane q) said n = ((λ may. may), (λ may. may))
