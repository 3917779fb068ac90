-- Waits: for which conditions callers and contexts sleep, and which of them an event wakes.
use Rattle.std.specs.Prelude.{◌≡◌, ℕ, ◌+◌, ◌≤◌, ◌⊎◌, not, Bool, true, false, [], Some, None, IsTrue, ◌↔◌}
use Rattle.std.specs.List.{count_by}
use Rattle.wq_core.specs.declared.entry.Entry.{Entry}
use Rattle.wq_core.specs.declared.step.HelpStep.{HelpStep}
use Rattle.wq_core.specs.declared.step.HelpStep.TheVariants.{Start as DoStart, Finish as DoFinish}
use Rattle.wq_core.specs.Wiring.{Wiring, lane_of}
use Rattle.wq_core.specs.State.{Lane, State, lane_at, is_running, next_of, HasPending, HasUnfinished}
use Rattle.wq_core.specs.State.{HasUnfinishedBelow, IsBusyBelow}
use Rattle.wq_rows.specs.declared.event.Event.{Event}
use Rattle.wq_rows.specs.declared.event.Event.TheVariants.{Queue, Cancel, Start, Finish, Help}
use Rattle.wq_history.specs.declared.sleepers.Sleepers.{Sleepers}
use Rattle.wq_history.specs.declared.sleepers.Sleepers.TheVariants.{Contexts, ItemWaiters, LaneWaiters, Destroyers}
use Rattle.wq_history.specs.declared.sleepers.WokenContexts.{WokenContexts}
use Rattle.wq_history.specs.declared.sleepers.WokenContexts.TheVariants.{Nobody, One, All as AllOf, Everybody}
use Rattle.wq_history.specs.declared.sleepers.Wake.{Wake}
use Rattle.wq_history.specs.Book.{BookView, state}

-- ---- who waits for what

-- a condition for which somebody sleeps: that an entry of a lane may be started; that a lane has ended; that an item,
-- or a lane, is done below a mark; that all is done
pub data Condition : Type 0 where
  WorkOn : (q : ℕ) → Condition
  EndOf : (q : ℕ) → Condition
  ItemDone : (i mark : ℕ) → Condition
  LaneDone : (q mark : ℕ) → Condition
  AllDone : Condition

-- the condition is met in this state, if this says whether the book is closed. An entry may be started if it is pending
-- and its item isn't running. A lane has ended if the book is closed and nothing is pending on the lane. An item or a
-- lane is done if no entry of it is unfinished below the mark; all is done if the book is closed and nothing is
-- unfinished
abbrev pub IsMetIn : State → Bool → Condition → Type 0
IsMetIn s closed (WorkOn q) = (e : Entry) × (next_of (lane_at s q) ≡ Some e)
IsMetIn s closed (EndOf q) = (closed ≡ true) × ((lane_at s q).pending ≡ [])
IsMetIn s closed (ItemDone i mark) = ¬ HasUnfinishedBelow s i mark
IsMetIn s closed (LaneDone q mark) = ¬ IsBusyBelow (lane_at s q) mark
IsMetIn s closed AllDone = (closed ≡ true) × (¬ HasUnfinished s)

-- the condition is met in this book
abbrev pub IsMet : BookView → Condition → Type 0
IsMet b c = IsMetIn (state b) b.closed c

-- who sleeps for it: a context that runs nothing sleeps until its lane has work or has ended; a flush, a cancellation
-- that waits, and the wait of what runs, sleep until an item or a lane is done; and `destroy` until all is done
abbrev pub sleepers_for : Condition → Sleepers
sleepers_for (WorkOn q) = Contexts q
sleepers_for (EndOf q) = Contexts q
sleepers_for (ItemDone i mark) = ItemWaiters i
sleepers_for (LaneDone q mark) = LaneWaiters q
sleepers_for AllDone = Destroyers

-- what a wait of this kind for item b, with this mark, waits for
abbrev pub awaited : Wiring → Bool → ℕ → ℕ → Condition
awaited w false b mark = ItemDone b mark
awaited w true b mark = LaneDone (lane_of w b) mark

-- what happened made the condition true
pub record BecomesMet (old new : BookView) (c : Condition) : Type 0 where
  pub before : ¬ IsMet old c
  pub now : IsMet new c

-- ---- who is woken

-- nobody is woken
abbrev pub nobody : Wake
nobody = record { contexts = Nobody; item_waiters = None; lane_waiters = None; destroyers = false }

-- one context of lane q is woken
abbrev pub one_context : ℕ → Wake
one_context q = record { contexts = One q; item_waiters = None; lane_waiters = None; destroyers = false }

-- all contexts of all lanes are woken, and all who wait until all is done
abbrev pub by_closing : Wake
by_closing = record { contexts = Everybody; item_waiters = None; lane_waiters = None; destroyers = true }

-- one context of lane q is woken, or all of them
abbrev pub WakesContext : WokenContexts → ℕ → Type 0
WakesContext Nobody q = ⊥
WakesContext (One p) q = p ≡ q
WakesContext (AllOf p) q = p ≡ q
WakesContext Everybody q = Unit {0}

-- all contexts of lane q are woken
abbrev pub WakesContexts : WokenContexts → ℕ → Type 0
WakesContexts (AllOf p) q = p ≡ q
WakesContexts Everybody q = Unit {0}
WakesContexts _ q = ⊥

-- one of these sleepers is woken, or all of them
abbrev pub WakesOne : Wake → Sleepers → Type 0
WakesOne wake (Contexts q) = WakesContext wake.contexts q
WakesOne wake (ItemWaiters i) = wake.item_waiters ≡ Some i
WakesOne wake (LaneWaiters q) = wake.lane_waiters ≡ Some q
WakesOne wake Destroyers = wake.destroyers ≡ true

-- all of these sleepers are woken
abbrev pub WakesAll : Wake → Sleepers → Type 0
WakesAll wake (Contexts q) = WakesContexts wake.contexts q
WakesAll wake (ItemWaiters i) = wake.item_waiters ≡ Some i
WakesAll wake (LaneWaiters q) = wake.lane_waiters ≡ Some q
WakesAll wake Destroyers = wake.destroyers ≡ true

-- ---- who has to be woken

-- how many entries of the lane may be started
abbrev pub startable : Lane → ℕ
startable lane = count_by (λ (e : Entry). not (is_running lane e.item)) lane.pending

-- all who sleep for such a condition go on once it is met. For work each entry takes one context
abbrev pub LetsAllGo : Condition → Type 0
LetsAllGo (WorkOn q) = ⊥
LetsAllGo _ = Unit {0}

-- enough are woken: all who sleep for a condition that has become true; and, for each entry more of a lane that may be
-- started, one of its contexts, but never for more than one entry
pub record WakesEnough (old new : BookView) (wake : Wake) : Type 0 where
  pub all : (c : Condition) → LetsAllGo c → BecomesMet old new c → WakesAll wake (sleepers_for c)
  pub one_each : (q : ℕ) → (startable (lane_at (state new) q) ≤ startable (lane_at (state old) q))
      ⊎ ((startable (lane_at (state new) q) ≤ startable (lane_at (state old) q) + 1) × WakesOne wake (Contexts q))

-- ---- whom an event wakes, if this is the book after it

-- the contexts of lane q, if it has ended, and else no context
abbrev pub WakesIfEnded : BookView → ℕ → WokenContexts → Type 0
WakesIfEnded b q woken = (IsMet b (EndOf q) × (woken ≡ AllOf q)) ⊎ ((¬ IsMet b (EndOf q)) × (woken ≡ Nobody))

-- one context of lane q, if an entry of item i is pending, and else no context
abbrev pub WakesIfPending : BookView → ℕ → ℕ → WokenContexts → Type 0
WakesIfPending b q i woken =
    (HasPending (state b) i × (woken ≡ One q)) ⊎ ((¬ HasPending (state b) i) × (woken ≡ Nobody))

-- of lane q an entry of item i has ended: those who wait for the item, those who
-- wait for the lane, and those who wait for all, if all is done
abbrev pub WakesWaiters : BookView → ℕ → ℕ → Wake → Type 0
WakesWaiters b q i wake =
    (wake.item_waiters ≡ Some i) × (wake.lane_waiters ≡ Some q) × (IsTrue wake.destroyers ↔ IsMet b AllDone)

-- a start of a lane's last pending entry in a closed book ends the lane
abbrev pub WakesByStart : BookView → ℕ → Wake → Type 0
WakesByStart b q wake =
    WakesIfEnded b q wake.contexts × (wake.item_waiters ≡ None) × (wake.lane_waiters ≡ None) × (wake.destroyers ≡ false)

-- a finish of item i on lane q: if the next entry of i is pending, a context may start it
abbrev pub WakesByFinish : BookView → ℕ → ℕ → Wake → Type 0
WakesByFinish b q i wake = WakesIfPending b q i wake.contexts × WakesWaiters b q i wake

-- a cancellation of item i on lane q: it can end the lane
abbrev pub WakesByCancel : BookView → ℕ → ℕ → Wake → Type 0
WakesByCancel b q i wake = WakesIfEnded b q wake.contexts × WakesWaiters b q i wake

-- what a context of lane q does
abbrev pub WakesByDeed : BookView → ℕ → HelpStep → Wake → Type 0
WakesByDeed b q (DoStart i) wake = WakesByStart b q wake
WakesByDeed b q (DoFinish i) wake = WakesByFinish b q i wake
WakesByDeed b q _ wake = wake ≡ nobody

-- an event that came with this `yes`: a queueing wakes one context of its lane. Asks and tellings wake no sleeper, nor
-- does an event that came to nothing
abbrev pub WakesBy : BookView → Event → Bool → Wake → Type 0
WakesBy b (Queue i) true wake = wake ≡ one_context (lane_of b.wiring i)
WakesBy b (Cancel i) true wake = WakesByCancel b (lane_of b.wiring i) i wake
WakesBy b (Start q i) said wake = WakesByDeed b q (DoStart i) wake
WakesBy b (Finish q i) said wake = WakesByDeed b q (DoFinish i) wake
WakesBy b (Help q h deed) said wake = WakesByDeed b q deed wake
WakesBy b _ _ wake = wake ≡ nobody
