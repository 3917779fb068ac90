-- What a machine answers about a lane or an item.
use Rattle.std.proofs.Common.{◌≡◌, ℕ, ◌<◌, ◌↔◌, ◌⊎◌, Bool, refl, sym, subst, ◌∙◌, ap, inl, inr}
use Rattle.std.specs.Prelude.{IsTrue}
use Rattle.wq_core.specs.declared.entry.Entry.{Entry}
use Rattle.wq_core.specs.declared.entry.Running.{Running}
use Rattle.wq_core.specs.Wiring.{Wiring, items, lane_of}
use Rattle.wq_core.specs.State.{Lane, State, lane_at, RunsIn, HasPending, HasUnfinishedBelow, HasUnfinishedOf}
use Rattle.wq_core.specs.Held.{IsSoundState, HasPendingBelow, RunsBelow, lane_runs_below}
use Rattle.wq_core.proofs.Unfinished.{lane_runs_below-some, some-lane_runs_below}

-- ---- an item's entries are on its own lane

pub pending-own_lane : (w : Wiring) (s : State) (i : ℕ) → IsSoundState w s → (h : HasPending s i) → (i < items w) × (h.lane ≡ lane_of w i)
pending-own_lane w s i sound h =
    let own = sound.own_lane h.lane h.entry (inl h.pending) in
    (subst (λ j. j < items w) h.of_item own.0, sym (subst (λ j. lane_of w j ≡ h.lane) h.of_item own.1))

pub unfinished-own_lane : (w : Wiring) (s : State) (i mark : ℕ) → IsSoundState w s → (h : HasUnfinishedBelow s i mark) → (i < items w) × (h.lane ≡ lane_of w i)
unfinished-own_lane w s i mark sound h =
    let own = sound.own_lane h.lane h.entry h.unfinished in
    (subst (λ j. j < items w) h.of_item own.0, sym (subst (λ j. lane_of w j ≡ h.lane) h.of_item own.1))

-- all that runs of an item runs on its own lane
pub runs_below-exactly : (w : Wiring) (s : State) (q i mark : ℕ) (lane : Lane) → IsSoundState w s → q ≡ lane_of w i → lane ≡ lane_at s q → IsTrue (lane_runs_below i mark lane) ↔ RunsBelow s i mark
runs_below-exactly w s q i mark lane sound own is = (to, from) where
  to : IsTrue (lane_runs_below i mark lane) → RunsBelow s i mark
  to h =
      let found = lane_runs_below-some i mark lane h in
      record { lane = q; context = found.0; running = found.1; runs = subst (λ (l : Lane). RunsIn l found.0 found.1) is found.2; of_item = found.3; below = found.4 }

  from : RunsBelow s i mark → IsTrue (lane_runs_below i mark lane)
  from h =
      let there : lane_of w h.running.entry.item ≡ h.lane = (sound.own_lane h.lane h.running.entry (inr (h.context, h.running, h.runs, refl))).1 in
      let same : q ≡ h.lane = own ∙ ap (λ j. lane_of w j) (sym h.of_item) ∙ there in
      let here : RunsIn (lane_at s q) h.context h.running = subst (λ (p : ℕ). RunsIn (lane_at s p) h.context h.running) (sym same) h.runs in
      some-lane_runs_below i mark lane h.context h.running (subst (λ (l : Lane). RunsIn l h.context h.running) (sym is) here) h.of_item h.below

-- what is unfinished is pending or runs
pub unfinished_below-either : (s : State) (i mark : ℕ) → HasPendingBelow s i mark ⊎ RunsBelow s i mark → HasUnfinishedBelow s i mark
unfinished_below-either s i mark (inl h) = record { lane = h.lane; entry = h.entry; unfinished = inl h.pending; of_item = h.of_item; below = h.below }
unfinished_below-either s i mark (inr h) = record { lane = h.lane; entry = h.running.entry; unfinished = inr (h.context, h.running, h.runs, refl); of_item = h.of_item; below = h.below }

pub cases_unfinished_below : (s : State) (i mark : ℕ) → HasUnfinishedBelow s i mark → HasPendingBelow s i mark ⊎ RunsBelow s i mark
cases_unfinished_below s i mark h = elim h.unfinished [
  | inl pending ↦ inl (record { lane = h.lane; entry = h.entry; pending = pending; of_item = h.of_item; below = h.below })
  | inr (c, r, runs, same) ↦ inr (record {
    lane = h.lane;
    context = c;
    running = r;
    runs = runs;
    of_item = ap (λ (e : Entry). e.item) same ∙ h.of_item;
    below = subst (λ (e : Entry). e.number < mark) (sym same) h.below;
  })
]

-- ---- every number that was given is below the next

pub HasUnfinishedOf-below_next : (w : Wiring) (s : State) (i : ℕ) → IsSoundState w s → HasUnfinishedOf s i ↔ HasUnfinishedBelow s i s.next
HasUnfinishedOf-below_next w s i sound = (
  (λ h. record { lane = h.lane; entry = h.entry; unfinished = h.unfinished; of_item = h.of_item; below = sound.given h.lane h.entry h.unfinished }),
  (λ h. record { lane = h.lane; entry = h.entry; unfinished = h.unfinished; of_item = h.of_item }),
)

-- an answer about the numbers below the next one is an answer about all
pub HasUnfinishedOf-answer : (w : Wiring) (s : State) (i next : ℕ) (answer : Bool) → IsSoundState w s → next ≡ s.next → IsTrue answer ↔ HasUnfinishedBelow s i next
    → IsTrue answer ↔ HasUnfinishedOf s i
HasUnfinishedOf-answer w s i next answer sound same below =
    let is = HasUnfinishedOf-below_next w s i sound in
    let at : IsTrue answer ↔ HasUnfinishedBelow s i s.next = subst (λ n. IsTrue answer ↔ HasUnfinishedBelow s i n) same below in
    ((λ h. is.1 (at.0 h)), (λ h. at.1 (is.0 h)))

-- ---- what runs is of an item

pub running-item : (w : Wiring) (s : State) (q c : ℕ) (r : Running) → IsSoundState w s → RunsIn (lane_at s q) c r → r.entry.item < items w
running-item w s q c r sound runs = (sound.own_lane q r.entry (inr (c, r, runs, refl))).0
