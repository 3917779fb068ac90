-- No work is left exactly where nothing is unfinished.
use Rattle.std.proofs.Common.{◌≡◌, ℕ, zero, suc, ◌<◌, ◌≤◌, ◌↔◌, inl, inr, Bool, false, eqb, List, [], ◌∷◌, length}
use Rattle.std.proofs.Common.{get_or, Option, Some, None, refl, sym, ap, subst, ◌∙◌, arith, Contains, IsTrue, sum_by}
use Rattle.std.proofs.lemmas.Bool.{cases_eq, eqb-true, eq-eqb}
use Rattle.std.proofs.lemmas.List.Sums.{sum_by-cons, get_or-le-sum_by}
use Rattle.wq_items.proofs.Lists.{Contains-here}
use Rattle.wq_history.proofs.Words.{Entry, Waiting, Running, Wiring, Lane, State, idle_lane, lane_at, RunsIn}
use Rattle.wq_history.proofs.Words.{IsUnfinishedOn, HasUnfinished, lane_work, work_left, IsSoundState}
use Rattle.wq_core.specs.Work.{whole_work, waits_over, running_work}
use Rattle.wq_core.specs.Held.{IsSoundRunning}
use Rattle.wq_core.proofs.Contexts.{runs_place}
use Rattle.wq_core.proofs.LaneLemmas.{lane_within}

-- ---- what is unfinished has work left

over-at_most : (made : ℕ) (o : Option Waiting) → waits_over made o ≤ made
over-at_most made None = omega arith
over-at_most made (Some f) = omega arith

running-some : (w : Wiring) (r : Running) → IsSoundRunning w r → 1 ≤ running_work w (Some r)
running-some w r sound = omega (arith, over-at_most r.made r.waiting, sound.made)

lane-some : (w : Wiring) (lane : Lane) (e : Entry) → ((c : ℕ) (r : Running) → RunsIn lane c r → IsSoundRunning w r) → IsUnfinishedOn lane e → 1 ≤ lane_work w lane
lane-some w lane e sound (inl (k, lt, at)) =
    omega (arith, get_or-le-sum_by (λ (f : Entry). whole_work w f.item) lane.pending k e lt)
lane-some w lane e sound (inr (zero, r, runs, same)) =
    omega (arith, running-some w r (sound zero r runs), ap (running_work w) runs)
lane-some w lane e sound (inr (suc h, r, runs, same)) =
    let place : suc h ≤ length lane.helping = runs_place lane (suc h) r runs in
    omega (arith, running-some w r (sound (suc h) r runs), ap (running_work w) runs, get_or-le-sum_by (running_work w) lane.helping h None (omega (arith, place)))

-- ---- where work is left, something is unfinished

-- a sum that isn't 0 has a part that isn't
some_part : {X : Type 0} (f : X → ℕ) (d : X) (xs : List X) → 1 ≤ sum_by f xs
    → (k : ℕ) × (k < length xs) × (1 ≤ f (get_or xs k d))
some_part f d [] some = absurd (omega (arith, some))
some_part f d (x ∷ xs) some = elim (cases_eq (f x) 0) [
  | inl none ↦ (
      let rest = some_part f d xs (omega (arith, some, none, sum_by-cons f x xs)) in
      (suc rest.0, omega (arith, rest.1), rest.2)
      )
  | inr here ↦ (0, omega arith, omega (arith, here))
]

lane-unfinished : (w : Wiring) (lane : Lane) → 1 ≤ lane_work w lane → (e : Entry) × IsUnfinishedOn lane e
lane-unfinished w lane some = by lane.pending refl lane.running refl where
  helper : (k : ℕ) (o : Option Running) → get_or lane.helping k None ≡ o → 1 ≤ running_work w o
      → (e : Entry) × IsUnfinishedOn lane e
  helper k None is work = absurd (omega (arith, work))
  helper k (Some r) is work = (r.entry, inr (suc k, r, is, refl))

  by : (ps : List Entry) → lane.pending ≡ ps → (o : Option Running) → lane.running ≡ o
      → (e : Entry) × IsUnfinishedOn lane e
  by (p ∷ ps) is o runs = (p, inl (subst (λ (xs : List Entry). Contains xs p) (sym is) (Contains-here p ps)))
  by [] is (Some r) runs = (r.entry, inr (zero, r, runs, refl))
  by [] is None runs =
      let pending = ap (λ (xs : List Entry). sum_by (λ (f : Entry). whole_work w f.item) xs) is in
      let others = some_part (running_work w) None lane.helping
      (omega (arith, some, pending, ap (running_work w) runs)) in
      helper others.0 (get_or lane.helping others.0 None) refl others.2

some-unfinished : (w : Wiring) (s : State) → 1 ≤ work_left w s → HasUnfinished s
some-unfinished w s some =
    let lane = some_part (lane_work w) idle_lane s.lanes some in
    let found = lane-unfinished w (lane_at s lane.0) lane.2 in
    record { lane = lane.0; entry = found.0; unfinished = found.1 }

-- ---- all lanes

pub idle-exactly : (w : Wiring) (s : State) → IsSoundState w s → (work_left w s ≡ 0) ↔ (¬ HasUnfinished s)
idle-exactly w s sound = (to, from) where
  to : work_left w s ≡ 0 → ¬ HasUnfinished s
  to nothing h =
      let within : h.lane < length s.lanes = lane_within s h.lane h.entry h.unfinished in
      let part : lane_work w (lane_at s h.lane) ≤ work_left w s = get_or-le-sum_by (lane_work w) s.lanes h.lane idle_lane within in
      let some : 1 ≤ lane_work w (lane_at s h.lane) = lane-some w (lane_at s h.lane) h.entry (sound.running h.lane) h.unfinished in
      omega (arith, nothing, part, some)

  from : (¬ HasUnfinished s) → work_left w s ≡ 0
  from none = by (work_left w s) refl where
    by : (n : ℕ) → work_left w s ≡ n → work_left w s ≡ 0
    by zero is = is
    by (suc n) is = absurd (none (some-unfinished w s (omega (arith, is))))

-- if it isn't so that nothing is unfinished, something is
pub busy-unfinished : (w : Wiring) (s : State) (idle : Bool) → IsSoundState w s → ((¬ HasUnfinished s) → IsTrue idle)
    → idle ≡ false → HasUnfinished s
busy-unfinished w s idle sound says not = by (work_left w s) refl where
  by : (n : ℕ) → work_left w s ≡ n → HasUnfinished s
  by zero is = let yes : IsTrue idle = says ((idle-exactly w s sound).0 is) in absurd cc
  by (suc n) is = some-unfinished w s (omega (arith, is))

-- so the test says so
pub idle-answer : (w : Wiring) (s : State) (work : ℕ) (b : Bool) → IsSoundState w s → work ≡ work_left w s → b ≡ eqb work 0 → IsTrue b ↔ (¬ HasUnfinished s)
idle-answer w s work b sound left is =
    let exactly = idle-exactly w s sound in (
      (λ yes. exactly.0 (sym left ∙ eqb-true work 0 (sym is ∙ yes))),
      (λ none. is ∙ eq-eqb work 0 (left ∙ exactly.1 none)),
    )
