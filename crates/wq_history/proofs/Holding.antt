-- What a book holds, and that it still holds this after one more row.
use Rattle.std.proofs.Common.{◌≡◌, ℕ, zero, suc, ◌+◌, ◌*◌, ◌<◌, ◌≤◌, ◌^◌, inr, cond, Bool, true, false, List, []}
use Rattle.std.proofs.Common.{◌∷◌, ◌++◌, length, length-append, get_or, replicate, refl, sym, ap, ◌∙◌, arith, Option}
use Rattle.std.proofs.Common.{Some, None, IfSome, IsTrue, ◌↔◌, is_some, slice_get, sum_by, max, ◌&&◌, Contains}
use Rattle.std.proofs.Math.Nat.{le-max_left, le-max_right}
use Rattle.std.proofs.lemmas.List.{length-replicate}
use Rattle.std.proofs.lemmas.List.Folds.{sum_by-replicate}
use Rattle.wq_items.proofs.Lists.{Contains-first}
use Rattle.wq_history.proofs.Words.{Entry, Running, Step, Wiring, items, lane_of, HasContext, State, idle_lane, lane_at}
use Rattle.wq_history.proofs.Words.{run_by, empty_state, Lawful, lane_work, work_left, Machine, IsMachine}
use Rattle.wq_history.proofs.Words.{machine_after, Row, max_rows, Subject, OfItem, OfLane, step_of, is_ask, is_told}
use Rattle.wq_history.proofs.Words.{state_after, IsThere, reserved, free_rows, AskView, AreCounted, Replays, HoldsBook}
use Rattle.wq_history.proofs.Words.{ask_place, IsBook}
use Rattle.wq_core.proofs.RunLemmas.{next-effect}
use Rattle.wq_core.proofs.Sound.{IsSoundState-effect}
use Rattle.wq_history.proofs.Histories.{state_after-none}
use Rattle.wq_history.proofs.Counting.{count-more, all_asks_waiting-count}
use Rattle.wq_history.proofs.Deeds.{runs-context}

-- ---- rows that are kept

-- what is kept is the work that is left and the asks that wait
pub reserved-held : (m : Machine) (rows : List Row) (asks : AskView) (work : ℕ) → Replays m rows asks
    → work ≡ work_left m.wiring m.state → reserved m.wiring rows ≡ work + asks.all
reserved-held m rows asks work replays work_is =
    let kept : work ≡ work_left m.wiring (state_after m.wiring rows) = work_is ∙ ap (work_left m.wiring)
    replays.replay in
    omega (arith, kept, all_asks_waiting-count rows asks replays.asked.counts)

-- what holds for every book follows
pub IsBook-held : (m : Machine) (rows : List Row) (room : ℕ) (asks : AskView) (work : ℕ) (closed : Bool) → HoldsBook m rows room asks work
    → IsBook (record { wiring = m.wiring; rows = rows; room = room; closed = closed })
IsBook-held m rows room asks work closed holds = record {
  wiring = holds.replays.machine_is.wiring;
  legal = holds.replays.legal;
  limit = holds.limit;
  enough = omega (arith, holds.enough, reserved-held m rows asks work holds.replays holds.work_is);
}

-- ---- one more row

pub length-more : (rows : List Row) (row : Row) → length (rows ++ (row ∷ [])) ≡ length rows + 1
length-more rows row = length-append rows (row ∷ [])

-- a row without a step takes at most one of the free rows, and one more if an ask begins to wait
pub free_rows-noted : (w : Wiring) (room : ℕ) (rows : List Row) (row : Row) → step_of row.event row.yes ≡ None
    → free_rows w room rows ≤ free_rows w room (rows ++ (row ∷ [])) + (1 + cond (is_ask row.event && row.yes) 1 0)
free_rows-noted w room rows row none =
    let work : work_left w (state_after w (rows ++ (row ∷ []))) ≡ work_left w (state_after w rows) = ap (work_left w) (state_after-none w rows row none) in
    let asked = count-more (λ (r : Row). is_ask r.event && r.yes) rows row in
    let told = count-more (λ (r : Row). is_told r.event) rows row in
    omega (arith, work, asked, told, length-more rows row)

-- after a lawful step there is a machine again
pub IsMachine-after : (m : Machine) (step : Step) → IsMachine m → Lawful m.wiring m.state step
    → m.state.next + 1 < 2 ^ 32 → IsMachine (machine_after m step)
IsMachine-after m step machine lawful few = record {
  wiring = machine.wiring;
  state = IsSoundState-effect m.wiring m.state step machine.state lawful;
  few_items = machine.few_items;
  few_flushes = machine.few_flushes;
  few_lanes = machine.few_lanes;
  few_helpers = machine.few_helpers;
  numbers = omega (arith, few, next-effect m.wiring m.state step);
}

-- ---- a book without rows

pub zeros : (n i : ℕ) (none : ℕ) → get_or (replicate n none) i none ≡ none
zeros zero i none = refl
zeros (suc n) zero none = refl
zeros (suc n) (suc i) none = zeros n i none

no_work : (w : Wiring) (n : ℕ) → sum_by (lane_work w) (replicate n idle_lane) ≡ 0
no_work w n =
    let idle : lane_work w idle_lane ≡ 0 = refl in
    omega (arith, sum_by-replicate (lane_work w) n idle_lane, ap (λ (k : ℕ). n * k) idle)

-- the first counts of the asks that wait: all are 0
abbrev pub AreFirst : Wiring → AskView → Type 0
AreFirst w asks = asks ≡ record { counts = replicate (2 * max (items w) w.lanes) 0; all = 0 }

place-within : (w : Wiring) (x : Subject) → IsThere w x → ask_place x < 2 * max (items w) w.lanes
place-within w (OfItem i) there = let below : i < items w = there in omega (arith, below, le-max_left (items w) w.lanes)
place-within w (OfLane q) there = let below : q < w.lanes = there in omega (arith, below, le-max_right (items w) w.lanes)

pub asks-first : (w : Wiring) (asks : AskView) → AreFirst w asks → AreCounted w [] asks
asks-first w asks first =
    let places : ℕ = 2 * max (items w) w.lanes in
    rw first (record {
      each = λ x there. rw length-replicate (place-within w x there);
      sum_is = omega (arith, sum_by-replicate (λ (n : ℕ). n) places 0);
      counts = record { each = λ x. omega (arith, zeros places (ask_place x) 0); in_all = refl };
    })

pub Replays-first : (m : Machine) (asks : AskView) → IsMachine m → m.state ≡ empty_state m.wiring → AreFirst m.wiring asks → Replays m [] asks
Replays-first m asks machine empty none = record {
  machine_is = machine;
  replay = empty;
  legal = λ n row at. absurd cc;
  asked = asks-first m.wiring asks none;
  numbers = let next : m.state.next ≡ 0 = ap (λ (s : State). s.next) empty in omega (arith, next);
}

pub HoldsBook-first : (m : Machine) (room : ℕ) (asks : AskView) → IsMachine m → m.state ≡ empty_state m.wiring → room ≤ max_rows
    → AreFirst m.wiring asks → HoldsBook m [] room asks 0
HoldsBook-first m room asks machine empty limit none = record {
  replays = Replays-first m asks machine empty none;
  work_is = sym (ap (work_left m.wiring) empty ∙ no_work m.wiring m.wiring.lanes);
  enough = let all : asks.all ≡ 0 = ap (λ (a : AskView). a.all) none in omega (arith, all);
  limit = limit;
}

-- ---- lanes

-- what a context runs is of an item that exists and is on its lane, and the context exists
pub running-known : (m : Machine) (q c : ℕ) (o : Option Running) → IsMachine m → o ≡ run_by (lane_at m.state q) c
    → IfSome o (λ (r : Running). (r.entry.item < items m.wiring) × (lane_of m.wiring r.entry.item ≡ q) × HasContext m.wiring q c)
running-known m q c None machine is = tt
running-known m q c (Some r) machine is =
    let own = machine.state.own_lane q r.entry (inr (c, r, sym is, refl)) in
    (own.0, own.1, runs-context m.wiring m.state q c r machine.wiring machine.state (sym is))

-- an entry is pending on a lane exactly if one is the first
pub first-pending : (ps : List Entry) (o : Option Entry) → o ≡ slice_get ps 0 → IsTrue (is_some o) ↔ ((e : Entry) × Contains ps e)
first-pending [] None is = ((λ some. absurd (let never : false ≡ true = some in cc)), (λ there. absurd (omega (arith, there.1.1))))
first-pending [] (Some e) is = absurd cc
first-pending (p ∷ ps) None is = absurd cc
first-pending (p ∷ ps) (Some e) is = ((λ some. (p, Contains-first (p ∷ ps) p refl)), (λ there. refl))
