-- What a lawful step needs from the lane and from the numbers: room for one more entry, an entry that is there, a count that
-- fits.
use Rattle.std.proofs.Common.{◌≡◌, ◌≢◌, ℕ, zero, suc, ◌+◌, ◌-◌, ◌<◌, ◌≤◌, ◌==◌, eqb, Bool, true, false, List, [], ◌∷◌, length, map, take, get_or, refl, sym, subst, ◌∙◌, ap, arith, inl, inr}
use Rattle.std.specs.Prelude.{AllPairs, Option, Some, slice_get, IfSome}
use Rattle.std.specs.List.{All, count_by}
use Rattle.std.proofs.lemmas.Bool.{cases_lt}
use Rattle.std.proofs.lemmas.List.{get_or-map, length-map, take_all, length-append}
use Rattle.std.proofs.lemmas.List.Elements.{Contains-get_or}
use Rattle.std.proofs.lemmas.List.Sums.{count_by_more_yes, count_by_more_no, get_or-le-sum_by}
use Rattle.wq_items.specs.declared.target.Target.{Target}
use Rattle.wq_items.proofs.Pigeonhole.{repeats_from_length}
use Rattle.wq_core.specs.declared.entry.Entry.{Entry}
use Rattle.wq_core.specs.declared.entry.Running.{Running}
use Rattle.wq_core.specs.declared.step.Step.TheVariants.{Queue, Cancel}
use Rattle.wq_core.specs.declared.step.HelpStep.{HelpStep}
use Rattle.wq_core.specs.declared.step.HelpStep.TheVariants.{Start as DoStart}
use Rattle.wq_core.specs.Wiring.{Wiring, IsWiring, helpers_of, items, lane_of}
use Rattle.wq_core.specs.State.{Lane, State, lane_at, run_by, RunsIn, IsPendingOn}
use Rattle.wq_core.specs.Rules.{MayDo, Lawful, effect, with_queued, MayWait, wait_deed, step_in}
use Rattle.wq_core.specs.Held.{IsSoundState, IsRising, HeldLane, Machine, machine_of, IsHeld, IsMachine, IsNumberOf}
use Rattle.wq_core.proofs.Contexts.{found-is, step_in-may, step_in-gives}
use Rattle.wq_core.proofs.LaneLemmas.{lane_at-with_lane_same}
use Rattle.wq_core.proofs.Sound.{Differ, IsSoundState-effect}
use Rattle.wq_core.proofs.LawfulSteps.{start-item}
use Rattle.wq_core.proofs.Machines.{running-item, pending-own_lane}
use Rattle.wq_core.proofs.Changes.{held_lane}

-- ---- places of a list at which a test passes

module _ (p : ℕ → Bool) (l : List ℕ) where
  -- how many such places there are before place i
  abbrev rank : ℕ → ℕ
  rank i = count_by p (take i l)

  rank_step : (i : ℕ) → i < length l → (b : Bool) → p (get_or l i 0) ≡ b → rank i ≤ rank (i + 1)
  rank_step i lt true is = omega (arith, count_by_more_yes p l i 0 lt is)
  rank_step i lt false is = omega (arith, count_by_more_no p l i 0 lt is)

  rank_up : (k i : ℕ) → i + k ≤ length l → rank i ≤ rank (i + k)
  rank_up zero i le = let e : i + 0 ≡ i = omega arith in rw e (omega arith)
  rank_up (suc k) i le =
      let e : i + suc k ≡ i + 1 + k = omega arith in
      let one : rank i ≤ rank (i + 1) = rank_step i (omega arith) (p (get_or l i 0)) refl in
      let rest : rank (i + 1) ≤ rank (i + 1 + k) = rank_up k (i + 1) (omega arith) in
      rw e (omega (arith, one, rest))

  rank_lt : (i j : ℕ) → i < j → j ≤ length l → p (get_or l i 0) ≡ true → rank i < rank j
  rank_lt i j lt le is =
      let (k, e) : (k : ℕ) × (i + 1 + k ≡ j) = (j - (i + 1), omega arith) in
      let one : rank (i + 1) ≡ rank i + 1 = count_by_more_yes p l i 0 (omega arith) is in
      let rest : rank (i + 1) ≤ rank (i + 1 + k) = rank_up k (i + 1) (omega arith) in
      subst (λ n. rank i < rank n) e (omega (arith, one, rest))

  rank_within : (i : ℕ) → i < length l → p (get_or l i 0) ≡ true → rank i < count_by p l
  rank_within i lt is = subst (λ (ys : List ℕ). rank i < count_by p ys) (take_all (length l) l (omega arith)) (rank_lt i (length l) lt (omega arith) is)

  rank_same : (i j : ℕ) → i < length l → j < length l → p (get_or l i 0) ≡ true → p (get_or l j 0) ≡ true → rank i ≡ rank j → i ≡ j
  rank_same i j lt mt is js same = elim (cases_lt i j) [
    | inl less ↦ absurd (omega (arith, rank_lt i j less (omega arith) is, same))
    | inr no_less ↦ elim (cases_lt j i) [
      | inl more ↦ absurd (omega (arith, rank_lt j i more (omega arith) js, same))
      | inr no_more ↦ omega arith
    ]
  ]

  -- different places at which the test passes are no more than all such places
  pub distinct_places : (xs : List ℕ) → ((k d : ℕ) → k < length xs → (get_or xs k d < length l) × (p (get_or l (get_or xs k d) 0) ≡ true)) → ((i j d : ℕ) → i < j → j < length xs → get_or xs i d ≢ get_or xs j d)
      → length xs ≤ count_by p l
  distinct_places xs each distinct = elim (cases_lt (count_by p l) (length xs)) [
    | inl few ↦ absurd (repeated few)
    | inr enough ↦ enough
  ]
    where
      ranked : (k d : ℕ) → k < length xs → get_or (map rank xs) k d ≡ rank (get_or xs k 0)
      ranked k d lt = get_or-map rank xs k 0 d lt

      below : All (λ n. n < count_by p l) (map rank xs)
      below k d lt =
          let within : k < length xs = omega (arith, lt, length-map xs rank) in
          rw (ranked k d within) (rank_within (get_or xs k 0) (each k 0 within).0 (each k 0 within).1)

      repeated : count_by p l < length xs → ⊥
      repeated few =
          let (i, j, less, within, same) = repeats_from_length (count_by p l) (map rank xs) below (omega (arith, few, length-map xs rank)) in
          let j_in : j < length xs = omega (arith, within, length-map xs rank) in
          let i_in : i < length xs = omega (arith, less, j_in) in
          distinct i j 0 less j_in (rank_same (get_or xs i 0) (get_or xs j 0) (each i 0 i_in).0 (each j 0 j_in).0 (each i 0 i_in).1 (each j 0 j_in).1 (sym (ranked i 0 i_in) ∙ same ∙ ranked j 0 j_in))

-- ---- pending entries

pub same_passes : (a b : ℕ) → a ≡ b → eqb a b ≡ true
same_passes a b same = grind (arith, same)

-- a lane has no more pending entries than items
pub pending_count : (w : Wiring) (s : State) (q : ℕ) → IsWiring w → IsSoundState w s → length (lane_at s q).pending ≤ count_by (λ l. l == q) w.lane_of_item
pending_count w s q wiring sound = subst (λ n. n ≤ count_by (λ l. l == q) w.lane_of_item) (length-map ps item) (distinct_places (λ l. l == q) w.lane_of_item (map item ps) each distinct)
  where
    ps : List Entry
    ps = (lane_at s q).pending

    item : Entry → ℕ
    item e = e.item

    none : Entry
    none = record { number = 0; item = 0 }

    item_at : (k d : ℕ) → k < length ps → get_or (map item ps) k d ≡ (get_or ps k none).item
    item_at k d lt = get_or-map item ps k none d lt

    inside : (k : ℕ) → k < length (map item ps) → k < length ps
    inside k lt = omega (arith, lt, length-map ps item)

    each : (k d : ℕ) → k < length (map item ps) → (get_or (map item ps) k d < length w.lane_of_item) × (((get_or w.lane_of_item (get_or (map item ps) k d) 0) == q) ≡ true)
    each k d lt =
        let own = sound.own_lane q (get_or ps k none) (inl (Contains-get_or ps k none (inside k lt))) in
        rw (item_at k d (inside k lt)) (omega (arith, own.0, wiring.one_lane_each), same_passes _ q own.1)

    distinct : (i j d : ℕ) → i < j → j < length (map item ps) → get_or (map item ps) i d ≢ get_or (map item ps) j d
    distinct i j d less lt same =
        let j_in : j < length ps = inside j lt in
        let i_in : i < length ps = omega (arith, less, j_in) in
        sound.once q i j none less j_in (sym (item_at i d i_in) ∙ same ∙ item_at j d j_in)

module _ (waits : List (List Target)) (lane_of_item : List ℕ) (bare : List Bool) (helpers : ℕ) (numbers : List (Option ℕ)) (lanes : List HeldLane) (next : ℕ) (m : Machine) (n q : ℕ) (old : HeldLane)
    (held : IsHeld waits lane_of_item bare helpers numbers lanes next) (view : machine_of waits lane_of_item bare helpers lanes next ≡ m) (was : slice_get lanes q ≡ Some old) where
  abbrev before : Machine
  before = machine_of waits lane_of_item bare helpers lanes next

  -- the lane of the machine is the one that is held
  own_lane : lane_at m.state q ≡ old.lane
  own_lane = ap (λ (k : Machine). lane_at k.state q) (sym view) ∙ held_lane waits lane_of_item bare helpers numbers lanes next q old was

  sound_now : IsMachine m
  sound_now = subst IsMachine view held.machine

  pub room_left : (i : ℕ) → q ≡ lane_of m.wiring i → q < m.wiring.lanes → IsNumberOf m (Queue i) (Some n) → length old.lane.pending < old.room
  room_left i own within number =
      let lawful : Lawful before.wiring before.state (Queue i) = subst (λ (k : Machine). Lawful k.wiring k.state (Queue i)) (sym view) number.0 in
      let at : lane_of before.wiring i ≡ q = ap (λ (k : Machine). lane_of k.wiring i) view ∙ sym own in
      let e : Entry = record { number = next; item = i } in
      let after : State = effect before.wiring before.state (Queue i) in
      let count : length (lane_at after q).pending ≤ count_by (λ l. l == q) lane_of_item =
      pending_count before.wiring after q held.machine.wiring (IsSoundState-effect before.wiring before.state (Queue i) held.machine.state lawful) in
      let there : q < length before.state.lanes = omega (arith, within, held.machine.state.one_each, ap (λ (k : Machine). k.wiring.lanes) view) in
      let lane : lane_at after q ≡ with_queued e old.lane =
      subst (λ r. lane_at (effect before.wiring before.state (Queue i)) r ≡ with_queued e (lane_at before.state r)) at (lane_at-with_lane_same before.state (lane_of before.wiring i) (with_queued e (lane_at before.state (lane_of before.wiring i))) (rw at there))
      ∙ ap (λ (l : Lane). with_queued e l) (held_lane waits lane_of_item bare helpers numbers lanes next q old was) in
      let longer : length (lane_at after q).pending ≡ length old.lane.pending + 1 = ap (λ (l : Lane). length l.pending) lane ∙ length-append old.lane.pending (e ∷ []) in
      omega (arith, count, longer, held.room q old was)

  -- one more wait of what a context runs is counted
  pub wait_fits : (c : ℕ) (whole : Bool) (b : ℕ) → IsNumberOf m (step_in q c (wait_deed whole b)) (Some n) → IfSome (run_by old.lane c) (λ (r : Running). r.made + 1 < 4294967296)
  wait_fits c whole b number =
      let (r, runs, may) = waiting whole (step_in-may m.wiring m.state q c (wait_deed whole b) number.0) in
      let there : r.entry.item < items m.wiring = running-item m.wiring m.state q c r sound_now.state runs in
      let few = get_or-le-sum_by length m.wiring.waits r.entry.item [] there in
      let is : run_by old.lane c ≡ Some r = ap (λ (l : Lane). run_by l c) (sym own_lane) ∙ runs in
      subst (λ (o : Option Running). IfSome o (λ (x : Running). x.made + 1 < 4294967296)) (sym is) (omega (arith, may.fewer, few, sound_now.few_flushes))
    where
      waiting : (kind : Bool) → MayDo m.wiring m.state q c (wait_deed kind b) → (r : Running) × RunsIn (lane_at m.state q) c r × MayWait m.wiring kind b r
      waiting false may = may
      waiting true may = may

  -- the entry that is cancelled or started is one of the lane's, whose numbers rise and of which each item has one
  pub cancel_pending : (i : ℕ) → q ≡ lane_of m.wiring i → IsNumberOf m (Cancel i) (Some n) → IsPendingOn old.lane (record { number = n; item = i })
  cancel_pending i own number =
      let (h, given) = number.1 in
      let same : h.lane ≡ q = (pending-own_lane m.wiring m.state i sound_now.state h).1 ∙ sym own in
      let lane : lane_at m.state h.lane ≡ old.lane = ap (λ p. lane_at m.state p) same ∙ own_lane in
      let there : IsPendingOn old.lane h.entry = subst (λ (l : Lane). IsPendingOn l h.entry) lane h.pending in
      subst (λ k. IsPendingOn old.lane (record { number = k; item = i })) given (subst (λ k. IsPendingOn old.lane (record { number = h.entry.number; item = k })) h.of_item there)

  pub start_pending : (c i : ℕ) → IsNumberOf m (step_in q c (DoStart i)) (Some n) → IsPendingOn old.lane (record { number = n; item = i })
  start_pending c i number =
      let (e, first, given) = step_in-gives m.state q c (DoStart i) n number.1 in
      let is = found-is (lane_at m.state q).pending i e first in
      let there : IsPendingOn old.lane e = subst (λ (l : Lane). IsPendingOn l e) own_lane is.0 in
      subst (λ k. IsPendingOn old.lane (record { number = k; item = i })) given (subst (λ k. IsPendingOn old.lane (record { number = e.number; item = k })) is.1 there)

  pub pending_once : AllPairs Differ old.lane.pending
  pending_once = subst (λ (l : Lane). AllPairs Differ l.pending) own_lane (sound_now.state.once q)

  pub pending_rising : IsRising old.lane.pending
  pending_rising = subst (λ (l : Lane). IsRising l.pending) (held_lane waits lane_of_item bare helpers numbers lanes next q old was) (held.rising q)

  pub start_numbered : (c i : ℕ) → IsNumberOf m (step_in q c (DoStart i)) (Some n) → i < length numbers
  start_numbered c i number =
      let below : i < items m.wiring = start-item m.wiring m.state q c i sound_now.state (step_in-may m.wiring m.state q c (DoStart i) number.0) in
      omega (arith, below, held.numbers.one_each, ap (λ (k : Machine). items k.wiring) view)

  -- a helper that makes a lawful step is one of the lane's
  pub context_held : (c : ℕ) (deed : HelpStep) → Lawful m.wiring m.state (step_in q c deed) → c ≤ old.helpers
  context_held c deed lawful = omega (arith, exists c lawful, held.helped q old was, ap (λ (k : Machine). helpers_of k.wiring q) view)
    where
      exists : (d : ℕ) → Lawful m.wiring m.state (step_in q d deed) → d ≤ helpers_of m.wiring q
      exists zero may = omega arith
      exists (suc h) may = may.0.1
