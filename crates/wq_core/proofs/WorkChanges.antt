-- By how much each lawful step changes the work that is left.
use Rattle.std.proofs.Common.{◌≡◌, ℕ, ◌+◌, ◌<◌, ◌≤◌, ◌⊎◌, inl, inr, true, false, [], ◌∷◌, length, sym, ap, subst, arith}
use Rattle.std.specs.Prelude.{Contains}
use Rattle.std.proofs.lemmas.List.Sums.{sum_by-append, sum_by-cons}
use Rattle.wq_core.specs.declared.entry.Entry.{Entry}
use Rattle.wq_core.specs.declared.step.Step.{Step}
use Rattle.wq_core.specs.declared.step.Step.TheVariants.{Queue, Cancel, Start, Wait, Over, WaitAll, OverAll, Finish, Help}
use Rattle.wq_core.specs.declared.step.HelpStep.{HelpStep}
use Rattle.wq_core.specs.declared.step.HelpStep.TheVariants.{Start as DoStart, Wait as DoWait, WaitAll as DoWaitAll, Over as DoOver, OverAll as DoOverAll, Finish as DoFinish}
use Rattle.wq_core.specs.Wiring.{Wiring, IsWiring, max_helpers, HasHelper, items, lane_of}
use Rattle.wq_core.specs.State.{Lane, State, lane_at, with_lane, run_by, HasPending}
use Rattle.wq_core.specs.Rules.{MayDo, Lawful, with_queued, with_cancelled, with_started, with_wait, with_over, with_finished, done_by, effect}
use Rattle.wq_core.specs.Runs.{IsRescuerStep}
use Rattle.wq_core.specs.Work.{whole_work, running_work, lane_work, work_left, deed_work}
use Rattle.wq_core.specs.Held.{IsSoundState}
use Rattle.wq_core.proofs.LaneLemmas.{lane_within, runs_within}
use Rattle.wq_core.proofs.Contexts.{helpers_of-few, MayStart-first}
use Rattle.wq_core.proofs.Machines.{pending-own_lane}
use Rattle.wq_core.proofs.WorkLemmas.{work_left-with_lane, lane_work-cancelled, lane_work-started, lane_work-waiting, lane_work-over, lane_work-finished}

-- ---- states

-- a lane that has this much less work than before
work_left-less_by : (w : Wiring) (s : State) (q : ℕ) (lane : Lane) (less : ℕ) → q < length s.lanes
    → lane_work w lane + less ≡ lane_work w (lane_at s q) → work_left w (with_lane s q lane) + less ≡ work_left w s
work_left-less_by w s q lane less within by = omega (arith, work_left-with_lane w s q lane within, by)

-- the lane of an item exists
pub lane_of-within : (w : Wiring) (s : State) (i : ℕ) → IsWiring w → IsSoundState w s → i < items w → lane_of w i < length s.lanes
lane_of-within w s i wiring sound there =
    let lane : lane_of w i < w.lanes = wiring.within i 0 (omega (arith, there, wiring.one_lane_each)) in
    omega (arith, lane, sound.one_each)

-- a queueing adds all steps of an execution
lane_work-queued : (w : Wiring) (e : Entry) (lane : Lane) → lane_work w (with_queued e lane) ≡ lane_work w lane + whole_work w e.item
lane_work-queued w e lane =
    let work : Entry → ℕ = λ (f : Entry). whole_work w f.item in
    omega (arith, sum_by-append work lane.pending (e ∷ []), sum_by-cons work e [])

pub work_left-queued : (w : Wiring) (s : State) (i : ℕ) → IsWiring w → IsSoundState w s → i < items w
    → work_left w (effect w s (Queue i)) ≡ work_left w s + whole_work w i
work_left-queued w s i wiring sound there =
    let q : ℕ = lane_of w i in
    let e : Entry = record { number = s.next; item = i } in
    let put = work_left-with_lane w s q (with_queued e (lane_at s q)) (lane_of-within w s i wiring sound there) in
    omega (arith, put, lane_work-queued w e (lane_at s q))

-- a cancellation removes them
pub work_left-cancelled : (w : Wiring) (s : State) (i : ℕ) → IsSoundState w s → HasPending s i
    → work_left w (effect w s (Cancel i)) + whole_work w i ≡ work_left w s
work_left-cancelled w s i sound h =
    let q : ℕ = lane_of w i in
    let own : h.lane ≡ q = (pending-own_lane w s i sound h).1 in
    let there : Contains (lane_at s q).pending h.entry = subst (λ (p : ℕ). Contains (lane_at s p).pending h.entry) own h.pending in
    let within : q < length s.lanes = lane_within s q h.entry (inl there) in
    work_left-less_by w s q (with_cancelled i (lane_at s q)) (whole_work w i) within (lane_work-cancelled w i (lane_at s q) h.entry (sound.once q) there h.of_item)

-- ---- deeds of a context

module _ (w : Wiring) (s : State) (sound : IsSoundState w s) (q c : ℕ) where
  abbrev own : Lane
  own = lane_at s q

  -- there is a place for the context
  pub work_left-deed : (deed : HelpStep) → c ≤ length own.helping → MayDo w s q c deed
      → work_left w (done_by s q c deed) + deed_work w own c deed ≡ work_left w s
  work_left-deed (DoStart i) place may =
      work_left-less_by w s q (with_started c i own) 1 (lane_within s q may.entry (inl may.pending)) (lane_work-started w c i own (sound.once q) may place)
  work_left-deed (DoWait b) place (r, runs, may) =
      work_left-less_by w s q (with_wait c false b s.next own) 1 (runs_within s q c r runs) (lane_work-waiting w c false b s.next own r runs may)
  work_left-deed (DoWaitAll b) place (r, runs, may) =
      work_left-less_by w s q (with_wait c true b s.next own) 1 (runs_within s q c r runs) (lane_work-waiting w c true b s.next own r runs may)
  work_left-deed (DoOver b) place (r, runs, may) =
      work_left-less_by w s q (with_over c own) 1 (runs_within s q c r runs) (lane_work-over w c own r may.flush runs may.waits (sound.running q c r runs))
  work_left-deed (DoOverAll b) place (r, runs, may) =
      work_left-less_by w s q (with_over c own) 1 (runs_within s q c r runs) (lane_work-over w c own r may.flush runs may.waits (sound.running q c r runs))
  work_left-deed (DoFinish i) place (r, runs, may) =
      work_left-less_by w s q (with_finished c own) (running_work w (run_by own c)) (runs_within s q c r runs) (lane_work-finished w c own r runs)

-- ---- steps

-- how much work a step of a context removes
abbrev pub removed_by : Wiring → State → Step → ℕ
removed_by w s (Queue i) = 0
removed_by w s (Cancel i) = 0
removed_by w s (Start q i) = 1
removed_by w s (Wait q b) = 1
removed_by w s (Over q b) = 1
removed_by w s (WaitAll q b) = 1
removed_by w s (OverAll q b) = 1
removed_by w s (Finish q i) = running_work w (run_by (lane_at s q) 0)
removed_by w s (Help q h deed) = deed_work w (lane_at s q) h deed

module _ (w : Wiring) (s : State) (sound : IsSoundState w s) (few : w.helpers ≤ max_helpers) where
  -- there is a place for each helper
  helper_place : (q h : ℕ) → HasHelper w q h → h ≤ length (lane_at s q).helping
  helper_place q h has = omega (arith, has.1, helpers_of-few w q, few, sound.places q)

  pub work_left-effect : (step : Step) → Lawful w s step → IsRescuerStep step → work_left w (effect w s step) + removed_by w s step ≡ work_left w s
  work_left-effect (Queue i) lawful is = absurd is
  work_left-effect (Cancel i) lawful is = absurd is
  work_left-effect (Start q i) lawful is = work_left-deed w s sound q 0 (DoStart i) (omega arith) (MayStart-first (lane_at s q) i lawful)
  work_left-effect (Wait q b) lawful is = work_left-deed w s sound q 0 (DoWait b) (omega arith) lawful
  work_left-effect (WaitAll q b) lawful is = work_left-deed w s sound q 0 (DoWaitAll b) (omega arith) lawful
  work_left-effect (Over q b) lawful is = work_left-deed w s sound q 0 (DoOver b) (omega arith) lawful
  work_left-effect (OverAll q b) lawful is = work_left-deed w s sound q 0 (DoOverAll b) (omega arith) lawful
  work_left-effect (Finish q i) lawful is = work_left-deed w s sound q 0 (DoFinish i) (omega arith) lawful
  work_left-effect (Help q h deed) lawful is = work_left-deed w s sound q h deed (helper_place q h lawful.0) lawful.1

  -- a step that is one of these
  module _ (step : Step) (lawful : Lawful w s step) where
    pub work_after-queued : (i : ℕ) → IsWiring w → step ≡ Queue i → (i < items w) × (work_left w (effect w s step) ≡ work_left w s + whole_work w i)
    work_after-queued i wiring is =
        subst (λ (x : Step). Lawful w s x → (i < items w) × (work_left w (effect w s x) ≡ work_left w s + whole_work w i)) (sym is)
        (λ law. (law.0, work_left-queued w s i wiring sound law.0)) lawful

    pub work_after-cancelled : (i : ℕ) → step ≡ Cancel i → (i < items w) × (work_left w (effect w s step) + whole_work w i ≡ work_left w s)
    work_after-cancelled i is =
        subst (λ (x : Step). Lawful w s x → (i < items w) × (work_left w (effect w s x) + whole_work w i ≡ work_left w s)) (sym is)
        (λ law. ((pending-own_lane w s i sound law).0, work_left-cancelled w s i sound law)) lawful

    pub work_after-removed : (x : Step) → step ≡ x → IsRescuerStep x → work_left w (effect w s step) + removed_by w s x ≡ work_left w s
    work_after-removed x is rescuer =
        subst (λ (y : Step). Lawful w s y → work_left w (effect w s y) + removed_by w s x ≡ work_left w s) (sym is)
        (λ law. work_left-effect x law rescuer) lawful

    pub work_after-one : ((q : ℕ) × (i : ℕ) × (step ≡ Start q i)) ⊎ (((q : ℕ) × (b : ℕ) × (step ≡ Wait q b)) ⊎ (((q : ℕ) × (b : ℕ) × (step ≡ Over q b)) ⊎ (((q : ℕ) × (b : ℕ) × (step ≡ WaitAll q b)) ⊎ ((q : ℕ) × (b : ℕ) × (step ≡ OverAll q b)))))
        → work_left w (effect w s step) + 1 ≡ work_left w s
    work_after-one (inl (q, i, is)) = work_after-removed (Start q i) is tt
    work_after-one (inr (inl (q, b, is))) = work_after-removed (Wait q b) is tt
    work_after-one (inr (inr (inl (q, b, is)))) = work_after-removed (Over q b) is tt
    work_after-one (inr (inr (inr (inl (q, b, is))))) = work_after-removed (WaitAll q b) is tt
    work_after-one (inr (inr (inr (inr (q, b, is))))) = work_after-removed (OverAll q b) is tt

    pub work_after-finished : (q i : ℕ) → step ≡ Finish q i → work_left w (effect w s step) + running_work w (run_by (lane_at s q) 0) ≡ work_left w s
    work_after-finished q i is = work_after-removed (Finish q i) is tt

-- anything but a finish is one step
pub deed_work-one : (w : Wiring) (lane : Lane) (c : ℕ) (deed : HelpStep) → ((i : ℕ) × (deed ≡ DoStart i)) ⊎ (((b : ℕ) × (deed ≡ DoWait b)) ⊎ (((b : ℕ) × (deed ≡ DoWaitAll b)) ⊎ (((b : ℕ) × (deed ≡ DoOver b)) ⊎ ((b : ℕ) × (deed ≡ DoOverAll b)))))
    → 1 ≡ deed_work w lane c deed
deed_work-one w lane c deed (inl (i, is)) = sym (ap (λ (x : HelpStep). deed_work w lane c x) is)
deed_work-one w lane c deed (inr (inl (b, is))) = sym (ap (λ (x : HelpStep). deed_work w lane c x) is)
deed_work-one w lane c deed (inr (inr (inl (b, is)))) = sym (ap (λ (x : HelpStep). deed_work w lane c x) is)
deed_work-one w lane c deed (inr (inr (inr (inl (b, is))))) = sym (ap (λ (x : HelpStep). deed_work w lane c x) is)
deed_work-one w lane c deed (inr (inr (inr (inr (b, is))))) = sym (ap (λ (x : HelpStep). deed_work w lane c x) is)
