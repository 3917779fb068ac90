-- Steps in a row, and machines on which nothing is unfinished.
use Rattle.std.proofs.Common.{◌≡◌, ℕ, zero, suc, ◌+◌, ◌<◌, ◌≤◌, ◌↔◌, Bool, List, [], ◌∷◌, ◌++◌, length, get_or, take, true, refl, sym, subst, ◌∙◌, ap, arith}
use Rattle.std.specs.Prelude.{Some, slice_get}
use Rattle.std.specs.List.{All}
use Rattle.std.proofs.lemmas.List.{get_or-map, length-map}
use Rattle.wq_items.specs.declared.target.Target.{Target}
use Rattle.wq_core.specs.declared.step.Step.{Step}
use Rattle.wq_core.specs.declared.step.Step.TheVariants.{Queue, Cancel, Start, Wait, Over, WaitAll, OverAll, Finish, Help}
use Rattle.wq_core.specs.declared.step.HelpStep.{HelpStep}
use Rattle.wq_core.specs.declared.step.HelpStep.TheVariants.{Start as DoStart, Wait as DoWait, WaitAll as DoWaitAll, Over as DoOver, OverAll as DoOverAll, Finish as DoFinish}
use Rattle.wq_core.specs.Wiring.{Wiring}
use Rattle.wq_core.specs.State.{Lane, State, idle_lane, lane_at, IsUnfinishedOn, IsBusy, HasUnfinished}
use Rattle.wq_core.specs.Rules.{Lawful, done_by, effect}
use Rattle.wq_core.specs.Runs.{after, IsRunFrom}
use Rattle.wq_core.specs.Held.{HeldLane, Machine, machine_of, IsDone, AreDone}
use Rattle.wq_core.proofs.LaneLemmas.{lane_within}

-- ---- one more step

pub after-more : (w : Wiring) (s : State) (steps : List Step) (step : Step) → after w s (steps ++ (step ∷ [])) ≡ effect w (after w s steps) step
after-more w s [] step = refl
after-more w s (first ∷ steps) step = after-more w (effect w s first) steps step

-- each step of a run is lawful in the state after those before it
pub IsRunFrom-at : (w : Wiring) (s : State) (steps : List Step) (k : ℕ) (step : Step) → IsRunFrom w s steps → slice_get steps k ≡ Some step → Lawful w (after w s (take k steps)) step
IsRunFrom-at w s [] k step run stands = absurd cc
IsRunFrom-at w s (first ∷ steps) zero step run stands = let same : first ≡ step = cc in subst (Lawful w s) same run.0
IsRunFrom-at w s (first ∷ steps) (suc k) step run stands = IsRunFrom-at w (effect w s first) steps k step run.1 stands

-- a step gives at most one number
next-deed : (s : State) (q c : ℕ) (deed : HelpStep) → (done_by s q c deed).next ≡ s.next
next-deed s q c (DoStart i) = refl
next-deed s q c (DoWait b) = refl
next-deed s q c (DoWaitAll b) = refl
next-deed s q c (DoOver b) = refl
next-deed s q c (DoOverAll b) = refl
next-deed s q c (DoFinish i) = refl

pub next-effect : (w : Wiring) (s : State) (step : Step) → (effect w s step).next ≤ s.next + 1
next-effect w s (Queue i) = omega arith
next-effect w s (Cancel i) = omega arith
next-effect w s (Start q i) = omega arith
next-effect w s (Wait q b) = omega arith
next-effect w s (Over q b) = omega arith
next-effect w s (WaitAll q b) = omega arith
next-effect w s (OverAll q b) = omega arith
next-effect w s (Finish q i) = omega arith
next-effect w s (Help q h deed) = omega (arith, next-deed s q h deed)

pub IsRunFrom-more : (w : Wiring) (s : State) (steps : List Step) (step : Step) → IsRunFrom w s steps → Lawful w (after w s steps) step → IsRunFrom w s (steps ++ (step ∷ []))
IsRunFrom-more w s [] step run lawful = (lawful, tt)
IsRunFrom-more w s (first ∷ steps) step run lawful = (run.0, IsRunFrom-more w (effect w s first) steps step run.1 lawful)

pub AreDone-more : (old middle new : Machine) (steps : List Step) (step : Step) (n : ℕ) → AreDone old steps middle → IsDone middle step n new → AreDone old (steps ++ (step ∷ [])) new
AreDone-more old middle new steps step n done next =
    let wired : (s : State) → Lawful middle.wiring s step → Lawful old.wiring s step = λ s h. subst (λ (w : Wiring). Lawful w s step) done.wiring h in
    record {
      lawful = IsRunFrom-more old.wiring old.state steps step done.lawful (subst (λ (s : State). Lawful old.wiring s step) done.state (wired middle.state next.lawful));
      wiring = ap (λ (m : Machine). m.wiring) next.after ∙ done.wiring;
      state =
          ap (λ (m : Machine). m.state) next.after ∙ ap (λ (w : Wiring). effect w middle.state step) done.wiring ∙ ap (λ (s : State). effect old.wiring s step) done.state
          ∙ sym (after-more old.wiring old.state steps step);
    }

-- ---- nothing unfinished

module _ (waits : List (List Target)) (lane_of_item : List ℕ) (bare : List Bool) (helpers : ℕ) (lanes : List HeldLane) (next : ℕ) where
  abbrev held_state : State
  held_state = (machine_of waits lane_of_item bare helpers lanes next).state

  held_at : (q : ℕ) (d : HeldLane) → q < length lanes → lane_at held_state q ≡ (get_or lanes q d).lane
  held_at q d lt = get_or-map (λ (h : HeldLane). h.lane) lanes q d idle_lane lt

  pub idle_exactly : All (λ (h : HeldLane). ¬ IsBusy h.lane) lanes ↔ (¬ HasUnfinished held_state)
  idle_exactly = (to, from) where
    none : HeldLane
    none = record { lane = idle_lane; room = 0; ordered = true; helpers = 0 }

    to : All (λ (h : HeldLane). ¬ IsBusy h.lane) lanes → ¬ HasUnfinished held_state
    to all h =
        let within : h.lane < length lanes = omega (arith, lane_within held_state h.lane h.entry h.unfinished, length-map lanes (λ (g : HeldLane). g.lane)) in
        all h.lane none within (h.entry, subst (λ (l : Lane). IsUnfinishedOn l h.entry) (held_at h.lane none within) h.unfinished)

    from : (¬ HasUnfinished held_state) → All (λ (h : HeldLane). ¬ IsBusy h.lane) lanes
    from nothing q d lt (e, unfinished) = nothing (record { lane = q; entry = e; unfinished = subst (λ (l : Lane). IsUnfinishedOn l e) (sym (held_at q d lt)) unfinished })
