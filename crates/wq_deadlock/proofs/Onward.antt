-- Playing step by step: what holds for the steps so far, and for the lanes that were passed over.
use Rattle.std.proofs.Common.{
  ◌≡◌,
  ℕ,
  ◌+◌,
  ◌*◌,
  ◌-◌,
  ◌<◌,
  ◌≤◌,
  inl,
  inr,
  suc,
  List,
  [],
  ◌∷◌,
  ◌++◌,
  length,
  refl,
  sym,
  ap,
  subst,
  ◌∙◌,
  arith,
}
use Rattle.std.proofs.lemmas.Bool.{cases_lt}
use Rattle.std.proofs.Math.Nat.{suc-mul, mul-le-mul_right}
use Rattle.wq_core.specs.declared.step.Step.{Step}
use Rattle.wq_core.specs.Wiring.{Wiring}
use Rattle.wq_core.specs.State.{State}
use Rattle.wq_core.specs.Rules.{effect}
use Rattle.wq_core.specs.Runs.{after}
use Rattle.wq_core.specs.Held.{Machine, machine_after, IsSoundState, IsMachine}
use Rattle.wq_core.specs.Played.{IsDeclaredStep, HasNoDeclaredStep, IsPlayedFrom}
use Rattle.wq_core.specs.Work.{work_left}
use Rattle.wq_core.proofs.DeclaredSteps.{RescuerCanMove-within}
use Rattle.wq_core.proofs.Plays.{after-append, IsRescuerStep-of_lane}
use Rattle.wq_core.proofs.Sound.{IsSoundState-effect}
use Rattle.wq_core.proofs.WorkLemmas.{work_left-rescuer}

-- ---- steps so far

-- each step is that of the lowest lane that can make one; more may follow
abbrev pub IsPlayFrom : Wiring → State → List Step → Type 0
IsPlayFrom w s [] = Unit {0}
IsPlayFrom w s (step ∷ steps) = ((q : ℕ) × IsDeclaredStep w s q step × ((p : ℕ) → p < q → HasNoDeclaredStep w s p)) ×
    IsPlayFrom w (effect w s step) steps

IsPlayFrom-more : (w : Wiring) (s : State) (steps : List Step) (q : ℕ) (step : Step) → IsPlayFrom w s steps →
    IsDeclaredStep w (after w s steps) q step
    → ((p : ℕ) → p < q → HasNoDeclaredStep w (after w s steps) p) → IsPlayFrom w s (steps ++ (step ∷ []))
IsPlayFrom-more w s [] q step play is lowest = ((q, is, lowest), tt)
IsPlayFrom-more w s (first ∷ steps) q step play is lowest = (
  play.0,
  IsPlayFrom-more w (effect w s first) steps q step
      play.1 is lowest,
)

-- if no lane can move any more, all is played
IsPlayedFrom-play : (w : Wiring) (s : State) (steps : List Step) → IsPlayFrom w s steps →
    ((q : ℕ) → HasNoDeclaredStep w (after w s steps) q) → IsPlayedFrom w s steps
IsPlayedFrom-play w s [] play none = none
IsPlayedFrom-play w s (step ∷ steps) play none = (play.0, IsPlayedFrom-play w (effect w s step) steps play.1 none)

-- ---- under way

-- a machine was played from `start` to `now` by these steps, and it is sound there
pub record IsPlaying (start now : Machine) (steps : List Step) : Type 0 where
  pub wiring : now.wiring ≡ start.wiring
  pub play : IsPlayFrom start.wiring start.state steps
  pub state : now.state ≡ after start.wiring start.state steps
  pub sound : IsSoundState now.wiring now.state

pub IsPlaying-start : (start : Machine) → IsSoundState start.wiring start.state → IsPlaying start start []
IsPlaying-start start sound = record { wiring = refl; play = tt; state = refl; sound = sound }

-- one more step, of the lowest lane that can move
pub IsPlaying-move : (start now : Machine) (steps : List Step) (q : ℕ) (step : Step) → IsPlaying start now steps
    → ((p : ℕ) → p < q → HasNoDeclaredStep now.wiring now.state p) → IsDeclaredStep now.wiring now.state q step
    → IsPlaying start (machine_after now step) (steps ++ (step ∷ []))
IsPlaying-move start now steps q step playing below is =
    let w : Wiring = start.wiring in
    let s : State = after w start.state steps in
    let there : IsDeclaredStep w s q step =
    subst (λ (v : Wiring). IsDeclaredStep v s q step) playing.wiring
    (subst (λ (t : State). IsDeclaredStep now.wiring t q step) playing.state is) in
    let lowest : (p : ℕ) → p < q → HasNoDeclaredStep w s p =
    λ p lt. subst (λ (v : Wiring). HasNoDeclaredStep v s p) playing.wiring
    (subst (λ (t : State). HasNoDeclaredStep now.wiring t p) playing.state (below p lt)) in
    record {
      wiring = playing.wiring;
      play = IsPlayFrom-more w start.state steps q step playing.play there lowest;
      state =
          ap (λ (t : State). effect now.wiring t step) playing.state ∙ ap (λ (v : Wiring). effect v s step)
          playing.wiring ∙ sym (after-append w start.state steps (step ∷ []));
      sound = IsSoundState-effect now.wiring now.state step playing.sound is.lawful;
    }

-- the end: no lane can move
pub IsPlayedFrom-playing : (start now : Machine) (steps : List Step) (q : ℕ) → IsPlaying start now steps
    → ((p : ℕ) → p < q → HasNoDeclaredStep now.wiring now.state p) → start.wiring.lanes ≤ q
    → IsPlayedFrom start.wiring start.state steps
IsPlayedFrom-playing start now steps q playing still all = IsPlayedFrom-play start.wiring start.state steps playing.play
    none
  where
    none_now : (p : ℕ) → HasNoDeclaredStep now.wiring now.state p
    none_now p = elim (cases_lt p q) [
      | inl below ↦ still p below
      | inr past ↦ (λ step is.
          let within : p < length now.state.lanes = RescuerCanMove-within now.wiring now.state p
          (step, is.of_lane, is.lawful, is.forced) in
          let same : now.wiring.lanes ≡ start.wiring.lanes = ap (λ (v : Wiring). v.lanes) playing.wiring in
          absurd (omega (arith, within, playing.sound.one_each, same))
          )
    ]

    none : (p : ℕ) → HasNoDeclaredStep start.wiring (after start.wiring start.state steps) p
    none p =
        subst (λ (v : Wiring). HasNoDeclaredStep v (after start.wiring start.state steps) p) playing.wiring
        (subst (λ (t : State). HasNoDeclaredStep now.wiring t p) playing.state (none_now p))

-- ---- it ends

-- what is left, lane by lane: each step leaves less work, and each lane that is passed over leaves fewer lanes
abbrev pub play_left : Machine → ℕ → ℕ → ℕ
play_left m lanes q = work_left m.wiring m.state * (lanes + 1) + (lanes - q)

less_by_work : (lanes old new q p : ℕ) → new < old → new * (lanes + 1) + (lanes - p) < old * (lanes + 1) + (lanes - q)
less_by_work lanes old new q p less =
    let one_more : suc new * (lanes + 1) ≡ new * (lanes + 1) + (lanes + 1) = suc-mul new (lanes + 1) in
    let most : suc new * (lanes + 1) ≤ old * (lanes + 1) = mul-le-mul_right {m = suc new} {n = old} (lanes + 1)
    (omega arith) in
    omega (arith, one_more, most)

pub play_left-move : (m : Machine) (lanes q p : ℕ) (step : Step) → IsMachine m → IsDeclaredStep m.wiring m.state q step
    → play_left (machine_after m step) lanes p < play_left m lanes q
play_left-move m lanes q p step machine is =
    less_by_work lanes (work_left m.wiring m.state) (work_left m.wiring (effect m.wiring m.state step)) q p
    (work_left-rescuer m.wiring m.state step machine.state is.lawful (IsRescuerStep-of_lane q step is.of_lane))
