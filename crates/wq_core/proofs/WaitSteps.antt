-- Steps of a context, whichever it is, and steps of a wait, whatever its kind.
use Rattle.std.proofs.Common.{◌≡◌, ℕ, zero, suc, ◌<◌, Bool, true, false, refl, subst, ◌∙◌, arith}
use Rattle.wq_core.specs.declared.entry.Running.{Running}
use Rattle.wq_core.specs.declared.step.Step.TheVariants.{Help}
use Rattle.wq_core.specs.declared.step.HelpStep.{HelpStep}
use Rattle.wq_core.specs.declared.step.HelpStep.TheVariants.{Start as DoStart, Wait as DoWait, WaitAll as DoWaitAll, Over as DoOver, OverAll as DoOverAll, Finish as DoFinish}
use Rattle.wq_core.specs.Wiring.{Wiring, lane_of}
use Rattle.wq_core.specs.State.{State, lane_at, RunsIn, IsUnfinishedOn, HasUnfinishedBelow}
use Rattle.wq_core.specs.Rules.{MayWait, MayBeOver, Lawful, done_by, effect, IsHeldBack, IsHolder, wait_of, over_of, step_in}
use Rattle.wq_core.specs.Runs.{IsForcedStep, KeepsOrder, IsNextWait}
use Rattle.wq_core.specs.Held.{IsSoundState, UsesUp}
use Rattle.wq_core.specs.Played.{IsStepOfLane}
use Rattle.wq_core.proofs.Machines.{unfinished-own_lane}

-- ---- steps of a context

-- a helper's step
pub step_in-help : (q c : ℕ) (deed : HelpStep) → 0 < c → step_in q c deed ≡ Help q c deed
step_in-help q zero deed some = absurd (omega arith)
step_in-help q (suc h) deed some = refl

pub step_in-effect : (w : Wiring) (s : State) (q c : ℕ) (deed : HelpStep) → effect w s (step_in q c deed) ≡ done_by s q c deed
step_in-effect w s q zero (DoStart i) = refl
step_in-effect w s q zero (DoWait b) = refl
step_in-effect w s q zero (DoWaitAll b) = refl
step_in-effect w s q zero (DoOver b) = refl
step_in-effect w s q zero (DoOverAll b) = refl
step_in-effect w s q zero (DoFinish i) = refl
step_in-effect w s q (suc h) deed = refl

-- no step of a context takes a number
pub step_in-number_left : (s : State) (q c : ℕ) (deed : HelpStep) → ¬ UsesUp s (step_in q c deed)
step_in-number_left s q zero (DoStart i) uses = uses
step_in-number_left s q zero (DoWait b) uses = uses
step_in-number_left s q zero (DoWaitAll b) uses = uses
step_in-number_left s q zero (DoOver b) uses = uses
step_in-number_left s q zero (DoOverAll b) uses = uses
step_in-number_left s q zero (DoFinish i) uses = uses
step_in-number_left s q (suc h) deed uses = uses

-- what a context runs may make such a wait, or its wait may be over
abbrev pub RunsAndWaits : Wiring → State → ℕ → ℕ → Bool → ℕ → Type 0
RunsAndWaits w s q c whole b = (r : Running) × RunsIn (lane_at s q) c r × MayWait w whole b r

abbrev pub RunsAndGoesOn : Wiring → State → ℕ → ℕ → Bool → ℕ → Type 0
RunsAndGoesOn w s q c whole b = (r : Running) × RunsIn (lane_at s q) c r × MayBeOver w s whole b r

-- ---- steps of a rescuer

module _ (w : Wiring) (s : State) (q : ℕ) where
  pub waits-lawful : (whole : Bool) (b : ℕ) → Lawful w s (wait_of whole q b) → RunsAndWaits w s q 0 whole b
  waits-lawful false b may = may
  waits-lawful true b may = may

  pub lawful-waits : (whole : Bool) (b : ℕ) → RunsAndWaits w s q 0 whole b → Lawful w s (wait_of whole q b)
  lawful-waits false b may = may
  lawful-waits true b may = may

  pub goes_on-lawful : (whole : Bool) (b : ℕ) → Lawful w s (over_of whole q b) → RunsAndGoesOn w s q 0 whole b
  goes_on-lawful false b may = may
  goes_on-lawful true b may = may

  pub lawful-goes_on : (whole : Bool) (b : ℕ) → RunsAndGoesOn w s q 0 whole b → Lawful w s (over_of whole q b)
  lawful-goes_on false b may = may
  lawful-goes_on true b may = may

  pub next-in_order : (whole : Bool) (b : ℕ) → KeepsOrder w s (wait_of whole q b) → IsNextWait w s q 0 whole b
  next-in_order false b next = next
  next-in_order true b next = next

  pub in_order-next : (whole : Bool) (b : ℕ) → IsNextWait w s q 0 whole b → KeepsOrder w s (wait_of whole q b)
  in_order-next false b next = next
  in_order-next true b next = next

  pub in_order-goes_on : (whole : Bool) (b : ℕ) → KeepsOrder w s (over_of whole q b)
  in_order-goes_on false b = tt
  in_order-goes_on true b = tt

pub of_lane-wait_of : (q : ℕ) (whole : Bool) (b : ℕ) → IsStepOfLane q (wait_of whole q b)
of_lane-wait_of q false b = refl
of_lane-wait_of q true b = refl

pub forced-wait_of : (w : Wiring) (q : ℕ) (whole : Bool) (b : ℕ) → IsForcedStep w (wait_of whole q b)
forced-wait_of w q false b = tt
forced-wait_of w q true b = tt

pub forced-over_of : (w : Wiring) (q : ℕ) (whole : Bool) (b : ℕ) → IsForcedStep w (over_of whole q b)
forced-over_of w q false b = tt
forced-over_of w q true b = tt

pub of_lane-over_of : (q : ℕ) (whole : Bool) (b : ℕ) → IsStepOfLane q (over_of whole q b)
of_lane-over_of q false b = refl
of_lane-over_of q true b = refl

-- ---- what holds a wait back

-- what an item holds back is held back
pub held_back-holder : (w : Wiring) (s : State) (whole : Bool) (b mark i : ℕ) → IsHolder w s whole b mark i → IsHeldBack w s whole b mark
held_back-holder w s false b mark i h = record { lane = lane_of w b; entry = h.entry; unfinished = h.unfinished; of_item = h.of_item ∙ h.itself refl; below = h.below }
held_back-holder w s true b mark i h = record { entry = h.entry; unfinished = h.unfinished; below = h.below }

-- an item with an unfinished entry below the mark holds back a wait for itself
pub holder-itself : (w : Wiring) (s : State) (whole : Bool) (b mark : ℕ) → IsSoundState w s → HasUnfinishedBelow s b mark → IsHolder w s whole b mark b
holder-itself w s whole b mark sound h =
    let own = (unfinished-own_lane w s b mark sound h).1 in
    record {
      entry = h.entry;
      unfinished = subst (λ (q : ℕ). IsUnfinishedOn (lane_at s q) h.entry) own h.unfinished;
      of_item = h.of_item;
      below = h.below;
      itself = λ _. refl;
    }
