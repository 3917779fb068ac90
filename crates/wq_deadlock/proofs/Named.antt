-- The steps of a run name items and lanes that exist.
use Rattle.std.proofs.Common.{◌≡◌, ℕ, ◌<◌, inl, inr, Bool, true, false, List, [], ◌∷◌, length, refl, subst, arith}
use Rattle.std.specs.List.{All}
use Rattle.std.proofs.lemmas.List.Elements.{All-nil, All-cons}
use Rattle.wq_items.proofs.Tables.{ItemWaits-below}
use Rattle.wq_core.specs.declared.entry.Entry.{Entry}
use Rattle.wq_core.specs.declared.entry.Running.{Running}
use Rattle.wq_core.specs.declared.step.Step.{Step}
use Rattle.wq_core.specs.declared.step.Step.TheVariants.{Queue, Cancel, Start, Wait, Over, WaitAll, OverAll, Finish, Help}
use Rattle.wq_core.specs.declared.step.HelpStep.{HelpStep}
use Rattle.wq_core.specs.declared.step.HelpStep.TheVariants.{Start as DoStart, Wait as DoWait, WaitAll as DoWaitAll, Over as DoOver, OverAll as DoOverAll, Finish as DoFinish}
use Rattle.wq_core.specs.Wiring.{Wiring, IsWiring, items}
use Rattle.wq_core.specs.State.{State, lane_at, empty_state, RunsIn, IsUnfinishedOn}
use Rattle.wq_core.specs.Rules.{MayWait, MayBeOver, MayDo, Lawful, deed_item, effect}
use Rattle.wq_core.specs.Runs.{IsRunFrom, IsRun}
use Rattle.wq_core.specs.Held.{IsSoundState}
use Rattle.wq_core.proofs.Contexts.{MayStart-first}
use Rattle.wq_core.proofs.LaneLemmas.{lane_within, ItemWaits-by}
use Rattle.wq_core.proofs.LawfulSteps.{waiting-target}
use Rattle.wq_core.proofs.Sound.{IsSoundState-effect, IsSoundState-empty}
use Rattle.wq_deadlock.specs.Bounds.{IsNamed}

module _ (w : Wiring) (wiring : IsWiring w) (s : State) (sound : IsSoundState w s) where
  -- a lane on which something is unfinished is one of the wiring's
  lane_below : (q : ℕ) (e : Entry) → IsUnfinishedOn (lane_at s q) e → q < w.lanes
  lane_below q e h = let within : q < length s.lanes = lane_within s q e h in omega (arith, within, sound.one_each)

  wait-named : (q c : ℕ) (whole : Bool) (b : ℕ) (r : Running) → RunsIn (lane_at s q) c r → MayWait w whole b r → (q < w.lanes) × (b < items w)
  wait-named q c whole b r runs may =
      (lane_below q r.entry (inr (c, r, runs, refl)), ItemWaits-below (items w) w.waits wiring.targets_are_items r.entry.item b (ItemWaits-by w.waits whole r.entry.item b may.declared))

  over-named : (q c : ℕ) (whole : Bool) (b : ℕ) (r : Running) → RunsIn (lane_at s q) c r → MayBeOver w s whole b r → (q < w.lanes) × (b < items w)
  over-named q c whole b r runs may =
      (lane_below q r.entry (inr (c, r, runs, refl)), subst (λ (j : ℕ). j < items w) may.target (waiting-target w s q c r may.flush wiring sound runs may.waits))

  -- an entry that is unfinished names its lane and its item
  unfinished-named : (q i : ℕ) (e : Entry) → IsUnfinishedOn (lane_at s q) e → e.item ≡ i → (q < w.lanes) × (i < items w)
  unfinished-named q i e there item = (lane_below q e there, subst (λ (j : ℕ). j < items w) item (sound.own_lane q e there).0)

  -- what a context may do
  named-deed : (q c : ℕ) (deed : HelpStep) → MayDo w s q c deed → (q < w.lanes) × (deed_item deed < items w)
  named-deed q c (DoStart i) may = unfinished-named q i may.entry (inl may.pending) may.of_item
  named-deed q c (DoWait b) (r, runs, may) = wait-named q c false b r runs may
  named-deed q c (DoWaitAll b) (r, runs, may) = wait-named q c true b r runs may
  named-deed q c (DoOver b) (r, runs, may) = over-named q c false b r runs may
  named-deed q c (DoOverAll b) (r, runs, may) = over-named q c true b r runs may
  named-deed q c (DoFinish i) (r, runs, may) = unfinished-named q i r.entry (inr (c, r, runs, refl)) may.entry

  IsNamed-lawful : (step : Step) → Lawful w s step → IsNamed w step
  IsNamed-lawful (Queue i) lawful = lawful.0
  IsNamed-lawful (Cancel i) lawful = (unfinished-named lawful.lane i lawful.entry (inl lawful.pending) lawful.of_item).1
  IsNamed-lawful (Start q i) lawful = named-deed q 0 (DoStart i) (MayStart-first (lane_at s q) i lawful)
  IsNamed-lawful (Wait q b) lawful = named-deed q 0 (DoWait b) lawful
  IsNamed-lawful (Over q b) lawful = named-deed q 0 (DoOver b) lawful
  IsNamed-lawful (WaitAll q b) lawful = named-deed q 0 (DoWaitAll b) lawful
  IsNamed-lawful (OverAll q b) lawful = named-deed q 0 (DoOverAll b) lawful
  IsNamed-lawful (Finish q i) lawful = named-deed q 0 (DoFinish i) lawful
  IsNamed-lawful (Help q h deed) lawful = named-deed q h deed lawful.1

IsNamed-run_from : (w : Wiring) (s : State) (steps : List Step) → IsWiring w → IsSoundState w s → IsRunFrom w s steps → All (λ (step : Step). IsNamed w step) steps
IsNamed-run_from w s [] wiring sound run = All-nil (λ (step : Step). IsNamed w step)
IsNamed-run_from w s (step ∷ steps) wiring sound run =
    All-cons (λ (x : Step). IsNamed w x) step steps (IsNamed-lawful w wiring s sound step run.0)
    (IsNamed-run_from w (effect w s step) steps wiring (IsSoundState-effect w s step sound run.0) run.1)

pub IsNamed-run : (w : Wiring) (steps : List Step) → IsWiring w → IsRun w steps → All (λ (step : Step). IsNamed w step) steps
IsNamed-run w steps wiring run = IsNamed-run_from w (empty_state w) steps wiring (IsSoundState-empty w) run
