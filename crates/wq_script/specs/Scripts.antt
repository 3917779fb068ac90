-- Scripts: what a scripted body keeps, and what the seat of its rescuer counts of its flushes.
use Rattle.std.specs.Prelude.{◌≡◌, ◌≢◌, ℕ, ◌+◌, ◌≤◌, ◌==◌, ◌&&◌, not, if◌then◌else◌, ◌⊎◌, List, Bool, Result, Ok, Err}
use Rattle.std.specs.Prelude.{length, take, slice_index, true, false}
use Rattle.std.specs.List.{count_by}
use Rattle.wq_items.specs.declared.target.Target.{Target}
use Rattle.wq_counts.specs.Counting.{place, made, wait_kind, over_kind}
use Rattle.wq_history.specs.declared.fault.CallError.{CallError}
use Rattle.wq_history.specs.Errors.{call_code}
use Rattle.wq_rescuer.specs.declared.body.BodyFault.{BodyFault}

-- for each item in turn: the targets of the flushes that it declares, and how often it ran
pub record Script : Type 0 where
  pub waits : List (List Target)
  pub runs : List ℕ

-- how often item i ran, or 0 if there is no such item
abbrev pub runs_of : Script → ℕ → ℕ
runs_of script i = slice_index script.runs i

-- how many waits for item b a seat counts, or how many for its whole workqueue, whatever their answers
abbrev pub counted_waits : List ℕ → Bool → ℕ → ℕ
counted_waits counts whole b = made counts b (wait_kind whole) true + made counts b (wait_kind whole) false

-- the target is item b, or its whole workqueue
abbrev pub is_target : Bool → ℕ → Target → Bool
is_target whole b t = (if whole then t.whole else not t.whole) && (t.item == b)

-- how often item b, or its whole workqueue, is among these targets
abbrev pub times_among : List Target → Bool → ℕ → ℕ
times_among targets whole b = count_by (λ (t : Target). is_target whole b t) targets

-- for each item and each kind of wait, a seat counts one more wait for each time
-- that the item is among these targets with this kind
abbrev pub CountsWaits : List ℕ → List ℕ → List Target → Type 0
CountsWaits old new targets =
    (b : ℕ) (whole : Bool) → counted_waits new whole b ≡ counted_waits old whole b + times_among targets whole b

-- the same of the first n of these targets, for some n
abbrev pub CountsFirstWaits : List ℕ → List ℕ → List Target → Type 0
CountsFirstWaits old new targets = (n : ℕ) × (n ≤ length targets) × CountsWaits old new (take n targets)

-- whatever else a seat counts is as before: no count is changed but those of waits and of their ends
abbrev pub CountsOnlyWaits : List ℕ → List ℕ → Type 0
CountsOnlyWaits old new =
    (p : ℕ) → ((b : ℕ) (whole said : Bool) → p ≢ place b (wait_kind whole) said)
    → ((b : ℕ) (whole : Bool) → p ≢ place b (over_kind whole) true)
    → slice_index new p ≡ slice_index old p

-- counts after a run of a body that is to flush these targets, with its answer: all were flushed, or, if it gave up,
-- the first ones
abbrev pub CountsRun : List Target → Result (Unit {0}) BodyFault → List ℕ → List ℕ → Type 0
CountsRun targets (Ok done) old new = CountsWaits old new targets × CountsOnlyWaits old new
CountsRun targets (Err fault) old new = CountsFirstWaits old new targets × CountsOnlyWaits old new

-- the number of a refusal of a flush by a body: the seat is full; no such flush is declared; as many were made as are
-- declared; the lane can't wait
abbrev pub IsFlushCode : ℕ → Type 0
IsFlushCode code = (code ≡ 60) ⊎ ((62 ≤ code) × (code ≤ 64))

-- the latest flush of a body was refused, and this is the number of its refusal
abbrev pub IsCodeOf : Result Bool CallError → ℕ → Type 0
IsCodeOf flushed code = (e : CallError) × (flushed ≡ Err e) × (code ≡ call_code e)
