-- Acts: what the seat of a scripted caller counts of its calls, and which refusal is its answer.
use Rattle.std.specs.Prelude.{◌≡◌, ℕ, ◌<◌, List, [], ◌∷◌, ◌++◌, Bool, Result, Ok, Err}
use Rattle.wq_core.specs.Wiring.{Wiring, items}
use Rattle.wq_counts.specs.declared.kind.Kind.TheVariants.{Queue as QueueKind, Cancel as CancelKind}
use Rattle.wq_counts.specs.Counting.{raised}
use Rattle.wq_history.specs.declared.fault.CallError.{CallError}
use Rattle.wq_api.specs.Refusals.{RefusesCancelWork}
use Rattle.wq_api.specs.WaitingCalls.{RefusesFlushWork, flushed, flush_refused, CountsCancelSync, RefusedCancelSync}
use Rattle.wq_api.specs.WaitingCalls.{RefusesFlushWorkqueue, lane_flushed, lane_flush_refused}
use Rattle.wq_rescuer.specs.Executing.{RefusesQueueByBody}
use Rattle.wq_script.specs.declared.acting.Act.{Act}
use Rattle.wq_script.specs.declared.acting.Act.TheVariants.{Queue, Flush, FlushLane, Cancel, CancelSync}

-- counts after an act that was answered, on an item or a lane that exists
abbrev pub CountsAct : Wiring → List ℕ → List ℕ → Act → Type 0
CountsAct w old new (Queue i) = (i < items w) × (accepted : Bool) × (new ≡ raised old i QueueKind accepted)
CountsAct w old new (Flush i) = (i < items w) × (waited : Bool) × (new ≡ flushed old i waited)
CountsAct w old new (FlushLane q) = (q < w.lanes) × (waited : Bool) × (new ≡ lane_flushed old q waited)
CountsAct w old new (Cancel i) = (i < items w) × (taken : Bool) × (new ≡ raised old i CancelKind taken)
CountsAct w old new (CancelSync i) = (i < items w) × (taken : Bool) × CountsCancelSync old new i taken

-- counts after an act that was refused, and the cause of the refusal: queueing an
-- item on its own lane is refused as it is to a body
abbrev pub RefusedAct : Wiring → List ℕ → List ℕ → Act → CallError → Type 0
RefusedAct w old new (Queue i) e = RefusesQueueByBody w old i e × (new ≡ old)
RefusedAct w old new (Flush i) e = RefusesFlushWork w old i e × (new ≡ flush_refused old i e)
RefusedAct w old new (FlushLane q) e = RefusesFlushWorkqueue w old q e × (new ≡ lane_flush_refused old q e)
RefusedAct w old new (Cancel i) e = RefusesCancelWork w i e × (new ≡ old)
RefusedAct w old new (CancelSync i) e = RefusesFlushWork w old i e × RefusedCancelSync old new i e

-- counts after acts that were answered, one after the other
abbrev pub CountsActs : Wiring → List ℕ → List ℕ → List Act → Type 0
CountsActs w old new [] = new ≡ old
CountsActs w old new (act ∷ acts) = (between : List ℕ) × CountsAct w old between act × CountsActs w between new acts

-- one of these acts was refused; those before it were answered, and those after it were not made
pub record RefusedActs (w : Wiring) (old new : List ℕ) (acts : List Act) (e : CallError) : Type 0 where
  pub answered : List Act
  pub act : Act
  pub left : List Act
  pub parts : acts ≡ answered ++ (act ∷ left)
  pub between : List ℕ
  pub counted : CountsActs w old between answered
  pub refused : RefusedAct w between new act e

-- counts after the calls of a list, with their result: all were answered, or one was refused
abbrev pub CountsCalls : Wiring → List Act → Result (Unit {0}) CallError → List ℕ → List ℕ → Type 0
CountsCalls w acts (Ok done) old new = CountsActs w old new acts
CountsCalls w acts (Err e) old new = RefusedActs w old new acts e
