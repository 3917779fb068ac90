-- An item on a lane that has a rescuer never finishes where it waits for an item on a bare lane.
use Rattle.std.proofs.Common.{ℕ, inr, List, [], ◌∷◌, ◌++◌, sym, subst, arith}
use Rattle.std.proofs.lemmas.List.Elements.{All-nil, All-cons}
use Rattle.wq_items.specs.Table.{ItemWaits}
use Rattle.wq_core.specs.declared.step.Step.{Step}
use Rattle.wq_core.specs.Wiring.{Wiring, IsWiring, HasRescuer, lane_of}
use Rattle.wq_core.specs.Runs.{end_of}
use Rattle.wq_core.specs.Deadlock.{DeadlocksBy, Deadlocks}
use Rattle.wq_core.specs.Played.{IsPlayedFrom, queue_order}
use Rattle.wq_core.specs.Knot.{WaitsAmong, IsKnot}
use Rattle.wq_core.proofs.KnotRuns.{DeadlocksBy-knot, Deadlocks-knot}

module _ (w : Wiring) (i j : ℕ) (waits : ItemWaits w.waits i j) (rescuer : HasRescuer w (lane_of w i)) (bare : ¬ HasRescuer w (lane_of w j)) where
  -- it is a knot by itself
  pub IsKnot-bare : IsKnot w (i ∷ [])
  IsKnot-bare = record {
    some = omega arith;
    apart = λ h k d lt within. absurd (omega arith);
    rescued = All-cons (λ h. HasRescuer w (lane_of w h)) i [] rescuer (All-nil (λ h. HasRescuer w (lane_of w h)));
    held = All-cons (WaitsAmong w (i ∷ [])) i [] (waits.0, waits.1, waits.2, waits.3, inr (subst (λ (k : ℕ). ¬ HasRescuer w (lane_of w k)) (sym waits.4) bare)) (All-nil (WaitsAmong w (i ∷ [])));
  }

pub DeadlocksBy-bare : (w : Wiring) (i j : ℕ) (steps : List Step) → IsWiring w → ItemWaits w.waits i j → HasRescuer w (lane_of w i) → (¬ HasRescuer w (lane_of w j))
    → IsPlayedFrom w (end_of w (queue_order w (i ∷ []))) steps → DeadlocksBy w (queue_order w (i ∷ []) ++ steps)
DeadlocksBy-bare w i j steps wiring waits rescuer bare played = DeadlocksBy-knot w (i ∷ []) steps wiring (IsKnot-bare w i j waits rescuer bare) played

pub Deadlocks-bare : (w : Wiring) (i j : ℕ) → IsWiring w → ItemWaits w.waits i j → HasRescuer w (lane_of w i) → (¬ HasRescuer w (lane_of w j)) → Deadlocks w
Deadlocks-bare w i j wiring waits rescuer bare = Deadlocks-knot w (i ∷ []) wiring (IsKnot-bare w i j waits rescuer bare)
