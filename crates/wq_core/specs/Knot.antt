-- Knots: items that hold one another up.
use Rattle.std.specs.Prelude.{◌≡◌, ◌≢◌, ℕ, ◌<◌, ◌⊎◌, List, length, AllPairs}
use Rattle.std.specs.List.{All, Any}
use Rattle.wq_items.specs.declared.target.Target.{Target}
use Rattle.wq_core.specs.Wiring.{Wiring, HasRescuer, lane_of, declared_by}

-- one of the items is on lane q
abbrev pub HasLane : Wiring → List ℕ → ℕ → Type 0
HasLane w is q = Any (λ i. lane_of w i ≡ q) is

-- item i declares a flush of an item on the lane of one of these, or on a bare lane
abbrev pub WaitsAmong : Wiring → List ℕ → ℕ → Type 0
WaitsAmong w is i =
    Any (λ (t : Target). HasLane w is (lane_of w t.item) ⊎ (¬ HasRescuer w (lane_of w t.item))) (declared_by w i)

-- items that hold one another up, or that a bare lane holds up: there is at least
-- one, no two are on the same lane, each is on a lane that has a rescuer, and each
-- declares a flush of an item on the lane of one of them, or on a bare lane
pub record IsKnot (w : Wiring) (knot : List ℕ) : Type 0 where
  pub some : 0 < length knot
  pub apart : AllPairs (λ i j. lane_of w i ≢ lane_of w j) knot
  pub rescued : All (λ i. HasRescuer w (lane_of w i)) knot
  pub held : All (λ i. WaitsAmong w knot i) knot
