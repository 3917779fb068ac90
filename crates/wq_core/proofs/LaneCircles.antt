-- Chains and circles of groups become chains and circles of their lanes.
use Rattle.std.proofs.Common.{◌≡◌, ℕ, ◌<◌, List, [], ◌∷◌, length, map, refl, arith}
use Rattle.std.specs.List.{All}
use Rattle.std.proofs.lemmas.List.{length-map}
use Rattle.wq_items.specs.Chain.{IsChain, last_of, Circle}
use Rattle.wq_items.proofs.Circles.{circle_from_length}
use Rattle.wq_items.proofs.Tables.{VertexWaits-map}
use Rattle.wq_groups.specs.Declaration.{Declaration, GroupWaits}
use Rattle.wq_groups.specs.Assignment.{Assignment, IsAssignment, group_lane}
use Rattle.wq_groups.proofs.Lanes.{item_lanes-within}
use Rattle.wq_core.specs.Wiring.{LaneWaits, wiring}

-- ---- a map that keeps what waits for what

module _ (R S : ℕ → ℕ → Type 0) (f : ℕ → ℕ) (keeps : (v w : ℕ) → R v w → S (f v) (f w)) where
  IsChain-map : (vs : List ℕ) → IsChain R vs → IsChain S (map f vs)
  IsChain-map [] chain = tt
  IsChain-map (v ∷ []) chain = tt
  IsChain-map (v ∷ w ∷ ws) chain = (keeps v w chain.0, IsChain-map (w ∷ ws) chain.1)

  last_of-map : (v : ℕ) (vs : List ℕ) → last_of (f v) (map f vs) ≡ f (last_of v vs)
  last_of-map v [] = refl
  last_of-map v (w ∷ ws) = last_of-map w ws

  pub Circle-map : Circle R → Circle S
  Circle-map c = record {
    first = f c.first;
    others = map f c.others;
    chain = IsChain-map (c.first ∷ c.others) c.chain;
    closes = rw last_of-map (keeps (last_of c.first c.others) c.first c.closes);
  }

-- ---- groups and their lanes

-- if one group waits for another, the lane of the first waits for that of the second
LaneWaits-groups : (d : Declaration) (a : Assignment) (g h : ℕ) → GroupWaits d g h → LaneWaits (wiring d a) (group_lane a g) (group_lane a h)
LaneWaits-groups d a = VertexWaits-map d.waits d.group_of (group_lane a)

pub Circle-lanes : (d : Declaration) (a : Assignment) → Circle (GroupWaits d) → Circle (LaneWaits (wiring d a))
Circle-lanes d a circle = Circle-map (GroupWaits d) (LaneWaits (wiring d a)) (group_lane a) (LaneWaits-groups d a) circle

-- a chain with more groups than there are lanes comes back to a lane
pub Circle-few_lanes : (d : Declaration) (a : Assignment) (gs : List ℕ) → IsAssignment d.groups a → IsChain (GroupWaits d) gs → All (λ g. g < d.groups) gs → a.lanes < length gs → Circle (LaneWaits (wiring d a))
Circle-few_lanes d a gs assignment chain below few =
    let lanes : IsChain (LaneWaits (wiring d a)) (map (group_lane a) gs) = IsChain-map (GroupWaits d) (LaneWaits (wiring d a)) (group_lane a) (LaneWaits-groups d a) gs chain in
    (circle_from_length (LaneWaits (wiring d a)) a.lanes (map (group_lane a) gs) lanes (item_lanes-within gs d.groups a below assignment) (omega (arith, length-map gs (group_lane a), few))).0
