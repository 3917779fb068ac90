-- Walks for items that must go on: waits by which one of them is held up. They are about flushes and lanes alone, and
-- no run is spoken of.
use Rattle.std.specs.Prelude.{◌≡◌, ℕ, ◌<◌, ◌≤◌, ◌==◌, not, if◌then◌else◌, ◌⊎◌, List, [], ◌∷◌, ◌++◌, length, filter}
use Rattle.std.specs.Prelude.{flat_map, slice_index_or, false, Contains}
use Rattle.wq_core.specs.Wiring.{Wiring, HasRescuer, items, lane_of}
use Rattle.wq_hang.specs.declared.hop.Hop.{Hop}
use Rattle.wq_hang.specs.Walk.{IsHop, IsPath, IsToBare, target_beside, walk_cost}

-- ---- where a walk leads

-- the hops lead from item i to some item, and then round from there: a way, which may have no hop, and a round
pub record MeetsRound (w : Wiring) (i : ℕ) (hops : List Hop) : Type 0 where
  pub way : List Hop
  pub round : List Hop
  pub at : ℕ
  pub are : hops ≡ way ++ round
  pub leads : IsPath w i way at
  pub some : 0 < length round
  pub goes_round : IsPath w at round at

-- the hops lead from item i to some item, and the last one from there to a bare lane
pub record MeetsBare (w : Wiring) (i : ℕ) (hops : List Hop) : Type 0 where
  pub way : List Hop
  pub last : Hop
  pub are : hops ≡ way ++ (last ∷ [])
  pub leads : IsPath w i way last.item
  pub to_bare : IsToBare w last

-- no item waits, and item x is on a bare lane itself; or the first that waits is on its lane, and the hops lead to a
-- round or to a bare lane
abbrev pub HoldsUp : Wiring → ℕ → List Hop → Type 0
HoldsUp w x hops =
    ((hops ≡ []) × (¬ HasRescuer w (lane_of w x)))
    ⊎ ((first : ℕ) × (lane_of w first ≡ lane_of w x) × (MeetsRound w first hops ⊎ MeetsBare w first hops))

-- a walk for these items: it holds up x, which is one of them
pub record IsWalkFor (w : Wiring) (named : List ℕ) (x : ℕ) (hops : List Hop) : Type 0 where
  pub is_named : Contains named x
  pub item : x < items w
  pub holds_up : HoldsUp w x hops

-- ---- what is only pending

-- each of these once, where it comes first
abbrev pub once : List ℕ → List ℕ
once [] = []
once (i ∷ is) = i ∷ filter (λ j. not (j == i)) (once is)

-- x itself, unless it is the first that waits
abbrev pub named_beside : ℕ → List Hop → List ℕ
named_beside x [] = x ∷ []
named_beside x (h ∷ hops) = if h.item == x then [] else x ∷ []

-- the target of a hop, if it is queued and doesn't wait. On a bare lane it doesn't, and the lane must have an entry
-- for a flush of the whole lane, too
abbrev pub pending_beside : Wiring → Hop → List ℕ
pending_beside w h = if slice_index_or w.bare (lane_of w h.flush.item) false then h.flush.item ∷ [] else target_beside h

-- what is only pending in the run of a walk for x: x, if another item is in front of it, and targets that don't wait.
-- An item may be met twice, where a way and a round meet: it is queued once
abbrev pub pending_for : Wiring → ℕ → List Hop → List ℕ
pending_for w x hops = once (named_beside x hops ++ flat_map (pending_beside w) hops)

-- what a walk for x costs: first count its unsure flushes, and then its steps
abbrev pub cost_for : Wiring → ℕ → List Hop → ℕ
cost_for w x hops = walk_cost hops (pending_for w x hops)

-- no walk for these items costs less
pub record IsLeastWalkFor (w : Wiring) (named : List ℕ) (x : ℕ) (hops : List Hop) : Type 0 where
  pub walk : IsWalkFor w named x hops
  pub least : (y : ℕ) (others : List Hop) → IsWalkFor w named y others → cost_for w x hops ≤ cost_for w y others
