-- How walks end that hold up an item: of all ways the least with such an end.
use Rattle.std.specs.Prelude.{◌≡◌, ℕ, ◌<◌, ◌≤◌, ◌+◌, List, [], ◌∷◌, ◌++◌, length, Option, Some, None, slice_index}
use Rattle.std.specs.Prelude.{false, Contains}
use Rattle.std.specs.List.{All}
use Rattle.wq_core.specs.Wiring.{Wiring, HasRescuer, items, lane_of}
use Rattle.wq_hang.specs.declared.hop.Hop.{Hop}
use Rattle.wq_hang.specs.declared.least_for.End.{End}
use Rattle.wq_hang.specs.declared.least_for.End.TheVariants as end
use Rattle.wq_hang.specs.Walk.{IsHop, IsPath, IsRound, IsToBare, max_walk_cost}
use Rattle.wq_hang.specs.WalkFor.{IsWalkFor, cost_for}
use Rattle.wq_hang.specs.Search.{AreItemsOn, Reach, hops_cost, step}
use Rattle.wq_hang.specs.WaysFor.{ArePending, AreWays, IsWay, IsWayFrom, PendingFound}

-- what is searched through: the wiring, the items at which ways begin, what it costs to come to each item, and to where
-- somebody waits for it alone
pub record Field : Type 0 where
  pub wiring : Wiring
  pub starts : List ℕ
  pub ways : Reach
  pub pending : PendingFound

-- these are found in the wiring: ways that begin at items on lanes with a rescuer. On each lane are these items
pub record IsField (on : List (List ℕ)) (f : Field) : Type 0 where
  pub items_on : AreItemsOn f.wiring on
  pub begin : All (λ i. (i < items f.wiring) × HasRescuer f.wiring (lane_of f.wiring i)) f.starts
  pub ways : AreWays f.wiring f.starts max_walk_cost f.ways
  pub pending : ArePending f.wiring f.starts max_walk_cost f.ways f.pending

-- ---- the three ends

-- hops from item t, or from one in front of it, to one that waits for t alone; after it comes the first one again. They
-- cost so much, if t is queued once
pub record IsRoundAlone (w : Wiring) (t : ℕ) (hops : List Hop) (cost : ℕ) : Type 0 where
  pub way : List Hop
  pub last : Hop
  pub before : ℕ
  pub are : hops ≡ way ++ (last ∷ [])
  pub leads : IsWayFrom w (t ∷ []) way last.item before
  pub hop : IsHop w last
  pub waits_for : last.flush.item ≡ t
  pub alone : last.flush.whole ≡ false
  pub next : last.next ≡ leads.first
  pub costs : before + step last.flush ≡ cost

-- with a way to it, a hop to a bare lane costs no more than this
abbrev pub EndsBare : Field → ℕ → Hop → Type 0
EndsBare f cost h = IsToBare f.wiring h × (slice_index f.ways.costs h.item + step h.flush + 1 ≤ cost)

-- the same of a round from item i
abbrev pub EndsRound : Field → ℕ → ℕ → List Hop → Type 0
EndsRound f cost i hops =
    (0 < length hops) × IsPath f.wiring i hops i × (slice_index f.ways.costs i + hops_cost hops ≤ cost)

-- the same of a round from where somebody waits for item t alone
abbrev pub EndsAlone : Field → ℕ → ℕ → List Hop → Type 0
EndsAlone f cost t hops =
    (t < items f.wiring) × (more : ℕ) × IsRoundAlone f.wiring t hops more
    × (slice_index f.pending.costs t + more ≤ cost)

-- ---- none costs less

-- no round costs less than this, wherever it is
abbrev pub IsBelowRounds : Wiring → ℕ → Type 0
IsBelowRounds w least = (hops : List Hop) → IsRound w hops → least ≤ hops_cost hops

-- no hop to a bare lane does, with a way to it
abbrev pub NoneBare : Field → ℕ → Type 0
NoneBare f cost = (h : Hop) → IsToBare f.wiring h → cost ≤ slice_index f.ways.costs h.item + step h.flush + 1

-- no round from item i does
abbrev pub NoneFrom : Field → ℕ → ℕ → Type 0
NoneFrom f cost i =
    (hops : List Hop) → 0 < length hops → IsPath f.wiring i hops i → cost ≤ slice_index f.ways.costs i + hops_cost hops

-- no round from where somebody waits for item t alone does
abbrev pub NoneAlone : Field → ℕ → ℕ → Type 0
NoneAlone f cost t =
    (hops : List Hop) (more : ℕ) → IsRoundAlone f.wiring t hops more → cost ≤ slice_index f.pending.costs t + more

-- ---- the best end

-- the end costs no more than this; as long as there is none, it is as much as no walk costs that meets no lane twice
abbrev pub IsEnd : {A : Type 0} → Field → ℕ → Option (End A) → Type 0
IsEnd f cost None = cost ≡ max_walk_cost
IsEnd f cost (Some (end.Bare h)) = EndsBare f cost h
IsEnd f cost (Some (end.Round i hops)) = EndsRound f cost i hops.items
IsEnd f cost (Some (end.Alone t hops)) = EndsAlone f cost t hops.items

-- the best end so far, at this cost
pub record IsBest {A : Type 0} (f : Field) (cost : ℕ) (found : Option (End A)) : Type 0 where
  pub is_end : IsEnd f cost found
  pub most : cost ≤ max_walk_cost

-- no end costs less
pub record IsBestEnd {A : Type 0} (f : Field) (found : Option (End A)) : Type 0 where
  pub cost : ℕ
  pub best : IsBest f cost found
  pub bare : NoneBare f cost
  pub round : (i : ℕ) → NoneFrom f cost i
  pub alone : (t : ℕ) → NoneAlone f cost t

-- a walk for the items at which the ways begin, which costs no more than this
abbrev pub IsWalkAt : Field → ℕ → ℕ → List Hop → Type 0
IsWalkAt f cost x hops = IsWalkFor f.wiring f.starts x hops × (cost_for f.wiring x hops ≤ cost)

-- hops that follow a way to item i. The way is of the least cost; x is one of the items at which ways begin, and on the
-- lane of the first that waits, or is that itself, if it can be
pub record IsLedTo (f : Field) (i : ℕ) (hops : List Hop) (x : ℕ) (all : List Hop) : Type 0 where
  pub way : List Hop
  pub are : all ≡ way ++ hops
  pub led : IsWay f.wiring f.starts f.ways i way
  pub is_named : Contains f.starts x
  pub on : lane_of f.wiring x ≡ lane_of f.wiring led.way.first
  pub itself : Contains f.starts led.way.first → x ≡ led.way.first

-- the first item that waits, or item i if there are no hops
abbrev pub first_or : ℕ → List Hop → ℕ
first_or i [] = i
first_or i (h ∷ hops) = h.item
