-- Ways from items that must go on: what it costs to come to each item, and to where somebody waits for it alone.
use Rattle.std.specs.Prelude.{◌≡◌, ℕ, ◌<◌, ◌≤◌, ◌+◌, ◌⊎◌, nat_lt, Bool, true, false, List, [], ◌∷◌, ◌++◌, fold, length}
use Rattle.std.specs.Prelude.{if◌then◌else◌, slice_index, slice_index_or, slice_set, Contains}
use Rattle.std.specs.List.{All}
use Rattle.wq_items.specs.declared.target.Target.{Target}
use Rattle.wq_core.specs.Wiring.{Wiring, HasRescuer, items, lane_of, declared_by}
use Rattle.wq_hang.specs.declared.hop.Hop.{Hop}
use Rattle.wq_hang.specs.Walk.{IsHop, IsPath}
use Rattle.wq_hang.specs.Search.{
  IsTodo,
  Reach,
  hop_cost,
  hop_to,
  hops_cost,
  lane_step,
  step,
  to_both,
  with_lane_cost,
  with_todo,
}

-- ---- what one step does

-- it costs so much to come to item i, which is gone on from, if that is less than before. It is reached by no hop
abbrev pub begin_at : Bool → ℕ → Reach → ℕ → Reach
begin_at near cost s i =
    if nat_lt cost (slice_index s.costs i)
    then with_todo near false i (record s { costs = slice_set s.costs i cost })
    else s

-- it costs 1 to come to each of these items
abbrev pub begin_all : List ℕ → Reach → Reach
begin_all on s = fold (begin_at false 1) s on

-- the same, if these are all items of lane q, and to come to any item of it cost more before
abbrev pub start_lane : ℕ → List ℕ → Reach → Reach
start_lane q on s = if nat_lt 1 (slice_index s.lane_costs q) then with_lane_cost q 1 (begin_all on s) else s

-- a flush of item i, which costs so much, leads on where that costs less than the limit, if the lane of its target has
-- a rescuer
abbrev pub follow_below : Wiring → List (List ℕ) → ℕ → ℕ → ℕ → Reach → Target → Reach
follow_below w on limit i cost s t =
    if slice_index_or w.bare (lane_of w t.item) false then s else to_both w on limit i cost s t

-- all flushes of item i
abbrev pub expand_below : Wiring → List (List ℕ) → ℕ → ℕ → Reach → Reach
expand_below w on limit i s = fold (follow_below w on limit i (slice_index s.costs i)) s (declared_by w i)

-- an item is added to a list, and marked, unless it is marked
abbrev pub IsPushedOnce : ℕ → List Bool → List ℕ → List Bool → List ℕ → Type 0
IsPushedOnce i marks list new_marks new_list =
    (new_marks ≡ slice_set marks i true)
    × (new_list ≡ (if slice_index_or marks i false then list else list ++ (i ∷ [])))

-- ---- ways

-- a way that begins with item i costs so much to begin with: nothing if it is one of these, or 1 if it is on the lane
-- of one of these, which is behind it
abbrev pub BeginsAt : Wiring → List ℕ → ℕ → ℕ → Type 0
BeginsAt w starts i cost =
    (Contains starts i × (cost ≡ 0))
    ⊎ ((j : ℕ) × Contains starts j × (lane_of w j ≡ lane_of w i) × (i < items w) × (cost ≡ 1))

-- the hops lead from one of these items, or from one in front of it, to item i, and cost so much
pub record IsWayFrom (w : Wiring) (starts : List ℕ) (hops : List Hop) (i cost : ℕ) : Type 0 where
  pub first : ℕ
  pub before : ℕ
  pub begins : BeginsAt w starts first before
  pub path : IsPath w first hops i
  pub costs : before + hops_cost hops ≡ cost

-- the hop leads from an item that is reached to item i, at what it costs to come there
pub record IsReachedFrom (w : Wiring) (s : Reach) (i : ℕ) (h : Hop) : Type 0 where
  pub next : h.next ≡ i
  pub hop : IsHop w h
  pub on : lane_of w h.next ≡ lane_of w h.flush.item
  pub from : slice_index s.costs h.item + hop_cost h ≤ slice_index s.costs i
  pub behind : 1 < slice_index s.costs i

-- what holds at each time: no cost is above the limit; to come to an item costs no more than to any item of its lane;
-- and each item that costs less than the limit begins a way, or is reached by its hop
pub record IsReachFrom (w : Wiring) (starts : List ℕ) (limit : ℕ) (s : Reach) : Type 0 where
  pub one_each : length s.costs ≡ items w
  pub by_each : length s.by ≡ items w
  pub lanes_each : length s.lane_costs ≡ w.lanes
  pub capped : (i : ℕ) → slice_index s.costs i ≤ limit
  pub lanes_capped : (q : ℕ) → slice_index s.lane_costs q ≤ limit
  pub by_lane : (i : ℕ) → i < items w → slice_index s.costs i ≤ slice_index s.lane_costs (lane_of w i)
  pub rescuer : (i : ℕ) → i < items w → slice_index s.costs i < limit → HasRescuer w (lane_of w i)
  pub todo : (i : ℕ) → IsTodo s i → (i < items w) × (slice_index s.costs i < limit)
  pub reached : (i : ℕ) (d : Hop) → i < items w → slice_index s.costs i < limit
      → BeginsAt w starts i (slice_index s.costs i) ⊎ IsReachedFrom w s i (slice_index_or s.by i d)

-- the flushes of item i lead on at no more than what it costs to come there and what each costs more
abbrev pub AreFollowed : Wiring → Reach → ℕ → Type 0
AreFollowed w s i = (t : Target) → Contains (declared_by w i) t → HasRescuer w (lane_of w t.item)
    → (slice_index s.costs t.item ≤ slice_index s.costs i + step t)
    × (slice_index s.lane_costs (lane_of w t.item) ≤ slice_index s.costs i + lane_step t)

-- while the search goes on: ways begin at these; and each item is to be gone on from, or its flushes are followed
pub record AreWaysSoFar (w : Wiring) (starts : List ℕ) (limit : ℕ) (s : Reach) : Type 0 where
  pub reach : IsReachFrom w starts limit s
  pub begun : All (λ i. (slice_index s.costs i ≡ 0) × (slice_index s.lane_costs (lane_of w i) ≤ 1)) starts
  pub followed : (i : ℕ) → i < items w → IsTodo s i ⊎ AreFollowed w s i

-- the search is over: it costs no more to come to an item than any way there
pub record AreWays (w : Wiring) (starts : List ℕ) (limit : ℕ) (s : Reach) : Type 0 where
  pub reach : IsReachFrom w starts limit s
  pub least : (i cost : ℕ) (hops : List Hop) → HasRescuer w (lane_of w i) → IsWayFrom w starts hops i cost
      → slice_index s.costs i ≤ cost

-- the items that cost less than the limit, and no others
pub record AreNear (limit : ℕ) (costs near : List ℕ) : Type 0 where
  pub within : All (λ i. (i < length costs) × (slice_index costs i < limit)) near
  pub all : (i : ℕ) → i < length costs → slice_index costs i < limit → Contains near i

-- the hops are a way to item i that costs no more than it costs least to come there
pub record IsWay (w : Wiring) (starts : List ℕ) (s : Reach) (i : ℕ) (hops : List Hop) : Type 0 where
  pub cost : ℕ
  pub way : IsWayFrom w starts hops i cost
  pub least : cost ≤ slice_index s.costs i

-- ---- ways to where somebody waits for an item alone

-- for each item what it costs to come to there, and the hop
pub record PendingFound : Type 0 where
  pub costs : List ℕ
  pub by : List Hop

-- item i waits by the flush for its target alone, which costs so much, if that is less than before
abbrev pub wait_alone : ℕ → PendingFound → ℕ → Target → PendingFound
wait_alone cost p i t =
    if nat_lt cost (slice_index p.costs t.item)
    then record { costs = slice_set p.costs t.item cost; by = slice_set p.by t.item (hop_to i t t.item) }
    else p

-- item i, to which there is a way, waits by this flush for its target alone, which is on a lane with a rescuer
pub record WaitsAlone (w : Wiring) (limit : ℕ) (s : Reach) (i : ℕ) (t : Target) : Type 0 where
  pub item : i < items w
  pub reached : slice_index s.costs i < limit
  pub declared : Contains (declared_by w i) t
  pub alone : t.whole ≡ false
  pub rescuer : HasRescuer w (lane_of w t.item)

-- to come to where somebody waits for an item alone costs nothing for each of these, which are queued; and else the
-- least that it costs to come to an item that waits for it, and its wait; as much as the limit, if that is no less
pub record ArePending (w : Wiring) (starts : List ℕ) (limit : ℕ) (s : Reach) (p : PendingFound) : Type 0 where
  pub one_each : length p.costs ≡ items w
  pub by_each : length p.by ≡ items w
  pub begun : All (λ i. slice_index p.costs i ≡ 0) starts
  pub capped : (i : ℕ) → slice_index p.costs i ≤ limit
  pub least : (i : ℕ) (t : Target) → WaitsAlone w limit s i t
      → slice_index p.costs t.item ≤ slice_index s.costs i + step t
  pub no_others : (i : ℕ) → i < items w → slice_index p.costs i ≡ 0 → Contains starts i
  pub by : (i : ℕ) (d : Hop) → i < items w → 0 < slice_index p.costs i → slice_index p.costs i < limit
      → WaitsAlone w limit s (slice_index_or p.by i d).item (slice_index_or p.by i d).flush
      × ((slice_index_or p.by i d).flush.item ≡ i)
      × (slice_index s.costs (slice_index_or p.by i d).item + step (slice_index_or p.by i d).flush ≤ slice_index p.costs
      i)

-- for each item, if a hop waits for it alone, more than it costs to come to the item that waits
abbrev pub AreLatest : Wiring → ℕ → List ℕ → List ℕ → Type 0
AreLatest w limit costs latest =
    (h : Hop) → IsHop w h → h.flush.whole ≡ false → slice_index costs h.item < limit
    → slice_index costs h.item < slice_index latest h.flush.item
