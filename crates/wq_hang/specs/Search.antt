-- A search from one item: what it costs to come from it to the others, hop by hop.
use Rattle.std.specs.Prelude.{◌≡◌, ◌≢◌, ◌==◌, ℕ, ◌<◌, ◌≤◌, ◌+◌, ◌-◌, min, ◌⊎◌, nat_lt, not, ◌&&◌, Bool, true, false}
use Rattle.std.specs.Prelude.{List, [], ◌∷◌}
use Rattle.std.specs.Prelude.{if◌then◌else◌, ◌++◌, length, fold, slice_index, slice_index_or, slice_set, Contains}
use Rattle.std.specs.List.{list_any}
use Rattle.wq_items.specs.declared.target.Target.{Target}
use Rattle.wq_core.specs.Wiring.{Wiring, HasRescuer, items, lane_of, declared_by}
use Rattle.wq_hang.specs.declared.hop.Hop.{Hop}
use Rattle.wq_hang.specs.Walk.{IsHop, IsPath, IsRound, target_beside, unsure_cost, unsure_part}

-- what a hop costs
abbrev pub hop_cost : Hop → ℕ
hop_cost h = unsure_part h.flush + (3 + length (target_beside h))

-- what hops cost
abbrev pub hops_cost : List Hop → ℕ
hops_cost [] = 0
hops_cost (h ∷ hops) = hop_cost h + hops_cost hops

-- what it costs so far to come to each item, and at most to an item of each lane; the hop by which each item is
-- reached; and the items that are to be gone on from: those that were reached at a cost of 3 more, and those at 4 more,
-- by a sure flush, and then those by an unsure one
pub record Reach : Type 0 where
  pub costs : List ℕ
  pub lane_costs : List ℕ
  pub by : List Hop
  pub near : List ℕ
  pub far : List ℕ
  pub near_unsure : List ℕ
  pub far_unsure : List ℕ

-- the item is to be gone on from
abbrev pub IsTodo : Reach → ℕ → Type 0
IsTodo s i = Contains s.near i ⊎ (Contains s.far i ⊎ (Contains s.near_unsure i ⊎ Contains s.far_unsure i))

-- ---- what one step does

-- the list with this item behind it, if that is so
abbrev pub and_then : Bool → ℕ → List ℕ → List ℕ
and_then true i queue = queue ++ (i ∷ [])
and_then false i queue = queue

-- item i is to be gone on from, which was reached at a cost of 3 more or not, and by an unsure flush or a sure one
abbrev pub with_todo : Bool → Bool → ℕ → Reach → Reach
with_todo near unsure i s = record s {
  near = and_then (near && not unsure) i s.near;
  far = and_then (not near && not unsure) i s.far;
  near_unsure = and_then (near && unsure) i s.near_unsure;
  far_unsure = and_then (not near && unsure) i s.far_unsure;
}

-- the hop leads to its item at this cost, which is less than before
abbrev pub reached : Bool → ℕ → Reach → Hop → Reach
reached near cost s h =
    with_todo near h.flush.unsure h.next
    (record s { costs = slice_set s.costs h.next cost; by = slice_set s.by h.next h })

-- the hop leads to its item at this cost
abbrev pub reach : Bool → ℕ → Reach → Hop → Reach
reach near cost s h = if nat_lt cost (slice_index s.costs h.next) then reached near cost s h else s

-- the hop of item i with this flush, after which item j comes
abbrev pub hop_to : ℕ → Target → ℕ → Hop
hop_to i t j = record { item = i; flush = t; next = j }

-- the flush of item i leads to each of these items, which are all items of lane q, at this cost
abbrev pub reach_all : Bool → ℕ → ℕ → Target → List ℕ → Reach → Reach
reach_all near cost i t on s = fold (λ (r : Reach) (j : ℕ). reach near cost r (hop_to i t j)) s on

-- to come to any item of lane q costs this
abbrev pub with_lane_cost : ℕ → ℕ → Reach → Reach
with_lane_cost q cost s = record s { lane_costs = slice_set s.lane_costs q cost }

-- the same, if to come to any item of lane q cost more before
abbrev pub reach_lane : Bool → ℕ → ℕ → Target → ℕ → List ℕ → Reach → Reach
reach_lane near cost i t q on s =
    if nat_lt cost (slice_index s.lane_costs q) then with_lane_cost q cost (reach_all near cost i t on s) else s

-- what it costs more to come to the target
abbrev pub step : Target → ℕ
step t = unsure_part t + 3

-- what it costs more to come to any item of the lane of the target
abbrev pub lane_step : Target → ℕ
lane_step t = unsure_part t + (if t.whole then 3 else 4)

-- it has to cost less than this to come to lane q, so that a round by way of it can cost less than the cheapest so far
abbrev pub most_of_use : Wiring → List ℕ → ℕ → Reach → ℕ → ℕ
most_of_use w bounds first s q =
    if q == lane_of w first then slice_index s.costs first else slice_index s.costs first - slice_index bounds q

-- the flush of item i leads on to its target, if that costs less than the most that is of use
abbrev pub to_target : ℕ → ℕ → ℕ → Reach → Target → Reach
to_target most i cost s t =
    if nat_lt (cost + step t) most then reach true (cost + step t) s (hop_to i t t.item) else s

-- it leads on to all items on the lane of its target, if that costs less than the most that is of use
abbrev pub to_lane : Wiring → List (List ℕ) → ℕ → ℕ → ℕ → Reach → Target → Reach
to_lane w on most i cost s t =
    if nat_lt (cost + lane_step t) most
    then reach_lane t.whole (cost + lane_step t) i t (lane_of w t.item) (slice_index_or on (lane_of w t.item) []) s
    else s

-- it leads on to both
abbrev pub to_both : Wiring → List (List ℕ) → ℕ → ℕ → ℕ → Reach → Target → Reach
to_both w on most i cost s t = to_lane w on most i cost (to_target most i cost s t) t

-- the flush of item i, which costs so much, leads on as far as that is of use, if the lane of its target has a rescuer
abbrev pub follow : Wiring → List (List ℕ) → List ℕ → ℕ → ℕ → ℕ → Reach → Target → Reach
follow w on bounds first i cost s t =
    if slice_index_or w.bare (lane_of w t.item) false then s
    else to_both w on (most_of_use w bounds first s (lane_of w t.item)) i cost s t

-- all flushes of item i
abbrev pub expand : Wiring → List (List ℕ) → List ℕ → ℕ → ℕ → ℕ → Reach → Reach
expand w on bounds first i cost s = fold (follow w on bounds first i cost) s (declared_by w i)

-- ---- what is found

-- the items of each lane
pub record AreItemsOn (w : Wiring) (on : List (List ℕ)) : Type 0 where
  pub one_each : length on ≡ w.lanes
  pub within : (q i : ℕ) → Contains (slice_index_or on q []) i → (i < items w) × (lane_of w i ≡ q)
  pub all : (i : ℕ) → i < items w → Contains (slice_index_or on (lane_of w i) []) i

-- the hop leads from an item that is reached, or from the first, to item i, at what it costs to come there
pub record IsReachedBy (w : Wiring) (first : ℕ) (s : Reach) (i : ℕ) (h : Hop) : Type 0 where
  pub next : h.next ≡ i
  pub hop : IsHop w h
  pub on : lane_of w h.next ≡ lane_of w h.flush.item
  pub from_first : h.item ≡ first → hop_cost h ≤ slice_index s.costs i
  pub from_other : h.item ≢ first → slice_index s.costs h.item + hop_cost h ≤ slice_index s.costs i

-- what holds at each time: no cost is above the limit; to come to an item costs no more than to any item of its lane;
-- and each item that costs less than the limit is reached by its hop
pub record IsReach (w : Wiring) (first limit : ℕ) (s : Reach) : Type 0 where
  pub one_each : length s.costs ≡ items w
  pub by_each : length s.by ≡ items w
  pub lanes_each : length s.lane_costs ≡ w.lanes
  pub capped : (i : ℕ) → slice_index s.costs i ≤ limit
  pub lanes_capped : (q : ℕ) → slice_index s.lane_costs q ≤ limit
  pub by_lane : (i : ℕ) → i < items w → slice_index s.costs i ≤ slice_index s.lane_costs (lane_of w i)
  pub todo : (i : ℕ) → IsTodo s i → (i < items w) × HasRescuer w (lane_of w i)
  pub reached : (i : ℕ) (d : Hop) → i < items w → slice_index s.costs i < limit
      → IsReachedBy w first s i (slice_index_or s.by i d)

-- the flushes of item i lead on at no more than this cost and what each costs more, or that is of no use
abbrev pub IsFollowed : Wiring → List ℕ → ℕ → Reach → ℕ → ℕ → Type 0
IsFollowed w bounds first s i cost = (t : Target) → Contains (declared_by w i) t → HasRescuer w (lane_of w t.item)
    → (min (most_of_use w bounds first s (lane_of w t.item)) (slice_index s.costs t.item) ≤ cost + step t)
    × (min (most_of_use w bounds first s (lane_of w t.item)) (slice_index s.lane_costs (lane_of w t.item))
    ≤ cost + lane_step t)

-- what each hop of item i costs at least
abbrev pub least_hop : Wiring → ℕ → ℕ
least_hop w i = if list_any (λ (t : Target). not t.unsure) (declared_by w i) then 3 else unsure_cost + 3

-- bounds: to come from an item to the first one, which declares a flush, by one hop or more costs at least the bound of
-- the item's lane
abbrev pub AreBounds : Wiring → List ℕ → ℕ → Type 0
AreBounds w bounds first = 0 < length (declared_by w first) → (i : ℕ) (hops : List Hop) → 0 < length hops
    → IsPath w i hops first → slice_index bounds (lane_of w i) ≤ hops_cost hops

-- while the search goes on: the first item's flushes are followed from nothing; and each other item is to be gone on
-- from, or its flushes are followed
pub record IsGoing (w : Wiring) (bounds : List ℕ) (first limit : ℕ) (s : Reach) : Type 0 where
  pub reach : IsReach w first limit s
  pub begun : IsFollowed w bounds first s first 0
  pub followed : (i : ℕ) → i < items w → IsTodo s i ⊎ IsFollowed w bounds first s i (slice_index s.costs i)

-- the search is over: its cost for the first item is no more than that of any round from it; and the hops lead round,
-- if it is less than the limit
pub record IsSearched (w : Wiring) (first limit : ℕ) (s : Reach) : Type 0 where
  pub reach : IsReach w first limit s
  pub least : (hops : List Hop) → 0 < length hops → IsPath w first hops first
      → slice_index s.costs first ≤ hops_cost hops

-- item i is gone on from next, and is no longer to be
pub record IsTaken (s : Reach) (i : ℕ) (r : Reach) : Type 0 where
  pub costs : r.costs ≡ s.costs
  pub lane_costs : r.lane_costs ≡ s.lane_costs
  pub by : r.by ≡ s.by
  pub queues : (s ≡ record r { near = i ∷ r.near })
      ⊎ ((s ≡ record r { far = i ∷ r.far })
      ⊎ ((s ≡ record r { near_unsure = i ∷ r.near_unsure }) ⊎ (s ≡ record r { far_unsure = i ∷ r.far_unsure })))

-- the hop leads from item i back to it, so that it is a round by itself
abbrev pub IsHopBack : Wiring → ℕ → Hop → Type 0
IsHopBack w i h = IsPath w i (h ∷ []) i

-- no other such hop costs less, and it costs less than the limit
pub record IsCheapestBack (w : Wiring) (i limit : ℕ) (h : Hop) : Type 0 where
  pub back : IsHopBack w i h
  pub less : hop_cost h < limit
  pub least : (g : Hop) → IsHopBack w i g → hop_cost h ≤ hop_cost g

-- a round that costs less than the limit, and no more than any other
pub record IsLeastRound (w : Wiring) (limit : ℕ) (hops : List Hop) : Type 0 where
  pub round : IsRound w hops
  pub less : hops_cost hops < limit
  pub least : (others : List Hop) → IsRound w others → hops_cost hops ≤ hops_cost others

-- each round passes one of these items: it can begin there, at the same cost
abbrev pub ArePassed : Wiring → List ℕ → Type 0
ArePassed w passed = (hops : List Hop) → IsRound w hops
    → (i : ℕ)
    × Contains passed i
    × (turned : List Hop) × (0 < length turned)
    × IsPath w i turned i
    × (hops_cost turned ≡ hops_cost hops)

-- a round from the item costs at most this, which is less than the least so far; and none from it costs less
pub record IsBetter (w : Wiring) (first least cost : ℕ) (hops : List Hop) : Type 0 where
  pub less : cost < least
  pub round : IsRound w hops
  pub path : IsPath w first hops first
  pub costs : hops_cost hops ≤ cost
  pub all : (others : List Hop) → 0 < length others → IsPath w first others first → cost ≤ hops_cost others

-- no round from the item costs less than the least so far
abbrev pub IsNoBetter : Wiring → ℕ → ℕ → Type 0
IsNoBetter w first least = (hops : List Hop) → 0 < length hops → IsPath w first hops first → least ≤ hops_cost hops

-- ---- where rounds are looked for

-- by these numbers of lanes, each lane is marked to which a flush leads from a lane that has a rescuer and whose number
-- isn't lower
abbrev pub AreMarked : Wiring → List ℕ → List Bool → Type 0
AreMarked w numbers marks =
    (h : Hop) → IsHop w h → slice_index numbers (lane_of w h.flush.item) ≤ slice_index numbers (lane_of w h.item)
    → slice_index_or marks (lane_of w h.flush.item) false ≡ true

-- the items on those of these lanes that are marked, and no others
pub record AreMarkedOf (on : List (List ℕ)) (marks : List Bool) (lanes items : List ℕ) : Type 0 where
  pub within : (i : ℕ) → Contains items i
      → (q : ℕ) × Contains (slice_index_or on q []) i × (slice_index_or marks q false ≡ true)
  pub all : (q i : ℕ) → Contains lanes q → slice_index_or marks q false ≡ true → Contains (slice_index_or on q []) i
      → Contains items i

-- what is made of a wiring once: the items on each lane, and marks of lanes by some numbers
pub record AreMade (w : Wiring) (on : List (List ℕ)) (marks : List Bool) : Type 0 where
  pub items_on : AreItemsOn w on
  pub one_each : length marks ≡ w.lanes
  pub numbers : List ℕ
  pub marked : AreMarked w numbers marks
