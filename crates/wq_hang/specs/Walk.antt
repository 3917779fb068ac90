-- Walks: waits that hold one another up, from lane to lane. They are about flushes and lanes alone, and no run is
-- spoken of.
use Rattle.std.specs.Prelude.{◌≡◌, ◌≢◌, ℕ, ◌<◌, ◌≤◌, ◌+◌, ◌*◌, ◌==◌, ◌||◌, if◌then◌else◌, ◌⊎◌, List, [], ◌∷◌, ◌++◌}
use Rattle.std.specs.Prelude.{length, false, ⊤, map, flat_map, filter, AllPairs, Contains}
use Rattle.std.specs.List.{All, range_with_len}
use Rattle.wq_items.specs.declared.target.Target.{Target}
use Rattle.wq_items.specs.Table.{max_flushes, places}
use Rattle.wq_items.specs.Readings.{is_among}
use Rattle.wq_core.specs.declared.step.Step.{Step}
use Rattle.wq_core.specs.declared.step.Step.TheVariants.{Queue, Start}
use Rattle.wq_core.specs.Wiring.{Wiring, HasRescuer, lane_of, declared_by}
use Rattle.wq_core.specs.Rules.{wait_of}
use Rattle.wq_hang.specs.declared.hop.Hop.{Hop}

-- the item declares the flush, and its lane has a rescuer
pub record IsHop (w : Wiring) (h : Hop) : Type 0 where
  pub declared : Contains (declared_by w h.item) h.flush
  pub rescuer : HasRescuer w (lane_of w h.item)

-- each item waits for an item on the lane of the next one; the first is i, and j comes after the last
abbrev pub IsPath : Wiring → ℕ → List Hop → ℕ → Type 0
IsPath w i [] j = i ≡ j
IsPath w i (h ∷ hops) j =
    (h.item ≡ i) × IsHop w h × (lane_of w h.next ≡ lane_of w h.flush.item) × IsPath w h.next hops j

-- at least one item, and the first comes after the last
pub record IsRound (w : Wiring) (hops : List Hop) : Type 0 where
  pub some : 0 < length hops
  pub first : ℕ
  pub path : IsPath w first hops first

-- the target itself, unless the whole lane is flushed or the target is the next one that waits
abbrev pub target_beside : Hop → List ℕ
target_beside h = if h.flush.whole || (h.flush.item == h.next) then [] else h.flush.item ∷ []

-- a walk round lanes that have a rescuer, with the items that are queued beside those that wait
abbrev pub GoesRound : Wiring → List Hop → List ℕ → Type 0
GoesRound w hops beside = IsRound w hops × (beside ≡ flat_map target_beside hops)

-- a walk from a lane that has a rescuer to a bare lane
abbrev pub LeadsToBare : Wiring → List Hop → List ℕ → Type 0
LeadsToBare w hops beside =
    (h : Hop) × IsHop w h × (¬ HasRescuer w (lane_of w h.flush.item)) × (hops ≡ h ∷ []) × (beside ≡ h.flush.item ∷ [])

-- a walk: it leads round, or to a bare lane
abbrev pub IsWalk : Wiring → List Hop → List ℕ → Type 0
IsWalk w hops beside = GoesRound w hops beside ⊎ LeadsToBare w hops beside

-- those of these hops that wait by an unsure flush
abbrev pub unsure_hops : List Hop → List Hop
unsure_hops hops = filter (λ (h : Hop). h.flush.unsure) hops

-- those of the numbers below n that are among these, in order
abbrev pub those_below : ℕ → List ℕ → List ℕ
those_below n ps = filter (is_among ps) (range_with_len 0 n)

-- the places of the unsure flushes by which these hops wait, in order of place: the reading that keeps these, and no
-- other unsure flush, has all the hops
unfoldable pub needs : List Hop → List ℕ
needs hops = those_below max_flushes (map (λ (h : Hop). h.flush.place) (unsure_hops hops))

-- the steps of a walk's run: a queueing, a start and a wait for each item that waits, and a queueing for each that is
-- queued beside
abbrev pub walk_steps : List Hop → List ℕ → ℕ
walk_steps hops beside = 3 * length hops + length beside

-- what an unsure flush costs: more than the steps of any walk that meets no lane twice
abbrev pub unsure_cost : ℕ
unsure_cost = 32768

-- what a walk costs: first count its unsure flushes, and then its steps
abbrev pub walk_cost : List Hop → List ℕ → ℕ
walk_cost hops beside = unsure_cost * length (unsure_hops hops) + walk_steps hops beside

-- no walk costs as much that meets no lane twice: there are at most 4,096 lanes
abbrev pub max_walk_cost : ℕ
max_walk_cost = 134266884

-- what a flush makes a hop cost more
abbrev pub unsure_part : Target → ℕ
unsure_part t = if t.unsure then unsure_cost else 0

-- no two flushes have the same place, and no place is above the limit
pub record ArePlacesApart (w : Wiring) : Type 0 where
  pub apart : AllPairs (λ (a b : ℕ). a ≢ b) (places w.waits)
  pub few : All (λ p. p < max_flushes) (places w.waits)

-- no walk costs less
pub record IsLeastWalk (w : Wiring) (hops : List Hop) (beside : List ℕ) : Type 0 where
  pub walk : IsWalk w hops beside
  pub least : (others : List Hop) (more : List ℕ) → IsWalk w others more → walk_cost hops beside ≤ walk_cost others more

-- ---- rounds on some lanes

-- a round all of whose items that wait are on these lanes
pub record IsRoundOn (w : Wiring) (lanes : List ℕ) (hops : List Hop) : Type 0 where
  pub round : IsRound w hops
  pub stays : (h : Hop) → Contains hops h → Contains lanes (lane_of w h.item)

-- no round on these lanes costs less
pub record IsLeastRoundOn (w : Wiring) (lanes : List ℕ) (hops : List Hop) : Type 0 where
  pub stays : IsRoundOn w lanes hops
  pub least : (others : List Hop) → IsRoundOn w lanes others
      → walk_cost hops (flat_map target_beside hops) ≤ walk_cost others (flat_map target_beside others)

-- ---- hops to a bare lane

-- a hop from a lane that has a rescuer to a bare lane, where its target waits next
pub record IsToBare (w : Wiring) (h : Hop) : Type 0 where
  pub hop : IsHop w h
  pub bare : ¬ HasRescuer w (lane_of w h.flush.item)
  pub next : h.next ≡ h.flush.item

-- a sure flush comes before an unsure one. Of two sure ones, and of two unsure ones, the one that is declared first
-- does
abbrev pub ComesNoLater : Target → Target → Type 0
ComesNoLater t u =
    ((t.unsure ≡ u.unsure) × (t.place ≤ u.place)) ⊎ ((t.unsure ≡ false) × (u.unsure ≢ false))

-- no flush that leads from a lane that has a rescuer to a bare lane comes before this one
pub record IsFirstToBare (w : Wiring) (h : Hop) : Type 0 where
  pub to_bare : IsToBare w h
  pub first : (g : Hop) → IsHop w g → (¬ HasRescuer w (lane_of w g.flush.item)) → ComesNoLater h.flush g.flush

-- the hops lead round, for less than it costs to come to a bare lane, if some flush leads to one; or there is one hop,
-- the first to a bare lane
abbrev pub IsRoundOrFirst : Wiring → List Hop → List ℕ → Type 0
IsRoundOrFirst w hops beside =
    (IsRound w hops
    × ((g : Hop) → IsHop w g → (¬ HasRescuer w (lane_of w g.flush.item))
    → walk_cost hops beside < walk_cost (g ∷ []) (g.flush.item ∷ [])))
    ⊎ ((h : Hop) × (hops ≡ h ∷ []) × IsFirstToBare w h)

-- ---- which of several walks

-- if one of these hops waits by an unsure flush, the first one does
abbrev pub BeginsUnsure : List Hop → Type 0
BeginsUnsure [] = ⊤
BeginsUnsure (h ∷ hops) = h.flush.unsure ≡ false → unsure_hops hops ≡ []

-- the two flushes have the same words in a text: the same target, the same kind, and both are sure or neither is
pub record AreAlike (t u : Target) : Type 0 where
  pub item : t.item ≡ u.item
  pub whole : t.whole ≡ u.whole
  pub unsure : t.unsure ≡ u.unsure

-- of the flushes of an item with the same words each hop waits by the one that is declared first
abbrev pub AreFirstAlike : Wiring → List Hop → Type 0
AreFirstAlike w hops =
    (h : Hop) → Contains hops h → (t : Target) → Contains (declared_by w h.item) t → AreAlike t h.flush
    → h.flush.place ≤ t.place

-- ---- the run of a walk

-- the item is started, and begins its wait
abbrev pub moves_of : Wiring → Hop → List Step
moves_of w h = Start (lane_of w h.item) h.item ∷ wait_of h.flush.whole (lane_of w h.item) h.flush.item ∷ []

-- the items that wait are queued, then those beside them, and then each that waits is started and begins its wait
abbrev pub run_of_walk : Wiring → List Hop → List ℕ → List Step
run_of_walk w hops beside = map Queue (map (λ (h : Hop). h.item) hops ++ beside) ++ flat_map (moves_of w) hops
