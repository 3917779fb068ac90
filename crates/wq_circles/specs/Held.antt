-- What can hold up items that must go on: components, flushes to workqueues without a rescuer, and the ways to both.
use Rattle.std.specs.Prelude.{◌≡◌, ◌↔◌, ◌⊎◌, ℕ, ◌<◌, not, ◌&&◌, ◌||◌, Bool, true, false, List, [], ◌∷◌, length}
use Rattle.std.specs.Prelude.{filter, map, flat_map, slice_index_or, Contains}
use Rattle.std.specs.List.{Any}
use Rattle.wq_items.specs.Readings.{is_among}
use Rattle.wq_groups.specs.Declaration.{Declaration}
use Rattle.wq_groups.specs.Assignment.{item_lane}
use Rattle.wq_graph.specs.declared.arc.WaitArc.{WaitArc}
use Rattle.wq_graph.specs.Graph.{arcs_by_place}
use Rattle.wq_core.specs.Wiring.{HasRescuer, RescuedWaits}
use Rattle.wq_core.specs.Workqueues.{Workqueues, wiring_of}
use Rattle.wq_deadlock.specs.Judging.{bare_waits}
use Rattle.wq_circles.specs.Leading.{Leads}
use Rattle.wq_circles.specs.Lists.{Next}
use Rattle.wq_circles.specs.Searching.{AreFound, Search}
use Rattle.wq_circles.specs.Components.{AreComponents}

-- one workqueue is the other one, or leads to it, by way of workqueues that have a rescuer alone
abbrev pub IsOrLeads : Declaration → Workqueues → ℕ → ℕ → Type 0
IsOrLeads d ws p q = (p ≡ q) ⊎ Leads (RescuedWaits (wiring_of d ws)) p q

-- workqueue q is led to: it has a rescuer, and is that of one of these items, or is led to from there
abbrev pub IsLedTo : Declaration → Workqueues → List ℕ → ℕ → Type 0
IsLedTo d ws named q =
    HasRescuer (wiring_of d ws) q
    × ((i : ℕ) × Contains named i × HasRescuer (wiring_of d ws) (item_lane ws.assignment d.group_of i)
    × IsOrLeads d ws (item_lane ws.assignment d.group_of i) q)

-- one of these flushes begins on workqueue q
abbrev pub BeginsOn : Declaration → Workqueues → List WaitArc → ℕ → Type 0
BeginsOn d ws arcs q = Any (λ (a : WaitArc). item_lane ws.assignment d.group_of a.src ≡ q) arcs

-- workqueue q can be held up: it has a rescuer, and a flush of a component, or one to a workqueue without a rescuer,
-- begins there, or on one to which it leads
abbrev pub CanBeHeld : Declaration → Workqueues → List (List WaitArc) → ℕ → Type 0
CanBeHeld d ws components q =
    HasRescuer (wiring_of d ws) q
    × ((p : ℕ) × IsOrLeads d ws q p
    × (BeginsOn d ws (flat_map (λ arcs. arcs) components) p ⊎ BeginsOn d ws (bare_waits d ws) p))

-- what a found vertex leads to by its list was found
abbrev pub LeadsToFound : List (List ℕ) → Search → Type 0
LeadsToFound lists s = (v w : ℕ) → Contains s.order v → Next lists v w → Contains s.order w

-- the workqueues on which these flushes begin
abbrev pub beginnings : Declaration → Workqueues → List WaitArc → List ℕ
beginnings d ws arcs = map (λ (a : WaitArc). item_lane ws.assignment d.group_of a.src) arcs

-- vertex w is one of these vertices, or one of them leads to it
abbrev pub IsReached : List (List ℕ) → List ℕ → ℕ → Type 0
IsReached lists vs w = (v : ℕ) × Contains vs v × ((w ≡ v) ⊎ Leads (Next lists) v w)

-- the search s goes on to t: beside what was found before, it finds these vertices and all that they lead to
pub record FindsAll (lists : List (List ℕ)) (s : Search) (vs : List ℕ) (t : Search) : Type 0 where
  pub marks : length t.marks ≡ length s.marks
  pub found : AreFound t
  pub closed : LeadsToFound lists t
  pub reached : (w : ℕ) → Contains t.order w ↔ (Contains s.order w ⊎ IsReached lists vs w)

-- for each workqueue whether this is so of it
pub record AreMarksOf (d : Declaration) (ws : Workqueues) (P : ℕ → Type 0) (marks : List Bool) : Type 0 where
  pub one_each : length marks ≡ ws.assignment.lanes
  pub marked : (q : ℕ) → q < ws.assignment.lanes → (slice_index_or marks q false ≡ true) ↔ P q

-- the flush begins on a workqueue that is marked
abbrev pub begins_marked : Declaration → Workqueues → List Bool → WaitArc → Bool
begins_marked d ws marks a = slice_index_or marks (item_lane ws.assignment d.group_of a.src) false

-- a component begins on workqueues that are marked, if its first flush does
abbrev pub is_marked_component : Declaration → Workqueues → List Bool → List WaitArc → Bool
is_marked_component d ws marks [] = false
is_marked_component d ws marks (a ∷ arcs) = begins_marked d ws marks a

-- the flush ends on a workqueue that is marked
abbrev pub ends_marked : Declaration → Workqueues → List Bool → WaitArc → Bool
ends_marked d ws marks a = slice_index_or marks (item_lane ws.assignment d.group_of a.dst) false

-- the places of the flushes of components
abbrev pub places_of : List (List WaitArc) → List ℕ
places_of components = map (λ (b : WaitArc). b.place) (flat_map (λ arcs. arcs) components)

-- the flush leads from a workqueue that is led to, to one that can be held up, and is in none of the components
abbrev pub is_way : Declaration → Workqueues → List Bool → List Bool → List (List WaitArc) → WaitArc → Bool
is_way d ws led held components a =
    begins_marked d ws led a && ends_marked d ws held a && not (is_among (places_of components) a.place)

-- of the marks these are set, and no other changes
pub record HasMarked (places : List ℕ) (old new : List Bool) : Type 0 where
  pub one_each : length new ≡ length old
  pub marked : (p : ℕ) → p < length old
      → slice_index_or new p false ≡ (slice_index_or old p false || is_among places p)

-- a mark for each of this many places: whether it is one of these
pub record ArePlacesMarked (count : ℕ) (places : List ℕ) (marks : List Bool) : Type 0 where
  pub one_each : length marks ≡ count
  pub marked : (p : ℕ) → p < count → slice_index_or marks p false ≡ is_among places p

-- what can hold up these items: the components whose workqueues are led to, the flushes from there to workqueues
-- without a rescuer, and the ways, in order of place
pub record AreHeldCircles (d : Declaration) (ws : Workqueues) (named : List ℕ) (components : List (List WaitArc))
    (waits ways : List WaitArc) : Type 0 where
  pub all : List (List WaitArc)
  pub are : AreComponents d ws all
  pub led : List Bool
  pub led_to : AreMarksOf d ws (IsLedTo d ws named) led
  pub held : List Bool
  pub can_be_held : AreMarksOf d ws (CanBeHeld d ws all) held
  pub some_components : components ≡ filter (is_marked_component d ws led) all
  pub some_waits : waits ≡ filter (begins_marked d ws led) (bare_waits d ws)
  pub are_ways : ways ≡ filter (is_way d ws led held all) (arcs_by_place d.waits d.group_of)
