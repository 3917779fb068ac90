-- Each group that needs a rescuer has one in every assignment to be compared, or that assignment deadlocks.
use Rattle.std.proofs.Common.{◌≡◌, ℕ, ◌<◌, ◌⊎◌, inl, inr, false, List, [], ◌∷◌, ◌++◌, length, get_or, refl, sym, ap, subst, ◌∙◌, arith}
use Rattle.std.specs.Prelude.{Bool, slice_get, slice_index, Some}
use Rattle.std.proofs.lemmas.Bool.{cases_Bool, cases_eq}
use Rattle.std.proofs.lemmas.Option.{get_or_from_slice_get, slice_get_within}
use Rattle.wq_items.specs.Chain.{IsChain, last_of, Circle}
use Rattle.wq_items.proofs.Tables.{VertexWaits-map}
use Rattle.wq_groups.specs.Declaration.{Declaration, IsDeclaration, GroupWaits}
use Rattle.wq_groups.specs.Assignment.{IsAssignment, group_lane, item_lanes}
use Rattle.wq_groups.proofs.Declarations.{waiting-item, awaited-item, GroupWaits-items}
use Rattle.wq_groups.proofs.Lanes.{item_lanes-at}
use Rattle.wq_core.specs.Wiring.{IsWiring, HasRescuer, LaneWaits, RescuedWaits, lane_of}
use Rattle.wq_core.specs.Workqueues.{Workqueues, wiring_of}
use Rattle.wq_core.specs.Deadlock.{Deadlocks}
use Rattle.wq_core.proofs.BareWaits.{Deadlocks-bare}
use Rattle.wq_core.proofs.CircleKnots.{Deadlocks-rescued_circle}
use Rattle.wq_core.proofs.Wirings.{cases_rescuer}
use Rattle.wq_deadlock.proofs.BareLanes.{IsWiring-workqueues}
use Rattle.wq_repair.specs.Changes.{IsRescued, IsBare, IsNamed, HasMoved, IsToBeCompared, lane_in}
use Rattle.wq_repair.specs.Needed.{IsLedTo, NeedsRescuer, StaysBeside, BringsAlong, NeedsRescuerOf}
use Rattle.wq_repair.specs.Marks.{IsMarked}
use Rattle.wq_repair.specs.Joined.{NeededWaits, HangsRound, VerticesWait}
use Rattle.wq_repair.proofs.Identified.{Circle-identified}

-- a lane has a rescuer, or has none
pub cases_rescued : (ws : Workqueues) (q : ℕ) → IsRescued ws q ⊎ IsBare ws q
cases_rescued ws q = elim (cases_Bool (get_or ws.bare q false)) [ inl bare ↦ inr bare | inr rescued ↦ inl rescued ]

-- a group stays, or has moved
pub cases_moved : (old new : Workqueues) (g : ℕ) → (lane_in new g ≡ lane_in old g) ⊎ HasMoved old new g
cases_moved old new g = cases_eq (lane_in new g) (lane_in old g)

pub stays-not_moved : (old new : Workqueues) (g : ℕ) → (¬ HasMoved old new g) → lane_in new g ≡ lane_in old g
stays-not_moved old new g not = elim (cases_moved old new g) [ inl stays ↦ stays | inr moved ↦ absurd (not moved) ]

-- the lane of an item is that of its group
pub lane_of-group : (d : Declaration) (ws : Workqueues) (i g : ℕ) → slice_get d.group_of i ≡ Some g → lane_of (wiring_of d ws) i ≡ lane_in ws g
lane_of-group d ws i g of_item =
    item_lanes-at ws.assignment d.group_of i (slice_get_within d.group_of i g of_item) ∙ ap (group_lane ws.assignment) (get_or_from_slice_get d.group_of i g 0 of_item)

-- groups that wait are groups
pub waiting-below : (d : Declaration) → IsDeclaration d → (g h : ℕ) → GroupWaits d g h → g < d.groups
waiting-below d is g h waits = subst (λ (x : ℕ). x < d.groups) (get_or_from_slice_get d.group_of waits.item g 0 waits.of_item) (is.partition.within waits.item 0 (slice_get_within d.group_of waits.item g waits.of_item))

pub awaited-below : (d : Declaration) → IsDeclaration d → (g h : ℕ) → GroupWaits d g h → h < d.groups
awaited-below d is g h waits = subst (λ (x : ℕ). x < d.groups) (get_or_from_slice_get d.group_of waits.target h 0 waits.of_target) (is.partition.within waits.target 0 (slice_get_within d.group_of waits.target h waits.of_target))

-- one step more
chain-more : (R : ℕ → ℕ → Type 0) (v z : ℕ) (vs : List ℕ) → IsChain R (v ∷ vs) → R (last_of v vs) z → IsChain R (v ∷ (vs ++ (z ∷ []))) × (last_of v (vs ++ (z ∷ [])) ≡ z)
chain-more R v z [] chain step = ((step, tt), refl)
chain-more R v z (w ∷ ws) chain step = let rest = chain-more R w z ws chain.1 step in ((chain.0, rest.0), rest.1)

pub IsLedTo-next : (d : Declaration) (old : Workqueues) (R : ℕ → ℕ → Type 0) (g h : ℕ) → IsLedTo d old R g → R g h → IsLedTo d old R h
IsLedTo-next d old R g h led step =
    let more = chain-more R led.first h led.others led.chain (subst (λ (x : ℕ). R x h) (sym led.ends) step) in
    record { first = led.first; others = led.others ++ (h ∷ []); is_group = led.is_group; rescued = led.rescued; chain = more.0; ends = more.1 }

pub IsLedTo-first : (d : Declaration) (old : Workqueues) (R : ℕ → ℕ → Type 0) (g : ℕ) → g < d.groups → IsRescued old (lane_in old g) → IsLedTo d old R g
IsLedTo-first d old R g is rescued = record { first = g; others = []; is_group = is; rescued = rescued; chain = tt; ends = refl }

chain-some : (R S : ℕ → ℕ → Type 0) → ((v w : ℕ) → R v w → S v w) → (vs : List ℕ) → IsChain R vs → IsChain S vs
chain-some R S some [] chain = tt
chain-some R S some (v ∷ []) chain = tt
chain-some R S some (v ∷ w ∷ ws) chain = (some v w chain.0, chain-some R S some (w ∷ ws) chain.1)

-- a group that needs a rescuer whatever may move needs one if only these may move
pub NeedsRescuerOf-any : (d : Declaration) (old : Workqueues) (names : List ℕ) (g : ℕ) → NeedsRescuer d old g → NeedsRescuerOf d old names g
NeedsRescuerOf-any d old names g led = record {
  first = led.first;
  others = led.others;
  is_group = led.is_group;
  rescued = led.rescued;
  chain = chain-some (GroupWaits d) (BringsAlong d old names) (λ v w waits. inl waits) (led.first ∷ led.others) led.chain;
  ends = led.ends;
}

-- ---- in any workqueues

module _ (d : Declaration) (ws : Workqueues) (declaration : IsDeclaration d) (assignment : IsAssignment d.groups ws.assignment) where
  wiring : IsWiring (wiring_of d ws)
  wiring = IsWiring-workqueues d ws declaration assignment

  -- if a group with a rescuer waits for another, that one has a rescuer, too, or there is a deadlock
  pub rescued-awaited : (g h : ℕ) → GroupWaits d g h → IsRescued ws (lane_in ws g) → IsRescued ws (lane_in ws h) ⊎ Deadlocks (wiring_of d ws)
  rescued-awaited g h waits rescued =
      let from = lane_of-group d ws waits.item g waits.of_item in
      let to = lane_of-group d ws waits.target h waits.of_target in
      elim (cases_rescuer (wiring_of d ws) (lane_in ws h)) [
        | inl also ↦ inl also
        | inr bare ↦ inr (Deadlocks-bare (wiring_of d ws) waits.item waits.target wiring waits.declares
            (subst (HasRescuer (wiring_of d ws)) (sym from) rescued)
            (subst (λ (q : ℕ). ¬ HasRescuer (wiring_of d ws) q) (sym to) bare))
      ]

  pub Deadlocks-round : HangsRound d ws → Deadlocks (wiring_of d ws)
  Deadlocks-round circle = Deadlocks-rescued_circle (wiring_of d ws) wiring circle

  pub LaneWaits-group_waits : (g h : ℕ) → GroupWaits d g h → LaneWaits (wiring_of d ws) (lane_in ws g) (lane_in ws h)
  LaneWaits-group_waits g h waits = VertexWaits-map d.waits d.group_of (group_lane ws.assignment) g h waits

-- ---- in what may be compared

module _ (d : Declaration) (old new : Workqueues) (names : List ℕ) (declaration : IsDeclaration d) (before : IsAssignment d.groups old.assignment) (compared : IsToBeCompared d old names new) where
  abbrev D : Type 0
  D = Deadlocks (wiring_of d new)

  pub stays-unnamed : (g : ℕ) → g < d.groups → (¬ IsNamed d names g) → lane_in new g ≡ lane_in old g
  stays-unnamed g is unnamed = stays-not_moved old new g (λ moved. unnamed (compared.moved_named g is moved))

  pub rescued-first : (g : ℕ) → g < d.groups → IsRescued old (lane_in old g) → IsRescued new (lane_in new g)
  rescued-first g is rescued = elim (cases_moved old new g) [
    | inl stays ↦
        let within : lane_in old g < old.assignment.lanes = before.within g 0 (omega (arith, is, before.one_each)) in
        subst (IsRescued new) (sym stays) (compared.kept (lane_in old g) within rescued)
    | inr moved ↦ compared.onto_rescuers g is moved
  ]

  rescued-beside : (g h : ℕ) → g < d.groups → StaysBeside d old names g h → IsRescued new (lane_in new g) → IsRescued new (lane_in new h)
  rescued-beside g h is beside rescued = elim (cases_moved old new h) [
    | inl stays ↦ subst (IsRescued new) (stays-unnamed g is beside.unnamed ∙ sym beside.beside ∙ sym stays) rescued
    | inr moved ↦ compared.onto_rescuers h beside.is_group moved
  ]

  rescued-next : (g h : ℕ) → g < d.groups → BringsAlong d old names g h → IsRescued new (lane_in new g) → IsRescued new (lane_in new h) ⊎ D
  rescued-next g h is (inl waits) rescued = rescued-awaited d new declaration compared.assignment g h waits rescued
  rescued-next g h is (inr beside) rescued = inl (rescued-beside g h is beside rescued)

  below-next : (g h : ℕ) → BringsAlong d old names g h → h < d.groups
  below-next g h (inl waits) = awaited-below d declaration g h waits
  below-next g h (inr beside) = beside.is_group

  rescued-chain : (g : ℕ) (others : List ℕ) → g < d.groups → IsChain (BringsAlong d old names) (g ∷ others) → IsRescued new (lane_in new g) → IsRescued new (lane_in new (last_of g others)) ⊎ D
  rescued-chain g [] is chain rescued = inl rescued
  rescued-chain g (h ∷ others) is chain rescued = elim (rescued-next g h is chain.0 rescued) [
    | inr dead ↦ inr dead
    | inl next ↦ rescued-chain h others (below-next g h chain.0) chain.1 next
  ]

  pub rescued-needed : (g : ℕ) → NeedsRescuerOf d old names g → IsRescued new (lane_in new g) ⊎ D
  rescued-needed g led = elim (rescued-chain led.first led.others led.is_group led.chain (rescued-first led.first led.is_group led.rescued)) [
    | inr dead ↦ inr dead
    | inl rescued ↦ inl (subst (λ (x : ℕ). IsRescued new (lane_in new x)) led.ends rescued)
  ]

  -- groups that need a rescuer, and wait in a circle
  needed_waits : (g h : ℕ) → NeededWaits d old g h → ((x : ℕ) × (y : ℕ) × (x ≡ lane_in new g) × (y ≡ lane_in new h) × RescuedWaits (wiring_of d new) x y) ⊎ D
  needed_waits g h waits = elim (rescued-needed g (NeedsRescuerOf-any d old names g waits.0)) [
    | inr dead ↦ inr dead
    | inl rescued ↦ elim (rescued-awaited d new declaration compared.assignment g h waits.1 rescued) [
      | inr dead ↦ inr dead
      | inl also ↦ inl (lane_in new g, lane_in new h, refl, refl, (rescued, also, LaneWaits-group_waits d new declaration compared.assignment g h waits.1))
    ]
  ]

  pub Deadlocks-needed_circle : Circle (NeededWaits d old) → D
  Deadlocks-needed_circle circle = elim (Circle-identified (NeededWaits d old) (RescuedWaits (wiring_of d new)) (λ g x. x ≡ lane_in new g) D (λ g x y one other. one ∙ sym other) needed_waits circle) [
    | inr dead ↦ dead
    | inl round ↦ Deadlocks-round d new declaration compared.assignment round
  ]

  -- a circle of other workqueues, of groups that need a rescuer, is one of these if groups that share a lane there
  -- share one here
  module _ (other : Workqueues) (needed : (g : ℕ) → g < d.groups → IsRescued other (lane_in other g) → NeedsRescuerOf d old names g)
      (together : (g h : ℕ) → g < d.groups → h < d.groups → IsRescued other (lane_in other g) → lane_in other g ≡ lane_in other h → lane_in new g ≡ lane_in new h) where
    -- a lane there, and the lane here of a group on it
    record Becomes (p x : ℕ) : Type 0 where
      group : ℕ
      is_group : group < d.groups
      rescued : IsRescued other p
      there : lane_in other group ≡ p
      here : lane_in new group ≡ x

    one_lane : (p x y : ℕ) → Becomes p x → Becomes p y → x ≡ y
    one_lane p x y b c = sym b.here ∙ together b.group c.group b.is_group c.is_group (subst (IsRescued other) (sym b.there) b.rescued) (b.there ∙ sym c.there) ∙ c.here

    step : (p q : ℕ) (g h : ℕ) → lane_in other g ≡ p → lane_in other h ≡ q → IsRescued other p → IsRescued other q → GroupWaits d g h
        → ((x : ℕ) × (y : ℕ) × Becomes p x × Becomes q y × RescuedWaits (wiring_of d new) x y) ⊎ D
    step p q g h at_p at_q has_p has_q waits =
        let g_below = waiting-below d declaration g h waits in
        let h_below = awaited-below d declaration g h waits in
        elim (rescued-needed g (needed g g_below (subst (IsRescued other) (sym at_p) has_p))) [
          | inr dead ↦ inr dead
          | inl rescued ↦ elim (rescued-awaited d new declaration compared.assignment g h waits rescued) [
            | inr dead ↦ inr dead
            | inl also ↦ inl (
              lane_in new g,
              lane_in new h,
              record { group = g; is_group = g_below; rescued = has_p; there = at_p; here = refl },
              record { group = h; is_group = h_below; rescued = has_q; there = at_q; here = refl },
              (rescued, also, LaneWaits-group_waits d new declaration compared.assignment g h waits),
            )
          ]
        ]

    lane-at : (i q : ℕ) → slice_get (item_lanes other.assignment d.group_of) i ≡ Some q → i < length d.group_of → lane_in other (slice_index d.group_of i) ≡ q
    lane-at i q at within = sym (item_lanes-at other.assignment d.group_of i within) ∙ get_or_from_slice_get (item_lanes other.assignment d.group_of) i q 0 at

    other_waits : (p q : ℕ) → RescuedWaits (wiring_of d other) p q → ((x : ℕ) × (y : ℕ) × Becomes p x × Becomes q y × RescuedWaits (wiring_of d new) x y) ⊎ D
    other_waits p q (has_p, has_q, waits) =
        let src = lane-at waits.item p waits.of_item (waiting-item d declaration waits.item waits.target waits.declares) in
        let dst = lane-at waits.target q waits.of_target (awaited-item d declaration waits.item waits.target waits.declares) in
        step p q (slice_index d.group_of waits.item) (slice_index d.group_of waits.target) src dst has_p has_q (GroupWaits-items d declaration waits.item waits.target waits.declares)

    pub Deadlocks-as_other : HangsRound d other → D
    Deadlocks-as_other circle = elim (Circle-identified (RescuedWaits (wiring_of d other)) (RescuedWaits (wiring_of d new)) Becomes D one_lane other_waits circle) [
      | inr dead ↦ dead
      | inl round ↦ Deadlocks-round d new declaration compared.assignment round
    ]

-- ---- where groups are at vertices

-- a circle of vertices, of groups that need a rescuer, is one of these if groups that share a vertex share a lane
module _ (d : Declaration) (new : Workqueues) (declaration : IsDeclaration d) (assignment : IsAssignment d.groups new.assignment) (needed : List Bool) (at : List ℕ)
    (has : (g : ℕ) → g < d.groups → IsMarked needed g → IsRescued new (lane_in new g) ⊎ Deadlocks (wiring_of d new))
    (together : (g h : ℕ) → g < d.groups → h < d.groups → IsMarked needed g → IsMarked needed h → slice_index at g ≡ slice_index at h → lane_in new g ≡ lane_in new h) where
  -- a vertex, and the lane of a group at it
  record IsLaneOf (v x : ℕ) : Type 0 where
    group : ℕ
    is_group : group < d.groups
    needs : IsMarked needed group
    there : slice_index at group ≡ v
    here : lane_in new group ≡ x

  same_lane : (v x y : ℕ) → IsLaneOf v x → IsLaneOf v y → x ≡ y
  same_lane v x y b c = sym b.here ∙ together b.group c.group b.is_group c.is_group b.needs c.needs (b.there ∙ sym c.there) ∙ c.here

  vertices_wait : (v w : ℕ) → VerticesWait d needed at v w → ((x : ℕ) × (y : ℕ) × IsLaneOf v x × IsLaneOf w y × RescuedWaits (wiring_of d new) x y) ⊎ Deadlocks (wiring_of d new)
  vertices_wait v w is =
      let below = waiting-below d declaration is.group is.awaited is.waits in
      let also_below = awaited-below d declaration is.group is.awaited is.waits in
      elim (has is.group below is.needs) [
        | inr dead ↦ inr dead
        | inl rescued ↦ elim (rescued-awaited d new declaration assignment is.group is.awaited is.waits rescued) [
          | inr dead ↦ inr dead
          | inl also ↦ inl (
            lane_in new is.group,
            lane_in new is.awaited,
            record { group = is.group; is_group = below; needs = is.needs; there = is.from; here = refl },
            record { group = is.awaited; is_group = also_below; needs = is.also; there = is.to; here = refl },
            (rescued, also, LaneWaits-group_waits d new declaration assignment is.group is.awaited is.waits),
          )
        ]
      ]

  pub Deadlocks-as_vertices : Circle (VerticesWait d needed at) → Deadlocks (wiring_of d new)
  Deadlocks-as_vertices circle =
      elim (Circle-identified (VerticesWait d needed at) (RescuedWaits (wiring_of d new)) IsLaneOf (Deadlocks (wiring_of d new)) same_lane vertices_wait circle) [
        | inr dead ↦ dead
        | inl round ↦ Deadlocks-round d new declaration assignment round
      ]
