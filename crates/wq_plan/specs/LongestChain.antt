-- The printed chain, by comparison with all chains.
use Rattle.std.specs.Prelude.{◌≡◌, ◌+◌, ◌-◌, ◌<◌, ◌≤◌, ◌⊎◌, ⊤, List, [], ◌∷◌, length, filter, slice_index, slice_get}
use Rattle.std.specs.Prelude.{IfSome}
use Rattle.std.specs.List.{All, AllAdjacentBelow}
use Rattle.wq_groups.specs.Declaration.{Declaration}
use Rattle.wq_groups.specs.Assignment.{Assignment, item_lane}
use Rattle.wq_items.specs.Readings.{is_among, unsure_places}
use Rattle.wq_graph.specs.declared.arc.WaitArc.{WaitArc}
use Rattle.wq_graph.specs.Graph.{IsArc}

-- a declared flush of an item one lane below
pub record IsStepDown (d : Declaration) (a : Assignment) (arc : WaitArc) : Type 0 where
  pub declared : IsArc d.waits d.group_of arc
  pub falls : item_lane a d.group_of arc.dst + 1 ≡ item_lane a d.group_of arc.src

-- one arc fewer than there are lanes, and none if there is no lane; each leaves the group that the one before it led
-- to; the first leaves a group on the last lane
pub record IsChainDown (d : Declaration) (a : Assignment) (chain : List WaitArc) : Type 0 where
  pub count : length chain ≡ a.lanes - 1
  pub arcs : All (IsStepDown d a) chain
  pub joined : AllAdjacentBelow (λ (x y : WaitArc). slice_index d.group_of x.dst
      ≡ slice_index d.group_of y.src) chain (length chain)
  pub begins : IfSome (slice_get chain 0) (λ (arc : WaitArc). item_lane a d.group_of arc.src + 1 ≡ a.lanes)

-- those of these arcs whose flush is unsure
abbrev pub unsure_arcs : Declaration → List WaitArc → List WaitArc
unsure_arcs d chain = filter (λ (arc : WaitArc). is_among (unsure_places d.waits) arc.place) chain

-- where the two chains part, the first one has precedence: it begins at the lower-numbered group, or goes on from the
-- same group by the arc of lower place
abbrev pub ComesFirst : Declaration → List WaitArc → List WaitArc → Type 0
ComesFirst d [] other = ⊤
ComesFirst d (x ∷ chain) [] = ⊤
ComesFirst d (x ∷ chain) (y ∷ other) =
    (slice_index d.group_of x.src < slice_index d.group_of y.src)
    ⊎ ((slice_index d.group_of x.src ≡ slice_index d.group_of y.src)
    × ((x.place < y.place) ⊎ ((x.place ≡ y.place) × ComesFirst d chain other)))

-- no other chain down has fewer unsure flushes; and of those with as few, this one comes first
pub record IsLongestChain (d : Declaration) (a : Assignment) (chain : List WaitArc) : Type 0 where
  pub down : IsChainDown d a chain
  pub fewest : (other : List WaitArc) → IsChainDown d a other
      → length (unsure_arcs d chain) ≤ length (unsure_arcs d other)
  pub first : (other : List WaitArc) → IsChainDown d a other
      → length (unsure_arcs d other) ≡ length (unsure_arcs d chain) → ComesFirst d chain other
