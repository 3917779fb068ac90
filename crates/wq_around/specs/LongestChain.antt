-- The printed chain of a plan around fixed workqueues, said of all chains.
use Rattle.std.specs.Prelude.{◌≡◌, ◌⊎◌, ⊤, ℕ, ◌<◌, ◌≤◌, List, [], ◌∷◌, length, filter, slice_index}
use Rattle.wq_items.specs.Readings.{is_among, unsure_places}
use Rattle.wq_groups.specs.Declaration.{Declaration}
use Rattle.wq_groups.specs.Assignment.{item_lane}
use Rattle.wq_graph.specs.declared.arc.WaitArc.{WaitArc}
use Rattle.wq_fixed.specs.Fixed.{Fixed, fixed_lanes, start}
use Rattle.wq_around.specs.Heights.{start_graph}
use Rattle.wq_around.specs.Down.{LeadsDown}

-- the arcs of a chain that begins at a new lane of the greatest height; none where no lane is new
pub record IsChainDown (d : Declaration) (f : Fixed) (heights : List ℕ) (most : ℕ) (chain : List WaitArc) : Type 0 where
  pub first : ℕ
  pub new : fixed_lanes f ≤ first
  pub highest : slice_index heights first ≡ most
  pub down : LeadsDown (start_graph d f) (fixed_lanes f) heights first chain

-- those of these arcs that are of an unsure flush
abbrev pub unsure_arcs : Declaration → List WaitArc → List WaitArc
unsure_arcs d chain = filter (λ (arc : WaitArc). is_among (unsure_places d.waits) arc.place) chain

-- the lane of the start that an arc leaves
abbrev pub tail_of : Declaration → Fixed → WaitArc → ℕ
tail_of d f arc = item_lane (start f).assignment d.group_of arc.src

-- the first chain comes no later where the two part: it begins at the lower-numbered lane, or of two arcs of one lane
-- it goes on by the one of lower place
abbrev pub ComesFirst : Declaration → Fixed → List WaitArc → List WaitArc → Type 0
ComesFirst d f [] other = ⊤
ComesFirst d f (x ∷ chain) [] = ⊤
ComesFirst d f (x ∷ chain) (y ∷ other) =
    (tail_of d f x < tail_of d f y)
    ⊎ ((tail_of d f x ≡ tail_of d f y) × ((x.place < y.place) ⊎ ((x.place ≡ y.place) × ComesFirst d f chain other)))

-- no other chain down has fewer unsure flushes; and of those that have as few this one comes first
pub record IsBestChain (d : Declaration) (f : Fixed) (heights : List ℕ) (most : ℕ) (chain : List WaitArc) : Type 0 where
  pub down : IsChainDown d f heights most chain
  pub fewest : (other : List WaitArc) → IsChainDown d f heights most other
      → length (unsure_arcs d chain) ≤ length (unsure_arcs d other)
  pub first : (other : List WaitArc) → IsChainDown d f heights most other
      → length (unsure_arcs d other) ≡ length (unsure_arcs d chain) → ComesFirst d f chain other
