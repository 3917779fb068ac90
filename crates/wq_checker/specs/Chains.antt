-- Chains and circles of arcs. An arc is an item and the target of its flush; arcs join by group.
use Rattle.std.specs.Prelude.{◌≡◌, ℕ, ◌+◌, ◌-◌, ◌<◌, ◌==◌, if◌then◌else◌, List, ◌∷◌, length, map, slice_index}
use Rattle.std.specs.Prelude.{slice_get, Option, Some, None}
use Rattle.std.specs.List.{All}
use Rattle.wq_items.specs.Chain.{IsChain, Circle}
use Rattle.wq_items.specs.Table.{ItemWaits}
use Rattle.wq_groups.specs.Declaration.{Declaration, GroupWaits}
use Rattle.wq_groups.specs.Partition.{ShareGroup}

-- the arc is a declared flush, and its item is in the group of the target of the arc before it, if there is one
abbrev pub Joins : Declaration → Option (ℕ × ℕ) → ℕ × ℕ → Type 0
Joins d None arc = ItemWaits d.waits arc.0 arc.1
Joins d (Some before) arc = ItemWaits d.waits arc.0 arc.1 × ShareGroup d.group_of before.1 arc.0

-- what comes before the arc at place k, given what comes before the first
abbrev pub before_from : Option (ℕ × ℕ) → List (ℕ × ℕ) → ℕ → Option (ℕ × ℕ)
before_from first arcs k = if k == 0 then first else slice_get arcs (k - 1)

-- what comes before an arc of a chain: nothing before the first
abbrev pub before_in_chain : List (ℕ × ℕ) → ℕ → Option (ℕ × ℕ)
before_in_chain arcs = before_from None arcs

-- what comes before an arc of a circle: the last one before the first
abbrev pub before_in_circle : List (ℕ × ℕ) → ℕ → Option (ℕ × ℕ)
before_in_circle arcs = before_from (slice_get arcs (length arcs - 1)) arcs

-- each arc joins the one before it
abbrev pub AllJoin : Declaration → (ℕ → Option (ℕ × ℕ)) → List (ℕ × ℕ) → Type 0
AllJoin d before arcs = (k : ℕ) (arc : ℕ × ℕ) → slice_get arcs k ≡ Some arc → Joins d (before k) arc

-- arc `at`, counted from 1, is the first that doesn't join the one before it
pub record IsFirstBreak (d : Declaration) (before : ℕ → Option (ℕ × ℕ)) (arcs : List (ℕ × ℕ)) (at : ℕ) : Type 0 where
  pub from_one : 0 < at
  pub arc : ℕ × ℕ
  pub stands : slice_get arcs (at - 1) ≡ Some arc
  pub breaks : ¬ Joins d (before (at - 1)) arc
  pub first : (k : ℕ) (other : ℕ × ℕ) → k < at - 1 → slice_get arcs k ≡ Some other → Joins d (before k) other

-- ---- in terms of groups

-- these groups are a chain along the arcs: each waits for the next; there is one arc
-- fewer than there are groups, or none if there is no group; and each arc is a
-- declared flush, with its item in its group and its target in the next group
pub record IsChainAlong (d : Declaration) (arcs : List (ℕ × ℕ)) (groups : List ℕ) : Type 0 where
  pub chain : IsChain (GroupWaits d) groups
  pub within : All (λ g. g < d.groups) groups
  pub count : length arcs ≡ length groups - 1
  pub along : (k : ℕ) (arc : ℕ × ℕ) → slice_get arcs k ≡ Some arc
      → ItemWaits d.waits arc.0 arc.1
      × (slice_get groups k ≡ Some (slice_index d.group_of arc.0))
      × (slice_get groups (k + 1) ≡ Some (slice_index d.group_of arc.1))

-- the groups of the targets of the arcs
abbrev pub heads : Declaration → List (ℕ × ℕ) → List ℕ
heads d arcs = map (λ (arc : ℕ × ℕ). slice_index d.group_of arc.1) arcs

-- groups wait for one another in a circle along the arcs: each arc is a declared flush, whose item is in the group that
-- the arc before it leads to; and of the groups that the arcs lead to, one for each arc, each waits for the next, and
-- the last for the first
pub record IsCircleAlong (d : Declaration) (arcs : List (ℕ × ℕ)) : Type 0 where
  pub joined : AllJoin d (before_in_circle arcs) arcs
  pub circle : Circle (GroupWaits d)
  pub within : All (λ g. g < d.groups) (circle.first ∷ circle.others)
  pub along : circle.first ∷ circle.others ≡ heads d arcs
