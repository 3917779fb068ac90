-- What holds for the printed circle, in terms of the groups on it.
use Rattle.std.specs.Prelude.{◌≡◌, ◌≢◌, ℕ, ◌-◌, List, length, map, slice_index, slice_get, Some, AllPairs}
use Rattle.std.specs.List.{All, AllAdjacentBelow}
use Rattle.wq_groups.specs.Declaration.{Declaration}
use Rattle.wq_graph.specs.declared.arc.WaitArc.{WaitArc}
use Rattle.wq_graph.specs.Graph.{IsArc}

-- the group that an arc leaves
abbrev pub tail_of : Declaration → WaitArc → ℕ
tail_of d arc = slice_index d.group_of arc.src

-- declared flushes, at least one; each leaves the group that the one before it led to, and the first leaves the group
-- that the last one leads to; no group is left twice
pub record IsCircleOfGroups (d : Declaration) (circle : List WaitArc) : Type 0 where
  pub declared : All (IsArc d.waits d.group_of) circle
  pub joined : AllAdjacentBelow (λ (x y : WaitArc). slice_index d.group_of x.dst ≡ tail_of d y) circle (length circle)
  pub first : WaitArc
  pub begins : slice_get circle 0 ≡ Some first
  pub ends : WaitArc
  pub last : slice_get circle (length circle - 1) ≡ Some ends
  pub closes : slice_index d.group_of ends.dst ≡ tail_of d first
  pub once : AllPairs (λ (g h : ℕ). g ≢ h) (map (tail_of d) circle)
