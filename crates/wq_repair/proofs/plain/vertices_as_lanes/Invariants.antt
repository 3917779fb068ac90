use Rattle.std.proofs.Common.{◌≡◌, take}
use Rattle.wq_repair.proofs.plain.vertices_as_lanes.Given as goal

-- the vertices of the groups so far
abbrev pub invariant-loop-vertex : goal.invariant-loop-vertex
invariant-loop-vertex g l = l.of_group.items ≡ take l.vertex-index l.vertices
