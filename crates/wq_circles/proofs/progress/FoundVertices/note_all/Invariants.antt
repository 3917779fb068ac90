use Rattle.std.proofs.Common.{◌≡◌, take}
use Rattle.wq_circles.specs.Searching.{with_all_found}
use Rattle.wq_circles.proofs.progress.FoundVertices.note_all.Given as goal

abbrev pub invariant-loop-vertex : goal.invariant-loop-vertex
invariant-loop-vertex g l = l.self ≡ with_all_found l.initial.self (take l.vertex-index l.vertices)
