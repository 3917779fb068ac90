use Rattle.std.proofs.Common.{length, take, ap, arith}
use Rattle.wq_circles.proofs.Searched.{marks-with_all_found}
use Rattle.wq_circles.specs.Searching.{Search}
use Rattle.wq_circles.proofs.progress.FoundVertices.note_all.Goals as goal

pub note-requires : goal.note-requires
note-requires g c =
    omega (
      arith,
      c.requires c.loop-vertex.vertex-index 0 c.loop-vertex-test.true,
      ap (λ (s : Search). length s.marks) c.loop-vertex.invariant,
      marks-with_all_found (take c.loop-vertex.vertex-index c.args.vertices.now) c.args.self.now,
    )
