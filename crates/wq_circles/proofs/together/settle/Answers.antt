use Rattle.std.proofs.Common.{arith}
use Rattle.wq_circles.proofs.Settled.{IsSettling-none, IsSettling-more, AreSettled-all}
use Rattle.wq_circles.proofs.together.settle.Goals as goal

pub loop-vertex-init : goal.loop-vertex-init
loop-vertex-init c = IsSettling-none c.args.vertices.now c.args.lowest.now c.in-Some.least

pub loop-vertex-preserved : goal.loop-vertex-preserved
loop-vertex-preserved c =
    let xs = c.args.vertices.now in
    let i = c.loop-vertex.vertex-index in
    IsSettling-more xs c.args.lowest.now c.loop-vertex.lowest c.in-Some.least i c.from.result c.loop-vertex.invariant c.loop-vertex-test.true c.from.ensures
    (omega (arith, c.from.ensures, c.requires i 0 c.loop-vertex-test.true))

pub returns-after-loop-vertex : goal.returns-after-loop-vertex
returns-after-loop-vertex c =
    AreSettled-all c.args.vertices.now c.args.lowest.now c.loop-vertex.lowest c.in-Some.least c.loop-vertex.vertex-index c.loop-vertex.invariant
    (omega (arith, c.loop-vertex-test.false)) c.in-Some.ensures
