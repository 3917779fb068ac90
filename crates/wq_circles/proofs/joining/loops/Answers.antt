use Rattle.std.proofs.Common.{sym, ◌∙◌, arith}
use Rattle.wq_circles.proofs.Joined.{map-pushed, loops_below-some, loops_below-none}
use Rattle.wq_circles.proofs.joining.loops.Goals as goal
use Rattle.wq_circles.proofs.joining.loops.Goals.{then-not-is_empty+in_ok-push, else-not-is_empty}

pub loop-vertex-preserved : goal.loop-vertex-preserved
loop-vertex-preserved g c =
    let graph = c.args.graph.now in
    let v = c.loop-vertex.vertex in
    let arcs = c.in_ok-arcs.arcs in
    elim c.if-not-is_empty.branch [
      | then-not-is_empty+in_ok-push w ↦
          rw w.lists-is
          (loops_below-some graph v arcs.len _ _ arcs.items c.loop-vertex.invariant c.in_ok-arcs.ensures (omega (arith, arcs.ok.0)) (sym w.if-not-is_empty.true ∙ c.is_empty.ensures)
          (map-pushed (λ l. l.items) c.loop-vertex.lists.items w.push.new.self.items arcs w.in_ok-push.ensures.items))
      | else-not-is_empty w ↦ rw w.lists-is (loops_below-none graph v arcs.len _ arcs.items c.loop-vertex.invariant c.in_ok-arcs.ensures (omega (arith, arcs.ok.0)) (sym w.if-not-is_empty.false ∙ c.is_empty.ensures))
    ]
