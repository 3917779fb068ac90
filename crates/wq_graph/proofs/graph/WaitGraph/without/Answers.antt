use Rattle.std.proofs.Common.{List, length, sym, ap, subst, arith}
use Rattle.std.specs.Prelude.{flat_map}
use Rattle.wq_graph.specs.declared.arc.WaitArc.{WaitArc}
use Rattle.wq_graph.specs.Graph.{IsGraph}
use Rattle.wq_graph.proofs.LeavingOut.{IsGraph-without, few-without}
use Rattle.wq_graph.proofs.graph.WaitGraph.without.Goals as goal

pub invariant_of-result : goal.invariant_of-result
invariant_of-result g c =
    let kept = c.in_ok-arcs.ensures in
    let out = c.args.left_out.now in
    let joined = λ (graph : List (List WaitArc)). length (flat_map (λ (l : List WaitArc). l) graph) in (
      subst IsGraph (sym kept.arcs) (IsGraph-without out c.args.self kept.graph),
      omega (arith, ap joined kept.arcs, few-without out c.args.self, ap joined c.self.view_is, c.self.invariant.1),
    )
