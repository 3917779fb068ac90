use Rattle.std.proofs.Common.{ℕ, ◌<◌, List, length, sym, ap, subst, ◌∙◌}
use Rattle.std.specs.List.{All}
use Rattle.std.proofs.lemmas.Result.{IfOk-weaker}
use Rattle.wq_groups.specs.DeclaredGroups.{declared_waits}
use Rattle.wq_graph.specs.Graph.{HasArc}
use Rattle.wq_circles.specs.Components.{joined, kept_graph, loops}
use Rattle.wq_circles.proofs.Joined.{AreLowest-within, AreLowest-graph}
use Rattle.wq_circles.proofs.joining.components.Goals as goal

pub loops_joined-requires-clause-one_each : goal.loops_joined-requires-clause-one_each
loops_joined-requires-clause-one_each g c =
    let d = declared_waits c.args.assigned.now.declared in
    let ws = c.args.assigned.now.workqueues in
    let are = AreLowest-graph d ws.assignment ws.bare c.in_ok-graph.graph c.in_ok-lowest.lowest.items c.in_ok-graph.ensures.graph c.in_ok-lowest.ensures.lowest in
    ap (λ (l : List ℕ). length l) c.as_slice.ensures.value ∙ are.one_each

pub loops_joined-requires-clause-within : goal.loops_joined-requires-clause-within
loops_joined-requires-clause-within g c =
    let d = declared_waits c.args.assigned.now.declared in
    let ws = c.args.assigned.now.workqueues in
    let are = AreLowest-graph d ws.assignment ws.bare c.in_ok-graph.graph c.in_ok-lowest.lowest.items c.in_ok-graph.ensures.graph c.in_ok-lowest.ensures.lowest in
    subst (All (λ q. q < ws.assignment.lanes)) (sym c.as_slice.ensures.value)
    (AreLowest-within (HasArc (kept_graph d ws.assignment ws.bare)) ws.assignment.lanes c.in_ok-lowest.lowest.items are)

pub returns-clause-components : goal.returns-clause-components
returns-clause-components g c =
    let d = declared_waits c.args.assigned.now.declared in
    let ws = c.args.assigned.now.workqueues in
    let lowest = c.in_ok-lowest.lowest.items in
    let are = AreLowest-graph d ws.assignment ws.bare c.in_ok-graph.graph lowest c.in_ok-graph.ensures.graph c.in_ok-lowest.ensures.lowest in
    let graph = ap (λ (l : List ℕ). kept_graph d (joined ws.assignment l) ws.bare) c.as_slice.ensures.value in
    IfOk-weaker c.loops_joined.result _ _ (λ lists are_loops. record { lowest = lowest; are_lowest = are; are = are_loops ∙ ap loops graph }) c.loops_joined.ensures.loops
