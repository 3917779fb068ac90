use Rattle.std.proofs.Common.{◌≡◌, ℕ, List, length, sym, ap, subst, ◌∙◌}
use Rattle.wq_groups.specs.DeclaredGroups.{Declared, declared_waits}
use Rattle.wq_graph.specs.declared.arc.WaitArc.{WaitArc}
use Rattle.wq_graph.specs.Graph.{IsGraph}
use Rattle.wq_levels.specs.Ranks.{AreRanks}
use Rattle.wq_core.specs.Assigned.{Assigned}
use Rattle.wq_core.specs.Workqueues.{Workqueues, wiring_of}
use Rattle.wq_core.specs.Deadlock.{IsSafe}
use Rattle.wq_deadlock.proofs.BareLanes.{IsDeclaration-assigned}
use Rattle.wq_fixed.specs.Fixed.{fixed_lanes, start as start_of}
use Rattle.wq_fixed.proofs.StartKeeps.{IsAssignmentOf-start}
use Rattle.wq_around.specs.Heights.{AreHeights, start_graph}
use Rattle.wq_around.specs.Order.{IsOrder}
use Rattle.wq_around.specs.Planned.{planned}
use Rattle.wq_around.proofs.MostNeeded.{above-of, top-of}
use Rattle.wq_around.proofs.PlanLemmas.{planned-few, planned-safe, IsPlannedAround-planned}
use Rattle.wq_around.proofs.RescuedGraphs.{rescued-length, rescued-sound}
use Rattle.wq_around.proofs.planning.plan_by_ranks.Goals as goal

pub heights-requires-clause-graph : goal.heights-requires-clause-graph
heights-requires-clause-graph g c =
    let s = c.args.start.now in
    let d = declared_waits s.declared in
    let f = c.args.fixed.now in
    let declaration = IsDeclaration-assigned s c.workqueues-started.ensures.assigned in
    subst IsGraph (sym c.requires.graph)
    (rescued-sound d (start_of f) declaration (IsAssignmentOf-start d.groups f c.requires.fixed))

pub place-requires-clause-one_each : goal.place-requires-clause-one_each
place-requires-clause-one_each g c =
    let s = c.args.start.now in
    let d = declared_waits s.declared in
    let f = c.args.fixed.now in
    let declaration = IsDeclaration-assigned s c.workqueues-started.ensures.assigned in
    ap (λ (l : List ℕ). length l) c.as_slice-2.ensures.value
    ∙ c.in_ok-heights.ensures.heights.one_each
    ∙ ap (λ (l : List (List WaitArc)). length l) c.requires.graph
    ∙ rescued-length d (start_of f) declaration (IsAssignmentOf-start d.groups f c.requires.fixed)

pub place-requires-clause-lanes : goal.place-requires-clause-lanes
place-requires-clause-lanes g c =
    let s = c.args.start.now in
    let d = declared_waits s.declared in
    let f = c.args.fixed.now in
    let heights : List ℕ = c.in_ok-heights.heights.items in
    let most : ℕ = c.most_needed-most.result in
    let ranked : AreRanks (start_graph d f) c.args.ranks.now =
    subst (λ (l : List (List WaitArc)). AreRanks l c.args.ranks.now) c.requires.graph c.requires.ranks in
    let are : AreHeights (start_graph d f) f heights =
    subst (λ (l : List (List WaitArc)). AreHeights l f heights) c.requires.graph c.in_ok-heights.ensures.heights in
    planned-few d f (IsDeclaration-assigned s c.workqueues-started.ensures.assigned) c.requires.fixed c.requires.none
    c.args.ranks.now ranked heights are most
    (above-of c.lanes-new.result (fixed_lanes f) most c.as_slice.result.now heights c.lanes-new.ensures.lanes
    c.as_slice.ensures.value c.most_needed-most.ensures.above)
    (top-of c.lanes-new.result (fixed_lanes f) most c.as_slice.result.now heights c.lanes-new.ensures.lanes
    c.as_slice.ensures.value c.most_needed-most.ensures.some)

pub order_of-requires : goal.order_of-requires
order_of-requires g c =
    let s = c.args.start.now in
    let d = declared_waits s.declared in
    let f = c.args.fixed.now in
    let heights : List ℕ = c.in_ok-heights.heights.items in
    let most : ℕ = c.most_needed-most.result in
    let ranked : AreRanks (start_graph d f) c.args.ranks.now =
    subst (λ (l : List (List WaitArc)). AreRanks l c.args.ranks.now) c.requires.graph c.requires.ranks in
    let are : AreHeights (start_graph d f) f heights =
    subst (λ (l : List (List WaitArc)). AreHeights l f heights) c.requires.graph c.in_ok-heights.ensures.heights in
    let safe : IsSafe (wiring_of d (planned f heights most)) =
    planned-safe d f (IsDeclaration-assigned s c.workqueues-started.ensures.assigned) c.requires.fixed c.requires.none
    c.args.ranks.now ranked heights are most
    (above-of c.lanes-new.result (fixed_lanes f) most c.as_slice.result.now heights c.lanes-new.ensures.lanes
    c.as_slice.ensures.value c.most_needed-most.ensures.above)
    (top-of c.lanes-new.result (fixed_lanes f) most c.as_slice.result.now heights c.lanes-new.ensures.lanes
    c.as_slice.ensures.value c.most_needed-most.ensures.some) in
    let same : c.in_ok-workqueues.workqueues ≡ planned f heights most =
    c.in_ok-workqueues.ensures.plan ∙ ap (λ (l : List ℕ). planned f l most) c.as_slice-2.ensures.value in
    let declared : c.start.inside.declared.now ≡ s.declared = ap (λ (a : Assigned). a.declared) c.start.view_is in
    let here : IsSafe (wiring_of (declared_waits c.start.inside.declared.now) c.in_ok-workqueues.workqueues) =
    subst (λ (p : Declared). IsSafe (wiring_of (declared_waits p) c.in_ok-workqueues.workqueues)) (sym declared)
    (subst (λ (ws : Workqueues). IsSafe (wiring_of d ws)) (sym same) safe) in
    subst (λ (a : Assigned). IsSafe (wiring_of (declared_waits a.declared) a.workqueues)) (sym c.new.ensures) here

pub returns : goal.returns
returns g c =
    let s = c.args.start.now in
    let d = declared_waits s.declared in
    let f = c.args.fixed.now in
    let heights : List ℕ = c.in_ok-heights.heights.items in
    let most : ℕ = c.most_needed-most.result in
    let ranked : AreRanks (start_graph d f) c.args.ranks.now =
    subst (λ (l : List (List WaitArc)). AreRanks l c.args.ranks.now) c.requires.graph c.requires.ranks in
    let are : AreHeights (start_graph d f) f heights =
    subst (λ (l : List (List WaitArc)). AreHeights l f heights) c.requires.graph c.in_ok-heights.ensures.heights in
    let same : c.in_ok-workqueues.workqueues ≡ planned f heights most =
    c.in_ok-workqueues.ensures.plan ∙ ap (λ (l : List ℕ). planned f l most) c.as_slice-2.ensures.value in
    let declared : c.start.inside.declared.now ≡ s.declared = ap (λ (a : Assigned). a.declared) c.start.view_is in
    let here : IsOrder (declared_waits c.start.inside.declared.now) c.in_ok-workqueues.workqueues
    c.in_ok-order.order.items =
    subst (λ (a : Assigned). IsOrder (declared_waits a.declared) a.workqueues c.in_ok-order.order.items) c.new.ensures
    c.in_ok-order.ensures.order in
    let order : IsOrder d c.in_ok-workqueues.workqueues c.in_ok-order.order.items =
    subst (λ (p : Declared). IsOrder (declared_waits p) c.in_ok-workqueues.workqueues c.in_ok-order.order.items)
    declared here in
    record {
      answer =
          IsPlannedAround-planned d f (IsDeclaration-assigned s c.workqueues-started.ensures.assigned) c.requires.fixed
          c.requires.none c.args.ranks.now ranked heights are most
          (above-of c.lanes-new.result (fixed_lanes f) most c.as_slice.result.now heights c.lanes-new.ensures.lanes
          c.as_slice.ensures.value c.most_needed-most.ensures.above)
          (top-of c.lanes-new.result (fixed_lanes f) most c.as_slice.result.now heights c.lanes-new.ensures.lanes
          c.as_slice.ensures.value c.most_needed-most.ensures.some)
          c.in_ok-workqueues.workqueues c.in_ok-order.order.items c.in_ok-chain.chain.items same order
          c.in_ok-chain.ensures;
    }
