use Rattle.std.proofs.Common.{◌≡◌, ℕ, List, length, sym, ap, subst, ◌∙◌, arith}
use Rattle.std.specs.Prelude.{slice_index}
use Rattle.wq_items.specs.Chain.{Circle}
use Rattle.wq_groups.specs.Declaration.{IsDeclaration}
use Rattle.wq_groups.specs.DeclaredGroups.{declared_waits}
use Rattle.wq_groups.specs.Assignment.{Assignment, IsAssignment, group_lane}
use Rattle.wq_groups.specs.Partition.{Partition}
use Rattle.wq_graph.specs.declared.arc.WaitArc.{WaitArc}
use Rattle.wq_graph.specs.Graph.{HasArc}
use Rattle.wq_levels.specs.Ranks.{AreRanks}
use Rattle.wq_levels.proofs.OneCircle.{HasCircle-walked}
use Rattle.wq_core.specs.Workqueues.{Workqueues}
use Rattle.wq_deadlock.specs.Judging.{rescued_graph}
use Rattle.wq_repair.proofs.Judged.{length-rescued_graph}
use Rattle.wq_repair.proofs.plain.ranks_by_group.Goals as goal

pub ranks_of_groups-requires-clause-groups : goal.ranks_of_groups-requires-clause-groups
ranks_of_groups-requires-clause-groups g c =
    ap (λ (x : Assignment). length x.lane_of_group) c.assignment.ensures
    ∙ c.workqueues_of-workqueues.ensures.assignment.assignment.one_each
    ∙ sym (c.len-groups.ensures.len ∙ ap (λ (p : Partition). p.groups) c.groups.ensures.is)

pub ranks_of_groups-requires-clause-one_each : goal.ranks_of_groups-requires-clause-one_each
ranks_of_groups-requires-clause-one_each g c =
    let a = c.args.assigned.now in
    let d = declared_waits a.declared in
    let ws = a.workqueues in
    let declaration : IsDeclaration d = c.workqueues_of-workqueues.ensures.declaration in
    let assignment : IsAssignment d.groups ws.assignment =
    subst (λ (x : Workqueues). IsAssignment d.groups x.assignment) c.workqueues_of-workqueues.ensures.is
    c.workqueues_of-workqueues.ensures.assignment.assignment in
    let ranking = rw c.in-Ranks.is at c.in_ok-ranks.ensures.ranking in
    let are : AreRanks (rescued_graph d ws) c.in-Ranks.ranks.items =
    subst (λ (graph : List (List WaitArc)). AreRanks graph c.in-Ranks.ranks.items) c.in_ok-graph.ensures.graph
    ranking.0 in
    ap length c.as_slice.ensures.value ∙ are.one_each ∙ length-rescued_graph d ws declaration assignment
    ∙ sym (ap (λ (x : Assignment). x.lanes) c.assignment.ensures
    ∙ ap (λ (x : Workqueues). x.assignment.lanes) c.workqueues_of-workqueues.ensures.is)

pub returns-in-Ranks : goal.returns-in-Ranks
returns-in-Ranks g c =
    let a = c.args.assigned.now in
    let d = declared_waits a.declared in
    let ws = a.workqueues in
    let declaration : IsDeclaration d = c.workqueues_of-workqueues.ensures.declaration in
    let assignment : IsAssignment d.groups ws.assignment =
    subst (λ (x : Workqueues). IsAssignment d.groups x.assignment) c.workqueues_of-workqueues.ensures.is
    c.workqueues_of-workqueues.ensures.assignment.assignment in
    let ranking = rw c.in-Ranks.is at c.in_ok-ranks.ensures.ranking in
    let are : AreRanks (rescued_graph d ws) c.in-Ranks.ranks.items =
    subst (λ (graph : List (List WaitArc)). AreRanks graph c.in-Ranks.ranks.items) c.in_ok-graph.ensures.graph
    ranking.0 in
    let number : c.len-groups.result ≡ d.groups = c.len-groups.ensures.len
    ∙ ap (λ (p : Partition). p.groups) c.groups.ensures.is in
    let lanes : c.assignment.result.now ≡ ws.assignment = c.assignment.ensures
    ∙ ap (λ (x : Workqueues). x.assignment) c.workqueues_of-workqueues.ensures.is in
    record {
      of_lanes = c.in-Ranks.ranks.items;
      are = are;
      one_each = c.in_ok-of_groups-in-Ranks.ensures.one_each ∙ number;
      exactly = λ v lt.
          c.in_ok-of_groups-in-Ranks.ensures.ranks v (omega (arith, lt, number))
          ∙ ap (λ (xs : List ℕ). slice_index xs (slice_index c.assignment.result.now.lane_of_group v))
          c.as_slice.ensures.value
          ∙ ap (λ (x : Assignment). slice_index c.in-Ranks.ranks.items (group_lane x v)) lanes;
    }

pub returns : goal.returns
returns g c =
    let has = HasCircle-walked c.in_ok-graph.graph c.vertices-vertices.ensures.graph c.in-Circle.field-0.items
    (rw c.in-Circle.is at c.in_ok-ranks.ensures.ranking) in
    subst (λ (graph : List (List WaitArc)). Circle (HasArc graph)) c.in_ok-graph.ensures.graph has.0
