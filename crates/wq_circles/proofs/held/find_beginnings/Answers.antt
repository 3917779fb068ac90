use Rattle.std.proofs.Common.{◌<◌, ◌++◌, ◌∷◌, [], ℕ, List, length, map, take, sym, ap, subst, ◌∙◌, arith}
use Rattle.wq_groups.specs.DeclaredGroups.{declared_waits}
use Rattle.wq_graph.specs.declared.arc.WaitArc.{WaitArc}
use Rattle.wq_circles.specs.Held.{FindsAll, beginnings}
use Rattle.wq_circles.proofs.HeldLists.{beginnings-next, lane-within}
use Rattle.wq_circles.proofs.HeldSearch.{FindsAll-none, FindsAll-then}
use Rattle.wq_circles.proofs.held.find_beginnings.Goals as goal

pub loop-arc-init : goal.loop-arc-init
loop-arc-init g c =
    FindsAll-none (map (λ l. l.items) c.args.lists.now) c.args.found.now c.requires.found c.requires.closed

pub find-requires-clause-one_each : goal.find-requires-clause-one_each
find-requires-clause-one_each g c = c.loop-arc.invariant.marks ∙ c.requires.one_each

pub find-requires-clause-found : goal.find-requires-clause-found
find-requires-clause-found g c = c.loop-arc.invariant.found

pub find-requires-clause-closed : goal.find-requires-clause-closed
find-requires-clause-closed g c = c.loop-arc.invariant.closed

pub find-requires-clause-vertex : goal.find-requires-clause-vertex
find-requires-clause-vertex g c =
    let a : WaitArc = c.arc-item.result in
    let n = length c.args.assigned.now.declared.partition.group_of in
    let item : a.src < n = subst (λ (x : WaitArc). x.src < n) (sym c.arc-item.is)
    (c.requires.items c.loop-arc.arc-index a c.loop-arc-test.true) in
    omega (
      arith,
      c.lane_of.ensures.lane,
      lane-within c.args.assigned.now c.lane_of.ensures.assigned a.src item,
      c.requires.lanes,
    )

pub loop-arc-preserved : goal.loop-arc-preserved
loop-arc-preserved g c =
    let shown : List (List ℕ) = map (λ l. l.items) c.args.lists.now in
    let d = declared_waits c.args.assigned.now.declared in
    let ws = c.args.assigned.now.workqueues in
    let arcs = c.args.arcs.now in
    let k : ℕ = c.loop-arc.arc-index in
    let a : WaitArc = c.arc-item.result in
    let s = c.args.found.now in
    let both : FindsAll shown s (beginnings d ws (take k arcs) ++ (c.lane_of.result ∷ [])) c.find.new.found =
    FindsAll-then shown s (beginnings d ws (take k arcs)) c.loop-arc.found (c.lane_of.result ∷ []) c.find.new.found
    c.loop-arc.invariant c.in_ok-find.ensures in
    subst (λ (vs : List ℕ). FindsAll shown s vs c.find.new.found)
    (ap (λ (q : ℕ). beginnings d ws (take k arcs) ++ (q ∷ [])) c.lane_of.ensures.lane
    ∙ sym (beginnings-next d ws arcs k a c.loop-arc-test.true c.arc-item.is)) both
