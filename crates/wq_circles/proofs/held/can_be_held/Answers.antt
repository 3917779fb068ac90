use Rattle.std.proofs.Common.{◌≡◌, ◌<◌, ◌++◌, ℕ, List, length, map, flat_map, take, sym, ap, subst, ◌∙◌, arith}
use Rattle.std.specs.List.{All}
use Rattle.std.proofs.lemmas.List.{map-append, take_all}
use Rattle.wq_groups.specs.DeclaredGroups.{declared_waits}
use Rattle.wq_groups.specs.Assignment.{item_lane}
use Rattle.wq_graph.specs.declared.arc.WaitArc.{WaitArc}
use Rattle.wq_deadlock.proofs.BareLanes.{IsDeclaration-assigned}
use Rattle.wq_circles.specs.Held.{FindsAll, beginnings}
use Rattle.wq_circles.proofs.HeldCounts.{component-begins, tails-count, tails-within, waits-begin}
use Rattle.wq_circles.proofs.HeldLists.{flat-next}
use Rattle.wq_circles.proofs.HeldMarks.{AreMarksOf-held}
use Rattle.wq_circles.proofs.HeldSearch.{FindsAll-begun, FindsAll-then, marks-count, none_found}
use Rattle.wq_circles.proofs.OfAssigned.{waits_between_items}
use Rattle.wq_circles.proofs.held.can_be_held.Goals as goal

pub loop-arcs-init : goal.loop-arcs-init
loop-arcs-init g c =
    FindsAll-begun (map (λ l. l.items) c.args.tails.now) (length c.args.tails.now) c.in_ok-found.found
    c.in_ok-found.ensures.marks c.in_ok-found.ensures.order

pub find_beginnings-requires-clause-one_each : goal.find_beginnings-requires-clause-one_each
find_beginnings-requires-clause-one_each g c =
    marks-count (map (λ l. l.items) c.args.tails.now) (length c.args.tails.now) _ c.loop-arcs.found
    c.loop-arcs.invariant

pub find_beginnings-requires-clause-found : goal.find_beginnings-requires-clause-found
find_beginnings-requires-clause-found g c = c.loop-arcs.invariant.found

pub find_beginnings-requires-clause-closed : goal.find_beginnings-requires-clause-closed
find_beginnings-requires-clause-closed g c = c.loop-arcs.invariant.closed

pub find_beginnings-requires-clause-lanes : goal.find_beginnings-requires-clause-lanes
find_beginnings-requires-clause-lanes g c =
    tails-count c.args.assigned.now c.table-table.ensures.assigned c.args.tails.now c.requires.tails

pub find_beginnings-requires-clause-within : goal.find_beginnings-requires-clause-within
find_beginnings-requires-clause-within g c =
    tails-within c.args.assigned.now c.table-table.ensures.assigned c.args.tails.now c.requires.tails

pub find_beginnings-requires-clause-items : goal.find_beginnings-requires-clause-items
find_beginnings-requires-clause-items g c =
    let a = c.args.assigned.now in
    let n = length a.declared.partition.group_of in
    subst (All (λ (b : WaitArc). b.src < n)) (sym c.deref.ensures.value)
    (component-begins a c.table-table.ensures.assigned c.args.components.now c.requires.components
    c.loop-arcs.arcs-index c.arcs-item.result c.loop-arcs-test.true c.arcs-item.is)

pub loop-arcs-preserved : goal.loop-arcs-preserved
loop-arcs-preserved g c =
    let shown : List (List ℕ) = map (λ l. l.items) c.args.tails.now in
    let d = declared_waits c.args.assigned.now.declared in
    let ws = c.args.assigned.now.workqueues in
    let lane : WaitArc → ℕ = λ (b : WaitArc). item_lane ws.assignment d.group_of b.src in
    let components = c.args.components.now in
    let k : ℕ = c.loop-arcs.arcs-index in
    let s = none_found (length c.args.tails.now) in
    let before : List WaitArc = flat_map (λ m. m) (map (λ v. v.items) (take k components)) in
    let arcs : List WaitArc = c.deref.result.now in
    let both : FindsAll shown s (beginnings d ws before ++ beginnings d ws arcs) c.find_beginnings.new.found =
    FindsAll-then shown s (beginnings d ws before) c.loop-arcs.found (beginnings d ws arcs) c.find_beginnings.new.found
    c.loop-arcs.invariant c.in_ok-find_beginnings.ensures in
    subst (λ (vs : List ℕ). FindsAll shown s vs c.find_beginnings.new.found)
    (sym (map-append lane before arcs)
    ∙ ap (λ (l : List WaitArc). map lane (before ++ l)) c.deref.ensures.value
    ∙ ap (map lane)
    (sym (flat-next (λ v. v.items) components k c.arcs-item.result c.loop-arcs-test.true c.arcs-item.is))) both

pub find_beginnings-requires-2-clause-one_each : goal.find_beginnings-requires-2-clause-one_each
find_beginnings-requires-2-clause-one_each g c =
    marks-count (map (λ l. l.items) c.args.tails.now) (length c.args.tails.now) _ c.loop-arcs.found
    c.loop-arcs.invariant

pub find_beginnings-requires-2-clause-found : goal.find_beginnings-requires-2-clause-found
find_beginnings-requires-2-clause-found g c = c.loop-arcs.invariant.found

pub find_beginnings-requires-2-clause-closed : goal.find_beginnings-requires-2-clause-closed
find_beginnings-requires-2-clause-closed g c = c.loop-arcs.invariant.closed

pub find_beginnings-requires-2-clause-lanes : goal.find_beginnings-requires-2-clause-lanes
find_beginnings-requires-2-clause-lanes g c =
    tails-count c.args.assigned.now c.table-table.ensures.assigned c.args.tails.now c.requires.tails

pub find_beginnings-requires-2-clause-within : goal.find_beginnings-requires-2-clause-within
find_beginnings-requires-2-clause-within g c =
    tails-within c.args.assigned.now c.table-table.ensures.assigned c.args.tails.now c.requires.tails

pub find_beginnings-requires-2-clause-items : goal.find_beginnings-requires-2-clause-items
find_beginnings-requires-2-clause-items g c =
    let a = c.args.assigned.now in
    let is = c.table-table.ensures.assigned in
    let n = length a.declared.partition.group_of in
    subst (All (λ (b : WaitArc). b.src < n)) (sym c.requires.waits)
    (waits-begin a is _ (waits_between_items a is))

pub returns : goal.returns
returns g c =
    let a = c.args.assigned.now in
    let is = c.table-table.ensures.assigned in
    let d = declared_waits a.declared in
    let ws = a.workqueues in
    let shown : List (List ℕ) = map (λ l. l.items) c.args.tails.now in
    let components = c.args.components.now in
    let lists : List (List WaitArc) = map (λ v. v.items) components in
    let n = length c.args.tails.now in
    let s = none_found n in
    let t = c.find_beginnings-2.new.found in
    let all : take c.loop-arcs.arcs-index components ≡ components =
    take_all c.loop-arcs.arcs-index components (omega (arith, c.loop-arcs-test.false)) in
    let first : FindsAll shown s (beginnings d ws (flat_map (λ m. m) lists)) c.loop-arcs.found =
    subst (λ l. FindsAll shown s (beginnings d ws (flat_map (λ m. m) (map (λ v. v.items) l))) c.loop-arcs.found) all
    c.loop-arcs.invariant in
    let both = FindsAll-then shown s (beginnings d ws (flat_map (λ m. m) lists)) c.loop-arcs.found
    (beginnings d ws c.args.waits.now) t first c.in_ok-find_beginnings-2.ensures in
    AreMarksOf-held d ws (IsDeclaration-assigned a is) is.assignment.assignment is.assignment.few lists
    c.requires.components shown c.requires.tails n t (tails-count a is c.args.tails.now c.requires.tails)
    (subst (λ (l : List WaitArc). FindsAll shown s (beginnings d ws (flat_map (λ m. m) lists) ++ beginnings d ws l) t)
    c.requires.waits both)
