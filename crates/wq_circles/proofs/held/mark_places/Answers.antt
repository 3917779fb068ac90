use Rattle.std.proofs.Common.{ℕ, List, ◌∷◌, [], map, take, sym, subst}
use Rattle.wq_graph.specs.declared.arc.WaitArc.{WaitArc}
use Rattle.wq_circles.specs.Held.{HasMarked}
use Rattle.wq_circles.proofs.HeldLists.{HasMarked-none, HasMarked-then, map-next}
use Rattle.wq_circles.proofs.held.mark_places.Goals as goal

pub loop-arc-init : goal.loop-arc-init
loop-arc-init c = HasMarked-none c.args.marks.now

pub loop-arc-preserved : goal.loop-arc-preserved
loop-arc-preserved c =
    let place : WaitArc → ℕ = λ (b : WaitArc). b.place in
    let arcs = c.args.arcs.now in
    let k : ℕ = c.loop-arc.arc-index in
    let a : WaitArc = c.arc-item.result in
    subst (λ (ps : List ℕ). HasMarked ps c.args.marks.now c.mark_place.new.marks)
    (sym (map-next place arcs k a c.loop-arc-test.true c.arc-item.is))
    (HasMarked-then (map place (take k arcs)) (a.place ∷ []) c.args.marks.now c.loop-arc.marks c.mark_place.new.marks
    c.loop-arc.invariant c.mark_place.ensures)
