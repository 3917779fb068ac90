use Rattle.std.proofs.Common.{◌≡◌, ◌+◌, ◌++◌, ℕ, Bool, List, false, map, flat_map, replicate, take, sym, ap, subst}
use Rattle.std.proofs.Common.{◌∙◌, arith, rules}
use Rattle.std.proofs.lemmas.List.{map-append, take_all, with_items_is}
use Rattle.wq_graph.specs.declared.arc.WaitArc.{WaitArc}
use Rattle.wq_circles.specs.Held.{HasMarked, places_of}
use Rattle.wq_circles.proofs.HeldLists.{ArePlacesMarked-all, HasMarked-none, HasMarked-then, flat-next}
use Rattle.wq_circles.proofs.held.in_components.Goals as goal

pub loop-arcs-init : goal.loop-arcs-init
loop-arcs-init g c = HasMarked-none c.in_ok-marks.marks.items

pub loop-arcs-preserved : goal.loop-arcs-preserved
loop-arcs-preserved g c =
    let place : WaitArc → ℕ = λ (b : WaitArc). b.place in
    let components = c.args.components.now in
    let k : ℕ = c.loop-arcs.arcs-index in
    let begun = c.in_ok-marks.marks.items in
    let new : List Bool = c.mark_places.new.marks in
    let before : List WaitArc = flat_map (λ m. m) (map (λ v. v.items) (take k components)) in
    let arcs : List WaitArc = c.deref.result.now in
    let one : HasMarked (map place arcs) c.loop-arcs.marks.items new =
    subst (λ (old : List Bool). HasMarked (map place arcs) old new) c.as_mut_slice.ensures.value c.mark_places.ensures
    in
    let both : HasMarked (map place before ++ map place arcs) begun new =
    HasMarked-then (map place before) (map place arcs) begun c.loop-arcs.marks.items new c.loop-arcs.invariant one in
    let places : map place before ++ map place arcs ≡ places_of (map (λ v. v.items) (take (k + 1) components)) =
    sym (map-append place before arcs)
    ∙ ap (λ (l : List WaitArc). map place (before ++ l)) c.deref.ensures.value
    ∙ ap (map place)
    (sym (flat-next (λ v. v.items) components k c.arcs-item.result c.loop-arcs-test.true c.arcs-item.is)) in
    subst (λ (marks : List Bool). HasMarked (places_of (map (λ v. v.items) (take (k + 1) components))) begun marks)
    (sym (with_items_is c.loop-arcs.marks new
    (omega (arith, c.mark_places.ensures.one_each, c.as_mut_slice.ensures.len))))
    (subst (λ (ps : List ℕ). HasMarked ps begun new) places both)

pub returns : goal.returns
returns g c =
    let components = c.args.components.now in
    let begun = c.in_ok-marks.marks.items in
    let made : begun ≡ replicate c.args.flushes false =
    c.in_ok-marks.ensures.items_if_clones_equal (λ y e. search rules) in
    let all : take c.loop-arcs.arcs-index components ≡ components =
    take_all c.loop-arcs.arcs-index components (omega (arith, c.loop-arcs-test.false)) in
    ArePlacesMarked-all c.args.flushes (places_of (map (λ v. v.items) components)) begun c.loop-arcs.marks.items made
    (subst (λ l. HasMarked (places_of (map (λ v. v.items) l)) begun c.loop-arcs.marks.items) all c.loop-arcs.invariant)
