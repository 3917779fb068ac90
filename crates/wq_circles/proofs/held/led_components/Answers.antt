use Rattle.std.proofs.Common.{◌≡◌, ◌<◌, ◌++◌, ◌∷◌, [], ℕ, List, length, map, get_or, sym, ap, subst, ◌∙◌, arith}
use Rattle.std.specs.Prelude.{filter}
use Rattle.std.specs.List.{All}
use Rattle.std.proofs.lemmas.List.{length-map, get_or-map, take_all}
use Rattle.wq_groups.specs.DeclaredGroups.{declared_waits}
use Rattle.wq_graph.specs.declared.arc.WaitArc.{WaitArc}
use Rattle.wq_circles.specs.Held.{is_marked_component}
use Rattle.wq_circles.proofs.HeldCounts.{component-begins}
use Rattle.wq_circles.proofs.HeldLists.{filter-passed, filter-pushed}
use Rattle.wq_circles.proofs.Joined.{map-pushed}
use Rattle.wq_circles.proofs.held.led_components.Goals as goal
use Rattle.wq_circles.proofs.held.led_components.Goals.{then-is_led+in_ok-copy+in_ok-push, else-is_led}

pub is_led-requires-clause-items : goal.is_led-requires-clause-items
is_led-requires-clause-items g c =
    let a = c.args.assigned.now in
    let n = length a.declared.partition.group_of in
    subst (All (λ (b : WaitArc). b.src < n)) (sym c.deref.ensures.value)
    (component-begins a c.table-table.ensures.assigned c.args.components.now c.requires.components
    c.loop-arcs.arcs-index c.arcs-item.result c.loop-arcs-test.true c.arcs-item.is)

pub loop-arcs-preserved : goal.loop-arcs-preserved
loop-arcs-preserved g c =
    let a = c.args.assigned.now in
    let p = is_marked_component (declared_waits a.declared) a.workqueues c.args.led.now.marks in
    let components = c.args.components.now in
    let lists : List (List WaitArc) = map (λ v. v.items) components in
    let k : ℕ = c.loop-arcs.arcs-index in
    let item = c.arcs-item.result in
    let l : List WaitArc = item.items in
    let within : k < length lists =
    omega (arith, c.loop-arcs-test.true, length-map components (λ v. v.items)) in
    let is : l ≡ get_or lists k l =
    sym (get_or-map (λ v. v.items) components k item l c.loop-arcs-test.true
    ∙ ap (λ v. v.items) (sym c.arcs-item.is)) in
    let tells : p l ≡ c.is_led.result = ap p (sym c.deref.ensures.value) ∙ sym c.is_led.ensures in
    elim c.if-is_led.branch [
      | then-is_led+in_ok-copy+in_ok-push w ↦
          rw w.some-is
          (filter-pushed p lists k l (map (λ v. v.items) c.loop-arcs.some.items) within is c.loop-arcs.invariant
          (map (λ v. v.items) w.push.new.self.items)
          (map-pushed (λ v. v.items) c.loop-arcs.some.items w.push.new.self.items w.in_ok-copy.copy
          w.in_ok-push.ensures.items
          ∙ ap (λ (m : List WaitArc). map (λ v. v.items) c.loop-arcs.some.items ++ (m ∷ []))
          (w.in_ok-copy.ensures ∙ w.deref-then-is_led.ensures.value)) (tells ∙ w.if-is_led.true))
      | else-is_led w ↦
          rw w.some-is
          (filter-passed p lists k l (map (λ v. v.items) c.loop-arcs.some.items) within is c.loop-arcs.invariant
          (tells ∙ w.if-is_led.false))
    ]

pub returns : goal.returns
returns g c =
    let a = c.args.assigned.now in
    let lists : List (List WaitArc) = map (λ v. v.items) c.args.components.now in
    let k : ℕ = c.loop-arcs.arcs-index in
    c.loop-arcs.invariant
    ∙ ap (filter (is_marked_component (declared_waits a.declared) a.workqueues c.args.led.now.marks))
    (take_all k lists (omega (arith, c.loop-arcs-test.false, length-map c.args.components.now (λ v. v.items))))
