use Rattle.std.proofs.Common.{◌≡◌, ◌<◌, Bool, List, false, not, length, map, sym, ap, ◌∙◌, arith}
use Rattle.std.specs.Prelude.{◌&&◌, filter, slice_index_or}
use Rattle.std.proofs.lemmas.List.{take_all}
use Rattle.wq_items.specs.Readings.{is_among}
use Rattle.wq_groups.specs.DeclaredGroups.{declared_waits}
use Rattle.wq_graph.specs.declared.arc.WaitArc.{WaitArc}
use Rattle.wq_circles.specs.Held.{begins_marked, ends_marked, is_way, places_of}
use Rattle.wq_circles.proofs.HeldCounts.{IsAt-arcs}
use Rattle.wq_circles.proofs.HeldLists.{filter-passed, filter-pushed}
use Rattle.wq_circles.proofs.held.ways_among.Goals as goal
use Rattle.wq_circles.proofs.held.ways_among.Goals.{then-is_way+in_ok-push, else-is_way}

pub is_way-requires-clause-src : goal.is_way-requires-clause-src
is_way-requires-clause-src g c =
    let all = rw (c.table.ensures.is, c.groups.ensures.is) at c.in_ok-all.ensures.arcs in (
    IsAt-arcs c.args.assigned.now c.table.ensures.assigned c.deref-arc-items.result.now
    (c.deref-arc-items.ensures.value ∙ all) c.loop-arc.arc-index c.arc-item.result c.loop-arc-test.true c.arc-item.is
    ).src

pub is_way-requires-clause-dst : goal.is_way-requires-clause-dst
is_way-requires-clause-dst g c =
    let all = rw (c.table.ensures.is, c.groups.ensures.is) at c.in_ok-all.ensures.arcs in (
    IsAt-arcs c.args.assigned.now c.table.ensures.assigned c.deref-arc-items.result.now
    (c.deref-arc-items.ensures.value ∙ all) c.loop-arc.arc-index c.arc-item.result c.loop-arc-test.true c.arc-item.is
    ).dst

pub is_way-requires-clause-place : goal.is_way-requires-clause-place
is_way-requires-clause-place g c =
    let all = rw (c.table.ensures.is, c.groups.ensures.is) at c.in_ok-all.ensures.arcs in
    let is = IsAt-arcs c.args.assigned.now c.table.ensures.assigned c.deref-arc-items.result.now
    (c.deref-arc-items.ensures.value ∙ all) c.loop-arc.arc-index c.arc-item.result c.loop-arc-test.true c.arc-item.is in
    omega (
      arith,
      is.place,
      ap (λ (l : List WaitArc). length l) c.deref-arc-items.ensures.value,
      c.len.ensures,
      c.in_ok-all.all.ok.0,
      c.in_ok-in_one.ensures.one_each,
      ap (λ (l : List Bool). length l) c.deref.ensures.value,
    )

pub loop-arc-preserved : goal.loop-arc-preserved
loop-arc-preserved g c =
    let d = declared_waits c.args.assigned.now.declared in
    let ws = c.args.assigned.now.workqueues in
    let led = c.args.led.now.marks in
    let held = c.args.held.now.marks in
    let lists : List (List WaitArc) = map (λ v. v.items) c.args.components.now in
    let a : WaitArc = c.arc-item.result in
    let all = rw (c.table.ensures.is, c.groups.ensures.is) at c.in_ok-all.ensures.arcs in
    let is = IsAt-arcs c.args.assigned.now c.table.ensures.assigned c.deref-arc-items.result.now
    (c.deref-arc-items.ensures.value ∙ all) c.loop-arc.arc-index a c.loop-arc-test.true c.arc-item.is in
    let low : a.place < c.len.result = omega (
      arith,
      is.place,
      ap (λ (l : List WaitArc). length l) c.deref-arc-items.ensures.value,
      c.len.ensures,
      c.in_ok-all.all.ok.0,
    ) in
    let in_one : slice_index_or c.deref.result.now a.place false ≡ is_among (places_of lists) a.place =
    ap (λ (m : List Bool). slice_index_or m a.place false) c.deref.ensures.value
    ∙ c.in_ok-in_one.ensures.marked a.place low in
    let tells : is_way d ws led held lists a ≡ c.is_way.result =
    sym (c.is_way.ensures
    ∙ ap (λ (b : Bool). begins_marked d ws led a && ends_marked d ws held a && not b) in_one) in
    elim c.if-is_way.branch [
      | then-is_way+in_ok-push w ↦
          rw w.ways-is
          (filter-pushed (is_way d ws led held lists) c.deref-arc-items.result.now c.loop-arc.arc-index a
          c.loop-arc.ways.items c.loop-arc-test.true c.arc-item.is c.loop-arc.invariant w.push.new.self.items
          w.in_ok-push.ensures.items (tells ∙ w.if-is_way.true))
      | else-is_way w ↦
          rw w.ways-is
          (filter-passed (is_way d ws led held lists) c.deref-arc-items.result.now c.loop-arc.arc-index a
          c.loop-arc.ways.items c.loop-arc-test.true c.arc-item.is c.loop-arc.invariant (tells ∙ w.if-is_way.false))
    ]

pub returns : goal.returns
returns g c =
    let d = declared_waits c.args.assigned.now.declared in
    let ws = c.args.assigned.now.workqueues in
    let led = c.args.led.now.marks in
    let held = c.args.held.now.marks in
    let lists : List (List WaitArc) = map (λ v. v.items) c.args.components.now in
    let all = rw (c.table.ensures.is, c.groups.ensures.is) at c.in_ok-all.ensures.arcs in
    c.loop-arc.invariant
    ∙ ap (filter (is_way d ws led held lists))
    (take_all c.loop-arc.arc-index c.deref-arc-items.result.now (omega (arith, c.loop-arc-test.false))
    ∙ c.deref-arc-items.ensures.value ∙ all)
