use Rattle.std.proofs.Common.{◌<◌, ℕ, List, length, map, sym, ap, subst, ◌∙◌, arith}
use Rattle.std.specs.Prelude.{filter}
use Rattle.std.specs.List.{All}
use Rattle.std.proofs.lemmas.List.{length-map}
use Rattle.wq_groups.specs.DeclaredGroups.{declared_waits}
use Rattle.wq_graph.specs.declared.arc.WaitArc.{WaitArc}
use Rattle.wq_graph.specs.Graph.{arcs_by_place}
use Rattle.wq_deadlock.specs.Judging.{rescued_graph}
use Rattle.wq_circles.specs.Held.{AreMarksOf, CanBeHeld, begins_marked, is_marked_component, is_way}
use Rattle.wq_circles.specs.Lists.{AreTurned, head_lists, listed_at}
use Rattle.wq_circles.proofs.HeldCounts.{waits-begin}
use Rattle.wq_circles.proofs.OfAssigned.{waits_between_items}
use Rattle.wq_circles.proofs.Turned.{head_lists-below, lists-below}
use Rattle.wq_circles.proofs.held.held_in_graph.Goals as goal

pub tails-requires-clause-one_each : goal.tails-requires-clause-one_each
tails-requires-clause-one_each g c =
    omega (
      arith,
      ap (λ l. length l) c.as_slice.ensures.value,
      ap (λ (l : List (List ℕ)). length l) c.in_ok-heads.ensures,
      length-map c.in_ok-heads.heads.items (λ l. l.items),
      length-map c.args.graph.now (map (λ (a : WaitArc). a.head)),
      c.vertices.ensures.vertices,
    )

pub tails-requires-clause-within : goal.tails-requires-clause-within
tails-requires-clause-within g c =
    let graph = c.args.graph.now in
    let shown = ap (map (λ list. list.items)) c.as_slice.ensures.value ∙ c.in_ok-heads.ensures in
    lists-below c.as_slice.result.now (head_lists graph) c.vertices.result shown
    (λ v. subst (λ (n : ℕ). All (λ w. w < n) (listed_at (head_lists graph) v)) (sym c.vertices.ensures.vertices)
    (head_lists-below graph c.vertices.ensures.graph v))

pub led_to-requires-clause-heads : goal.led_to-requires-clause-heads
led_to-requires-clause-heads g c =
    ap (map (λ list. list.items)) c.as_slice-2.ensures.value ∙ c.in_ok-heads.ensures ∙ ap head_lists c.requires.graph

pub can_be_held-requires-clause-tails : goal.can_be_held-requires-clause-tails
can_be_held-requires-clause-tails g c =
    let a = c.args.assigned.now in
    let heads : List (List ℕ) = head_lists (rescued_graph (declared_waits a.declared) a.workqueues) in
    let tails : List (List ℕ) = map (λ list. list.items) c.in_ok-tails.tails.items in
    subst (AreTurned heads) (sym (ap (map (λ list. list.items)) c.as_slice-3.ensures.value))
    (subst (λ (h : List (List ℕ)). AreTurned h tails)
    (ap (map (λ list. list.items)) c.as_slice.ensures.value ∙ c.in_ok-heads.ensures
    ∙ ap head_lists c.requires.graph) c.in_ok-tails.ensures)

pub led_among-requires-clause-items : goal.led_among-requires-clause-items
led_among-requires-clause-items g c =
    let a = c.args.assigned.now in
    let is = c.in_ok-all_waits.ensures.assigned in
    let n = length a.declared.partition.group_of in
    subst (All (λ (b : WaitArc). b.src < n)) (sym (c.as_slice-7.ensures.value ∙ c.in_ok-all_waits.ensures.arcs))
    (waits-begin a is _ (waits_between_items a is))

pub returns : goal.returns
returns g c =
    let a = c.args.assigned.now in
    let d = declared_waits a.declared in
    let ws = a.workqueues in
    let led = c.in_ok-led.led.marks in
    let held = c.in_ok-held.held.marks in
    record {
      all = map (λ v. v.items) c.in_ok-all.all.items;
      are = c.in_ok-all.ensures.components;
      led = led;
      led_to = c.in_ok-led.ensures;
      held = held;
      can_be_held = subst (λ l. AreMarksOf d ws (CanBeHeld d ws (map (λ v. v.items) l)) held)
          c.as_slice-4.ensures.value c.in_ok-held.ensures;
      some_components = c.in_ok-components.ensures
          ∙ ap (λ l. filter (is_marked_component d ws led) (map (λ v. v.items) l)) c.as_slice-8.ensures.value;
      some_waits = c.in_ok-waits.ensures
          ∙ ap (filter (begins_marked d ws led))
          (c.as_slice-7.ensures.value ∙ c.in_ok-all_waits.ensures.arcs);
      are_ways = c.in_ok-ways.ensures
          ∙ ap (λ l. filter (is_way d ws led held (map (λ v. v.items) l)) (arcs_by_place d.waits d.group_of))
          c.as_slice-6.ensures.value;
    }
