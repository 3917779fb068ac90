use Rattle.std.proofs.Common.{◌≤◌, true, length, map, get_or, sym, ap, ◌∙◌, arith}
use Rattle.std.proofs.lemmas.List.{get_or_past, get_or-map, length-map}
use Rattle.std.proofs.lemmas.Option.{slice_get_within, get_or_from_slice_get}
use Rattle.wq_core.specs.Held.{HeldLane, Machine}
use Rattle.wq_core.proofs.Contexts.{helpers_of-none}
use Rattle.wq_core.proofs.machine.Core.helpers_of.Goals.{else-from-lanes-via-then-from-lanes+else-not-is_ordered, else-from-lanes-via-else-from-lanes}
use Rattle.wq_core.proofs.machine.Core.helpers_of.Goals as goal

pub returns-else-from-lanes-clause-helpers : goal.returns-else-from-lanes-clause-helpers
returns-else-from-lanes-clause-helpers g c =
    let core = c.self.inside in
    let q = c.args.q in
    let ordered = ap (λ (m : Machine). get_or m.wiring.ordered q true) (sym c.self.view_is) in
    elim c.else-from-lanes.branch [
      | else-from-lanes-via-then-from-lanes+else-not-is_ordered w ↦ (
          let lane : HeldLane = w.lane.result.now in
          let at = get_or-map (λ (h : HeldLane). h.ordered) core.lanes q lane true (slice_get_within core.lanes q lane w.lane.ensures) ∙ ap (λ (h : HeldLane). h.ordered) (get_or_from_slice_get core.lanes q lane lane w.lane.ensures) in
          helpers_of-none c.args.self.now.wiring q (ordered ∙ at ∙ sym w.is_ordered.ensures ∙ w.if-not-is_ordered.false)
          )
      | else-from-lanes-via-else-from-lanes w ↦ (
          let past : length (map (λ (h : HeldLane). h.ordered) core.lanes) ≤ q = omega (arith, w.if-from-lanes.false, c.lanes.ensures.lanes, ap (λ (m : Machine). m.wiring.lanes) c.self.view_is, length-map core.lanes (λ (h : HeldLane). h.ordered)) in
          helpers_of-none c.args.self.now.wiring q (ordered ∙ get_or_past (map (λ (h : HeldLane). h.ordered) core.lanes) q true past)
          )
    ]
