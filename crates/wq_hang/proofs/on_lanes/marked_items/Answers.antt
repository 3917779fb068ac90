use Rattle.std.proofs.Common.{◌≡◌, ◌<◌, ℕ, false, get_or, sym, ap, ◌∙◌, arith}
use Rattle.wq_core.specs.Wiring.{items, lane_of}
use Rattle.wq_hang.proofs.LaneItems.{AreMarkedBelow-none, AreMarkedBelow-more, AreMarkedBelow-kept}
use Rattle.wq_hang.proofs.on_lanes.marked_items.Goals as goal
use Rattle.wq_hang.proofs.on_lanes.marked_items.Goals.{then-marks-at+in_ok-push, else-marks-at}

pub loop-i-init : goal.loop-i-init
loop-i-init g c = rw c.new-list.ensures.items (AreMarkedBelow-none c.args.waits.now c.args.marks.now)

pub loop-i-preserved : goal.loop-i-preserved
loop-i-preserved g c =
    let v = c.args.waits.now in
    let marks = c.args.marks.now in
    let i : ℕ = c.loop-i.i in
    let item : i < items v = omega (arith, c.loop-i-test.true, c.items-i-end.ensures.items) in
    let lane : c.from-at.result ≡ lane_of v i =
    c.from-at.ensures ∙ c.get.ensures ∙ c.lane_of.ensures.lane ∙ ap (lane_of v) c.new.ensures in
    elim c.if-marks-at.branch [
      | then-marks-at+in_ok-push w ↦ (
          let marked = ap (λ (q : ℕ). get_or marks q false) (sym lane) ∙ w.if-marks-at.true in
          rw w.list-is (AreMarkedBelow-more v marks i c.loop-i.list.items w.push.new.self.items c.loop-i.invariant item
          marked w.in_ok-push.ensures.items)
          )
      | else-marks-at w ↦
          rw w.list-is (AreMarkedBelow-kept v marks i c.loop-i.list.items c.loop-i.invariant
          (ap (λ (q : ℕ). get_or marks q false) (sym lane) ∙ w.if-marks-at.false))
    ]

pub returns-clause-items : goal.returns-clause-items
returns-clause-items g c = c.loop-i.invariant.within

pub returns-clause-marked : goal.returns-clause-marked
returns-clause-marked g c = c.loop-i.invariant.marked

pub returns-clause-all : goal.returns-clause-all
returns-clause-all g c i below marked = c.loop-i.invariant.all i (omega (arith, below, c.items-i-end.ensures.items, c.loop-i-test.false)) marked
