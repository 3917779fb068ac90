use Rattle.std.proofs.Common.{◌≡◌, ◌+◌, ◌++◌, ◌⊎◌, ℕ, List, take, get_or, sym, ap, ◌∙◌}
use Rattle.std.specs.Prelude.{Contains}
use Rattle.wq_hang.proofs.Taken.{contains_more, contains_all}
use Rattle.wq_hang.proofs.LaneItems.{AreMarkedOf-none, AreMarkedOf-more, AreMarkedOf-kept}
use Rattle.wq_hang.proofs.on_lanes.marked_items_of.Goals as goal
use Rattle.wq_hang.proofs.on_lanes.marked_items_of.Goals.{then-is_marked+in_ok-extend_from_slice, else-is_marked}

pub loop-lane-init : goal.loop-lane-init
loop-lane-init g c = rw c.clear.ensures.items (AreMarkedOf-none c.args.on.now c.args.marks.now)

pub loop-lane-preserved : goal.loop-lane-preserved
loop-lane-preserved g c =
    let on = c.args.on.now in
    let marks = c.args.marks.now in
    let lanes = c.args.lanes.now in
    let k : ℕ = c.loop-lane.lane-index in
    let q : ℕ = get_or lanes k 0 in
    let more : (p : ℕ) → Contains (take (k + 1) lanes) p → Contains (take k lanes) p ⊎ (q ≡ p) = λ p there. contains_more lanes k 0 p c.loop-lane-test.true there in
    elim c.if-is_marked.branch [
      | then-is_marked+in_ok-extend_from_slice w ↦
          rw w.list-is
          (AreMarkedOf-more on marks (take k lanes) (take (k + 1) lanes) c.loop-lane.list.items w.extend_from_slice.new.self.items q c.loop-lane.invariant more
          (sym c.is_marked.ensures.value ∙ w.if-is_marked.true)
          (w.in_ok-extend_from_slice.ensures.items ∙ ap (λ (l : List ℕ). c.loop-lane.list.items ++ l) w.places.ensures))
      | else-is_marked w ↦ rw w.list-is (AreMarkedOf-kept on marks (take k lanes) (take (k + 1) lanes) c.loop-lane.list.items q c.loop-lane.invariant more (sym c.is_marked.ensures.value ∙ w.if-is_marked.false))
    ]

pub returns : goal.returns
returns g c =
    let lanes = c.args.lanes.now in
    let k : ℕ = c.loop-lane.lane-index in
    record {
      within = c.loop-lane.invariant.within;
      all = λ q i there marked on_it. c.loop-lane.invariant.all q i (contains_all lanes k q c.loop-lane-test.false there) marked on_it;
    }
