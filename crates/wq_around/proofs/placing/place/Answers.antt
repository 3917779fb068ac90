use Rattle.std.proofs.Common.{◌≡◌, ◌+◌, ◌<◌, ℕ, length, map, sym, ap, subst, ◌∙◌, arith}
use Rattle.std.specs.List.{All}
use Rattle.wq_groups.specs.Assignment.{Assignment}
use Rattle.wq_fixed.specs.Fixed.{start as start_of}
use Rattle.wq_fixed.proofs.StartKeeps.{IsAssignmentOf-start}
use Rattle.wq_around.specs.Planned.{planned_lane}
use Rattle.wq_around.proofs.PlannedLanes.{planned-within}
use Rattle.wq_around.proofs.placing.place.Goals as goal

pub planned_lanes-requires-clause-lanes : goal.planned_lanes-requires-clause-lanes
planned_lanes-requires-clause-lanes g c =
    let f = c.args.fixed.now in
    let is = IsAssignmentOf-start (length f.lane_of_group) f c.lanes-new.ensures.fixed in
    let lanes : c.as_slice.result.now ≡ (start_of f).assignment.lane_of_group =
    c.as_slice.ensures.value ∙ c.in_ok-start.ensures.lanes
    ∙ ap (λ (a : Assignment). a.lane_of_group) c.requires.start in
    rw (lanes, c.requires.one_each) is.assignment.within

pub unwrap-assignment-requires : goal.unwrap-assignment-requires
unwrap-assignment-requires g c =
    let f = c.args.fixed.now in
    let is = IsAssignmentOf-start (length f.lane_of_group) f c.lanes-new.ensures.fixed in
    let lanes : c.as_slice.result.now ≡ (start_of f).assignment.lane_of_group =
    c.as_slice.ensures.value ∙ c.in_ok-start.ensures.lanes
    ∙ ap (λ (a : Assignment). a.lane_of_group) c.requires.start in
    let put : c.in_ok-lanes.lanes.items
    ≡ map (planned_lane c.args.heights.now c.lanes-new.result) (start_of f).assignment.lane_of_group =
    c.in_ok-lanes.ensures ∙ ap (map (planned_lane c.args.heights.now c.lanes-new.result)) lanes in
    let within : All (λ l. l < c.lanes-new.result + c.args.most) c.in_ok-lanes.lanes.items =
    subst (All (λ l. l < c.lanes-new.result + c.args.most)) (sym put)
    (planned-within c.lanes-new.result c.args.heights.now c.args.most (start_of f).assignment.lane_of_group
    (subst (λ (n : ℕ). All (λ q. q < n) (start_of f).assignment.lane_of_group) (sym c.requires.one_each)
    is.assignment.within)
    (λ q from inside. (
      c.requires.some q (omega (arith, from, c.lanes-new.ensures.lanes)) inside,
      c.requires.most q (omega (arith, from, c.lanes-new.ensures.lanes)) inside,
    ))) in
    c.new.ensures.exactly.1 (omega (arith, c.requires.lanes, c.lanes-new.ensures.lanes), within)
