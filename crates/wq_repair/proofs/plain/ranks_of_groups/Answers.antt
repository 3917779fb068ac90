use Rattle.std.proofs.Common.{◌≡◌, ◌<◌, ◌∷◌, [], ℕ, length, refl, ap, ◌∙◌, arith, length-append}
use Rattle.std.specs.Prelude.{slice_index}
use Rattle.wq_groups.specs.Assignment.{group_lane}
use Rattle.wq_repair.proofs.LaneReads.{lane-read, lane-within}
use Rattle.wq_repair.proofs.PlacedSteps.{each-push}
use Rattle.wq_repair.proofs.plain.ranks_of_groups.Goals as goal

pub bounds-ranks-from : goal.bounds-ranks-from
bounds-ranks-from g c =
    let a = c.args.vertices.now in
    let i = c.loop-group.group in
    let read : group_lane a i ≡ c.lane.result = lane-read a a i c.new.result c.lane.result refl c.new.ensures c.lane.ensures in
    let within : group_lane a i < a.lanes = lane-within a a i refl c.lanes-lanes.ensures.within (omega (arith, c.loop-group-test.true, c.requires.groups)) in
    omega (arith, read, within, c.get-vertex.ensures, c.from-in-loop-group.ensures, c.requires.one_each)

pub loop-group-preserved : goal.loop-group-preserved
loop-group-preserved g c =
    let a = c.args.vertices.now in
    let ranks = c.args.ranks.now in
    let i = c.loop-group.group in
    let xs = c.loop-group.of_group.items in
    let x : ℕ = slice_index ranks c.from-in-loop-group.result in
    let read : group_lane a i ≡ c.lane.result = lane-read a a i c.new.result c.lane.result refl c.new.ensures c.lane.ensures in
    let at : c.from-in-loop-group.result ≡ group_lane a i = omega (arith, read, c.get-vertex.ensures, c.from-in-loop-group.ensures) in
    record {
      one_each = ap length c.in_ok-push.ensures.items ∙ length-append xs (x ∷ []) ∙ omega (arith, c.loop-group.invariant.one_each);
      ranks = each-push (λ (h : ℕ). slice_index ranks (group_lane a h)) xs c.push.new.self.items i x c.loop-group.invariant.one_each c.loop-group.invariant.ranks c.in_ok-push.ensures.items (ap (slice_index ranks) at);
    }
