use Rattle.std.proofs.Common.{◌≡◌, ℕ, refl, sym, ap, ◌∙◌, arith}
use Rattle.std.specs.Prelude.{None, slice_index_or}
use Rattle.wq_groups.specs.Assignment.{group_lane}
use Rattle.wq_repair.proofs.LaneReads.{lane-read}
use Rattle.wq_repair.proofs.checking.home_asked.Goals as goal

pub returns : goal.returns
returns g c =
    let a = c.args.assignment.now in
    let read : group_lane a c.args.group ≡ c.lane.result =
    lane-read a a c.args.group c.args.group c.lane.result refl refl c.lane.ensures in
    let lane : group_lane a c.args.group ≡ c.from.result =
    omega (arith, read, c.get-lane.ensures, c.from.ensures) in
    λ v is. ap (λ (q : ℕ). slice_index_or c.args.homes.now q None) lane ∙ sym c.home_of.ensures ∙ is
