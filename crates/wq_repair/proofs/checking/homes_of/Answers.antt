use Rattle.std.proofs.Common.{◌≡◌, ℕ, ◌+◌, ◌<◌, Option, None, Some, length, set, replicate, sym, ap, subst, ◌∙◌, refl}
use Rattle.std.proofs.Common.{arith, rules}
use Rattle.std.proofs.Math.ListN.{length-replicate}
use Rattle.std.proofs.lemmas.Bool.{false≢true}
use Rattle.wq_groups.specs.Assignment.{group_lane}
use Rattle.wq_repair.proofs.Homes.{no_home, AreHomesBelow, AreHomesBelow-skip, AreHomesBelow-set}
use Rattle.wq_repair.proofs.Marks.{IsMarked-below}
use Rattle.wq_repair.proofs.LaneReads.{lane-read, lane-within}
use Rattle.wq_repair.proofs.checking.homes_of.Goals as goal

pub loop-group-init : goal.loop-group-init
loop-group-init g c =
    let homes = c.in_ok-homes.homes.items in
    let same : homes ≡ replicate c.from.result None =
    c.in_ok-homes.ensures.items_if_clones_equal (λ y e. search rules) in
    record {
      one_each = omega (
        arith,
        ap length same,
        length-replicate {A = Option ℕ} c.from.result None,
        c.from.ensures,
        c.lanes.ensures.lanes,
      );
      on = λ q v home. absurd (no_home c.from.result homes same q v home);
      all = λ h lt. absurd (omega (arith, lt));
    }

pub loop-group-preserved-then-not-does_stay : goal.loop-group-preserved-then-not-does_stay
loop-group-preserved-then-not-does_stay g c =
    AreHomesBelow-skip c.args.assignment.now c.args.stays.now c.loop-group.group c.loop-group.homes.items
    c.loop-group.invariant (λ marked. false≢true (sym c.if-not-does_stay.true ∙ marked))

pub index_mut-requires : goal.index_mut-requires
index_mut-requires g c =
    let a = c.args.assignment.now in
    let i = c.loop-group.group in
    let read : group_lane a i ≡ c.lane.result =
    lane-read a a i c.new-group.result c.lane.result refl c.new-group.ensures c.lane.ensures in
    let within : group_lane a i < a.lanes = lane-within a a i refl
    c.lanes-lanes.ensures.within (omega (arith, c.loop-group-test.true, c.requires.one_each)) in
    omega (arith, read, within, c.get-lane.ensures, c.from-in-loop-group.ensures, c.loop-group.invariant.one_each)

pub loop-group-preserved : goal.loop-group-preserved
loop-group-preserved g c =
    let a = c.args.assignment.now in
    let i = c.loop-group.group in
    let homes = c.loop-group.homes.items in
    let read : group_lane a i ≡ c.lane.result =
    lane-read a a i c.new-group.result c.lane.result refl c.new-group.ensures c.lane.ensures in
    let within : group_lane a i < a.lanes = lane-within a a i refl
    c.lanes-lanes.ensures.within (omega (arith, c.loop-group-test.true, c.requires.one_each)) in
    let lane = c.from-in-loop-group.result in
    subst (λ (v : ℕ). AreHomesBelow a c.args.stays.now (i + 1) (set homes lane (Some v))) (sym c.new-group.ensures)
    (AreHomesBelow-set a c.args.stays.now i homes c.loop-group.invariant c.if-not-does_stay.false lane
    (omega (arith, read, c.get-lane.ensures, c.from-in-loop-group.ensures))
    (omega (arith, read, within, c.get-lane.ensures, c.from-in-loop-group.ensures, c.loop-group.invariant.one_each)))

pub returns : goal.returns
returns g c =
    let is = c.loop-group.invariant in
    record {
      one_each = is.one_each;
      on = is.on;
      all = λ h marked. is.all h (omega (arith, IsMarked-below c.args.stays.now h marked, c.loop-group-test.false))
          marked;
    }
