use Rattle.std.proofs.Common.{◌≡◌, ℕ, ◌+◌, length, refl, sym, ap, subst, ◌∙◌, arith}
use Rattle.std.specs.Prelude.{None, slice_index_or}
use Rattle.std.proofs.lemmas.Bool.{false≢true}
use Rattle.wq_groups.specs.Assignment.{group_lane}
use Rattle.wq_repair.proofs.Homes.{AreVerticesBelow, AreVerticesBelow-push}
use Rattle.wq_repair.proofs.Marks.{IsMarked-below}
use Rattle.wq_repair.proofs.LaneReads.{lane-read}
use Rattle.wq_repair.proofs.checking.vertices_of.Goals as goal

pub loop-group-init : goal.loop-group-init
loop-group-init g c = record {
  one_each = ap length c.in_ok-vertices.ensures.items;
  home = λ h lt. absurd (omega (arith, lt));
  alone = λ h lt. absurd (omega (arith, lt));
}

pub loop-group-preserved-then-not-does_stay : goal.loop-group-preserved-then-not-does_stay
loop-group-preserved-then-not-does_stay g c =
    let i = c.loop-group.group in
    let old = c.args.assignment.now in
    let stays = c.args.stays.now in
    let homes = c.args.homes.now in
    subst (AreVerticesBelow old stays homes (i + 1)) (sym c.in_ok-push.ensures.items)
    (AreVerticesBelow-push old stays homes i c.new-group.result c.loop-group.vertices.items c.loop-group.invariant
    (λ marked. absurd (false≢true (sym c.if-not-does_stay.true ∙ marked))) (λ out. c.new-group.ensures))

pub loop-group-preserved : goal.loop-group-preserved
loop-group-preserved g c =
    let a = c.args.assignment.now in
    let i = c.loop-group.group in
    let stays = c.args.stays.now in
    let homes = c.args.homes.now in
    let read : group_lane a i ≡ c.lane.result =
    lane-read a a i c.new-group.result c.lane.result refl c.new-group.ensures c.lane.ensures in
    let at : c.from.result ≡ group_lane a i = omega (arith, read, c.get-lane.ensures, c.from.ensures) in
    subst (AreVerticesBelow a stays homes (i + 1)) (sym c.in_ok-push-2.ensures.items)
    (AreVerticesBelow-push a stays homes i c.unwrap.result c.loop-group.vertices.items c.loop-group.invariant
    (λ marked. ap (λ (q : ℕ). slice_index_or homes q None) (sym at) ∙ sym c.home_of-home.ensures ∙ c.unwrap.ensures)
    (λ out. absurd (out c.if-not-does_stay.false)))

pub returns : goal.returns
returns g c =
    let is = c.loop-group.invariant in
    let long : c.loop-group.group ≡ length c.args.stays.now =
    omega (arith, c.loop-group-test.false, c.loop-group.auto.group-end) in
    record {
      one_each = omega (arith, is.one_each, long);
      home = λ h marked. is.home h (omega (arith, IsMarked-below c.args.stays.now h marked, long)) marked;
      alone = λ h lt out. is.alone h (omega (arith, lt, long)) out;
    }
