use Rattle.std.proofs.Common.{◌≡◌, ℕ, ◌+◌, List, length, refl, sym, ap, subst, ◌∙◌, arith}
use Rattle.std.proofs.lemmas.Bool.{false≢true}
use Rattle.wq_repair.specs.Lanes.{nth_lane, AreOwnLanes}
use Rattle.wq_repair.proofs.LaneReads.{lane-read}
use Rattle.wq_repair.proofs.Taking.{AreOwnLanes-other, AreOwnLanes-taken}
use Rattle.wq_repair.proofs.lanes.own_lanes.Goals as goal

pub loop-group-preserved-then-not-is_marked : goal.loop-group-preserved-then-not-is_marked
loop-group-preserved-then-not-is_marked g c =
    let old = c.args.old.now in
    let i = c.loop-group.group in
    let read = lane-read old old i c.new.result c.lane.result refl (omega (arith, c.new.ensures)) c.lane.ensures in
    subst (λ (xs : List ℕ). AreOwnLanes old c.args.marks.now c.args.free.now (i + 1) xs c.loop-group.taken) (sym c.in_ok-push.ensures.items)
    (AreOwnLanes-other old c.args.marks.now c.args.free.now i c.loop-group.lane_of.items c.loop-group.taken c.loop-group.invariant c.lane.result (λ marked. false≢true (sym c.if-not-is_marked.true ∙ marked)) (sym read))

pub loop-group-preserved : goal.loop-group-preserved
loop-group-preserved g c =
    let old = c.args.old.now in
    let i = c.loop-group.group in
    let free = c.args.free.now in
    let lane = c.nth_lane.result in
    let is : lane ≡ nth_lane free old.lanes c.loop-group.taken =
    c.nth_lane.ensures ∙ ap (λ (t : ℕ). nth_lane free t c.loop-group.taken) c.lanes-there.ensures.lanes in
    subst (λ (xs : List ℕ). AreOwnLanes old c.args.marks.now free (i + 1) xs (c.loop-group.taken + 1)) (sym c.in_ok-push-2.ensures.items)
    (AreOwnLanes-taken old c.args.marks.now free i c.loop-group.lane_of.items c.loop-group.taken c.loop-group.invariant lane c.requires.free c.if-not-is_marked.false is)

pub returns : goal.returns
returns g c =
    let all : c.loop-group.group ≡ length c.args.marks.now = omega (arith, c.loop-group-test.false, c.loop-group.auto.group-end) in
    subst (λ (n : ℕ). AreOwnLanes c.args.old.now c.args.marks.now c.args.free.now n c.loop-group.lane_of.items c.loop-group.taken) all c.loop-group.invariant
