use Rattle.std.proofs.Common.{ℕ, sym, ◌∙◌, arith}
use Rattle.std.specs.Prelude.{true, false}
use Rattle.std.proofs.lemmas.Bool.{false≢true}
use Rattle.wq_repair.specs.Changes.{IsRescued}
use Rattle.wq_repair.specs.Marks.{IsMarked}
use Rattle.wq_repair.proofs.Marks.{IsMarked-below}
use Rattle.wq_repair.proofs.PlacedSteps.{AreListed-skip, AreListed-next}
use Rattle.wq_repair.proofs.LaneReads.{bare-read}
use Rattle.wq_repair.proofs.placing.rescued_of.Goals as goal

pub loop-lane-preserved-then-not-is_one : goal.loop-lane-preserved-then-not-is_one
loop-lane-preserved-then-not-is_one g c =
    AreListed-skip (λ (q : ℕ). IsMarked c.args.lanes.now q × IsRescued c.args.workqueues.now q) c.loop-lane.lane c.loop-lane.listed.items c.loop-lane.invariant
    (λ both. false≢true (sym c.if-not-is_one.true ∙ both.0))

pub loop-lane-preserved-then-is_bare : goal.loop-lane-preserved-then-is_bare
loop-lane-preserved-then-is_bare g c =
    let bare =
    bare-read c.args.workqueues.now c.loop-lane.lane c.new-lane.result c.is_bare.result true c.new-lane.ensures
    c.is_bare.ensures c.if-is_bare.true in
    AreListed-skip (λ (q : ℕ). IsMarked c.args.lanes.now q × IsRescued c.args.workqueues.now q) c.loop-lane.lane c.loop-lane.listed.items c.loop-lane.invariant
    (λ both. false≢true (sym both.1 ∙ bare))

pub loop-lane-preserved : goal.loop-lane-preserved
loop-lane-preserved g c =
    let rescued =
    bare-read c.args.workqueues.now c.loop-lane.lane c.new-lane.result c.is_bare.result false c.new-lane.ensures
    c.is_bare.ensures c.if-is_bare.false in
    rw (c.in_ok-push.ensures.items, c.new-lane.ensures)
    (AreListed-next (λ (q : ℕ). IsMarked c.args.lanes.now q × IsRescued c.args.workqueues.now q) c.loop-lane.lane c.loop-lane.listed.items c.loop-lane.invariant (c.if-not-is_one.false, rescued))

pub returns : goal.returns
returns g c = record {
  exactly = λ q. (
    λ there. ((c.loop-lane.invariant.exactly q).0 there).1,
    λ both. (c.loop-lane.invariant.exactly q).1 (omega (arith, IsMarked-below c.args.lanes.now q both.0, c.loop-lane-test.false), both),
  );
  once = c.loop-lane.invariant.once;
}
