use Rattle.std.proofs.Common.{inl, sym, ◌∙◌, arith}
use Rattle.std.specs.Prelude.{true}
use Rattle.std.proofs.lemmas.Bool.{false≢true}
use Rattle.wq_repair.specs.Changes.{IsRescued}
use Rattle.wq_repair.proofs.Marks.{IsMarked-below}
use Rattle.wq_repair.proofs.PlacedSteps.{AreListed-behind}
use Rattle.wq_repair.proofs.LaneReads.{bare-read}
use Rattle.wq_repair.proofs.placing.with_bare_of.Goals as goal

pub loop-lane-preserved : goal.loop-lane-preserved
loop-lane-preserved g c =
    let bare =
    bare-read c.args.workqueues.now c.loop-lane.lane c.new-lane.result c.is_bare.result true c.new-lane.ensures
    c.is_bare.ensures c.if-not-is_bare.false in
    rw (c.in_ok-push.ensures.items, c.new-lane.ensures)
    (AreListed-behind c.args.lanes.now (IsRescued c.args.workqueues.now) c.loop-lane.lane c.loop-lane.listed.items c.loop-lane.invariant c.if-not-is_one.false (λ rescued. false≢true (sym rescued ∙ bare)))

pub returns : goal.returns
returns g c = record {
  exactly = λ q. (
    λ there. ((c.loop-lane.invariant.exactly q).0 there).0,
    λ marked. (c.loop-lane.invariant.exactly q).1 (marked, inl (omega (arith, IsMarked-below c.args.lanes.now q marked, c.loop-lane-test.false))),
  );
  once = c.loop-lane.invariant.once;
}
