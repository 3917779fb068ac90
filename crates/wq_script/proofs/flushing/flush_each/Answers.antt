use Rattle.std.proofs.Common.{◌∙◌, sym, take}
use Rattle.wq_script.proofs.Waits.{HasFlushed-next, CountsFirstWaits-refused, only_waits-refused, full_at_60}
use Rattle.wq_script.proofs.flushing.flush_each.Goals as goal

pub returns-in-Err-clause-cut_off : goal.returns-in-Err-clause-cut_off
returns-in-Err-clause-cut_off g c =
    let l = c.loop-target in
    CountsFirstWaits-refused g.N.Naming.wiring c.args.targets.now l.target-index c.target-item.result c.args.work.now.seat.now l.work.seat.now c.flush_target.new.work.seat.now
    l.work.context.lane l.work.context.number c.in-Err.e c.loop-target-test.true c.target-item.is l.invariant.0
    c.holds.ensures c.in-Err.ensures.refused.1

pub returns-in-Err-clause-full : goal.returns-in-Err-clause-full
returns-in-Err-clause-full g c =
    let l = c.loop-target in
    let target = c.target-item.result in
    λ is. full_at_60 g.N.Naming.wiring l.work.seat.now c.flush_target.new.work.seat.now l.work.context.lane
    l.work.context.number target.whole target.item c.in-Err.e c.in-Err.ensures.refused.0 c.in-Err.ensures.refused.1
    (sym c.code.ensures ∙ is)

pub loop-target-preserved : goal.loop-target-preserved
loop-target-preserved g c =
    let l = c.loop-target in (
      HasFlushed-next g.N.Naming.wiring c.args.targets.now l.target-index c.target-item.result c.args.work.now.seat.now l.work.seat.now c.flush_target.new.work.seat.now c.in_default.field-0
          c.loop-target-test.true c.target-item.is l.invariant.0 c.holds.ensures c.in_default.ensures.counted.0 c.in_default.ensures.counted.1 c.in_default.ensures.finished,
      c.in_default.ensures.same_seat ∙ l.invariant.1,
    )

pub returns-in-Err-clause-only_waits : goal.returns-in-Err-clause-only_waits
returns-in-Err-clause-only_waits g c =
    let l = c.loop-target in
    only_waits-refused g.N.Naming.wiring (take l.target-index c.args.targets.now) c.target-item.result c.args.work.now.seat.now l.work.seat.now c.flush_target.new.work.seat.now
    l.work.context.lane l.work.context.number c.in-Err.e l.invariant.0 c.in-Err.ensures.refused.1

pub returns-in-Err-clause-run : goal.returns-in-Err-clause-run
returns-in-Err-clause-run g c = (returns-in-Err-clause-cut_off g c, returns-in-Err-clause-only_waits g c)
