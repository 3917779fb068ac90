use Rattle.std.proofs.lemmas.Result.{IfOk-weaker}
use Rattle.std.proofs.Common.{List, ℕ}
use Rattle.wq_meter.specs.Meter.{WritesWhole}
use Rattle.wq_run.specs.declared.fault.RunStop.TheVariants as stop
use Rattle.wq_run.specs.Fault.{Stops}
use Rattle.wq_run.specs.Run.{RunsInput, IsRunnableInput}
use Rattle.wq_run.proofs.InputLemmas.{ended_as, not_by, unanswered_for, unwritten_for}
use Rattle.wq_run.proofs.run.run_cmd.Goals as goal

pub returns-clause-answered : goal.returns-clause-answered
returns-clause-answered g c =
    IfOk-weaker c.end_of_run.result _ _ (λ end is. ended_as c.carry_out_run-ended.result end is
    (λ end. (out : List ℕ)
    × RunsInput c.args.helpers g.D.Read.remaining c.args.declaration.now c.carry_out_run-ended.new.declaration end out
    × WritesWhole g.W.Write.contents c.args.writer.now c.carry_out_run-ended.new.writer out)
    (IfOk-weaker c.carry_out_run-ended.result _ _
    (λ end h. (h.out, record { text = h.text; given = h.given; answer = h.answer }, h.written))
    c.carry_out_run-ended.ensures.answered)) c.end_of_run.ensures.end

pub returns-clause-prefix : goal.returns-clause-prefix
returns-clause-prefix g c = λ is.
    let h = c.carry_out_run-ended.ensures.prefix (c.end_of_run.ensures.write_failed is) in
    (h.0, h.1.out, record { text = h.1.text; given = h.1.given; answer = h.1.answer }, h.1.written)

pub returns-clause-untouched : goal.returns-clause-untouched
returns-clause-untouched g c = λ is.
    not_by c.carry_out_run-ended.result _ _ (c.end_of_run.ensures.memory is) c.carry_out_run-ended.ensures.untouched

pub returns-clause-unwritten : goal.returns-clause-unwritten
returns-clause-unwritten g c = λ is.
    not_by c.carry_out_run-ended.result _ _ (c.end_of_run.ensures.read is) c.carry_out_run-ended.ensures.untouched

pub returns-clause-no_thread : goal.returns-clause-no_thread
returns-clause-no_thread g c = λ is.
    let why = c.end_of_run.ensures.no_thread is in (
      unwritten_for c.carry_out_run-ended.result stop.Thread _ why c.carry_out_run-ended.ensures.untouched,
      unanswered_for c.carry_out_run-ended.result stop.Thread
          (Stops
          (IsRunnableInput g.D.Read.remaining c.args.declaration.now c.carry_out_run-ended.new.declaration)) why
          c.carry_out_run-ended.ensures.unanswered,
    )

pub returns-clause-no_tally : goal.returns-clause-no_tally
returns-clause-no_tally g c = λ is.
    let why = c.end_of_run.ensures.no_tally is in (
      unwritten_for c.carry_out_run-ended.result stop.Tally _ why c.carry_out_run-ended.ensures.untouched,
      unanswered_for c.carry_out_run-ended.result stop.Tally
          (Stops
          (IsRunnableInput g.D.Read.remaining c.args.declaration.now c.carry_out_run-ended.new.declaration)) why
          c.carry_out_run-ended.ensures.unanswered,
    )

pub returns-clause-read_failed : goal.returns-clause-read_failed
returns-clause-read_failed g c = λ is. c.carry_out_run-ended.ensures.read_failed (c.end_of_run.ensures.read_failed is)

pub returns-clause-no_read_failed : goal.returns-clause-no_read_failed
returns-clause-no_read_failed g c = λ not.
    c.carry_out_run-ended.ensures.no_read_failed (c.end_of_run.ensures.no_read_failed not)

pub returns-clause-write_failed : goal.returns-clause-write_failed
returns-clause-write_failed g c = λ is. c.carry_out_run-ended.ensures.write_failed (c.end_of_run.ensures.write_failed is)

pub returns-clause-no_write_failed : goal.returns-clause-no_write_failed
returns-clause-no_write_failed g c = λ not.
    c.carry_out_run-ended.ensures.no_write_failed (c.end_of_run.ensures.no_write_failed not)
