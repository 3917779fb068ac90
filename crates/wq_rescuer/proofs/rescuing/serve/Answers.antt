use Rattle.std.proofs.Common.{ap₂, arith, inl, inr, sym, ◌∙◌}
use Rattle.wq_core.specs.Wiring.{items}
use Rattle.wq_rescuer.specs.Executing.{HasStopped}
use Rattle.wq_held.specs.Locked.{seat_rows, slots}
use Rattle.std.proofs.Math.Nat.{le-max_left}
use Rattle.std.specs.Prelude.{sum}
use Rattle.wq_items.proofs.WaitLemmas.{OnErr-always}
use Rattle.wq_rescuer.proofs.Executions.{serving_more, one_fault_at_most, ran_only_more, on_lane_of_next}
use Rattle.wq_rescuer.proofs.Executions.{nothing_else, few_finished, few_runs, below_limit, has_cause, left_one}
use Rattle.wq_rescuer.proofs.Executions.{one_executed, stopped_at_end, stopped_between}
use Rattle.wq_rescuer.proofs.rescuing.serve.Goals as goal

pub execute-answer-requires-clause-few : goal.execute-answer-requires-clause-few
execute-answer-requires-clause-few g c =
    let room = below_limit c.is_full.result seat_rows (sum c.loop.seat) c.is_full.ensures c.if-is_full.false in
    let on = on_lane_of_next g.N.Naming.wiring c.args.q c.in-Some-item.item c.in_ok-next.next.item
    c.in_ok-next.ensures.started.1
    (sym c.item.ensures ∙ c.in-Some-item.is) in
    few_runs (items g.N.Naming.wiring) (slots g.N.Naming.wiring) c.args.seat.now c.loop.seat
    (g.B.Body.width c.loop.body) (g.B.Body.runs c.loop.body) c.loop.rescued.finished c.loop.rescued.faults
    c.in-Some-item.item c.loop.invariant.2 c.holds.ensures
    (le-max_left (items g.N.Naming.wiring) g.N.Naming.wiring.lanes) on.0 room

pub execute-answer-requires-clause-started : goal.execute-answer-requires-clause-started
execute-answer-requires-clause-started g c =
    ap₂ (λ context item. record { context = context; item = item }) c.in_ok-next.ensures.took.0
    (sym c.item.ensures ∙ c.in-Some-item.is)

pub and-rescued-requires-clause-few : goal.and-rescued-requires-clause-few
and-rescued-requires-clause-few g c =
    let room = below_limit c.is_full.result seat_rows (sum c.loop.seat) c.is_full.ensures c.if-is_full.false in
    (few_finished (items g.N.Naming.wiring) (slots g.N.Naming.wiring) c.args.seat.now c.loop.seat
    (g.B.Body.width c.loop.body) (g.B.Body.runs c.loop.body) c.loop.rescued.finished c.loop.rescued.faults
    c.loop.invariant.2 c.holds.ensures (le-max_left (items g.N.Naming.wiring) g.N.Naming.wiring.lanes) room).0

pub and-rescued-requires-clause-faults : goal.and-rescued-requires-clause-faults
and-rescued-requires-clause-faults g c = c.loop.invariant.2.faults_within

pub loop-preserved : goal.loop-preserved
loop-preserved g c =
    let before = c.loop.rescued in
    let more = c.and-rescued.result in (
      tt,
      tt,
      serving_more (items g.N.Naming.wiring) (slots g.N.Naming.wiring) c.args.seat.now c.loop.seat
          c.execute-answer.new.seat (g.B.Body.width c.loop.body) (g.B.Body.width c.execute-answer.new.body)
          (g.B.Body.runs c.loop.body) (g.B.Body.runs c.execute-answer.new.body)
          before.finished before.faults more.finished more.faults c.in-Some-item.item c.loop.invariant.2
          c.execute-answer.ensures.width c.holds-in-loop.ensures
          (le-max_left (items g.N.Naming.wiring) g.N.Naming.wiring.lanes) c.in_ok-finish_in.ensures.counted.1.0
          c.execute-answer.ensures.finished c.execute-answer.ensures.ran
          c.and-rescued.ensures.finished
          (omega (arith, c.and-rescued.ensures.faults, one_fault_at_most c.execute-answer.result))
          c.finish_in.new.seat c.in_ok-finish_in.ensures.counted.2,
      ran_only_more g.N.Naming.wiring c.args.q (g.B.Body.runs c.loop.body) (g.B.Body.runs c.execute-answer.new.body)
          c.in-Some-item.item c.loop.invariant.3 c.execute-answer.ensures.ran
          (on_lane_of_next g.N.Naming.wiring c.args.q c.in-Some-item.item c.in_ok-next.next.item
          c.in_ok-next.ensures.started.1
          (sym c.item.ensures ∙ c.in-Some-item.is)),
      c.loop.invariant.4,
      one_executed (g.B.Body.may g.N.Naming.wiring c.args.body.now) c.args.seat.now c.loop.seat
          c.execute-answer.new.seat c.finish_in.new.seat
          before.finished before.faults more.finished more.faults c.in-Some-item.item c.execute-answer.result
          c.loop.invariant.5
          (c.loop.invariant.6 c.in-Some-item.item c.execute-answer.result c.loop.seat c.execute-answer.new.seat
          c.execute-answer.ensures.may)
          c.in_ok-finish_in.ensures.counted.2 c.and-rescued.ensures.finished c.and-rescued.ensures.faults,
      (λ i answer before after it. c.loop.invariant.6 i answer before after
          (c.execute-answer.ensures.no_more i answer before after it)),
    )

pub returns-then-not-has_context-clause-own : goal.returns-then-not-has_context-clause-own
returns-then-not-has_context-clause-own g c =
    nothing_else g.N.Naming.wiring c.args.q (g.B.Body.runs c.args.body.now) c.requires.never_ran

pub returns-in_err-finish_in-clause-own : goal.returns-in_err-finish_in-clause-own
returns-in_err-finish_in-clause-own g c =
    ran_only_more g.N.Naming.wiring c.args.q (g.B.Body.runs c.loop.body) (g.B.Body.runs c.execute-answer.new.body)
    c.in-Some-item.item c.loop.invariant.3 c.execute-answer.ensures.ran
    (on_lane_of_next g.N.Naming.wiring c.args.q c.in-Some-item.item c.in_ok-next.next.item
    c.in_ok-next.ensures.started.1
    (sym c.item.ensures ∙ c.in-Some-item.is))

pub returns-in_err-next-clause-cause : goal.returns-in_err-next-clause-cause
returns-in_err-next-clause-cause g c = λ there. has_cause _ c.from_residual.result (inl c.in_err-next.ensures.cause)

pub returns-in_err-finish_in-clause-cause : goal.returns-in_err-finish_in-clause-cause
returns-in_err-finish_in-clause-cause g c = λ there.
    let before = c.loop.rescued in
    let item = c.in-Some-item.item in
    let answer = c.execute-answer.result in
    let counts = c.execute-answer.new.seat in
    has_cause _ c.from_residual-in_err-finish_in.result
    (inr (left_one (g.B.Body.may g.N.Naming.wiring c.args.body.now) c.args.seat.now c.loop.seat counts
    c.finish_in.new.seat
    before.finished before.faults item answer c.loop.invariant.5
    (c.loop.invariant.6 item answer c.loop.seat counts c.execute-answer.ensures.may)
    c.in_err-finish_in.ensures.refused.1))

pub returns-in_err-finish_in-clause-stopped : goal.returns-in_err-finish_in-clause-stopped
returns-in_err-finish_in-clause-stopped g c =
    let before = c.loop.rescued in
    let item = c.in-Some-item.item in
    let answer = c.execute-answer.result in
    let counts = c.execute-answer.new.seat in
    let may = g.B.Body.may g.N.Naming.wiring c.args.body.now in
    OnErr-always c.from_residual-in_err-finish_in.result (HasStopped may c.args.seat.now c.finish_in.new.seat)
    (stopped_at_end may c.args.seat.now c.finish_in.new.seat
    (left_one may c.args.seat.now c.loop.seat counts c.finish_in.new.seat before.finished before.faults item answer
    c.loop.invariant.5 (c.loop.invariant.6 item answer c.loop.seat counts c.execute-answer.ensures.may)
    c.in_err-finish_in.ensures.refused.1))

pub returns-in_err-next-clause-stopped : goal.returns-in_err-next-clause-stopped
returns-in_err-next-clause-stopped g c =
    let before = c.loop.rescued in
    let may = g.B.Body.may g.N.Naming.wiring c.args.body.now in
    OnErr-always c.from_residual.result (HasStopped may c.args.seat.now c.loop.seat)
    (stopped_between may c.args.seat.now c.loop.seat before.finished before.faults c.loop.invariant.5)
