use Rattle.std.proofs.Common.{rules, ◌≡◌, ◌≤◌, ◌+◌, ℕ, ◌∙◌, arith, drop, false, length, map, subst, take, vec_len}
use Rattle.std.specs.Prelude.{IsTrue, IfOk}
use Rattle.wq_rescuer.specs.Executing.{Executes, HasEnded, HasWorked, no_counts}
use Rattle.wq_rescuer.specs.Contexts.{contexts_of}
use Rattle.wq_rescuer.specs.Serving.{IsRan}
use Rattle.wq_rescuer.proofs.Executions.{has_ended}
use Rattle.wq_rescuer.proofs.Doing.{done_of, done_part, have_called, have_served}
use Rattle.wq_rescuer.proofs.Handovers.{few_left, none_lost, one_lost_seen}
use Rattle.wq_rescuer.proofs.running.run_all.Goals as goal

-- ---- all came back

pub returns-clause-ran : goal.returns-clause-ran
returns-clause-ran g c =
    let w = g.N.Naming.wiring in
    let yes : IsTrue c.run_threads-board.result.1 = search rules in
    let same : vec_len c.args.bodies ≡ length (contexts_of w) = search rules in
    let ran = c.gather.result in
    let callers : vec_len c.run_threads-board.result.0.callers.ends ≡ vec_len c.args.callers =
    c.run_threads-board.ensures.callers_back yes ∙ c.make_jobs-jobs.ensures.jobs.1 in (
      same,
      subst (λ (n : ℕ). IsRan w n ran.seats.items (map g.B.Body.runs ran.bodies.items) (vec_len ran.callers)
          (vec_len ran.results)
          ran.rescued.items ran.finished ran.faults) callers c.gather.ensures.ran,
    )

pub gather-requires-clause-few : goal.gather-requires-clause-few
gather-requires-clause-few g c =
    let yes : IsTrue c.run_threads-board.result.1 = search rules in
    let few : vec_len c.args.bodies ≤ 65536 = search rules in
    omega (arith, few, c.run_threads-board.ensures.contexts_back yes, c.make_jobs-jobs.ensures.jobs.0)

pub gather-requires-clause-in_order : goal.gather-requires-clause-in_order
gather-requires-clause-in_order g c =
    let w = g.N.Naming.wiring in
    let yes : IsTrue c.run_threads-board.result.1 = search rules in
    done_part (λ job end. (end.context ≡ job.context)
    × HasWorked w g.N.Naming.rows job.context (g.B.Body.may w job.body) end.seat end.rescued)
    (λ job. job.context) (λ end. end.context)
    (λ job end done. done.0) c.make_jobs-jobs.result.0.board.contexts.waiting.items
    c.run_threads-board.result.0.contexts.ends.items (c.run_threads-board.ensures.served yes)
    ∙ c.make_jobs-jobs.ensures.contexts

pub gather-requires-clause-seats : goal.gather-requires-clause-seats
gather-requires-clause-seats g c =
    let yes : IsTrue c.run_threads-board.result.1 = search rules in
    let jobs = c.make_jobs-jobs.ensures in
    let back = c.run_threads-board.ensures in
    (jobs.seat_room.0, omega (arith, jobs.seat_room.1, jobs.jobs, back.contexts_back yes, back.callers_back yes))

pub gather-requires-clause-bodies : goal.gather-requires-clause-bodies
gather-requires-clause-bodies g c =
    let yes : IsTrue c.run_threads-board.result.1 = search rules in
    let jobs = c.make_jobs-jobs.ensures in
    let back = c.run_threads-board.ensures in
    (jobs.body_room.0, omega (arith, jobs.body_room.1, jobs.jobs, back.contexts_back yes))

pub gather-requires-clause-callers : goal.gather-requires-clause-callers
gather-requires-clause-callers g c =
    let yes : IsTrue c.run_threads-board.result.1 = search rules in
    let jobs = c.make_jobs-jobs.ensures in
    let back = c.run_threads-board.ensures in
    (jobs.caller_room.0, omega (arith, jobs.caller_room.1, jobs.jobs, back.callers_back yes))

pub gather-requires-clause-rescued : goal.gather-requires-clause-rescued
gather-requires-clause-rescued g c =
    let yes : IsTrue c.run_threads-board.result.1 = search rules in
    let jobs = c.make_jobs-jobs.ensures in
    let back = c.run_threads-board.ensures in
    (jobs.rescued_room.0, omega (arith, jobs.rescued_room.1, jobs.jobs, back.contexts_back yes))

pub gather-requires-clause-results : goal.gather-requires-clause-results
gather-requires-clause-results g c =
    let yes : IsTrue c.run_threads-board.result.1 = search rules in
    let jobs = c.make_jobs-jobs.ensures in
    let back = c.run_threads-board.ensures in
    (jobs.result_room.0, omega (arith, jobs.result_room.1, jobs.jobs, back.callers_back yes))

pub returns-clause-served : goal.returns-clause-served
returns-clause-served g c =
    let w = g.N.Naming.wiring in
    let yes : IsTrue c.run_threads-board.result.1 = search rules in
    let jobs = c.make_jobs-jobs.result.0.board.contexts.waiting.items in
    let ends = c.run_threads-board.result.0.contexts.ends.items in
    have_served (λ body seat answer. Executes (g.B.Body.may w body) (no_counts w) seat answer) (λ end. end.seat)
    (λ end. end.rescued)
    c.args.bodies.items (map (λ job. job.body) jobs) ends (take (length (contexts_of w)) c.gather.result.seats.items)
    c.gather.result.rescued.items c.make_jobs-jobs.ensures.bodies
    (done_of (λ job end. (end.context ≡ job.context)
    × HasWorked w g.N.Naming.rows job.context (g.B.Body.may w job.body) end.seat end.rescued)
    (λ body end. Executes (g.B.Body.may w body) (no_counts w) end.seat end.rescued)
    (λ job. job.body) (λ job end done. done.1.0) jobs ends (c.run_threads-board.ensures.served yes))
    c.gather.ensures.first_seats c.gather.ensures.rescued

pub returns-clause-ended : goal.returns-clause-ended
returns-clause-ended g c =
    let w = g.N.Naming.wiring in
    let rows = g.N.Naming.rows in
    let yes : IsTrue c.run_threads-board.result.1 = search rules in
    let jobs = c.make_jobs-jobs.result.0.board.contexts.waiting.items in
    let ends = c.run_threads-board.result.0.contexts.ends.items in
    have_served (λ context seat answer.
    IfOk answer (λ r. HasEnded w rows context.lane context.number r.ended)) (λ end. end.seat)
    (λ end. end.rescued) (contexts_of w) (map (λ job. job.context) jobs) ends
    (take (length (contexts_of w)) c.gather.result.seats.items) c.gather.result.rescued.items
    c.make_jobs-jobs.ensures.contexts
    (done_of (λ job end. (end.context ≡ job.context)
    × HasWorked w g.N.Naming.rows job.context (g.B.Body.may w job.body) end.seat end.rescued)
    (λ context end. IfOk end.rescued (λ r. HasEnded w rows context.lane context.number r.ended)) (λ job. job.context)
    (λ job end done. has_ended w rows job.context.lane job.context.number (g.B.Body.may w job.body) (no_counts w)
    end.seat end.rescued done.1.1) jobs ends (c.run_threads-board.ensures.served yes))
    c.gather.ensures.first_seats c.gather.ensures.rescued

pub returns-clause-called : goal.returns-clause-called
returns-clause-called g c =
    let w = g.N.Naming.wiring in
    let yes : IsTrue c.run_threads-board.result.1 = search rules in
    let jobs = c.make_jobs-jobs.result.0.board.callers.waiting.items in
    let ends = c.run_threads-board.result.0.callers.ends.items in
    have_called (λ before after answer seat. g.C.Caller.did w before after answer (no_counts w) seat)
    (λ end. end.caller) (λ end. end.result)
    (λ end. end.seat) c.args.callers.items (map (λ job. job.caller) jobs) ends c.gather.result.callers.items
    c.gather.result.results.items
    (drop (length (contexts_of w)) c.gather.result.seats.items) c.make_jobs-jobs.ensures.callers
    (done_of (λ job end. g.C.Caller.did w job.caller end.caller end.result (no_counts w) end.seat)
    (λ caller end. g.C.Caller.did w caller end.caller end.result (no_counts w) end.seat)
    (λ job. job.caller) (λ job end done. done) jobs ends (c.run_threads-board.ensures.called yes))
    c.gather.ensures.callers c.gather.ensures.results c.gather.ensures.seats

-- ---- one was lost

pub hand_back-requires-clause-seats : goal.hand_back-requires-clause-seats
hand_back-requires-clause-seats g c =
    let no : c.run_threads-board.result.1 ≡ false = search rules in
    let jobs = c.make_jobs-jobs.ensures in
    (jobs.seat_room.0, omega (arith, jobs.seat_room.1, jobs.jobs, few_left (c.run_threads-board.ensures.lost no)))

pub hand_back-requires-clause-bodies : goal.hand_back-requires-clause-bodies
hand_back-requires-clause-bodies g c =
    let no : c.run_threads-board.result.1 ≡ false = search rules in
    let jobs = c.make_jobs-jobs.ensures in
    (jobs.body_room.0, omega (arith, jobs.body_room.1, jobs.jobs, few_left (c.run_threads-board.ensures.lost no)))

pub hand_back-requires-clause-callers : goal.hand_back-requires-clause-callers
hand_back-requires-clause-callers g c =
    let no : c.run_threads-board.result.1 ≡ false = search rules in
    let jobs = c.make_jobs-jobs.ensures in
    (jobs.caller_room.0, omega (arith, jobs.caller_room.1, jobs.jobs, few_left (c.run_threads-board.ensures.lost no)))

pub returns-then-not-all-clause-lost : goal.returns-then-not-all-clause-lost
returns-then-not-all-clause-lost g c = λ why.
    let no : c.run_threads-board.result.1 ≡ false = search rules in
    let jobs = c.make_jobs-jobs.ensures.jobs in
    let was = c.make_jobs-jobs.result.0.board in
    let left = c.run_threads-board.result.0 in
    let back = c.hand_back.ensures in (
      omega (arith, back.seats, back.bodies, back.callers),
      one_lost_seen (vec_len was.contexts.waiting) (vec_len was.callers.waiting)
          (vec_len left.contexts.waiting + vec_len left.contexts.ends)
          (vec_len left.callers.waiting + vec_len left.callers.ends) (vec_len c.args.bodies) (vec_len c.args.callers)
          (vec_len c.hand_back.result.bodies) (vec_len c.hand_back.result.callers) (c.run_threads-board.ensures.lost no)
          jobs.0 jobs.1 back.bodies back.callers,
    )

-- ---- no thread was started

pub returns-in-Err-clause-lost : goal.returns-in-Err-clause-lost
returns-in-Err-clause-lost g c = none_lost _ _ c.in-Err.ensures.unstarted
