use Rattle.std.proofs.Common.{◌≡◌, map, length, vec_len, sym, ap, ◌∙◌, ◌++◌, drop, reverse, take, arith}
use Rattle.wq_rescuer.specs.Contexts.{contexts_of}
use Rattle.wq_rescuer.proofs.Handovers.{as_many, contexts_first, nothing_in, drop_first}
use Rattle.wq_rescuer.proofs.gathering.gather.Goals as goal

pub returns-clause-ran : goal.returns-clause-ran
returns-clause-ran g c =
    let all = contexts_of g.N.Naming.wiring in
    let seats = c.gather_contexts-seats.result.seats in
    let runs = map g.B.Body.runs c.gather_contexts-seats.result.bodies.items in
    let rescued = c.gather_contexts-seats.result.rescued.items in
    record {
      a_seat_each = omega (
        arith,
        c.gather_callers.new.seats.ok.0,
        c.gather_callers.ensures.seats,
        seats.ok.0,
        c.gather_contexts-seats.ensures.served.a_seat_each,
      );
      served = contexts_first g.N.Naming.wiring all
          (vec_len seats) seats.items c.gather_callers.new.seats.items runs rescued
          c.gather_contexts-seats.ensures.served c.gather_callers.ensures.contexts seats.ok.0;
      callers_back = omega (arith, c.gather_callers.ensures.callers);
      a_result_each = omega (arith, c.gather_callers.ensures.results);
      finished_is = c.gather_contexts-seats.ensures.finished;
      faults_is = c.gather_contexts-seats.ensures.faults;
    }

pub returns-clause-first_seats : goal.returns-clause-first_seats
returns-clause-first_seats g c =
    let seats = c.gather_contexts-seats.result.seats in
    let long : length (contexts_of g.N.Naming.wiring) ≡ vec_len seats =
    omega (arith, seats.ok.0, c.gather_contexts-seats.ensures.served.a_seat_each) in
    ap (λ n. take n c.gather_callers.new.seats.items) long ∙ c.gather_callers.ensures.contexts
    ∙ c.gather_contexts-seats.ensures.seats

pub returns-clause-seats : goal.returns-clause-seats
returns-clause-seats g c =
    let first = c.gather_contexts-seats.result.seats.items in
    let n = length (contexts_of g.N.Naming.wiring) in
    ap (drop n) c.gather_callers.ensures.seats_in_order
    ∙ drop_first first (reverse (map (λ e. e.seat) c.args.board.callers.ends.items)) n
    (sym c.gather_contexts-seats.ensures.served.a_seat_each)

pub returns-clause-callers : goal.returns-clause-callers
returns-clause-callers g c =
    let back = c.args.back.callers in
    c.gather_callers.ensures.callers_in_order
    ∙ ap (λ xs. xs ++ reverse (map (λ e. e.caller) c.args.board.callers.ends.items)) (nothing_in back.items (sym back.ok.0 ∙ c.requires.callers.0))

pub returns-clause-results : goal.returns-clause-results
returns-clause-results g c =
    let back = c.args.back.results in
    c.gather_callers.ensures.results_in_order
    ∙ ap (λ xs. xs ++ reverse (map (λ e. e.result) c.args.board.callers.ends.items)) (nothing_in back.items (sym back.ok.0 ∙ c.requires.results.0))
