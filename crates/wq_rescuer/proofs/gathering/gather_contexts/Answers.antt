use Rattle.std.proofs.Common.{rules, ◌≡◌, [], ◌∷◌, ◌++◌, length, map, reverse, vec_len, ap, refl, sym, subst, ◌∙◌, arith}
use Rattle.std.proofs.lemmas.List.{map-append}
use Rattle.wq_rescuer.specs.Contexts.{contexts_of}
use Rattle.wq_rescuer.specs.Serving.{finished_by, faults_by}
use Rattle.wq_rescuer.proofs.Handovers.{added, all_served, as_many, handed_all, handed_more, left_popped, AreLeft, none_left, none_served, nothing_in, sum_by-added}
use Rattle.wq_rescuer.proofs.gathering.gather_contexts.Goals as goal

pub loop-end-init : goal.loop-end-init
loop-end-init g c =
    let none : vec_len c.args.seats ≡ 0 = c.args.seats.ok.0 ∙ ap length c.requires.no_seats in (
      search rules,
      search rules,
      search rules,
      search rules,
      search rules,
      search rules,
      none_served g.N.Naming.wiring (contexts_of g.N.Naming.wiring) (vec_len c.args.seats) c.args.seats.items
          (map g.B.Body.runs c.args.bodies.items) c.args.rescued.items none c.requires.no_seats
          (ap (map g.B.Body.runs) c.requires.no_bodies) c.requires.none_rescued,
      search rules,
      search rules,
      search rules,
      search rules,
      none_left (contexts_of g.N.Naming.wiring) (vec_len c.args.seats)
          (map (λ end. end.context) c.args.ends.items) none c.requires.in_order,
      refl,
      refl,
    )

pub loop-end-preserved : goal.loop-end-preserved
loop-end-preserved g c =
    let all = (contexts_of g.N.Naming.wiring) in
    let old = c.loop-end.invariant in
    let seat = c.push_reserved.ensures in
    let body = c.push_reserved-in-Some.ensures in
    let answer = c.push_reserved-in-Some-2.ensures in
    let n = vec_len c.loop-end.seats in
    let left = map (λ end. end.context) c.pop.new.self.items in
    let order = left_popped all n (map (λ end. end.context) c.loop-end.ends.items) left c.in-Some.end.context old.11
    (ap (map (λ end. end.context)) c.in-Some.ensures.items ∙ map-append (λ end. end.context) c.pop.new.self.items (c.in-Some.end ∷ [])) in (
      omega (arith, old.0, seat.len, c.in-Some.ensures.cases),
      omega (arith, old.1, body.len, c.in-Some.ensures.cases),
      omega (arith, old.2, answer.len, c.in-Some.ensures.cases),
      omega (arith, seat.capacity, old.3),
      omega (arith, body.capacity, old.4),
      omega (arith, answer.capacity, old.5),
      added g.N.Naming.wiring all n (vec_len c.push_reserved.new.self) c.loop-end.seats.items c.push_reserved.new.self.items (map g.B.Body.runs c.loop-end.bodies.items) (map g.B.Body.runs c.push_reserved-in-Some.new.self.items)
          c.loop-end.rescued.items c.push_reserved-in-Some-2.new.self.items c.in-Some.end.context c.in-Some.end.seat (g.B.Body.runs c.in-Some.end.body) c.in-Some.end.rescued old.6 order.1 c.in-Some.end.served seat.len seat.items
          (ap (map g.B.Body.runs) body.items ∙ map-append g.B.Body.runs c.loop-end.bodies.items (c.in-Some.end.body ∷ [])) answer.items,
      omega (arith, old.7, c.count_finished-finished.ensures.count, sum_by-added finished_by c.loop-end.rescued.items c.push_reserved-in-Some-2.new.self.items c.in-Some.end.rescued answer.items),
      omega (arith, old.8, c.count_faults-faults.ensures.count, sum_by-added faults_by c.loop-end.rescued.items c.push_reserved-in-Some-2.new.self.items c.in-Some.end.rescued answer.items),
      omega (arith, old.9, c.count_finished-finished.ensures.few, seat.len),
      omega (arith, old.10, c.count_faults-faults.ensures.few, seat.len),
      subst (λ k. AreLeft all k left) (sym seat.len) order.0,
      handed_more (λ e. e.seat) c.args.seats.items c.args.ends.items c.loop-end.seats.items
          c.push_reserved.new.self.items c.loop-end.ends.items c.pop.new.self.items c.in-Some.end old.12
          c.in-Some.ensures.items seat.items,
      handed_more (λ e. e.rescued) c.args.rescued.items c.args.ends.items c.loop-end.rescued.items
          c.push_reserved-in-Some-2.new.self.items c.loop-end.ends.items c.pop.new.self.items c.in-Some.end old.13
          c.in-Some.ensures.items answer.items,
    )

pub returns-clause-served : goal.returns-clause-served
returns-clause-served g c =
    let l = c.loop-end in
    all_served g.N.Naming.wiring (contexts_of g.N.Naming.wiring) (vec_len l.seats) l.seats.items
    (map g.B.Body.runs l.bodies.items) l.rescued.items l.invariant.6
    (omega (
      arith,
      l.invariant.0,
      c.args.ends.ok.0,
      as_many (λ end. end.context) c.args.ends.items (contexts_of g.N.Naming.wiring) c.requires.in_order,
      c.in_default.ensures.cases.0,
    ))

pub returns-clause-seats : goal.returns-clause-seats
returns-clause-seats g c =
    let l = c.loop-end in
    handed_all (λ e. e.seat) c.args.seats.items c.args.ends.items l.seats.items l.ends.items l.invariant.12
    (nothing_in l.ends.items (sym l.ends.ok.0 ∙ c.in_default.ensures.cases.0))
    ∙ ap (λ xs. xs ++ reverse (map (λ e. e.seat) c.args.ends.items)) c.requires.no_seats

pub returns-clause-rescued : goal.returns-clause-rescued
returns-clause-rescued g c =
    let l = c.loop-end in
    handed_all (λ e. e.rescued) c.args.rescued.items c.args.ends.items l.rescued.items l.ends.items l.invariant.13
    (nothing_in l.ends.items (sym l.ends.ok.0 ∙ c.in_default.ensures.cases.0))
    ∙ ap (λ xs. xs ++ reverse (map (λ e. e.rescued) c.args.ends.items)) c.requires.none_rescued
