use Rattle.std.proofs.Common.{rules, [], ◌∷◌, take, vec_len, ap, sym, ◌∙◌, arith}
use Rattle.wq_rescuer.proofs.Handovers.{nothing_in, handed_more, handed_all, take_before}
use Rattle.wq_rescuer.proofs.gathering.gather_callers.Goals as goal

pub loop-end-preserved : goal.loop-end-preserved
loop-end-preserved g c =
    let old = c.loop-end.invariant in
    let end = c.in-Some.end in
    let left = c.in-Some.ensures.items in (
      search rules,
      search rules,
      search rules,
      search rules,
      search rules,
      search rules,
      search rules,
      ap (take (vec_len c.args.seats.now)) c.push_reserved.ensures.items ∙ take_before c.loop-end.seats.items (end.seat ∷ []) (vec_len c.args.seats.now) (omega (arith, old.6, c.loop-end.seats.ok.0)) ∙ old.7,
      handed_more (λ e. e.seat) c.args.seats.now.items c.args.ends.items c.loop-end.seats.items c.push_reserved.new.self.items c.loop-end.ends.items c.pop.new.self.items end old.8 left c.push_reserved.ensures.items,
      handed_more (λ e. e.caller) c.args.callers.now.items c.args.ends.items c.loop-end.callers.items c.push_reserved-in-Some.new.self.items c.loop-end.ends.items c.pop.new.self.items end old.9 left c.push_reserved-in-Some.ensures.items,
      handed_more (λ e. e.result) c.args.results.now.items c.args.ends.items c.loop-end.results.items c.push_reserved-in-Some-2.new.self.items c.loop-end.ends.items c.pop.new.self.items end old.10 left c.push_reserved-in-Some-2.ensures.items,
    )

pub returns-clause-seats_in_order : goal.returns-clause-seats_in_order
returns-clause-seats_in_order g c =
    let l = c.loop-end in
    handed_all (λ e. e.seat) c.args.seats.now.items c.args.ends.items l.seats.items l.ends.items l.invariant.8 (nothing_in l.ends.items (sym l.ends.ok.0 ∙ c.in_default.ensures.cases.0))

pub returns-clause-callers_in_order : goal.returns-clause-callers_in_order
returns-clause-callers_in_order g c =
    let l = c.loop-end in
    handed_all (λ e. e.caller) c.args.callers.now.items c.args.ends.items l.callers.items l.ends.items l.invariant.9 (nothing_in l.ends.items (sym l.ends.ok.0 ∙ c.in_default.ensures.cases.0))

pub returns-clause-results_in_order : goal.returns-clause-results_in_order
returns-clause-results_in_order g c =
    let l = c.loop-end in
    handed_all (λ e. e.result) c.args.results.now.items c.args.ends.items l.results.items l.ends.items l.invariant.10 (nothing_in l.ends.items (sym l.ends.ok.0 ∙ c.in_default.ensures.cases.0))
