use Rattle.std.proofs.Common.{vec_len, sym, ◌∙◌}
use Rattle.wq_held.specs.Locked.{slots}
use Rattle.wq_held.proofs.Closings.{none_left, IsGathered-none, IsGathered-more, few_gathered, all-gathered}
use Rattle.wq_held.proofs.closing.gather.Goals as goal

pub loop-seat-init : goal.loop-seat-init
loop-seat-init g c =
    let rest = c.args.rest.now in
    IsGathered-none (slots g.N.Naming.wiring) g.N.Ledger.parts c.args.ledger.now.total c.args.seats.items
    c.args.sums.now rest.parts rest.amount (vec_len c.args.seats) c.requires.empty c.requires.parts_are
    c.requires.no_amount

pub add-requires-clause-items : goal.add-requires-clause-items
add-requires-clause-items g c = c.loop-seat.invariant.a_count_each ∙ sym c.seat.invariant.a_count_each

pub add-requires-clause-few : goal.add-requires-clause-few
add-requires-clause-few g c =
    few_gathered c.loop-seat.invariant c.merge.new.self.amount c.seat.invariant c.merge.ensures.amount
    c.audit.ensures.bound c.requires.few

pub loop-seat-preserved : goal.loop-seat-preserved
loop-seat-preserved g c =
    IsGathered-more c.loop-seat.invariant c.seat.invariant c.pop.new.self.items c.add.new.self c.in-Some.seat
    c.audit.new.share.parts c.audit.new.share.amount (vec_len c.pop.new.self) c.audit.new.self.total
    c.in-Some.ensures.items c.in-Some.ensures.cases c.seat.view_is c.add.ensures.each c.add.ensures.total
    c.add.ensures.length (c.audit.ensures.parts ∙ c.merge.ensures.parts)
    (c.audit.ensures.amount ∙ c.merge.ensures.amount) c.audit.ensures.total

pub returns : goal.returns
returns g c =
    let left = c.loop-seat.seats in
    all-gathered c.loop-seat.invariant (none_left left.items c.pop.new.self.items (vec_len left)
    c.in_default.ensures.cases.0 c.in_default.ensures.items c.in_default.ensures.rest) c.in_default.ensures.cases.0
    c.audit-2.ensures.whole
