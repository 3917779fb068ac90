use Rattle.std.proofs.Common.{◌-◌, List, ℕ, sym, ap, subst}
use Rattle.wq_history.proofs.Words.{Wiring, Answers}
use Rattle.wq_held.proofs.Words.{Call}
use Rattle.wq_held.specs.Locked.{HeldView, IsProtected}
use Rattle.wq_held.specs.Calls.{AreThere, WasAnswered, BecomesTurn}
use Rattle.wq_held.proofs.TakenTurns.{book-inside, answered-there, few-tallies, answered-protected, turn-taken}
use Rattle.wq_held.proofs.TakenTurns.{turn-wakes}
use Rattle.wq_held.proofs.held.Held.turn.Goals as goal

pub count_answer-requires-clause-there : goal.count_answer-requires-clause-there
count_answer-requires-clause-there g c =
    let h = c.self.inside in
    subst (λ (w : Wiring). AreThere w c.answer_by-answer.result) c.self.invariant.of_wiring
    (answered-there h.book c.answer_by-answer.new.book (g.C.AsCall.meant c.args.call) c.answer_by-answer.result
    (book-inside c.args.self.now _ c.self.view_is c.holds.ensures.legal) c.answer_by-answer.ensures)

pub count_answer-requires-clause-few : goal.count_answer-requires-clause-few
count_answer-requires-clause-few g c =
    let h = c.self.inside in
    few-tallies _ _ _ h.book h.tallies h.sums h.seats h.rest.parts h.rest.amount c.self.invariant
    (book-inside c.args.self.now _ c.self.view_is c.holds.ensures.legal)

pub turn_of-requires : goal.turn_of-requires
turn_of-requires g c =
    subst (λ (k : Call). WasAnswered c.answer_by-answer.new.book k c.answer_by-answer.result) (sym c.call-meant.ensures)
    (c.self.inside.book, book-inside c.args.self.now _ c.self.view_is c.holds.ensures.legal, c.answer_by-answer.ensures)

pub invariant_of-self : goal.invariant_of-self
invariant_of-self g c =
    let h = c.self.inside in
    subst (λ (ts : List ℕ). IsProtected _ _ _ c.answer_by-answer.new.book ts h.sums h.seats h.rest.parts h.rest.amount)
    (sym c.count_answer.ensures.0)
    (answered-protected _ _ _ h.book c.answer_by-answer.new.book h.tallies h.sums h.seats h.rest.parts h.rest.amount
    c.self.invariant (book-inside c.args.self.now _ c.self.view_is c.holds.ensures.legal) (g.C.AsCall.meant c.args.call)
    c.answer_by-answer.result c.answer_by-answer.ensures)

pub returns-clause-takes : goal.returns-clause-takes
returns-clause-takes g c =
    let call : Call = g.C.AsCall.meant c.args.call in
    let old : HeldView = c.args.self.now in
    let seats : ℕ = g.N.Ledger.parts - c.self.inside.rest.parts in
    let new : HeldView = record { book = c.answer_by-answer.new.book; seats = seats } in
    let answer = c.answer_by-answer.result in
    turn-taken old new c.args.seat.now c.count_answer.new.seat call answer c.turn_of.result
    (subst (λ (x : HeldView). Answers x.book call answer new.book) c.self.view_is c.answer_by-answer.ensures)
    (ap (λ (x : HeldView). x.seats) c.self.view_is) c.count_answer.ensures.1
    (subst (λ (k : Call). BecomesTurn new.book k answer c.turn_of.result) c.call-meant.ensures c.turn_of.ensures)

pub returns-clause-wakes : goal.returns-clause-wakes
returns-clause-wakes g c =
    let seats : ℕ = g.N.Ledger.parts - c.self.inside.rest.parts in
    turn-wakes g.N.Naming.wiring g.N.Naming.rows c.args.self.now
    (record { book = c.answer_by-answer.new.book; seats = seats }) c.args.seat.now c.count_answer.new.seat
    (g.C.AsCall.meant c.args.call) c.turn_of.result c.holds.ensures (returns-clause-takes g c)
