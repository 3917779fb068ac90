use Rattle.std.proofs.Common.{◌-◌, ℕ, List, sym, ap, subst}
use Rattle.wq_history.proofs.Words.{Answers}
use Rattle.wq_held.proofs.Words.{Call}
use Rattle.wq_held.specs.Locked.{HeldView, IsProtected}
use Rattle.wq_held.specs.Calls.{WasAnswered, BecomesTurn}
use Rattle.wq_held.proofs.TakenTurns.{book-inside, answered-protected, answered-uncounted, turn-taken, shown-taken}
use Rattle.wq_held.proofs.TakenTurns.{shown-wakes}
use Rattle.wq_held.proofs.held.Held.turn_uncounted.Goals as goal

pub turn_of-requires : goal.turn_of-requires
turn_of-requires g c =
    subst (λ (k : Call). WasAnswered c.answer_by-answer.new.book k c.answer_by-answer.result) (sym c.call-meant.ensures)
    (c.self.inside.book, book-inside c.args.self.now _ c.self.view_is c.holds.ensures.legal, c.answer_by-answer.ensures)

pub invariant_of-self : goal.invariant_of-self
invariant_of-self g c =
    let h = c.self.inside in
    let call : Call = g.C.AsCall.meant c.args.call in
    let new = c.answer_by-answer.new.book in
    let answer = c.answer_by-answer.result in
    subst (λ (ts : List ℕ). IsProtected _ _ _ new ts h.sums h.seats h.rest.parts h.rest.amount)
    (answered-uncounted h.book new call answer h.tallies (g.met.C.Uncounted.is_uncounted c.args.call)
    c.answer_by-answer.ensures)
    (answered-protected _ _ _ h.book new h.tallies h.sums h.seats h.rest.parts h.rest.amount c.self.invariant
    (book-inside c.args.self.now _ c.self.view_is c.holds.ensures.legal) call answer c.answer_by-answer.ensures)

pub returns-clause-takes : goal.returns-clause-takes
returns-clause-takes g c =
    let call : Call = g.C.AsCall.meant c.args.call in
    let old : HeldView = c.args.self.now in
    let seats : ℕ = g.N.Ledger.parts - c.self.inside.rest.parts in
    let new : HeldView = record { book = c.answer_by-answer.new.book; seats = seats } in
    let answer = c.answer_by-answer.result in
    shown-taken old new call c.call-meant.result c.turn_of.result c.shown.result c.call-meant.ensures
    (λ counts. turn-taken old new counts counts call answer c.turn_of.result
    (subst (λ (x : HeldView). Answers x.book call answer new.book) c.self.view_is c.answer_by-answer.ensures)
    (ap (λ (x : HeldView). x.seats) c.self.view_is)
    (sym (answered-uncounted c.self.inside.book new.book call answer counts (g.met.C.Uncounted.is_uncounted c.args.call)
    c.answer_by-answer.ensures))
    (subst (λ (k : Call). BecomesTurn new.book k answer c.turn_of.result) c.call-meant.ensures c.turn_of.ensures))
    c.shown.ensures

pub returns-clause-wakes : goal.returns-clause-wakes
returns-clause-wakes g c =
    let seats : ℕ = g.N.Ledger.parts - c.self.inside.rest.parts in
    shown-wakes g.N.Naming.wiring g.N.Naming.rows c.args.self.now
    (record { book = c.answer_by-answer.new.book; seats = seats }) (g.C.AsCall.meant c.args.call) c.shown.result
    c.holds.ensures (returns-clause-takes g c)
