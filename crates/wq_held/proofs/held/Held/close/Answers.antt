use Rattle.std.proofs.Common.{◌≡◌, ◌↔◌, ℕ, List, sym, ap, subst, ◌∙◌, IsTrue, sum}
use Rattle.wq_history.proofs.Words.{HasUnfinished, all_asks_waiting, state}
use Rattle.wq_held.specs.Locked.{HeldView, RefusesClose, slots}
use Rattle.wq_held.specs.Closing.{AreGathered}
use Rattle.wq_held.proofs.Closings.{IsClosed-held}
use Rattle.wq_held.proofs.held.Held.close.Goals as goal

pub returns-in-Err-clause-refused : goal.returns-in-Err-clause-refused
returns-in-Err-clause-refused g c =
    subst (λ n. (c.in-Err.why.seats ≡ n) × RefusesClose c.args.self n c.in-Err.why.why) c.len.ensures
    c.in-Err.ensures.refused

pub returns-clause-closed : goal.returns-clause-closed
returns-clause-closed g c =
    let h = c.self.inside in
    let closes = c.in_default.ensures.closes in
    IsClosed-held g.N.Naming.wiring g.N.Naming.rows g.N.Ledger.parts h.book h.tallies h.sums h.seats h.rest.parts
    h.rest.amount c.args.seats.items c.gather.new.sums c.is_same.result c.self.invariant c.legal.ensures
    (subst (λ (v : HeldView). ¬ HasUnfinished (state v.book)) (sym c.self.view_is) closes.idle)
    (subst (λ (v : HeldView). all_asks_waiting v.book.rows ≡ 0) (sym c.self.view_is) closes.nobody_waits)
    (subst (AreGathered (slots g.N.Naming.wiring) c.args.seats.items c.gather.new.sums)
    (c.tallies.invariant.total_is ∙ ap sum c.tallies.view_is) c.gather.ensures)
    (subst (λ (ts : List ℕ). IsTrue c.is_same.result ↔ (c.gather.new.sums ≡ ts)) c.tallies.view_is c.is_same.ensures)
