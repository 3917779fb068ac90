use Rattle.std.proofs.Common.{◌≡◌, ◌<◌, ◌⊎◌, inl, inr, refl, sym, subst}
use Rattle.wq_history.proofs.Words.{HasUnfinished, all_asks_waiting, state}
use Rattle.wq_history.proofs.Idle.{busy-unfinished}
use Rattle.wq_history.proofs.LegalRows.{IsSoundState-legal}
use Rattle.wq_held.specs.Locked.{HeldView, RefusesClose}
use Rattle.wq_held.specs.Receipts.{Unclosed}
use Rattle.wq_held.proofs.held.Held.closable.Goals.{then-not-is_idle-via-then-not-is_idle}
use Rattle.wq_held.proofs.held.Held.closable.Goals.{then-not-is_idle-via-else-not-is_idle+then-has_waiting_asks}
use Rattle.wq_held.proofs.held.Held.closable.Goals as goal

pub returns-then-not-is_idle-clause-refused : goal.returns-then-not-is_idle-clause-refused
returns-then-not-is_idle-clause-refused g c =
    let b = c.self.inside.book in
    let sound = IsSoundState-legal b.wiring b.rows c.legal.ensures.legal in
    let why = subst (λ (h : HeldView). HasUnfinished (state h.book) ⊎ (0 < all_asks_waiting h.book.rows)) c.self.view_is
    (elim c.then-not-is_idle.branch [
      | then-not-is_idle-via-then-not-is_idle w ↦
          inl (busy-unfinished b.wiring (state b) c.is_idle.result sound c.is_idle.ensures.1 w.if-not-is_idle.true)
      | then-not-is_idle-via-else-not-is_idle+then-has_waiting_asks w ↦
          inr (w.has_waiting_asks.ensures.some.0 w.if-has_waiting_asks.true)
    ]) in
    subst (λ (u : Unclosed). (u.seats ≡ c.args.seats) × RefusesClose c.args.self.now c.args.seats u.why)
    (sym c.by.ensures) (refl, why)
