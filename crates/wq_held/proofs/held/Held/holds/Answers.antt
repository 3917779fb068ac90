use Rattle.std.proofs.Common.{subst}
use Rattle.wq_held.specs.Locked.{HeldView, Holds}
use Rattle.wq_held.proofs.Locking.{Holds-held}
use Rattle.wq_held.proofs.held.Held.holds.Goals as goal

pub returns : goal.returns
returns g c =
    let h = c.self.inside in
    subst (λ (x : HeldView). Holds _ _ x.book) c.self.view_is (Holds-held _ _ _ h.book h.tallies h.sums h.seats h.rest.parts h.rest.amount c.self.invariant c.legal.ensures)
