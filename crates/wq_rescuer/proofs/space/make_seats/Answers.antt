use Rattle.std.proofs.Common.{◌≡◌, ℕ, ◌*◌, List, replicate, sym, subst, arith}
use Rattle.std.specs.List.{All}
use Rattle.std.proofs.lemmas.List.Elements.{All-push}
use Rattle.wq_counts.specs.Counting.{counts_each}
use Rattle.wq_held.specs.Locked.{slots}
use Rattle.wq_rescuer.proofs.space.make_seats.Goals as goal

pub loop-preserved : goal.loop-preserved
loop-preserved g c =
    let P : List ℕ → Type 0 = λ seat. seat ≡ replicate (counts_each * slots g.N.Naming.wiring) 0 in (
      omega (arith, c.push_reserved.ensures.len, c.loop.invariant.0),
      omega (arith, c.push_reserved.ensures.capacity, c.loop.invariant.1),
      subst (All P) (sym c.push_reserved.ensures.items) (All-push P c.loop.seats.items c.in-Ok.seat c.loop.invariant.2 c.in-Ok.ensures.seat),
    )
