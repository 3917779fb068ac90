use Rattle.std.proofs.Common.{ℕ, List, sym, subst}
use Rattle.wq_hang.specs.declared.hop.Hop.{Hop}
use Rattle.wq_hang.specs.Search.{hop_cost, hop_to, IsBetter}
use Rattle.wq_hang.proofs.HopsBack.{IsBetter-back, IsNoBetter-back}
use Rattle.wq_hang.proofs.least.better_hop.Goals as goal

pub returns-in_ok-vec-in-Some-clause-some : goal.returns-in_ok-vec-in-Some-clause-some
returns-in_ok-vec-in-Some-clause-some g c =
    let w = c.args.waits.now in
    let first : ℕ = c.args.first in
    let least : ℕ = c.args.least in
    let h : Hop = c.in-Some.hop in
    let hops : List Hop = c.in_ok-vec-in-Some.field-0.items in
    let better = IsBetter-back w first least h c.requires.low c.in-Some.ensures.some in
    subst (λ (cost : ℕ). IsBetter w first least cost hops) (sym c.cost_back.ensures)
    (subst (IsBetter w first least (hop_cost (hop_to first h.flush first))) (sym c.in_ok-vec-in-Some.ensures.items)
    better)

pub returns-in-None-clause-none : goal.returns-in-None-clause-none
returns-in-None-clause-none g c =
    IsNoBetter-back c.args.waits.now c.args.first c.args.least c.requires.low c.in-None.ensures.none
