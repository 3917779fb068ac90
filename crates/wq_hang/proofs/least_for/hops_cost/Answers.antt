use Rattle.std.proofs.Common.{◌≡◌, ◌+◌, ℕ, [], ◌∷◌, get_or, take, sym, ap, ◌∙◌, arith}
use Rattle.std.proofs.lemmas.List.{take_more}
use Rattle.std.proofs.lemmas.List.{take_all}
use Rattle.wq_hang.specs.declared.hop.Hop.{Hop}
use Rattle.wq_hang.specs.Search.{hop_cost, hops_cost}
use Rattle.wq_hang.proofs.LeastWalks.{hops_cost-append}
use Rattle.wq_hang.proofs.least_for.hops_cost.Goals as goal

pub loop-hop-preserved : goal.loop-hop-preserved
loop-hop-preserved c =
    let hops = c.args.hops.now in
    let k : ℕ = c.loop-hop.hop-index in
    let h : Hop = c.hop-item.result in
    let more : hops_cost (take (k + 1) hops) ≡ hops_cost (take k hops) + (hop_cost h + 0) =
    ap hops_cost (take_more hops k h c.loop-hop-test.true)
    ∙ hops_cost-append (take k hops) (get_or hops k h ∷ [])
    ∙ ap (λ (x : Hop). hops_cost (take k hops) + (hop_cost x + 0)) (sym c.hop-item.is) in
    omega (arith, more, c.loop-hop.invariant, c.saturating_add-cost.ensures, c.hop_cost.ensures)

pub returns : goal.returns
returns c =
    let hops = c.args.hops.now in
    omega (arith, c.loop-hop.invariant, ap hops_cost (take_all c.loop-hop.hop-index hops c.loop-hop-test.false))
