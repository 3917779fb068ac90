use Rattle.std.proofs.Common.{◌≡◌, ◌++◌, take, map}
use Rattle.wq_core.specs.declared.step.Step.TheVariants.{Queue}
use Rattle.wq_hang.specs.declared.hop.Hop.{Hop}
use Rattle.wq_hang.proofs.running.queueings.Given as goal

abbrev pub invariant-loop-hop : goal.invariant-loop-hop
invariant-loop-hop g l = l.steps.items ≡ map Queue (map (λ (h : Hop). h.item) (take l.hop-index l.hops))

abbrev pub invariant-loop-item : goal.invariant-loop-item
invariant-loop-item g l = l.steps.items ≡ map Queue (map (λ (h : Hop). h.item) l.hops ++ take l.item-index l.beside)
