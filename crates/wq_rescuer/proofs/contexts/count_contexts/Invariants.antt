use Rattle.std.proofs.Common.{◌≡◌, ◌*◌, ◌≤◌, length}
use Rattle.wq_rescuer.proofs.ContextLemmas.{contexts_below}
use Rattle.wq_rescuer.proofs.contexts.count_contexts.Given as goal

-- the contexts of the lanes below q were counted
abbrev pub invariant-loop-q : goal.invariant-loop-q
invariant-loop-q g l = (l.count ≡ length (contexts_below g.N.Naming.wiring l.q)) × (l.count ≤ l.q * 256)
