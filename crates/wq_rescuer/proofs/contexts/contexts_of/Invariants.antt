use Rattle.std.proofs.Common.{◌≡◌}
use Rattle.wq_rescuer.proofs.ContextLemmas.{contexts_below}
use Rattle.wq_rescuer.proofs.contexts.contexts_of.Given as goal

-- the contexts of the lanes below q were listed
abbrev pub invariant-loop-q : goal.invariant-loop-q
invariant-loop-q g l = l.contexts.items ≡ contexts_below g.N.Naming.wiring l.q
