use Rattle.std.proofs.Common.{◌≡◌, ◌∷◌, ◌++◌, map}
use Rattle.std.specs.List.{range_with_len}
use Rattle.wq_rescuer.specs.Contexts.{context_at}
use Rattle.wq_rescuer.proofs.contexts.add_contexts_on.Given as goal

-- the rescuer and this many helpers were added
abbrev pub invariant-loop-h : goal.invariant-loop-h
invariant-loop-h g l = l.contexts.items ≡ l.fn.contexts.items ++ (context_at l.lane 0 ∷ map (context_at l.lane) (range_with_len 1 l.h))
