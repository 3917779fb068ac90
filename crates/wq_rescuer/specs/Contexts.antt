-- Contexts: the threads that run what is queued, workqueue by workqueue. The code calls a workqueue a lane.
use Rattle.std.specs.Prelude.{ℕ, List, ◌∷◌, map, flat_map}
use Rattle.std.specs.List.{range_with_len}
use Rattle.wq_core.specs.declared.step.Context.{Context}
use Rattle.wq_core.specs.Wiring.{Wiring, helpers_of}

-- this context of lane q
abbrev pub context_at : ℕ → ℕ → Context
context_at q c = record { lane = q; number = c }

-- the contexts of lane q: its rescuer, which is context 0, and then its helpers, numbered from 1
abbrev pub contexts_on : Wiring → ℕ → List Context
contexts_on w q = context_at q 0 ∷ map (context_at q) (range_with_len 1 (helpers_of w q))

-- all contexts, lane by lane
abbrev pub contexts_of : Wiring → List Context
contexts_of w = flat_map (contexts_on w) (range_with_len 0 w.lanes)
