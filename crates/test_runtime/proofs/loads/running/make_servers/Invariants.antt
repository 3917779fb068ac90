use Rattle.std.proofs.Common.{◌≡◌, length, vec_len}
use Rattle.std.specs.Prelude.{slice_index}
use Rattle.std.specs.List.{All}
use Rattle.wq_rescuer.specs.Executing.{NeverRan}
use Rattle.test_runtime.proofs.loads.running.make_servers.Given as goal

-- each body that was made can count all items, and has run nothing
abbrev pub invariant-loop-number : goal.invariant-loop-number
invariant-loop-number l =
    All (λ s. vec_len s.runs ≡ length l.fn.table.names) l.servers.items
    × All (λ s. NeverRan (slice_index s.runs.items)) l.servers.items
