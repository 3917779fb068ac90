use Rattle.std.proofs.Common.{◌≡◌, vec_len}
use Rattle.std.specs.Prelude.{slice_index}
use Rattle.std.specs.List.{All}
use Rattle.wq_rescuer.specs.Executing.{NeverRan}
use Rattle.test_runtime.proofs.sessions.crew.make_doers.Given as goal

-- each doer that was made can count `count` items, and has run nothing
abbrev pub invariant-loop-deeds : goal.invariant-loop-deeds
invariant-loop-deeds l =
    All (λ d. vec_len d.runs ≡ l.fn.count) l.doers.items × All (λ d. NeverRan (slice_index d.runs.items)) l.doers.items
