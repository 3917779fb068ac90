use Rattle.std.proofs.Common.{◌≡◌, length, vec_len}
use Rattle.std.specs.List.{All}
use Rattle.wq_rescuer.specs.Executing.{NeverRan}
use Rattle.wq_script.specs.Scripts.{Script, runs_of}
use Rattle.wq_script.proofs.crew.script_bodies.Given as goal

-- each body that was made flushes what the items of the table declare, can count all items, and has run nothing
abbrev pub invariant-loop : goal.invariant-loop
invariant-loop g l =
    All (λ (b : Script). b.waits ≡ l.fn.table.waits) l.bodies.items
    × All (λ (b : Script). length b.runs ≡ length l.fn.table.names) l.bodies.items
    × All (λ (b : Script). NeverRan (runs_of b)) l.bodies.items
    × (vec_len l.bodies ≡ l.counter)
