use Rattle.std.proofs.Common.{◌≡◌, ◌++◌}
use Rattle.std.specs.Prelude.{map}
use Rattle.wq_script.specs.declared.acting.Act.TheVariants.{Queue, Flush}
use Rattle.wq_script.specs.Crews.{every_second}
use Rattle.wq_script.proofs.crew.script_caller.Given as goal

-- the items before this one are queued
abbrev pub invariant-loop-i : goal.invariant-loop-i
invariant-loop-i g l = l.acts.items ≡ map Queue (every_second l.fn.first l.i)

-- all are queued, and those before this one are flushed
abbrev pub invariant-loop-i-2 : goal.invariant-loop-i-2
invariant-loop-i-2 g l = l.acts.items ≡ map Queue (every_second l.fn.first l.fn.count) ++ map Flush (every_second l.fn.first l.i)
