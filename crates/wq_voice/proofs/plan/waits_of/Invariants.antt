use Rattle.std.proofs.Common.{◌≡◌, take, map}
use Rattle.wq_commands.specs.Answer.{ends_of}
use Rattle.wq_voice.proofs.plan.waits_of.Given as goal

-- the waits of the flushes so far
abbrev pub invariant-loop-arc : goal.invariant-loop-arc
invariant-loop-arc g l = l.arcs.items ≡ map ends_of (take l.arc-index l.chain)
