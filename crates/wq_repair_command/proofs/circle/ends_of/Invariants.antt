use Rattle.std.proofs.Common.{◌≡◌, take, map}
use Rattle.wq_commands.specs.Answer.{ends_of}
use Rattle.wq_repair_command.proofs.circle.ends_of.Given as goal

-- the ends of the arcs so far
abbrev pub invariant-loop-arc : goal.invariant-loop-arc
invariant-loop-arc g l = l.ends.items ≡ map ends_of (take l.arc-index l.arcs)
