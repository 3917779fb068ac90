use Rattle.std.proofs.Common.{take}
use Rattle.wq_script.specs.Acts.{CountsActs}
use Rattle.wq_script.proofs.calling.make_each.Given as goal

-- the acts so far are answered
abbrev pub invariant-loop-act : goal.invariant-loop-act
invariant-loop-act g l = CountsActs g.N.Naming.wiring l.fn.seat l.seat (take l.act-index l.acts)
