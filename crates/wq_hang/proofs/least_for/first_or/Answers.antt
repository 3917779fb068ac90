use Rattle.std.proofs.Common.{sym}
use Rattle.wq_hang.proofs.OnceMarked.{first_or_first, first_or_none}
use Rattle.wq_hang.proofs.least_for.first_or.Goals as goal

pub returns-in-Some : goal.returns-in-Some
returns-in-Some c = sym (first_or_first c.args.item c.args.hops.now c.in-Some.first.now (sym c.in-Some.ensures.value))

pub returns-in-None : goal.returns-in-None
returns-in-None c = sym (first_or_none c.args.item c.args.hops.now (sym c.in-None.ensures.value))
