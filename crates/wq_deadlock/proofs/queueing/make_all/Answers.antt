use Rattle.wq_deadlock.proofs.Making.{IsOk-run}
use Rattle.wq_deadlock.proofs.queueing.make_all.Goals as goal

pub unwrap-requires : goal.unwrap-requires
unwrap-requires g c = IsOk-run c.args.core.now c.run.new.self c.args.steps.now c.run.result c.requires.run c.requires.numbers c.run.ensures.refused
