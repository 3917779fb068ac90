use Rattle.std.proofs.Common.{eqb}
use Rattle.wq_text.proofs.RunLemmas.{run-short, run-fails, run-stops}
use Rattle.wq_text.proofs.run.feedless_of_sixteen.Goals as goal

pub returns-clause-short : goal.returns-clause-short
returns-clause-short c = run-short eqb 10 c.args.text.now c.args.at c.first_set.result c.requires c.first_set.ensures

pub returns-clause-feedless : goal.returns-clause-feedless
returns-clause-feedless c = run-fails eqb 10 c.args.text.now c.args.at c.first_set.result c.requires c.first_set.ensures

pub returns-clause-feed : goal.returns-clause-feed
returns-clause-feed c = run-stops eqb 10 c.args.text.now c.args.at c.first_set.result c.requires c.first_set.ensures
