use Rattle.std.proofs.Common.{leb}
use Rattle.wq_text.proofs.RunLemmas.{run-short, run-fails}
use Rattle.wq_text.proofs.run.greater_of_sixteen.Goals as goal

pub returns-clause-short : goal.returns-clause-short
returns-clause-short c = run-short leb 35 c.args.text.now c.args.at c.first_set.result c.requires c.first_set.ensures

pub returns-clause-greater : goal.returns-clause-greater
returns-clause-greater c = run-fails leb 35 c.args.text.now c.args.at c.first_set.result c.requires c.first_set.ensures
