use Rattle.std.proofs.Common.{◌∙◌}
use Rattle.wq_explain.proofs.NumberLemmas.{parse-number_in}
use Rattle.wq_explain.proofs.explain.number_in.Goals as goal

pub returns : goal.returns
returns c = c.ok.ensures.value ∙ parse-number_in c.args.word.now c.parse.result c.parse.ensures.value.0
