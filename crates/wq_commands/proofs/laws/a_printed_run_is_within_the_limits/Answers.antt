use Rattle.wq_commands.proofs.HangLemmas.{KeepsLimits-judges}
use Rattle.wq_commands.proofs.laws.a_printed_run_is_within_the_limits.Goals as goal

pub returns-clause-text : goal.returns-clause-text
returns-clause-text c = λ declared text out judges. (KeepsLimits-judges declared text out judges).text_fits

pub returns-clause-lines : goal.returns-clause-lines
returns-clause-lines c = λ declared text out judges. (KeepsLimits-judges declared text out judges).lines_fit
