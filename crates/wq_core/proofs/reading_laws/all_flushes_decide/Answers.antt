use Rattle.wq_core.proofs.MoreFlushes.{IsSafe-fewer, IsSafeAnyway-all, HangsForSure-none}
use Rattle.wq_core.proofs.reading_laws.all_flushes_decide.Goals as goal

pub returns-clause-fewer : goal.returns-clause-fewer
returns-clause-fewer c = IsSafe-fewer

pub returns-clause-anyway : goal.returns-clause-anyway
returns-clause-anyway c = IsSafeAnyway-all

pub returns-clause-for_sure : goal.returns-clause-for_sure
returns-clause-for_sure c = HangsForSure-none
