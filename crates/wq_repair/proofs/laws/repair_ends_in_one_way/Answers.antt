use Rattle.wq_repair.proofs.Ends.{no_repair-safe, enough-safe, no_circle-safe, enough-repaired, no_circle-repaired, enough-circle}
use Rattle.wq_repair.proofs.laws.repair_ends_in_one_way.Goals as goal

pub returns-clause-safe : goal.returns-clause-safe
returns-clause-safe c = λ d old names safe. (no_repair-safe d old names safe, enough-safe d old names safe, no_circle-safe d old names safe)

pub returns-clause-repaired : goal.returns-clause-repaired
returns-clause-repaired c = λ d old new names repair. (enough-repaired d old new names repair, no_circle-repaired d old new names repair)

pub returns-clause-too_few : goal.returns-clause-too_few
returns-clause-too_few c = λ d old start names steps circle declaration. enough-circle d old declaration start names steps circle
