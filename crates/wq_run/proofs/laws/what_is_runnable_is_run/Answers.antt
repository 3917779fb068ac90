use Rattle.wq_run.proofs.Uniqueness.{IsRunnable-run, RunsPlan-runnable}
use Rattle.wq_run.proofs.laws.what_is_runnable_is_run.Goals as goal

pub returns-clause-run : goal.returns-clause-run
returns-clause-run c = λ helpers text end out runnable is. RunsPlan-runnable helpers text end out runnable is

pub returns-clause-runnable : goal.returns-clause-runnable
returns-clause-runnable c = λ helpers text out is. IsRunnable-run helpers text out is
