-- The answer to a text is the answer to what it declares.
use Rattle.std.proofs.Common.{◌≡◌, List, ℕ, Result, Ok, Err, sym, subst}
use Rattle.std.specs.Prelude.{IfErr, MatchResult}
use Rattle.wq_text.specs.Refusal.{Refusal}
use Rattle.wq_commands.specs.declared.end.End.{End}
use Rattle.wq_commands.specs.Answer.{PrintsRefusal}
use Rattle.wq_groups.specs.DeclaredGroups.{Declared}
use Rattle.wq_commands.specs.Declaration.{declaration}
use Rattle.wq_run.specs.declared.fault.RunStop.{RunStop}
use Rattle.wq_run.specs.declared.fault.RunStop.TheVariants.{OutOfMemory, Thread, Tally}
use Rattle.wq_run.specs.Fault.{Stops}
use Rattle.wq_run.specs.Running.{HasRuntime, IsRunnable, RunsPlan, RunsDeclared}

-- if there is a plan that a runtime can have, each reason may stop it
pub Stops-runnable : {T : Type 0} (result : Result T RunStop) (runnable : Type 0) → runnable → IfErr result (Stops runnable)
Stops-runnable (Ok x) runnable has = tt
Stops-runnable (Err OutOfMemory) runnable has = tt
Stops-runnable (Err Thread) runnable has = has
Stops-runnable (Err Tally) runnable has = has
