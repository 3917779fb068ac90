-- What stops a command, and `run` in particular.
use Rattle.std.specs.Prelude.{ℕ, List, codes, Result, Ok, Err}
use Rattle.wq_meter.specs.declared.fault.Fault.TheVariants.{Memory}
use Rattle.wq_meter.specs.declared.stopped.Stopped.{Stopped}
use Rattle.wq_meter.specs.declared.stopped.Stopped.TheVariants.{Faulted, Unanswered}
use Rattle.wq_meter.specs.Fault.{fault_text}
use Rattle.wq_commands.specs.declared.end.End.{End}
use Rattle.wq_rescuer.specs.declared.running.RunWhy.{RunWhy}
use Rattle.wq_rescuer.specs.declared.running.RunWhy.TheVariants.{BodiesDiffer, TooManySeats, OutOfMemory as NoMemory}
use Rattle.wq_rescuer.specs.declared.running.RunWhy.TheVariants.{NoThread}
use Rattle.wq_run.specs.declared.fault.CommandFault.{CommandFault}
use Rattle.wq_run.specs.declared.fault.CommandFault.TheVariants.{Common, Thread, Tally}
use Rattle.wq_run.specs.declared.fault.RunStop.{RunStop}
use Rattle.wq_run.specs.declared.fault.RunStop.TheVariants as stop
use Rattle.wq_run.specs.declared.fault.RunStop.TheVariants.{OutOfMemory}

-- the words that are printed for a fault, as bytes
abbrev pub command_fault_text : CommandFault → List ℕ
command_fault_text (Common fault) = fault_text fault
command_fault_text Thread = codes "fault thread"
command_fault_text Tally = codes "fault tally"

-- why there is no answer if not everything was run
abbrev pub stop_of_run : RunWhy → RunStop
stop_of_run NoMemory = OutOfMemory
stop_of_run NoThread = stop.Thread
stop_of_run TooManySeats = stop.Tally
stop_of_run BodiesDiffer = stop.Tally

-- the fault that is reported for it
abbrev pub fault_of_stop : RunStop → CommandFault
fault_of_stop OutOfMemory = Common Memory
fault_of_stop stop.Thread = Thread
fault_of_stop stop.Tally = Tally

-- making the answer may stop for lack of memory, or, if there is a plan that a
-- runtime can have, because of a thread or the tallies
abbrev pub Stops : Type 0 → RunStop → Type 0
Stops runnable OutOfMemory = Unit {0}
Stops runnable stop.Thread = runnable
Stops runnable stop.Tally = runnable

-- the end of `run`, or the fault that is reported for what stopped it
abbrev pub end_or_stop : Result End (Stopped RunStop) → Result End CommandFault
end_or_stop (Ok end) = Ok end
end_or_stop (Err (Faulted fault)) = Err (Common fault)
end_or_stop (Err (Unanswered stop)) = Err (fault_of_stop stop)
