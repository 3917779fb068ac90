-- How a command ends, and its exit status.
use Rattle.std.specs.Prelude.{ℕ, Result, Ok, Err}
use Rattle.wq_meter.specs.declared.fault.Fault.{Fault}
use Rattle.wq_meter.specs.declared.fault.Fault.TheVariants.{Memory, Write}
use Rattle.wq_commands.specs.declared.end.End.{End}
use Rattle.wq_run.specs.declared.fault.CommandFault.{CommandFault}
use Rattle.wq_run.specs.declared.fault.CommandFault.TheVariants.{Common}
use Rattle.wq_commands.specs.End.{exit_status}
use Rattle.wq_commands.specs.declared.end.End.TheVariants.{Good, Refused}
use Rattle.wq_explain.specs.declared.explain.Explained.{Explained}
use Rattle.wq_explain.specs.declared.explain.Explained.TheVariants.{Known, Unknown}
use Rattle.wqplan.specs.declared.world.Unwritten.{Unwritten}
use Rattle.wqplan.specs.declared.world.Unwritten.TheVariants.{Failed, Unread}

-- `explain` ends well if its word has an explanation, or if it has no word
abbrev pub explain_end : Explained → End
explain_end Known = Good
explain_end Unknown = Refused

-- the exit status of a command that ran: the status of its end, or 3 if a fault stopped it
abbrev pub status_of : Result End CommandFault → ℕ
status_of (Ok end) = exit_status end
status_of (Err fault) = 3

-- the exit status if standard output couldn't be written for this reason: 141, as of a program that SIGPIPE ends, if
-- nobody reads it any more, or else that of a fault
abbrev pub unwritten_status : Unwritten → ℕ
unwritten_status Unread = 141
unwritten_status (Failed why) = 3

-- the exit status of the program; if standard output couldn't be written, this is the reason
abbrev pub exit_status_of : Unwritten → Result End CommandFault → ℕ
exit_status_of why (Err (Common Write)) = unwritten_status why
exit_status_of why outcome = status_of outcome

-- what stops a command whose answer is held in memory, if that can't take the answer
abbrev pub unheld : CommandFault → CommandFault
unheld (Common Write) = Common Memory
unheld fault = fault

-- the end of a command, or the fault that stopped it
abbrev pub end_or_common : Result End Fault → Result End CommandFault
end_or_common (Ok end) = Ok end
end_or_common (Err fault) = Err (Common fault)

-- how a run of `explain` ends
abbrev pub explained_or_common : Result Explained Fault → Result End CommandFault
explained_or_common (Ok explained) = Ok (explain_end explained)
explained_or_common (Err fault) = Err (Common fault)
